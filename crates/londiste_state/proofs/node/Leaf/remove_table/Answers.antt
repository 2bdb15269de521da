use Rattle.std.proofs.Common.{rules, ◌∙◌, ap}
use Rattle.std.specs.Prelude.{not, bytes_eq}
use Rattle.std.proofs.lemmas.Fn.{filter_same}
use Rattle.londiste_state.specs.Nodes as nodes
use Rattle.londiste_state.proofs.node.Leaf.remove_table.Goals as goal

pub returns : goal.returns
returns c =
    let kept = filter_same _ (λ (t : nodes.LeafTable). not (bytes_eq c.args.name.now t.name)) _ (λ t b f' called. search rules) _ _ c.retain.ensures.filtered in
    ap (λ ts. record { name = c.self.inside.name; provider = c.self.inside.provider; tick = c.self.inside.tick; tables = ts }) kept
    ∙ ap (nodes.without_leaf_table c.args.name.now) c.self.view_is
