use Rattle.std.proofs.Common.{refl, ap, ◌∙◌}
use Rattle.sky_rows.specs.Older.{OlderView, list_in}
use Rattle.sky_rows.proofs.OlderLemmas.{empty_list, free_filled}
use Rattle.sky_rows.proofs.older.Older.free.Goals as goal

pub free_list-requires : goal.free_list-requires
free_list-requires c =
    let old : OlderView = record { chains = c.self.inside.chains; nodes = c.self.inside.nodes.items } in
    empty_list old c.args.list c.self.invariant (ap (λ o. list_in o c.args.list) c.self.view_is ∙ c.requires)

pub invariant_of-self : goal.invariant_of-self
invariant_of-self c =
    let old : OlderView = record { chains = c.self.inside.chains; nodes = c.self.inside.nodes.items } in
    free_filled old (record { chains = c.free_list.new.self; nodes = c.self.inside.nodes.items }) c.args.list
    (empty_list old c.args.list c.self.invariant (ap (λ o. list_in o c.args.list) c.self.view_is ∙ c.requires)) c.free_list.ensures.lists refl c.free_list.ensures.size c.self.invariant
