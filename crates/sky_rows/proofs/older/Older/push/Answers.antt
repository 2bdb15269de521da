use Rattle.std.proofs.Common.{◌++◌, ◌∷◌, [], set, Some, refl, subst, sym}
use Rattle.std.specs.Prelude.{IsSome}
use Rattle.sky_rows.specs.Older.{OlderView, list_in, older_in, Changes}
use Rattle.sky_rows.proofs.OlderLemmas.{is_list, pushed, pushed_filled}
use Rattle.sky_rows.proofs.older.Older.push.Goals as goal

pub invariant_of-self : goal.invariant_of-self
invariant_of-self c =
    let old : OlderView = record { chains = c.self.inside.chains; nodes = c.self.inside.nodes.items } in
    pushed_filled old (record { chains = c.push_back-node.new.self; nodes = set c.self.inside.nodes.items c.push_back-node.result (Some c.args.version) }) c.args.list c.push_back-node.result c.args.version
    (is_list old c.args.list (subst (λ o. IsSome (list_in o c.args.list)) (sym c.self.view_is) c.requires.list))
    c.push_back-node.ensures.lists c.push_back-node.ensures.unlinked c.push_back-node.ensures.within refl c.push_back-node.ensures.size c.self.invariant

pub returns : goal.returns
returns c =
    let old : OlderView = record { chains = c.self.inside.chains; nodes = c.self.inside.nodes.items } in
    subst (λ o. Changes o c.args.list (Some (older_in o c.args.list ++ c.args.version ∷ [])) (record { chains = c.push_back-node.new.self; nodes = set c.self.inside.nodes.items c.push_back-node.result (Some c.args.version) })) c.self.view_is
    (pushed old (record { chains = c.push_back-node.new.self; nodes = set c.self.inside.nodes.items c.push_back-node.result (Some c.args.version) }) c.args.list c.push_back-node.result c.args.version
    (is_list old c.args.list (subst (λ o. IsSome (list_in o c.args.list)) (sym c.self.view_is) c.requires.list))
    c.push_back-node.ensures.lists c.push_back-node.ensures.unlinked c.push_back-node.ensures.within refl c.push_back-node.ensures.size c.self.invariant)
