use Rattle.std.proofs.Common.{None, ◌++◌, ◌∷◌, [], subst, ap, ◌∙◌, arith}
use Rattle.sky_rows.specs.Older.{OlderView, Same}
use Rattle.sky_rows.proofs.OlderLemmas.{grown, grown_filled}
use Rattle.sky_rows.proofs.older.Older.grow.Goals as goal

pub invariant_of-self-2 : goal.invariant_of-self-2
invariant_of-self-2 c =
    let old : OlderView = record { chains = c.self.inside.chains; nodes = c.self.inside.nodes.items } in
    let new : OlderView = record { chains = c.reserve-2.new.self; nodes = c.push_reserved.new.self.items } in
    grown_filled old new c.reserve-2.ensures.lists (c.push_reserved.ensures.items ∙ ap (λ ns. ns ++ None ∷ []) c.reserve.ensures.items)
    (omega (arith, c.in_ok-reserve-2.ensures.size, c.in_ok-reserve-2.ensures.spare, c.spare.ensures, c.if-spare-gt0.false)) c.self.invariant

pub returns-clause-lists : goal.returns-clause-lists
returns-clause-lists c =
    let old : OlderView = record { chains = c.self.inside.chains; nodes = c.self.inside.nodes.items } in
    let new : OlderView = record { chains = c.reserve-2.new.self; nodes = c.push_reserved.new.self.items } in
    subst (λ o. Same o new) c.self.view_is (grown old new c.reserve-2.ensures.lists (c.push_reserved.ensures.items ∙ ap (λ ns. ns ++ None ∷ []) c.reserve.ensures.items))
