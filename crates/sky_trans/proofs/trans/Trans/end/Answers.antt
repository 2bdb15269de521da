-- The place that the search found is that of the id, which is in the list once.
use Rattle.std.proofs.Common.{ap, ◌∙◌, List, ℕ}
use Rattle.sky_trans.specs.Trans.{TransView}
use Rattle.sky_trans.proofs.TransLemmas.{sound_ended, found_is_ended, not_found_stays}
use Rattle.sky_trans.proofs.trans.Trans.end.Goals as goal

pub invariant_of-self : goal.invariant_of-self
invariant_of-self c =
    let trans : TransView = record { next = c.self.inside.next; running = c.self.inside.running.items } in
    let position = rw c.deref.ensures.value at c.binary_search.ensures.position in
    sound_ended trans c.args.t _ c.self.invariant (c.remove.ensures.items ∙ found_is_ended trans c.args.t _ _ c.self.invariant position c.in-Ok.is)

pub returns-in-Ok : goal.returns-in-Ok
returns-in-Ok c =
    let trans : TransView = record { next = c.self.inside.next; running = c.self.inside.running.items } in
    let position = rw c.deref.ensures.value at c.binary_search.ensures.position in
    rw (← c.self.view_is) (ap (λ (ids : List ℕ). record trans { running = ids })
    (c.remove.ensures.items ∙ found_is_ended trans c.args.t _ _ c.self.invariant position c.in-Ok.is))

pub returns-in_default : goal.returns-in_default
returns-in_default c =
    let trans : TransView = record { next = c.self.inside.next; running = c.self.inside.running.items } in
    let position = rw c.deref.ensures.value at c.binary_search.ensures.position in
    rw (← c.self.view_is) (not_found_stays trans c.args.t _ _ c.self.invariant position c.in_default.is)
