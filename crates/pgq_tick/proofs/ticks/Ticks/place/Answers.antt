use Rattle.std.proofs.Common.{rules}
use Rattle.std.proofs.lemmas.List.Sorted.{answers_always}
use Rattle.sky_model.specs.Queues.{Tick}
use Rattle.pgq_tick.proofs.TickLists.{tick-searched}
use Rattle.pgq_tick.proofs.ticks.Ticks.place.Goals as goal

-- the closure gives a tick's id, and the slice is the ticks
pub returns : goal.returns
returns c =
    let facts = c.binary_search_by_key.ensures in
    let by_id = facts.position Tick.id (answers_always _ _ _ (λ f a r g called. search rules)) in
    rw (← c.self.view_is, ← c.deref.ensures.value, c.ok.ensures.value) (tick-searched _ c.args.id _ (rw c.deref.ensures.value c.self.invariant.1) facts.bound by_id)
