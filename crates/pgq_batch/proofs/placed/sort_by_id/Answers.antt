use Rattle.std.proofs.Common.{rules}
use Rattle.std.proofs.lemmas.List.Sorted.{answers_always, IsNonDecreasingBy-from_sort}
use Rattle.pgq_batch.proofs.Sorted.{id_of, Climbs-tested, by_id-sorted, by_id-rising}
use Rattle.pgq_batch.proofs.placed.sort_by_id.Goals as goal

-- the closure gives an event's id
pub returns-in_ok-sort_by_key : goal.returns-in_ok-sort_by_key
returns-in_ok-sort_by_key c =
    let ids = answers_always _ _ _ (λ f a r next called. search rules) in
    by_id-sorted _ _ (IsNonDecreasingBy-from_sort id_of _ (c.in_ok-sort_by_key.ensures.sorted id_of ids)) (c.sort_by_key.ensures.stable id_of ids)

pub returns-else-not-is_sorted_by_key : goal.returns-else-not-is_sorted_by_key
returns-else-not-is_sorted_by_key c =
    let ids = answers_always _ _ _ (λ f a r next called. search rules) in
    by_id-rising _ (Climbs-tested id_of _ _ c.deref.ensures.value (c.if-not-is_sorted_by_key.ensures.cases id_of ids))
