use Rattle.std.proofs.Common.{rules}
use Rattle.std.proofs.lemmas.List.Sorted.{answers_always, IsNonDecreasingBy-from_sort}
use Rattle.pgq_batch.proofs.ByTxid.{place_of}
use Rattle.pgq_batch.proofs.Sorted.{Climbs-tested, by_place-sorted, by_place-rising}
use Rattle.pgq_batch.proofs.placed.sort_by_place.Goals as goal

-- the closure gives an event's place
pub returns-in_ok-sort_by_key : goal.returns-in_ok-sort_by_key
returns-in_ok-sort_by_key c =
    let places = answers_always _ _ _ (λ f a r next called. search rules) in
    by_place-sorted _ _ (IsNonDecreasingBy-from_sort place_of _ (c.in_ok-sort_by_key.ensures.sorted place_of places)) (c.sort_by_key.ensures.stable place_of places)

pub returns-else-not-is_sorted_by_key : goal.returns-else-not-is_sorted_by_key
returns-else-not-is_sorted_by_key c =
    let places = answers_always _ _ _ (λ f a r next called. search rules) in
    by_place-rising _ (Climbs-tested place_of _ _ c.deref.ensures.value (c.if-not-is_sorted_by_key.ensures.cases place_of places))
