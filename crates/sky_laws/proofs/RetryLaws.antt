-- The events that wait to be retried are copies of stored ones, wait once, and come back when they are due.
use Rattle.std.proofs.Common.{◌≡◌, ℤ, List, [], ◌∷◌, Bool, false, not, filter, refl, sym, subst, arith}
use Rattle.std.specs.List.{list_any}
use Rattle.std.proofs.lemmas.Bool.{eqb-true}
use Rattle.pgq_retry.specs.declared.retry.Retry.{Retry}
use Rattle.pgq_retry.specs.Retries.{is_event}
use Rattle.sky_model.specs.History.{queued, asked, returned, History}
use Rattle.sky_model.specs.Transactions.{has_committed}
use Rattle.sky_model.specs.Queues.{at_tick}
use Rattle.sky_model.specs.Retries.{retries, brought_by}
use Rattle.sky_model.specs.LawsOfRetries.{IsAskedOfBatch, ComesBack, RetriesAreCopies, RetriesAreOfActiveBatches, RetriesWaitOnce, RetriesComeBackDue, RetriesAreForTheirSubscription}
use Rattle.sky_histories.proofs.Legal.{Fine, asks, returns, Legal, legal-below_mark, fine_mark}
use Rattle.sky_histories.proofs.Snapshots.{sound, runs-unended}
use Rattle.sky_histories.proofs.SnapshotLaws.{legal_place}
use Rattle.sky_histories.proofs.RetryCopies.{copies, once}

pub retries_are_copies : RetriesAreCopies
retries_are_copies p is = copies p (legal_place p is)

pub retries_wait_once : RetriesWaitOnce
retries_wait_once p is sub id = once p (legal_place p is) sub id

-- ---- what is asked for

asked_of_batch : {p : History} {retry : Retry} → Fine p (queued (asked retry)) → IsAskedOfBatch p retry
asked_of_batch (asks consumer source retry a) = record { source = source; lists = a.listed; copied = a.copied }

pub retries_are_of_active_batches : RetriesAreOfActiveBatches
retries_are_of_active_batches p retry is = asked_of_batch (fine_mark (legal_place (queued (asked retry) ∷ p) is))

-- ---- what comes back

none-left : {X : Type 0} (p : X → Bool) (xs : List X) → list_any p (filter (λ x. not (p x)) xs) ≡ false
none-left p [] = refl
none-left p (x ∷ xs) = grind (arith, none-left p xs)

comes_back : {p : History} {retry : Retry} {moment : ℤ} → Legal p → Fine p (queued (returned retry moment)) → ComesBack p retry moment
comes_back {p = p} l (returns below retry t moment same back due) = record {
  below = below;
  event = brought_by t retry.event;
  after_put = same;
  copied = record { same_id = refl; same_time = refl; same_type = refl; same_data = refl; same_extra1 = refl; same_extra2 = refl; same_extra3 = refl; same_extra4 = refl };
  same_owner = refl;
  same_count = refl;
  waited = back.waits;
  due = due;
  runs = let b : Legal below = legal-below_mark (subst Legal same l) in runs-unended below (sound below b) t ((sound below b).works t back.works);
  gone = none-left (is_event retry.sub retry.event.ev_id) (retries p);
}

pub retries_come_back_due : RetriesComeBackDue
retries_come_back_due p retry moment is =
    let l : Legal (queued (returned retry moment) ∷ p) = legal_place (queued (returned retry moment) ∷ p) is in comes_back (legal-below_mark l) (fine_mark l)

-- ---- for whom

pub retries_are_for_their_subscription : RetriesAreForTheirSubscription
retries_are_for_their_subscription h b e sub owner stands =
    let to = has_committed (at_tick b.queue b.cur h) e.ev_txid in
    let from = has_committed (at_tick b.queue b.prev h) e.ev_txid in
    sym (eqb-true sub b.sub (grind (arith, owner, stands)))
