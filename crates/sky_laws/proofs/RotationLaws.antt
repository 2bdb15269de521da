-- The laws on the rotation of event tables.
use Rattle.std.proofs.Common.{◌≡◌, ℤ, ℕ, zero, suc, ◌+◌, ◌%◌, ◌<◌, ◌≤◌, List, [], ◌∷◌, ◌++◌, true, false, ◌&&◌, ◌==◌, filter, map, length, slice_get, slice_set, slice_index_or, Some, is_some, refl, sym, ◌∙◌, ap, subst, arith, All, Contains, if◌then◌else◌}
use Rattle.std.proofs.Math.Nat.{mod-add-mod}
use Rattle.std.proofs.lemmas.Bool.{eq-eqb}
use Rattle.std.proofs.lemmas.Bool.Decides.{nat_tests}
use Rattle.std.proofs.lemmas.List.{map-append}
use Rattle.std.proofs.lemmas.List.Elements.{All-nil, All-cons, All-head, All-tail, All-weaker, All-append, All-contains_itself}
use Rattle.sky_val.specs.declared.event.Event.{Event}
use Rattle.pgq_tables.specs.Tables as tables_of
use Rattle.pgq_tables.specs.Tables.{Stored, Tables, no_tables, new_tables, with_stored, marked_dead, with_dead, with_pending, without_pending, with_second_step}
use Rattle.sky_model.specs.History.{ended, queued, made, switching, switched, History}
use Rattle.sky_model.specs.Transactions.{has_rolled_back}
use Rattle.sky_model.specs.Queues.{queues_made, queues, events, is_pending, event_tables, ticks, tick, kept_ticks, ticks_above, is_above, second_step_of}
use Rattle.sky_model.specs.Retries.{brought_by}
use Rattle.sky_model.specs.State.{queue_of}
use Rattle.sky_model.specs.StepConsumer.{floor}
use Rattle.sky_model.specs.LawsOfRotation.{switches, put_while, as_stored, HoldsWhatWasPut, TablesHoldWhatWasPut, is_needed, previous_events, current_events, NeededEventsAreStored, ActiveBatchesAreStored, PositionsAreKept, NewestTicksAreKept, SwitchesDropTicks, SwitchesBeginFree, SwitchesWerePending, PendingSwitchesRun}
use Rattle.sky_histories.proofs.Legal.{IsQueue, makes, puts, puts_back, begins_switch, makes_switch, ends_switch, drops, Legal, start, next}
use Rattle.sky_histories.proofs.QueueNumbers.{queue-below, others-among, others-apart}
use Rattle.sky_histories.proofs.StandingQueues.{stands-or-new}
use Rattle.sky_histories.proofs.Snapshots.{sound, runs-unended, has_committed-ended}
use Rattle.sky_histories.proofs.Selecting.{committed_at_tick}
use Rattle.sky_histories.proofs.Climbing.{xmin_of, climbing}
use Rattle.sky_histories.proofs.KeptTicks.{cut, base, IsCut, cuts, cut-base, switch-drops, floor-newest, sits-at, some-tick, above-is, position-kept, position-above, position-later, newest-kept}
use Rattle.sky_histories.proofs.Tripled.{turned-previous, turned-current, DoesHold, holds, rolled_back-ended, dead-again, alive, cut-ended, batch_events-selected}
use Rattle.sky_laws.proofs.PendingOwners.{Settled}
use Rattle.sky_laws.proofs.PendingCalls.{held_calls}
use Rattle.sky_laws.proofs.PendingSwitches.{pending-unended, settled-below, switching-free, switched-pending}
use Rattle.sky_histories.proofs.SnapshotLaws.{legal_place}
use Rattle.sky_model.proofs.Cases.{by_test}

-- ---- what the tables have

-- of a queue that isn't made yet nothing was put, and nothing was switched
record IsUnput (h : History) (q : ℕ) : Type 0 where
  unswitched : switches q h ≡ 0
  unput : (n : ℕ) → put_while q n h ≡ []

unput_beyond : (h : History) → Legal h → (q : ℕ) → queues_made h ≤ q → IsUnput h q
unput_beyond [] start q le = record { unswitched = refl; unput = λ n. refl }
unput_beyond _ (next {h = h} l (makes name t time new)) q le =
    let u : IsUnput h q = unput_beyond h l q (omega (arith, le)) in record { unswitched = u.unswitched; unput = u.unput }
unput_beyond _ (next {h = h} l (puts who p event i at mine newest)) q le =
    let u : IsUnput h q = unput_beyond h l q le in
    let other : (p == q) ≡ false = grind (arith, nat_tests, queue-below h p i) in
    record { unswitched = u.unswitched; unput = λ n. ap (λ b. if b && switches q h % 3 == n then put_while q n h ++ event ∷ [] else put_while q n h) other ∙ u.unput n }
unput_beyond _ (next {h = h} l (puts_back retry t back)) q le =
    let u : IsUnput h q = unput_beyond h l q le in
    let other : (retry.queue == q) ≡ false = grind (arith, nat_tests, queue-below h retry.queue back.stands) in
    record { unswitched = u.unswitched; unput = λ n. ap (λ b. if b && switches q h % 3 == n then put_while q n h ++ brought_by t retry.event ∷ [] else put_while q n h) other ∙ u.unput n }
unput_beyond _ (next {h = h} l (makes_switch p t time i has)) q le =
    let u : IsUnput h q = unput_beyond h l q le in
    let other : (p == q) ≡ false = grind (arith, nat_tests, queue-below h p i) in
    record {
      unswitched = ap (λ b. if b then switches q h + 1 else switches q h) other ∙ u.unswitched;
      unput = λ n. ap (λ b. if b && (switches q h + 1) % 3 == n then [] else put_while q n h) other ∙ u.unput n;
    }
unput_beyond _ (next {h = h} l _) q le = let u : IsUnput h q = unput_beyond h l q le in record { unswitched = u.unswitched; unput = u.unput }

-- three tables with these events, of which the current one is that after some switches
record Has (keep : Event → Stored) (switches : ℕ) (first second third : List Event) (current : ℕ) (lists : List (List Stored)) : Type 0 where
  at : current ≡ switches % 3
  lists_are : lists ≡ map keep first ∷ map keep second ∷ map keep third ∷ []

abbrev DoesHave : History → ℕ → Type 0
DoesHave h q = Has (as_stored h) (switches q h) (put_while q 0 h) (put_while q 1 h) (put_while q 2 h) (event_tables q h).current (event_tables q h).lists

put-current : (keep : Event → Stored) (k : ℕ) (first second third : List Event) (e : Event) (s : Stored) → k < 3 → keep e ≡ s
    → slice_set (map keep first ∷ map keep second ∷ map keep third ∷ []) k (slice_index_or (map keep first ∷ map keep second ∷ map keep third ∷ []) k [] ++ s ∷ [])
    ≡ map keep (if k == 0 then first ++ e ∷ [] else first) ∷ map keep (if k == 1 then second ++ e ∷ [] else second) ∷ map keep (if k == 2 then third ++ e ∷ [] else third) ∷ []
put-current keep zero first second third e s less is = λ i. (ap (λ x. map keep first ++ x ∷ []) (sym is) ∙ sym (map-append keep first (e ∷ []))) i ∷ map keep second ∷ map keep third ∷ []
put-current keep (suc zero) first second third e s less is = λ i. map keep first ∷ (ap (λ x. map keep second ++ x ∷ []) (sym is) ∙ sym (map-append keep second (e ∷ []))) i ∷ map keep third ∷ []
put-current keep (suc (suc zero)) first second third e s less is = λ i. map keep first ∷ map keep second ∷ (ap (λ x. map keep third ++ x ∷ []) (sym is) ∙ sym (map-append keep third (e ∷ []))) i ∷ []
put-current keep (suc (suc (suc k))) first second third e s less is = absurd (omega (arith, less))

empty-next : (keep : Event → Stored) (k : ℕ) (first second third : List Event) → k < 3
    → slice_set (map keep first ∷ map keep second ∷ map keep third ∷ []) k []
    ≡ map keep (if k == 0 then [] else first) ∷ map keep (if k == 1 then [] else second) ∷ map keep (if k == 2 then [] else third) ∷ []
empty-next keep zero first second third less = refl
empty-next keep (suc zero) first second third less = refl
empty-next keep (suc (suc zero)) first second third less = refl
empty-next keep (suc (suc (suc k))) first second third less = absurd (omega (arith, less))

below-three : (n : ℕ) → n % 3 < 3
below-three n = omega arith

has-put : (keep : Event → Stored) (n : ℕ) (first second third : List Event) (current : ℕ) (lists : List (List Stored)) (e : Event) (s : Stored) → keep e ≡ s
    → Has keep n first second third current lists
    → Has keep n (if n % 3 == 0 then first ++ e ∷ [] else first) (if n % 3 == 1 then second ++ e ∷ [] else second) (if n % 3 == 2 then third ++ e ∷ [] else third)
    current (slice_set lists current (slice_index_or lists current [] ++ s ∷ []))
has-put keep n first second third current lists e s is has = record {
  at = has.at;
  lists_are = (λ i. slice_set (has.lists_are i) (has.at i) (slice_index_or (has.lists_are i) (has.at i) [] ++ s ∷ [])) ∙ put-current keep (n % 3) first second third e s (below-three n) is;
}

has-switched : (keep : Event → Stored) (n : ℕ) (first second third : List Event) (current : ℕ) (lists : List (List Stored))
    → Has keep n first second third current lists
    → Has keep (n + 1) (if (n + 1) % 3 == 0 then [] else first) (if (n + 1) % 3 == 1 then [] else second) (if (n + 1) % 3 == 2 then [] else third)
    ((current + 1) % length lists) (slice_set lists ((current + 1) % length lists) [])
has-switched keep n first second third current lists has =
    let to : (current + 1) % length lists ≡ (n + 1) % 3 = (λ i. (has.at i + 1) % length (has.lists_are i)) ∙ mod-add-mod n 3 1 in
    record {
      at = to;
      lists_are = (λ i. slice_set (has.lists_are i) (to i) []) ∙ empty-next keep ((n + 1) % 3) first second third (below-three (n + 1));
    }

have : (h : History) → Legal h → (q : ℕ) → IsQueue h q → DoesHave h q
have [] start q is = absurd (cc)
have (ended whose t false ∷ h) (next l fine) q is =
    let s : DoesHave h q = have h l q is in
    let ts : Tables = event_tables q h in
    let keep = as_stored (ended whose t false ∷ h) in
    let dead : map (map (marked_dead t)) ts.lists ≡ map keep (put_while q 0 h) ∷ map keep (put_while q 1 h) ∷ map keep (put_while q 2 h) ∷ [] =
    ap (map (map (marked_dead t))) s.lists_are
    ∙ (λ i. dead-again h whose t (put_while q 0 h) i ∷ dead-again h whose t (put_while q 1 h) i ∷ dead-again h whose t (put_while q 2 h) i ∷ []) in
    by_test (λ b. Has keep (switches q h) (put_while q 0 h) (put_while q 1 h) (put_while q 2 h) (with_dead t (if b then without_pending ts else ts)).current (with_dead t (if b then without_pending ts else ts)).lists)
    (is_pending t ts) (λ _. record { at = s.at; lists_are = dead }) (λ _. record { at = s.at; lists_are = dead })
have _ (next {h = h} l (makes name t time new)) q is =
    stands-or-new (DoesHave (queued (made name t time) ∷ h) q) h name t time q is
    (λ before.
    let other : (queues_made h == q) ≡ false = grind (arith, nat_tests, queue-below h q before) in
    subst (λ b. Has (as_stored h) (switches q h) (put_while q 0 h) (put_while q 1 h) (put_while q 2 h) (if b then new_tables t time else event_tables q h).current (if b then new_tables t time else event_tables q h).lists)
    (sym other) (have h l q before))
    (λ last.
    let same : (queues_made h == q) ≡ true = grind (arith, nat_tests, last) in
    let u : IsUnput h q = unput_beyond h l q (omega (arith, last)) in
    subst (λ b. Has (as_stored h) (switches q h) (put_while q 0 h) (put_while q 1 h) (put_while q 2 h) (if b then new_tables t time else event_tables q h).current (if b then new_tables t time else event_tables q h).lists)
    (sym same)
    (record {
      at = ap (λ n. n % 3) (sym u.unswitched);
      lists_are = λ i. map (as_stored h) (sym (u.unput 0) i) ∷ map (as_stored h) (sym (u.unput 1) i) ∷ map (as_stored h) (sym (u.unput 2) i) ∷ [];
    }))
have _ (next {h = h} l (puts who p event i at mine newest)) q is =
    let s : DoesHave h q = have h l q is in
    let live = alive h event (runs-unended h (sound h l) event.ev_txid ((sound h l).owns who event.ev_txid mine)) in
    let k = switches q h % 3 in
    by_test (λ b. Has (as_stored h) (switches q h) (if b && k == 0 then put_while q 0 h ++ event ∷ [] else put_while q 0 h) (if b && k == 1 then put_while q 1 h ++ event ∷ [] else put_while q 1 h)
    (if b && k == 2 then put_while q 2 h ++ event ∷ [] else put_while q 2 h) (if b then with_stored event (event_tables q h) else event_tables q h).current (if b then with_stored event (event_tables q h) else event_tables q h).lists) (p == q)
    (λ _. has-put (as_stored h) (switches q h) (put_while q 0 h) (put_while q 1 h) (put_while q 2 h) (event_tables q h).current (event_tables q h).lists event (record { event = event; dead = false }) live s) (λ _. s)
have _ (next {h = h} l (puts_back retry t back)) q is =
    let s : DoesHave h q = have h l q is in
    let event = brought_by t retry.event in
    let live = alive h event (runs-unended h (sound h l) t ((sound h l).works t back.works)) in
    let k = switches q h % 3 in
    by_test (λ b. Has (as_stored h) (switches q h) (if b && k == 0 then put_while q 0 h ++ event ∷ [] else put_while q 0 h) (if b && k == 1 then put_while q 1 h ++ event ∷ [] else put_while q 1 h)
    (if b && k == 2 then put_while q 2 h ++ event ∷ [] else put_while q 2 h) (if b then with_stored event (event_tables q h) else event_tables q h).current (if b then with_stored event (event_tables q h) else event_tables q h).lists) (retry.queue == q)
    (λ _. has-put (as_stored h) (switches q h) (put_while q 0 h) (put_while q 1 h) (put_while q 2 h) (event_tables q h).current (event_tables q h).lists event (record { event = event; dead = false }) live s) (λ _. s)
have _ (next {h = h} l (begins_switch p t may)) q is =
    let s : DoesHave h q = have h l q is in
    by_test (λ b. Has (as_stored h) (switches q h) (put_while q 0 h) (put_while q 1 h) (put_while q 2 h) (if b then with_pending t (event_tables q h) else event_tables q h).current (if b then with_pending t (event_tables q h) else event_tables q h).lists)
    (p == q) (λ _. s) (λ _. s)
have _ (next {h = h} l (makes_switch p t time i pends)) q is =
    let s : DoesHave h q = have h l q is in
    let k = (switches q h + 1) % 3 in
    by_test (λ b. Has (as_stored h) (if b then switches q h + 1 else switches q h) (if b && k == 0 then [] else put_while q 0 h) (if b && k == 1 then [] else put_while q 1 h) (if b && k == 2 then [] else put_while q 2 h)
    (if b then tables_of.with_switch time (event_tables q h) else event_tables q h).current (if b then tables_of.with_switch time (event_tables q h) else event_tables q h).lists) (p == q)
    (λ _. has-switched (as_stored h) (switches q h) (put_while q 0 h) (put_while q 1 h) (put_while q 2 h) (event_tables q h).current (event_tables q h).lists s) (λ _. s)
have _ (next {h = h} l (ends_switch p t may)) q is =
    let s : DoesHave h q = have h l q is in
    by_test (λ b. Has (as_stored h) (switches q h) (put_while q 0 h) (put_while q 1 h) (put_while q 2 h) (if b then with_second_step t (event_tables q h) else event_tables q h).current (if b then with_second_step t (event_tables q h) else event_tables q h).lists)
    (p == q) (λ _. s) (λ _. s)
have _ (next {h = h} l (drops p none untold idle aside)) q is =
    subst (λ b. Has (as_stored h) (switches q h) (put_while q 0 h) (put_while q 1 h) (put_while q 2 h) (if b then no_tables else event_tables q h).current (if b then no_tables else event_tables q h).lists)
    (sym (others-apart p (queues h) q is)) (have h l q (others-among p (queues h) q is))
have _ (next {h = h} l _) q is = have h l q is

-- the table of a number
at-number : (x : ℕ → List Stored) (n : ℕ) → n < 3 → slice_get (x 0 ∷ x 1 ∷ x 2 ∷ []) n ≡ Some (x n)
at-number x zero less = refl
at-number x (suc zero) less = refl
at-number x (suc (suc zero)) less = refl
at-number x (suc (suc (suc n))) less = absurd (omega (arith, less))

pub hold_what_was_put : (h : History) → Legal h → (q : ℕ) → IsQueue h q → HoldsWhatWasPut h q
hold_what_was_put h l q is =
    let s : DoesHave h q = have h l q is in
    record {
      three = ap (λ lists. length lists) s.lists_are;
      current = s.at;
      lists = λ n less. ap (λ lists. slice_get lists n) s.lists_are ∙ at-number (λ m. map (as_stored h) (put_while q m h)) n less;
    }

-- ---- what rotation leaves

all-unmap : {A B : Type 0} (P : B → Type 0) (f : A → B) (xs : List A) → All P (map f xs) → All (λ x. P (f x)) xs
all-unmap P f [] all = All-nil (λ x. P (f x))
all-unmap P f (x ∷ xs) all = All-cons (λ x. P (f x)) x xs (All-head P (f x) (map f xs) all) (all-unmap P f xs (All-tail P (f x) (map f xs) all))

-- an event is stored if it is needed
abbrev IsSafe : History → ℕ → Event → Type 0
IsSafe h q e = is_needed h q e ≡ true → Contains (previous_events (event_tables q h) ++ current_events (event_tables q h)) (record { event = e; dead = false })

-- one that had begun by the second step before the last switch isn't needed
past-unneeded : (h : History) → Legal h → (q : ℕ) → IsQueue h q → (e : Event) → e.ev_txid ≤ cut q h → IsSafe h q e
past-unneeded h l q is e le needed =
    let f : ℕ = floor (queue_of h q) in
    let up : base q h < xmin_of (tick f (ticks q h)) = sits-at h l q is f (floor-newest h l q is) (omega arith) in
    let over : cut q h ≤ base q h = cut-base h l q is in
    some-tick (tick f (ticks q h)) (above-is (base q h) (tick f (ticks q h)) up) (Contains (previous_events (event_tables q h) ++ current_events (event_tables q h)) (record { event = e; dead = false }))
    (λ t there.
    let above : base q h < t.snapshot.xmin = subst (λ o. base q h < xmin_of o) there up in
    absurd (grind (arith, nat_tests, committed_at_tick h l q f e.ev_txid, there, has_committed-ended h l e.ev_txid, cut-ended h l q is e.ev_txid le, le, over, above, needed)))

-- a needed event isn't dead
needed-alive : (h : History) → Legal h → (q : ℕ) (e : Event) → is_needed h q e ≡ true → as_stored h e ≡ record { event = e; dead = false }
needed-alive h l q e needed =
    let unrolled : has_rolled_back h e.ev_txid ≡ false = grind (arith, rolled_back-ended h e.ev_txid, has_committed-ended h l e.ev_txid, needed) in
    ap (λ b. record { event = e; dead = b }) unrolled

pub needed_are_stored : (h : History) → Legal h → (q : ℕ) → IsQueue h q → All (IsSafe h q) (events q h)
needed_are_stored h l q is =
    let s : DoesHold h q = holds h l q is in
    let keep = as_stored h in
    let recent = s.previous ++ s.current in
    let lists : map keep recent ≡ previous_events (event_tables q h) ++ current_events (event_tables q h) =
    map-append keep s.previous s.current
    ∙ (λ i. sym (turned-previous (map keep s.oldest) (map keep s.previous) (map keep s.current) (event_tables q h).current (event_tables q h).lists s.turned) i
    ++ sym (turned-current (map keep s.oldest) (map keep s.previous) (map keep s.current) (event_tables q h).current (event_tables q h).lists s.turned) i) in
    subst (All (IsSafe h q)) (sym s.whole)
    (All-append (IsSafe h q) s.gone (s.oldest ++ recent) (All-weaker (λ e. e.ev_txid ≤ cut q h) (IsSafe h q) (past-unneeded h l q is) s.gone s.past)
    (All-append (IsSafe h q) s.oldest recent (All-weaker (λ e. e.ev_txid ≤ cut q h) (IsSafe h q) (past-unneeded h l q is) s.oldest s.passing)
    (All-weaker (λ e. Contains (map keep recent) (keep e)) (IsSafe h q)
    (λ e there needed. subst (λ xs. Contains xs (record { event = e; dead = false })) lists (subst (Contains (map keep recent)) (needed-alive h l q e needed) there)) recent
    (all-unmap (Contains (map keep recent)) keep recent (All-contains_itself (map keep recent))))))

-- ---- the laws

pub tables_hold_what_was_put : TablesHoldWhatWasPut
tables_hold_what_was_put p is queue stands = hold_what_was_put p (legal_place p is) queue stands

pub needed_events_are_stored : NeededEventsAreStored
needed_events_are_stored p is queue stands = needed_are_stored p (legal_place p is) queue stands

pub active_batches_are_stored : ActiveBatchesAreStored
active_batches_are_stored p is id b active = sym (batch_events-selected p (legal_place p is) id b active)

pub positions_are_kept : PositionsAreKept
positions_are_kept p is queue consumer sub has =
    let l : Legal p = legal_place p is in
    record { kept = position-kept p l queue consumer sub has; above = position-above p l queue consumer sub has; later = position-later p l queue consumer sub has }

pub newest_ticks_are_kept : NewestTicksAreKept
newest_ticks_are_kept p is queue stands = newest-kept p (legal_place p is) queue stands

switch_drops : (p : History) (queue : ℕ) (time : ℤ) → Legal (queued (switched queue time) ∷ p)
    → kept_ticks queue (queued (switched queue time) ∷ p) ≡ filter (is_above (second_step_of (event_tables queue p))) (kept_ticks queue p)
switch_drops p queue _ (next l (makes_switch q t time i pends)) =
    let c : IsCut p q = cuts p l q i in
    ap (λ b. if b then ticks_above (second_step_of (event_tables q p)) (kept_ticks q p) else kept_ticks q p) (eq-eqb q q refl)
    ∙ switch-drops (event_tables q p).second_step (ticks q p) (kept_ticks q p) (climbing p l q).run c (ap is_some pends)

pub switches_drop_ticks : SwitchesDropTicks
switches_drop_ticks p queue time is = switch_drops p queue time (legal_place (queued (switched queue time) ∷ p) is)

pub switches_begin_free : SwitchesBeginFree
switches_begin_free p queue t is = switching-free p queue t (legal_place (queued (switching queue t) ∷ p) is)

pub switches_were_pending : SwitchesWerePending
switches_were_pending p queue time is = switched-pending p queue time (legal_place (queued (switched queue time) ∷ p) is)

pub pending_switches_run : PendingSwitchesRun
pending_switches_run p is queue t pends =
    pending-unended p (legal_place p is) (settled-below is.later p (subst Settled is.below (held_calls is.calls).settled)) queue t pends
