-- The three event tables of a queue: what each has, and that no event is gone that a batch still has or a running transaction has put.
use Rattle.std.proofs.Common.{◌≡◌, ℤ, ℕ, ◌+◌, ◌%◌, ◌<◌, ◌≤◌, List, [], ◌∷◌, ◌++◌, Bool, true, false, ◌||◌, ◌==◌, filter, map, flat_map, take, drop, length, slice_set, slice_index_or, Some, is_some, unwrap_or, refl, sym, ◌∙◌, ap, subst, arith, All, if◌then◌else◌}
use Rattle.std.specs.List.{list_any}
use Rattle.std.proofs.lemmas.Bool.{or_right, eq-eqb}
use Rattle.std.proofs.lemmas.Bool.Decides.{nat_tests}
use Rattle.std.proofs.lemmas.List.{map-append, append-nil, append_assoc}
use Rattle.std.proofs.lemmas.List.Elements.{All-nil, All-cons, All-head, All-tail, All-weaker, All-append, filter-append}
use Rattle.sky_val.specs.declared.event.Event.{Event}
use Rattle.sky_txid.specs.Ids.{contains}
use Rattle.sky_txid.specs.Snapshot.{SnapshotView}
use Rattle.pgq_tables.specs.Tables as tables_of
use Rattle.pgq_tables.specs.Tables.{Stored, Tables, no_tables, new_tables, with_stored, marked_dead, with_dead, with_pending, without_pending, with_second_step, by_age}
use Rattle.pgq_tables.specs.Listed.{is_listed, listed}
use Rattle.pgq_tables.specs.ById.{by_id}
use Rattle.sky_model.specs.History.{Batch, Whose, ended, queued, made, History}
use Rattle.sky_model.specs.Transactions.{running, has_ended, has_rolled_back, snapshot}
use Rattle.sky_model.specs.Queues.{queues_made, queues, events, is_pending, event_tables, ticks, tick, kept_ticks, second_step_of}
use Rattle.sky_model.specs.Consumers.{active_batch}
use Rattle.sky_model.specs.Retries.{brought_by}
use Rattle.sky_model.specs.Batches.{batch_events}
use Rattle.sky_model.specs.Selection.{is_selected, snapshot_at, listed_between, selected}
use Rattle.sky_model.specs.State.{database_of}
use Rattle.sky_model.specs.StepQueue.{has_part_in}
use Rattle.sky_model.specs.LawsOfRotation.{as_stored}
use Rattle.sky_histories.proofs.Legal.{IsQueue, MayEnd, makes, puts, puts_back, begins_switch, makes_switch, ends_switch, drops, Legal, start, next}
use Rattle.sky_histories.proofs.QueueNumbers.{queue-below, others-among, others-apart}
use Rattle.sky_histories.proofs.StandingQueues.{beyond, stands-or-new, registered-stands}
use Rattle.sky_histories.proofs.EventsBegun.{Begun, events-begun}
use Rattle.sky_histories.proofs.Snapshots.{sound, runs-unended, sees-snapshot}
use Rattle.sky_histories.proofs.Climbing.{xmin_of}
use Rattle.sky_histories.proofs.KeptTicks.{cut, base, IsCut, cuts, cut-base, some-is, Sits, sits, some-tick, above-is, made-kept}
use Rattle.sky_histories.proofs.TickOrder.{is_made-tick}
use Rattle.sky_histories.proofs.ActiveBatches.{IsActive, active_batches}
use Rattle.sky_histories.proofs.Selecting.{batch_events-by_id}
use Rattle.sky_model.proofs.Cases.{by_same, by_test}

-- ---- three tables, of which one is the current one

-- the lists of the oldest table, the previous one and the current one, by which is current
pub data Turned : (oldest previous current : List Stored) → ℕ → List (List Stored) → Type 0 where
  at_first : {o p c : List Stored} → Turned o p c 0 (c ∷ o ∷ p ∷ [])
  at_second : {o p c : List Stored} → Turned o p c 1 (p ∷ c ∷ o ∷ [])
  at_third : {o p c : List Stored} → Turned o p c 2 (o ∷ p ∷ c ∷ [])

turned-stored : (o p c : List Stored) (k : ℕ) (lists : List (List Stored)) (s : Stored) → Turned o p c k lists
    → Turned o p (c ++ s ∷ []) k (slice_set lists k (slice_index_or lists k [] ++ s ∷ []))
turned-stored o p c _ _ s at_first = at_first
turned-stored o p c _ _ s at_second = at_second
turned-stored o p c _ _ s at_third = at_third

turned-switched : (o p c : List Stored) (k : ℕ) (lists : List (List Stored)) → Turned o p c k lists
    → Turned p c [] ((k + 1) % length lists) (slice_set lists ((k + 1) % length lists) [])
turned-switched o p c _ _ at_first = at_second
turned-switched o p c _ _ at_second = at_third
turned-switched o p c _ _ at_third = at_first

turned-map : (f : Stored → Stored) (o p c : List Stored) (k : ℕ) (lists : List (List Stored)) → Turned o p c k lists → Turned (map f o) (map f p) (map f c) k (map (map f) lists)
turned-map f o p c _ _ at_first = at_first
turned-map f o p c _ _ at_second = at_second
turned-map f o p c _ _ at_third = at_third

turned-by_age : (o p c : List Stored) (k : ℕ) (lists : List (List Stored)) → Turned o p c k lists → flat_map (λ list. list) (drop (k + 1) lists ++ take (k + 1) lists) ≡ o ++ (p ++ c)
turned-by_age o p c _ _ at_first = ap (λ xs. o ++ (p ++ xs)) (append-nil c)
turned-by_age o p c _ _ at_second = ap (λ xs. o ++ (p ++ xs)) (append-nil c)
turned-by_age o p c _ _ at_third = ap (λ xs. o ++ (p ++ xs)) (append-nil c)

pub turned-previous : (o p c : List Stored) (k : ℕ) (lists : List (List Stored)) → Turned o p c k lists → slice_index_or lists ((k + 2) % 3) [] ≡ p
turned-previous o p c _ _ at_first = refl
turned-previous o p c _ _ at_second = refl
turned-previous o p c _ _ at_third = refl

pub turned-current : (o p c : List Stored) (k : ℕ) (lists : List (List Stored)) → Turned o p c k lists → slice_index_or lists k [] ≡ c
turned-current o p c _ _ at_first = refl
turned-current o p c _ _ at_second = refl
turned-current o p c _ _ at_third = refl

-- ---- what the tables have

-- the events of a queue are those that are gone and those of the tables; those that are gone, and those of the oldest table, are of transactions that
-- had begun at the second step before the last switch; once the second step of the last one is made, those of the previous table had begun there
pub record Holds (keep : Event → Stored) (cut : ℕ) (ts : Tables) (all : List Event) : Type 0 where
  pub gone : List Event
  pub oldest : List Event
  pub previous : List Event
  pub current : List Event
  pub turned : Turned (map keep oldest) (map keep previous) (map keep current) ts.current ts.lists
  pub whole : all ≡ gone ++ (oldest ++ (previous ++ current))
  pub past : All (λ e. e.ev_txid ≤ cut) gone
  pub passing : All (λ e. e.ev_txid ≤ cut) oldest
  pub stepped : (t : ℕ) → ts.second_step ≡ Some t → All (λ e. e.ev_txid ≤ t) previous

abbrev pub DoesHold : History → ℕ → Type 0
DoesHold h q = Holds (as_stored h) (cut q h) (event_tables q h) (events q h)

-- one that has rolled back had ended
pub rolled_back-ended : (h : History) (t : ℕ) → has_rolled_back h t ≡ true → has_ended h t ≡ true
rolled_back-ended [] t e = absurd (cc)
rolled_back-ended (ended who u true ∷ h) t e = or_right (t == u) (has_ended h t) (rolled_back-ended h t e)
rolled_back-ended (ended who u false ∷ h) t e = grind (arith, rolled_back-ended h t)
rolled_back-ended (_ ∷ h) t e = rolled_back-ended h t e

pub unended-unrolled : (h : History) (t : ℕ) → has_ended h t ≡ false → has_rolled_back h t ≡ false
unended-unrolled h t e = by_test (λ b. b ≡ false) (has_rolled_back h t) (λ is. absurd (cc (sym (rolled_back-ended h t is) ∙ e))) (λ _. refl)

pub dead-again : (h : History) (whose : Whose) (t : ℕ) (es : List Event) → map (marked_dead t) (map (as_stored h) es) ≡ map (as_stored (ended whose t false ∷ h)) es
dead-again h whose t [] = refl
dead-again h whose t (e ∷ es) = ap (λ xs. as_stored (ended whose t false ∷ h) e ∷ xs) (dead-again h whose t es)

all-parts : {A : Type 0} (P : A → Type 0) (xs ys : List A) → All P (xs ++ ys) → All P xs × All P ys
all-parts P [] ys all = (All-nil P, all)
all-parts P (x ∷ xs) ys all = let both = all-parts P xs ys (All-tail P x (xs ++ ys) all) in (All-cons P x xs (All-head P x (xs ++ ys) all) both.0, both.1)

-- with one more event, of a transaction that hasn't ended
holds-put : (keep : Event → Stored) (cut : ℕ) (ts : Tables) (all : List Event) (e : Event) → keep e ≡ record { event = e; dead = false } → Holds keep cut ts all → Holds keep cut (with_stored e ts) (all ++ e ∷ [])
holds-put keep cut ts all e alive s = record {
  gone = s.gone;
  oldest = s.oldest;
  previous = s.previous;
  current = s.current ++ e ∷ [];
  turned = subst (λ c. Turned (map keep s.oldest) (map keep s.previous) c ts.current (slice_set ts.lists ts.current (slice_index_or ts.lists ts.current [] ++ record { event = e; dead = false } ∷ [])))
      (sym (map-append keep s.current (e ∷ []) ∙ ap (λ x. map keep s.current ++ x ∷ []) alive))
      (turned-stored (map keep s.oldest) (map keep s.previous) (map keep s.current) ts.current ts.lists (record { event = e; dead = false }) s.turned);
  whole = ap (λ xs. xs ++ e ∷ []) s.whole ∙ append_assoc s.gone (s.oldest ++ (s.previous ++ s.current)) (e ∷ [])
      ∙ ap (λ xs. s.gone ++ xs) (append_assoc s.oldest (s.previous ++ s.current) (e ∷ []) ∙ ap (λ xs. s.oldest ++ xs) (append_assoc s.previous s.current (e ∷ [])));
  past = s.past;
  passing = s.passing;
  stepped = s.stepped;
}

holds-switched : (keep : Event → Stored) (cut : ℕ) (ts : Tables) (all : List Event) (time : ℤ) (t : ℕ) → ts.second_step ≡ Some t → cut ≤ t → Holds keep cut ts all → Holds keep t (tables_of.with_switch time ts) all
holds-switched keep cut ts all time t second le s = record {
  gone = s.gone ++ s.oldest;
  oldest = s.previous;
  previous = s.current;
  current = [];
  turned = turned-switched (map keep s.oldest) (map keep s.previous) (map keep s.current) ts.current ts.lists s.turned;
  whole = s.whole ∙ sym (append_assoc s.gone s.oldest (s.previous ++ s.current)) ∙ ap (λ xs. (s.gone ++ s.oldest) ++ (s.previous ++ xs)) (sym (append-nil s.current));
  past = All-append (λ e. e.ev_txid ≤ t) s.gone s.oldest (All-weaker (λ e. e.ev_txid ≤ cut) (λ e. e.ev_txid ≤ t) (λ e up. omega (arith, up, le)) s.gone s.past)
      (All-weaker (λ e. e.ev_txid ≤ cut) (λ e. e.ev_txid ≤ t) (λ e up. omega (arith, up, le)) s.oldest s.passing);
  passing = s.stepped t second;
  stepped = λ u e. absurd (cc);
}

holds-ended : (h : History) (cut : ℕ) (ts : Tables) (all : List Event) (whose : Whose) (t : ℕ) → Holds (as_stored h) cut ts all → Holds (as_stored (ended whose t false ∷ h)) cut (with_dead t ts) all
holds-ended h cut ts all whose t s = record {
  gone = s.gone;
  oldest = s.oldest;
  previous = s.previous;
  current = s.current;
  turned = subst (λ o. Turned o (map (as_stored (ended whose t false ∷ h)) s.previous) (map (as_stored (ended whose t false ∷ h)) s.current) ts.current (map (map (marked_dead t)) ts.lists)) (dead-again h whose t s.oldest)
      (subst (λ p. Turned (map (marked_dead t) (map (as_stored h) s.oldest)) p (map (as_stored (ended whose t false ∷ h)) s.current) ts.current (map (map (marked_dead t)) ts.lists)) (dead-again h whose t s.previous)
      (subst (λ c. Turned (map (marked_dead t) (map (as_stored h) s.oldest)) (map (marked_dead t) (map (as_stored h) s.previous)) c ts.current (map (map (marked_dead t)) ts.lists)) (dead-again h whose t s.current)
      (turned-map (marked_dead t) (map (as_stored h) s.oldest) (map (as_stored h) s.previous) (map (as_stored h) s.current) ts.current ts.lists s.turned)));
  whole = s.whole;
  past = s.past;
  passing = s.passing;
  stepped = s.stepped;
}

pub alive : (h : History) (e : Event) → has_ended h e.ev_txid ≡ false → as_stored h e ≡ record { event = e; dead = false }
alive h e unended = ap (λ b. record { event = e; dead = b }) (unended-unrolled h e.ev_txid unended)

pub holds : (h : History) → Legal h → (q : ℕ) → IsQueue h q → DoesHold h q
holds [] start q is = absurd (cc)
holds (ended whose t false ∷ h) (next l fine) q is =
    let s : DoesHold h q = holds h l q is in
    let ts : Tables = event_tables q h in
    by_test (λ b. Holds (as_stored (ended whose t false ∷ h)) (cut q h) (with_dead t (if b then without_pending ts else ts)) (events q h)) (is_pending t ts)
    (λ _. holds-ended h (cut q h) (without_pending ts) (events q h) whose t
    (record { gone = s.gone; oldest = s.oldest; previous = s.previous; current = s.current; turned = s.turned; whole = s.whole; past = s.past; passing = s.passing; stepped = s.stepped }))
    (λ _. holds-ended h (cut q h) ts (events q h) whose t s)
holds _ (next {h = h} l (makes name t time new)) q is =
    stands-or-new (DoesHold (queued (made name t time) ∷ h) q) h name t time q is
    (λ before.
    let other : (queues_made h == q) ≡ false = grind (arith, nat_tests, queue-below h q before) in
    subst (λ b. Holds (as_stored h) (if b then 0 else cut q h) (if b then new_tables t time else event_tables q h) (events q h)) (sym other) (holds h l q before))
    (λ last.
    let same : (queues_made h == q) ≡ true = grind (arith, nat_tests, last) in
    let b = beyond h l q (omega (arith, last)) in
    subst (λ b. Holds (as_stored h) (if b then 0 else cut q h) (if b then new_tables t time else event_tables q h) (events q h)) (sym same)
    (record {
      gone = [];
      oldest = [];
      previous = [];
      current = [];
      turned = at_first;
      whole = b.events;
      past = All-nil (λ e. e.ev_txid ≤ 0);
      passing = All-nil (λ e. e.ev_txid ≤ 0);
      stepped = λ u e. All-nil (λ e. e.ev_txid ≤ u);
    }))
holds _ (next {h = h} l (puts who p event i at mine newest)) q is =
    let s : DoesHold h q = holds h l q is in
    let live = alive h event (runs-unended h (sound h l) event.ev_txid ((sound h l).owns who event.ev_txid mine)) in
    by_test (λ b. Holds (as_stored h) (cut q h) (if b then with_stored event (event_tables q h) else event_tables q h) (if b then events q h ++ event ∷ [] else events q h)) (p == q)
    (λ _. holds-put (as_stored h) (cut q h) (event_tables q h) (events q h) event live s) (λ _. s)
holds _ (next {h = h} l (puts_back retry t back)) q is =
    let s : DoesHold h q = holds h l q is in
    let event = brought_by t retry.event in
    let live = alive h event (runs-unended h (sound h l) t ((sound h l).works t back.works)) in
    by_test (λ b. Holds (as_stored h) (cut q h) (if b then with_stored event (event_tables q h) else event_tables q h) (if b then events q h ++ event ∷ [] else events q h)) (retry.queue == q)
    (λ _. holds-put (as_stored h) (cut q h) (event_tables q h) (events q h) event live s) (λ _. s)
holds _ (next {h = h} l (begins_switch p t may)) q is =
    let s : DoesHold h q = holds h l q is in
    by_test (λ b. Holds (as_stored h) (cut q h) (if b then with_pending t (event_tables q h) else event_tables q h) (events q h)) (p == q)
    (λ _. record { gone = s.gone; oldest = s.oldest; previous = s.previous; current = s.current; turned = s.turned; whole = s.whole; past = s.past; passing = s.passing; stepped = s.stepped })
    (λ _. s)
holds _ (next {h = h} l (makes_switch p t time i pends)) q is =
    let s : DoesHold h q = holds h l q is in
    by_same (λ b. Holds (as_stored h) (if b then second_step_of (event_tables q h) else cut q h) (if b then tables_of.with_switch time (event_tables q h) else event_tables q h) (events q h)) p q
    (λ same.
    let c : IsCut h q = cuts h l q is in
    let a = c.awaits (ap is_some (subst (λ n. (event_tables n h).pending ≡ Some t) same pends)) in
    let second = some-is (event_tables q h).second_step a.0 in
    holds-switched (as_stored h) (cut q h) (event_tables q h) (events q h) time (second_step_of (event_tables q h)) second (c.after (second_step_of (event_tables q h)) second) s) (λ _. s)
holds _ (next {h = h} l (ends_switch p t may)) q is =
    let s : DoesHold h q = holds h l q is in
    by_same (λ b. Holds (as_stored h) (cut q h) (if b then with_second_step t (event_tables q h) else event_tables q h) (events q h)) p q
    (λ same.
    let mine : MayEnd h q t = subst (λ n. MayEnd h n t) same may in
    let begun = subst (All (Begun h)) s.whole (events-begun h l q) in
    let kept = (all-parts (Begun h) s.gone (s.oldest ++ (s.previous ++ s.current)) begun).1 in
    let later = (all-parts (Begun h) s.oldest (s.previous ++ s.current) kept).1 in
    let before : All (Begun h) s.previous = (all-parts (Begun h) s.previous s.current later).0 in
    record {
      gone = s.gone;
      oldest = s.oldest;
      previous = s.previous;
      current = s.current;
      turned = s.turned;
      whole = s.whole;
      past = s.past;
      passing = s.passing;
      stepped = λ u e. let one : t ≡ u = ap (λ o. unwrap_or o u) e in All-weaker (Begun h) (λ e. e.ev_txid ≤ u) (λ e lt. omega (arith, lt, one, mine.newest)) s.previous before;
    }) (λ _. s)
holds _ (next {h = h} l (drops p none untold idle aside)) q is =
    subst (λ b. Holds (as_stored h) (cut q h) (if b then no_tables else event_tables q h) (events q h)) (sym (others-apart p (queues h) q is)) (holds h l q (others-among p (queues h) q is))
holds _ (next {h = h} l _) q is = holds h l q is

-- ---- the events that are gone

-- those of the tables are listed in the order of storing
pub by_age-left : (keep : Event → Stored) (cut : ℕ) (ts : Tables) (all : List Event) → (s : Holds keep cut ts all) → by_age ts ≡ map keep (s.oldest ++ (s.previous ++ s.current))
by_age-left keep cut ts all s =
    turned-by_age (map keep s.oldest) (map keep s.previous) (map keep s.current) ts.current ts.lists s.turned
    ∙ ap (λ xs. map keep s.oldest ++ xs) (sym (map-append keep s.previous s.current)) ∙ sym (map-append keep s.oldest (s.previous ++ s.current))

filter-none : (p : Event → Bool) (es : List Event) → All (λ e. p e ≡ false) es → filter p es ≡ []
filter-none p [] all = refl
filter-none p (e ∷ es) all =
    subst (λ b. (if b then e ∷ filter p es else filter p es) ≡ []) (sym (All-head (λ x. p x ≡ false) e es all)) (filter-none p es (All-tail (λ x. p x ≡ false) e es all))

listed-selected : (h : History) (from to : SnapshotView) (sub : ℕ) (es : List Event)
    → map Stored.event (filter (is_listed from to sub) (map (as_stored h) es)) ≡ filter (is_selected (has_rolled_back h) from to sub) es
listed-selected h from to sub [] = refl
listed-selected h from to sub (e ∷ es) =
    by_test (λ b. map Stored.event (if b then as_stored h e ∷ filter (is_listed from to sub) (map (as_stored h) es) else filter (is_listed from to sub) (map (as_stored h) es))
    ≡ (if b then e ∷ filter (is_selected (has_rolled_back h) from to sub) es else filter (is_selected (has_rolled_back h) from to sub) es))
    (is_selected (has_rolled_back h) from to sub e)
    (λ _. ap (λ xs. e ∷ xs) (listed-selected h from to sub es)) (λ _. listed-selected h from to sub es)

-- the events that two snapshots select are in the tables, if the earlier one is above the second step before the last switch
listed-all : (h : History) (cut : ℕ) (ts : Tables) (all : List Event) → Holds (as_stored h) cut ts all → (from to : SnapshotView) → cut < from.xmin → (sub : ℕ)
    → listed from to sub ts ≡ by_id (filter (is_selected (has_rolled_back h) from to sub) all)
listed-all h cut ts all s from to up sub =
    let seen : All (λ e. is_selected (has_rolled_back h) from to sub e ≡ false) s.gone =
    All-weaker (λ e. e.ev_txid ≤ cut) (λ e. is_selected (has_rolled_back h) from to sub e ≡ false) (λ e le. grind (arith, nat_tests, le, up)) s.gone s.past in
    ap by_id (ap (λ xs. map Stored.event (filter (is_listed from to sub) xs)) (by_age-left (as_stored h) cut ts all s)
    ∙ listed-selected h from to sub (s.oldest ++ (s.previous ++ s.current))
    ∙ ap (λ xs. xs ++ filter (is_selected (has_rolled_back h) from to sub) (s.oldest ++ (s.previous ++ s.current))) (sym (filter-none (is_selected (has_rolled_back h) from to sub) s.gone seen))
    ∙ sym (filter-append (is_selected (has_rolled_back h) from to sub) s.gone (s.oldest ++ (s.previous ++ s.current)))
    ∙ ap (filter (is_selected (has_rolled_back h) from to sub)) (sym s.whole))

-- the events of a batch are those that its two kept ticks select of the tables
pub batch_events-selected : (h : History) → Legal h → (id : ℕ) (b : Batch) → active_batch id h ≡ Some b → batch_events h b ≡ selected (database_of h) b
batch_events-selected h l id b active =
    let a : IsActive h id b = active_batches h l id b active in
    let is = registered-stands h l b.queue b.consumer b.sub a.owned in
    let up : Sits h b.queue b.consumer = sits h l b.queue b.consumer b.sub a.owned in
    let at : base b.queue h < xmin_of (tick b.prev (ticks b.queue h)) = subst (λ n. base b.queue h < xmin_of (tick n (ticks b.queue h))) a.begins up in
    some-tick (tick b.prev (ticks b.queue h)) (above-is (base b.queue h) (tick b.prev (ticks b.queue h)) at) (batch_events h b ≡ selected (database_of h) b)
    (λ from first.
    some-tick (tick b.cur (ticks b.queue h)) (is_made-tick h b.queue b.cur ∙ a.closing) (batch_events h b ≡ selected (database_of h) b)
    (λ to last.
    let first_kept = made-kept h l b.queue b.consumer b.sub a.owned b.prev from first (omega (arith, a.begins)) in
    let last_kept = made-kept h l b.queue b.consumer b.sub a.owned b.cur to last (omega (arith, a.begins, a.ends)) in
    let above : base b.queue h < from.snapshot.xmin = subst (λ o. base b.queue h < xmin_of o) first at in
    batch_events-by_id h l b
    ∙ ap (λ o. by_id (filter (is_selected (has_rolled_back h) (snapshot_at o) (snapshot_at (tick b.cur (ticks b.queue h))) b.sub) (events b.queue h))) first
    ∙ ap (λ o. by_id (filter (is_selected (has_rolled_back h) from.snapshot (snapshot_at o) b.sub) (events b.queue h))) last
    ∙ sym (listed-all h (cut b.queue h) (event_tables b.queue h) (events b.queue h) (holds h l b.queue is) from.snapshot to.snapshot (omega (arith, above, cut-base h l b.queue is)) b.sub)
    ∙ ap (λ o. listed_between o (Some to) b.sub (event_tables b.queue h)) (sym first_kept)
    ∙ ap (λ o. listed_between (tick b.prev (kept_ticks b.queue h)) o b.sub (event_tables b.queue h)) (sym last_kept)))

-- ---- the events of running transactions

-- what has begun by the second step before the last switch has ended
pub cut-ended : (h : History) → Legal h → (q : ℕ) → IsQueue h q → (t : ℕ) → t ≤ cut q h → has_ended h t ≡ true
cut-ended h l q is t le =
    let below : cut q h < (snapshot h).xmin = (cuts h l q is).below in
    sym (sees-snapshot h l t) ∙ grind (arith, nat_tests, le, below)

any-itself : (keep : Event → Stored) → ((e : Event) → (keep e).event ≡ e) → (es : List Event) → All (λ e. list_any (λ s. s.event.ev_txid == e.ev_txid) (map keep es) ≡ true) es
any-itself keep itself [] = All-nil (λ e. false ≡ true)
any-itself keep itself (x ∷ xs) =
    All-cons (λ e. list_any (λ s. s.event.ev_txid == e.ev_txid) (map keep (x ∷ xs)) ≡ true) x xs
    (ap (λ b. b || list_any (λ s. s.event.ev_txid == x.ev_txid) (map keep xs)) (eq-eqb (keep x).event.ev_txid x.ev_txid (ap Event.ev_txid (itself x))))
    (All-weaker (λ e. list_any (λ s. s.event.ev_txid == e.ev_txid) (map keep xs) ≡ true) (λ e. list_any (λ s. s.event.ev_txid == e.ev_txid) (map keep (x ∷ xs)) ≡ true)
    (λ e is. or_right ((keep x).event.ev_txid == e.ev_txid) (list_any (λ s. s.event.ev_txid == e.ev_txid) (map keep xs)) is) xs (any-itself keep itself xs))

-- a transaction that runs has a part in the tables of a queue into which it has put an event
abbrev pub IsStored : History → ℕ → Event → Type 0
IsStored h q e = contains e.ev_txid (running h) ≡ true → has_part_in (event_tables q h) e.ev_txid ≡ true

pub running-stored : (h : History) → Legal h → (q : ℕ) → IsQueue h q → All (λ e. contains e.ev_txid (running h) ≡ true → has_part_in (event_tables q h) e.ev_txid ≡ true) (events q h)
running-stored h l q is =
    let s : DoesHold h q = holds h l q is in
    let age = by_age-left (as_stored h) (cut q h) (event_tables q h) (events q h) s in
    let all = any-itself (as_stored h) (λ e. refl) (s.oldest ++ (s.previous ++ s.current)) in
    subst (All (IsStored h q)) (sym s.whole)
    (All-append (IsStored h q) s.gone (s.oldest ++ (s.previous ++ s.current))
    (All-weaker (λ e. e.ev_txid ≤ cut q h) (IsStored h q) (λ e le runs. absurd (cc (sym (cut-ended h l q is e.ev_txid le) ∙ runs-unended h (sound h l) e.ev_txid runs))) s.gone s.past)
    (All-weaker (λ e. list_any (λ s. s.event.ev_txid == e.ev_txid) (map (as_stored h) (s.oldest ++ (s.previous ++ s.current))) ≡ true) (IsStored h q)
    (λ e there _. ap (λ b. b || is_pending e.ev_txid (event_tables q h)) (ap (list_any (λ s. s.event.ev_txid == e.ev_txid)) age ∙ there)) (s.oldest ++ (s.previous ++ s.current)) all))
