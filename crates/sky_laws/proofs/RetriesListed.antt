-- A retry that came back is in the batches of its subscription that are across the place where it did, since its transaction commits before the next tick.
use Rattle.std.proofs.Common.{◌≡◌, ℕ, ◌<◌, ℤ, List, [], ◌∷◌, ◌++◌, true, false, not, ◌&&◌, ◌||◌, ◌==◌, Some, Contains, refl, sym, ◌∙◌, ap, subst, arith, if◌then◌else◌}
use Rattle.std.proofs.lemmas.Bool.{or_left, or_right}
use Rattle.std.proofs.lemmas.List.Elements.{All-contains}
use Rattle.sky_val.specs.declared.event.Event.{Event}
use Rattle.sky_txid.specs.Ids.{contains}
use Rattle.pgq_retry.specs.declared.retry.Retry.{Retry}
use Rattle.pgq_tables.specs.Listed.{is_for}
use Rattle.sky_model.specs.History.{Mark, of_session, of_worker, began, ended, queued, made, put, ticked, asked, returned, History, of_copy}
use Rattle.sky_model.specs.Transactions.{workers, has_ended, has_committed}
use Rattle.sky_model.specs.Queues.{queues_made, ticks, newest_tick, id_of, at_tick}
use Rattle.sky_model.specs.Retries.{retries, brought_by}
use Rattle.sky_model.specs.HistoryPlaces.{IsPlace}
use Rattle.sky_model.specs.LawsOfRetries.{IsRetry, RetriesAreListed}
use Rattle.sky_histories.proofs.Legal.{Fine, Returns, makes, ticks_next, returns, Legal, legal-below_mark, fine_mark, brief}
use Rattle.sky_histories.proofs.Snapshots.{sound, runs-unended, contains-push, contains-filter}
use Rattle.sky_histories.proofs.SnapshotLaws.{legal-below, legal_place}
use Rattle.sky_histories.proofs.TickOrder.{is_made, is_made-tick, unmade_beyond}
use Rattle.sky_laws.proofs.Listings.{unended-uncommitted, new_tick, made_since}
use Rattle.sky_histories.proofs.RetryCopies.{copies}
use Rattle.sky_histories.proofs.WorkersRest.{has_put, Calm}
use Rattle.sky_histories.proofs.Histories.{rests_calls}
use Rattle.sky_histories.proofs.Good.{same-session}
use Rattle.sky_model.proofs.Cases.{by_same, by_test}

-- ---- its transaction commits before the next tick

pub calm-below : (later : List Mark) (p : History) → Calm (later ++ p) → Calm p
calm-below [] p c = c
calm-below (queued (ticked q id time seq) ∷ later) p c = calm-below later p c.1
calm-below (queued (asked retry) ∷ later) p c = calm-below later p c.1
calm-below (queued (put q event) ∷ later) p c = calm-below later p c.1
calm-below (queued (made name t time) ∷ later) p c = calm-below later p c.1
calm-below (ended of_worker t committed ∷ later) p c = calm-below later p c.1
calm-below (_ ∷ later) p c = calm-below later p c

pub calm_place : (p : History) → IsPlace p → Calm p
calm_place p is = calm-below is.later p (subst Calm is.below (rests_calls is.calls).calm)

-- a worker's transaction is running still, or has committed
abbrev Lasts : History → ℕ → Type 0
Lasts h t = (contains t (brief h) || has_committed h t) ≡ true

-- once it has put an event, it has
put-stays : (t : ℕ) (later : List Mark) (p : History) → has_put t p ≡ true → has_put t (later ++ p) ≡ true
put-stays t [] p has = has
put-stays t (queued (put q event) ∷ later) p has = or_right (event.ev_txid == t) (has_put t (later ++ p)) (put-stays t later p has)
put-stays t (_ ∷ later) p has = put-stays t later p has

lasts : (t : ℕ) (later : List Mark) (p : History) → Calm (later ++ p) → has_put t p ≡ true → contains t (brief p) ≡ true → Lasts (later ++ p) t
lasts t [] p c has works = grind (arith, works)
lasts t (queued (ticked q id time seq) ∷ later) p c has works = lasts t later p c.1 has works
lasts t (queued (asked retry) ∷ later) p c has works = lasts t later p c.1 has works
lasts t (queued (put q event) ∷ later) p c has works = lasts t later p c.1 has works
lasts t (queued (made name u time) ∷ later) p c has works = lasts t later p c.1 has works
lasts t (began of_worker u ∷ later) p c has works = let ih = lasts t later p c has works in grind (arith, contains-push t u (brief (later ++ p)), ih)
lasts t (ended of_worker u true ∷ later) p c has works = let ih = lasts t later p c.1 has works in grind (arith, contains-filter t u (brief (later ++ p)), ih)
lasts t (ended of_worker u false ∷ later) p c has works =
    let ih = lasts t later p c.1 has works in
    let other : (t == u) ≡ false = by_same (λ b. b ≡ false) t u (λ same. absurd (cc (sym (put-stays t later p has) ∙ ap (λ v. has_put v (later ++ p)) same ∙ c.0 refl))) (λ isnt. refl) in
    grind (arith, contains-filter t u (brief (later ++ p)), ih, other)
lasts t (ended (of_session who) u true ∷ later) p c has works = let ih = lasts t later p c has works in grind (arith, ih)
lasts t (ended (of_session who) u false ∷ later) p c has works = lasts t later p c has works
lasts t (ended (of_copy n) u true ∷ later) p c has works = let ih = lasts t later p c has works in grind (arith, ih)
lasts t (ended (of_copy n) u false ∷ later) p c has works = lasts t later p c has works
lasts t (_ ∷ later) p c has works = lasts t later p c has works

-- if none is running, it has committed
committed-idle : (h : History) (t : ℕ) → Lasts h t → brief h ≡ [] → has_committed h t ≡ true
committed-idle h t last idle = subst (λ ts. (contains t ts || has_committed h t) ≡ true) idle last

-- so it had committed at each later tick
at_later : (t q id : ℕ) (later : List Mark) (p : History) → Calm (later ++ p) → has_put t p ≡ true → contains t (brief p) ≡ true → is_made q id p ≡ false → is_made q id (later ++ p) ≡ true
    → has_committed (at_tick q id (later ++ p)) t ≡ true
at_later t q id [] p c has works un there = absurd (cc (sym un ∙ there))
at_later t q id (queued (ticked r m time seq) ∷ later) p c has works un there =
    by_test (λ b. (b || is_made q id (later ++ p)) ≡ true → has_committed (if b then later ++ p else at_tick q id (later ++ p)) t ≡ true) (r == q && m == id)
    (λ _ _. committed-idle (later ++ p) t (lasts t later p c.1 has works) c.0) (λ _ made. at_later t q id later p c.1 has works un made) there
at_later t q id (queued (made name u time) ∷ later) p c has works un there =
    by_test (λ b. (b || is_made q id (later ++ p)) ≡ true → has_committed (if b then later ++ p else at_tick q id (later ++ p)) t ≡ true) (queues_made (later ++ p) == q && 1 == id)
    (λ _ _. committed-idle (later ++ p) t (lasts t later p c.1 has works) c.0) (λ _ made. at_later t q id later p c.1 has works un made) there
at_later t q id (queued (asked retry) ∷ later) p c has works un there = at_later t q id later p c.1 has works un there
at_later t q id (queued (put r event) ∷ later) p c has works un there = at_later t q id later p c.1 has works un there
at_later t q id (ended of_worker u committed ∷ later) p c has works un there = at_later t q id later p c.1 has works un there
at_later t q id (_ ∷ later) p c has works un there = at_later t q id later p c has works un there

-- ---- a tick that is made stays what it is

stays-mark : (h : History) (mark : Mark) → Legal h → Fine h mark → (q id : ℕ) → is_made q id h ≡ true → at_tick q id (mark ∷ h) ≡ at_tick q id h
stays-mark h _ l (ticks_next r m time seq i above c) q id there =
    by_same (λ x. (if x && m == id then h else at_tick q id h) ≡ at_tick q id h) r q
    (λ same. ap (λ x. if x then h else at_tick q id h) (new_tick h l q id id m there (omega arith) (subst (λ n. id_of (newest_tick (ticks n h)) < m) same above))) (λ _. refl)
stays-mark h _ l (makes name t time new) q id there =
    by_same (λ x. (if x && 1 == id then h else at_tick q id h) ≡ at_tick q id h) (queues_made h) q
    (λ same. absurd (cc (sym there ∙ unmade_beyond h l q id (omega (arith, same))))) (λ _. refl)
stays-mark h _ l _ q id there = refl

stays : (later : List Mark) (p : History) → Legal (later ++ p) → (q id : ℕ) → is_made q id p ≡ true → at_tick q id (later ++ p) ≡ at_tick q id p
stays [] p l q id there = refl
stays (mark ∷ later) p l q id there =
    stays-mark (later ++ p) mark (legal-below_mark l) (fine_mark l) q id (made_since q id later p there) ∙ stays later p (legal-below_mark l) q id there

-- ---- a retry that came back

-- as it came back at a place
record CameBack (p : History) (retry : Retry) : Type 0 where
  under : History
  t : ℕ
  same : p ≡ queued (put retry.queue (brought_by t retry.event)) ∷ under
  back : Returns under retry t

came_back : {p : History} {retry : Retry} {moment : ℤ} → Fine p (queued (returned retry moment)) → CameBack p retry
came_back (returns under retry t moment same back due) = record { under = under; t = t; same = same; back = back }

abbrev put_event : Event → History → Event
put_event e (queued (put q event) ∷ h) = event
put_event e _ = e

abbrev below_it : History → History
below_it [] = []
below_it (mark ∷ h) = h

-- its event: of a worker's transaction, which is running, and for its subscription
record Came (below : History) (retry : Retry) (event : Event) : Type 0 where
  works : contains event.ev_txid (workers below) ≡ true
  brief : contains event.ev_txid (brief below) ≡ true
  owned : event.ev_owner ≡ Some retry.sub

came : (below : History) (retry : Retry) (event : Event) → Legal below → CameBack (queued (put retry.queue event) ∷ below) retry → Came below retry event
came below retry event l c =
    let same : event ≡ brought_by c.t retry.event = ap (put_event event) c.same in
    let under : below ≡ c.under = ap below_it c.same in
    let waits : Contains (retries below) retry = subst (λ h. Contains (retries h) retry) (sym under) c.back.waits in
    record {
      works = (λ i. contains (same i).ev_txid (workers (under i))) ∙ c.back.works;
      brief = (λ i. contains (same i).ev_txid (brief (under i))) ∙ c.back.brief;
      owned = ap Event.ev_owner same ∙ (All-contains (IsRetry below) (retries below) retry (copies below l) waits).owned;
    }

pub retries_are_listed : RetriesAreListed
retries_are_listed later below retry event moment is b within across = λ i. to i && not (from i) && is_for b.sub (here.owned i)
  where
    place : History
    place = queued (returned retry moment) ∷ queued (put retry.queue event) ∷ below

    legal : Legal (later ++ place)
    legal = legal_place (later ++ place) is

    at_place : Legal place
    at_place = legal-below later place legal

    at_below : Legal below
    at_below = legal-below_mark (legal-below_mark at_place)

    here : Came below retry event
    here = came below retry event at_below (came_back (fine_mark at_place))

    unended : has_ended below event.ev_txid ≡ false
    unended = runs-unended below (sound below at_below) event.ev_txid ((sound below at_below).works event.ev_txid here.works)

    to : has_committed (at_tick b.queue b.cur (later ++ place)) event.ev_txid ≡ true
    to =
        at_later event.ev_txid b.queue b.cur later place (calm_place (later ++ place) is) (or_left (event.ev_txid == event.ev_txid) (has_put event.ev_txid below) (same-session event.ev_txid)) here.brief (sym (is_made-tick place b.queue b.cur) ∙ across.unclosed)
        (sym (is_made-tick (later ++ place) b.queue b.cur) ∙ across.closed)

    from : has_committed (at_tick b.queue b.prev (later ++ place)) event.ev_txid ≡ false
    from =
        ap (λ g. has_committed g event.ev_txid) (stays later place legal b.queue b.prev (sym (is_made-tick place b.queue b.prev) ∙ across.opened))
        ∙ unended-uncommitted place at_place event.ev_txid unended b.queue b.prev
