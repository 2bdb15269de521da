-- Which ticks of a queue are kept, and that each consumer stands at one of them.
use Rattle.std.proofs.Common.{◌≡◌, ℕ, ◌+◌, ◌<◌, ◌≤◌, List, [], ◌∷◌, ◌++◌, Bool, true, false, ◌||◌, ◌&&◌, ◌==◌, filter, Option, Some, None, is_some, option_map, unwrap_or, bytes_eq, refl, sym, ◌∙◌, ap, subst, arith, All, if◌then◌else◌}
use Rattle.std.specs.Option.{option_or, option_and_then}
use Rattle.std.specs.List.{list_any}
use Rattle.std.proofs.lemmas.Bool.Decides.{nat_tests}
use Rattle.std.proofs.lemmas.List.Elements.{All-nil, All-cons, All-head, All-tail, All-weaker, All-filter}
use Rattle.sky_names.proofs.PlaceLemmas.{same_name}
use Rattle.pgq_tables.specs.Tables as tables_of
use Rattle.pgq_tables.specs.Tables.{Tables, no_tables, new_tables, with_stored, with_pending, without_pending, with_second_step}
use Rattle.sky_model.specs.History.{began, ended, queued, made, switched, History}
use Rattle.sky_model.specs.Transactions.{snapshot}
use Rattle.sky_model.specs.Queues.{new_tick, queues_made, queues, is_pending, event_tables, Tick, ticks, tick, newest_tick, id_of, is_above, ticks_above, second_step_of, kept_ticks}
use Rattle.sky_model.specs.Consumers.{subscription_id, position, active, Subscription}
use Rattle.sky_model.specs.Retries.{brought_by}
use Rattle.sky_model.specs.State.{Queue, queue_of}
use Rattle.sky_model.specs.StepConsumer.{floor}
use Rattle.sky_model.specs.declared.reply.HeldBack.{HeldBack}
use Rattle.sky_model.specs.declared.reply.HeldBack.TheVariants.{Consumer}
use Rattle.sky_model.specs.StepRotation.{held_by_tick_of, held_by_consumer, held_by_consumers, held_by_newest, held_by_second_step}
use Rattle.sky_histories.proofs.Legal.{IsQueue, MaySwitch, MayEnd, makes, puts, puts_back, ticks_next, registers, moves, unregisters, closes, begins_switch, makes_switch, ends_switch, drops, Legal, start, next}
use Rattle.sky_histories.proofs.QueueNumbers.{queue-below, others-among, others-apart}
use Rattle.sky_histories.proofs.StandingQueues.{beyond, stands-or-new, registered-stands}
use Rattle.sky_histories.proofs.Climbing.{xmin-began, xmin-ended, xmin-least, xmin-most, xmin_of, Climbs, last_id, last_xmin, last_id-newest, last_xmin-newest, found_above, climbs, first_above, first-after, first-most, above-first, first-least, Climbing, climbing}
use Rattle.sky_histories.proofs.Ticks.{newest_tick-push}
use Rattle.sky_histories.proofs.TickOrder.{is_made-tick}
use Rattle.sky_histories.proofs.ActiveBatches.{same_consumer, IsActive, active_batches}
use Rattle.sky_histories.proofs.Members.{among-consumers}
use Rattle.sky_model.proofs.Cases.{by_same, by_test}

-- ---- ticks above a transaction

pub newest-cons : (u t : Tick) (ts : List Tick) → newest_tick ts ≡ Some t → newest_tick (u ∷ ts) ≡ Some t
newest-cons u t [] is = absurd (cc)
newest-cons u t (v ∷ ts) is = is

newest-filter : (p : Tick → Bool) (ts : List Tick) (t : Tick) → newest_tick ts ≡ Some t → p t ≡ true → newest_tick (filter p ts) ≡ Some t
newest-filter p [] t is above = absurd (cc)
newest-filter p (u ∷ []) t is above =
    let same : u ≡ t = ap (λ o. unwrap_or o u) is in
    subst (λ b. newest_tick (if b then u ∷ [] else []) ≡ Some t) (sym (ap p same ∙ above)) is
newest-filter p (u ∷ v ∷ ts) t is above =
    let rest : newest_tick (filter p (v ∷ ts)) ≡ Some t = newest-filter p (v ∷ ts) t is above in
    by_test (λ b. newest_tick (if b then u ∷ filter p (v ∷ ts) else filter p (v ∷ ts)) ≡ Some t) (p u) (λ _. newest-cons u t (filter p (v ∷ ts)) rest) (λ _. rest)

filter-push : (p : Tick → Bool) (ts : List Tick) (t : Tick) → p t ≡ true → filter p (ts ++ t ∷ []) ≡ filter p ts ++ t ∷ []
filter-push p [] t is = ap (λ b. if b then t ∷ [] else []) is
filter-push p (u ∷ ts) t is =
    by_test (λ b. (if b then u ∷ filter p (ts ++ t ∷ []) else filter p (ts ++ t ∷ [])) ≡ (if b then u ∷ filter p ts else filter p ts) ++ t ∷ []) (p u)
    (λ _. ap (λ xs. u ∷ xs) (filter-push p ts t is)) (λ _. filter-push p ts t is)

-- all ticks are above 0
filter-all : (last low : ℕ) (ts : List Tick) → Climbs last low ts → 0 < low → filter (is_above 0) ts ≡ ts
filter-all last low [] c above = refl
filter-all last low (t ∷ ts) c above =
    let up : is_above 0 t ≡ true = grind (arith, nat_tests, c.1, above) in
    subst (λ b. (if b then t ∷ filter (is_above 0) ts else filter (is_above 0) ts) ≡ t ∷ ts) (sym up) (ap (λ xs. t ∷ xs) (filter-all t.id t.snapshot.xmin ts c.2 (omega (arith, c.1, above))))

-- those of the ticks above a transaction that are above a later one
filter-both : (a b : ℕ) (ts : List Tick) → a ≤ b → filter (is_above b) (filter (is_above a) ts) ≡ filter (is_above b) ts
filter-both a b [] le = refl
filter-both a b (t ∷ ts) le = grind (arith, nat_tests, filter-both a b ts le, le)

first-below : (a b : ℕ) (ts : List Tick) → a ≤ b → first_above a (filter (is_above b) ts) ≡ first_above b ts
first-below a b [] le = refl
first-below a b (t ∷ ts) le = grind (arith, nat_tests, first-below a b ts le, le)

first-over : (a b : ℕ) (ts : List Tick) → a ≤ b → first_above b (filter (is_above a) ts) ≡ first_above b ts
first-over a b [] le = refl
first-over a b (t ∷ ts) le = grind (arith, nat_tests, first-over a b ts le, le)

-- a tick that is found is found among those above a transaction, if it is above
pub tick-above : (b n : ℕ) (ts : List Tick) (t : Tick) → tick n ts ≡ Some t → b < t.snapshot.xmin → tick n (filter (is_above b) ts) ≡ Some t
tick-above b n [] t is above = absurd (cc)
tick-above b n (u ∷ ts) t is above =
    by_test (λ x. (if x then Some u else tick n ts) ≡ Some t → tick n (filter (is_above b) (u ∷ ts)) ≡ Some t) (u.id == n)
    (λ same one.
    let this : u ≡ t = ap (λ o. unwrap_or o u) one in
    let up : is_above b u ≡ true = ap (is_above b) this ∙ grind (arith, nat_tests, above) in
    subst (λ x. tick n (if x then u ∷ filter (is_above b) ts else filter (is_above b) ts) ≡ Some t) (sym up) (ap (λ x. if x then Some u else tick n (filter (is_above b) ts)) same ∙ one))
    (λ other one.
    let rest : tick n (filter (is_above b) ts) ≡ Some t = tick-above b n ts t one above in
    by_test (λ x. tick n (if x then u ∷ filter (is_above b) ts else filter (is_above b) ts) ≡ Some t) (is_above b u)
    (λ _. ap (λ x. if x then Some u else tick n (filter (is_above b) ts)) other ∙ rest) (λ _. rest)) is

-- and one that is found among them is found
pub tick-filtered : (last low b n : ℕ) (ts : List Tick) (t : Tick) → Climbs last low ts → tick n (filter (is_above b) ts) ≡ Some t → tick n ts ≡ Some t
tick-filtered last low b n [] t c is = absurd (cc)
tick-filtered last low b n (u ∷ ts) t c is =
    by_test (λ x. tick n (if x then u ∷ filter (is_above b) ts else filter (is_above b) ts) ≡ Some t → tick n (u ∷ ts) ≡ Some t) (is_above b u)
    (λ _ here. by_test (λ y. (if y then Some u else tick n (filter (is_above b) ts)) ≡ Some t → (if y then Some u else tick n ts) ≡ Some t) (u.id == n)
    (λ _ one. one) (λ _ one. tick-filtered u.id u.snapshot.xmin b n ts t c.2 one) here)
    (λ _ there.
    let rest : tick n ts ≡ Some t = tick-filtered u.id u.snapshot.xmin b n ts t c.2 there in
    let later = found_above u.id u.snapshot.xmin ts n c.2 (ap is_some rest) in
    let other : (u.id == n) ≡ false = grind (arith, nat_tests, later.0) in
    ap (λ y. if y then Some u else tick n ts) other ∙ rest) is

-- a tick with the last id is the last one, so a switch drops those that aren't above, and no others
last-above : (last low b : ℕ) (ts : List Tick) → Climbs last low ts → b < last_xmin low ts → All (λ t. t.id ≡ last_id last ts → b < t.snapshot.xmin) ts
last-above last low b [] c less = All-nil (λ t. t.id ≡ last → b < t.snapshot.xmin)
last-above last low b (t ∷ ts) c less =
    All-cons (λ u. u.id ≡ last_id t.id ts → b < u.snapshot.xmin) t ts (of ts c.2 less) (last-above t.id t.snapshot.xmin b ts c.2 less)
  where
    least : (last low : ℕ) (ts : List Tick) → Climbs last low ts → last ≤ last_id last ts
    least last low [] c = omega arith
    least last low (t ∷ ts) c = omega (arith, c.0, least t.id t.snapshot.xmin ts c.2)

    of : (ts : List Tick) → Climbs t.id t.snapshot.xmin ts → b < last_xmin t.snapshot.xmin ts → t.id ≡ last_id t.id ts → b < t.snapshot.xmin
    of [] c less same = less
    of (u ∷ ts) c less same = absurd (omega (arith, c.0, least u.id u.snapshot.xmin ts c.2, same))

filter-alike : (p r : Tick → Bool) (ts : List Tick) → All (λ t. p t ≡ r t) ts → filter p ts ≡ filter r ts
filter-alike p r [] all = refl
filter-alike p r (t ∷ ts) all =
    λ i. if All-head (λ u. p u ≡ r u) t ts all i then t ∷ filter-alike p r ts (All-tail (λ u. p u ≡ r u) t ts all) i else filter-alike p r ts (All-tail (λ u. p u ≡ r u) t ts all) i

-- ---- where the kept ticks begin

-- the second step before the last switch, 0 before any switch: the ticks above it are kept
abbrev pub cut : ℕ → History → ℕ
cut q [] = 0
cut q (queued (made name t time) ∷ h) = if queues_made h == q then 0 else cut q h
cut q (queued (switched p time) ∷ h) = if p == q then second_step_of (event_tables q h) else cut q h
cut q (_ ∷ h) = cut q h

-- the transaction above which the ticks stay for sure: while a switch is pending, it is the last second step
abbrev pub bound : (cut : ℕ) → (second pending : Option ℕ) → ℕ
bound cut second pending = if is_some pending then unwrap_or second 0 else cut

pub record Cuts (xmin cut : ℕ) (second pending : Option ℕ) (all left : List Tick) : Type 0 where
  pub below : cut < xmin
  pub kept : left ≡ filter (is_above cut) all
  pub fresh : cut < xmin_of (newest_tick all)
  pub after : (t : ℕ) → second ≡ Some t → cut ≤ t
  pub awaits : is_some pending ≡ true → (is_some second ≡ true) × (unwrap_or second 0 < xmin_of (newest_tick all))

abbrev pub IsCut : History → ℕ → Type 0
IsCut h q = Cuts (snapshot h).xmin (cut q h) (event_tables q h).second_step (event_tables q h).pending (ticks q h) (kept_ticks q h)

higher : {cut : ℕ} {second pending : Option ℕ} {all left : List Tick} (x y : ℕ) → x ≤ y → Cuts x cut second pending all left → Cuts y cut second pending all left
higher x y le c = record { below = omega (arith, c.below, le); kept = c.kept; fresh = c.fresh; after = c.after; awaits = c.awaits }

-- a tick that is above a transaction is there
pub above-is : (b : ℕ) (o : Option Tick) → b < xmin_of o → is_some o ≡ true
above-is b None less = absurd (omega (arith, less))
above-is b (Some t) less = refl

pub some-tick : (o : Option Tick) → is_some o ≡ true → (P : Type 0) → ((t : Tick) → o ≡ Some t → P) → P
some-tick None is P of = absurd (cc)
some-tick (Some t) is P of = of t refl

-- the newest kept tick is the newest one
newest-same : {xmin cut : ℕ} {second pending : Option ℕ} (all left : List Tick) → Cuts xmin cut second pending all left → newest_tick left ≡ newest_tick all
newest-same {cut = cut} all left c =
    some-tick (newest_tick all) (above-is cut (newest_tick all) c.fresh) (newest_tick left ≡ newest_tick all)
    (λ t is.
    let up : cut < t.snapshot.xmin = subst (λ o. cut < xmin_of o) is c.fresh in
    ap newest_tick c.kept ∙ newest-filter (is_above cut) all t is (grind (arith, nat_tests, up)) ∙ sym is)

pub some-is : (o : Option ℕ) → is_some o ≡ true → o ≡ Some (unwrap_or o 0)
some-is None is = absurd (cc)
some-is (Some n) is = refl

or-none : {A : Type 0} (x y : Option A) → option_or x y ≡ None → (x ≡ None) × (y ≡ None)
or-none None y none = (refl, none)
or-none (Some a) y none = absurd (cc)

-- a tick that doesn't hold a switch back is above the transaction
held-none : (why : Tick → HeldBack) (t : ℕ) (o : Option Tick) → option_and_then (held_by_tick_of why t) o ≡ None → is_some o ≡ true → t < xmin_of o
held-none why t None free is = absurd (cc)
held-none why t (Some u) free is =
    by_test (λ b. (if b then None else Some (why u)) ≡ None → t < u.snapshot.xmin) (is_above t u) (λ up _. grind (arith, nat_tests, up)) (λ _ held. absurd (cc)) free

-- if nothing holds a switch back, the newest tick is above the second step
free-newest : (q : Queue) (second : Option ℕ) → held_by_second_step q second ≡ None → is_some (newest_tick q.tick_list) ≡ true
    → (is_some second ≡ true) × (unwrap_or second 0 < xmin_of (newest_tick q.tick_list))
free-newest q None free is = absurd (cc)
free-newest q (Some t) free is = (refl, held-none _ t (newest_tick q.tick_list) (or-none (held_by_consumers t q q.members) (held_by_newest t q) free).1 is)

free-member : (t : ℕ) (q : Queue) (consumer : List ℕ) (names : List (List ℕ)) → held_by_consumers t q names ≡ None → list_any (λ n. bytes_eq consumer n) names ≡ true
    → held_by_consumer t q consumer ≡ None
free-member t q consumer [] free is = absurd (cc)
free-member t q consumer (name ∷ names) free is =
    let both = or-none (held_by_consumer t q name) (held_by_consumers t q names) free in
    by_test (λ b. (b || list_any (λ n. bytes_eq consumer n) names) ≡ true → held_by_consumer t q consumer ≡ None) (bytes_eq consumer name)
    (λ same _. ap (held_by_consumer t q) (same_name consumer name same) ∙ both.0) (λ _ rest. free-member t q consumer names both.1 rest) is

-- and so is the position of each consumer
free-position : (q : Queue) (second : Option ℕ) (consumer : List ℕ) (sub : Subscription) → held_by_second_step q second ≡ None
    → list_any (λ n. bytes_eq consumer n) q.members ≡ true → q.sub consumer ≡ Some sub → is_some (tick sub.position q.tick_list) ≡ true
    → unwrap_or second 0 < xmin_of (tick sub.position q.tick_list)
free-position q None consumer sub free member has is = absurd (cc)
free-position q (Some t) consumer sub free member has is =
    let one = free-member t q consumer q.members (or-none (held_by_consumers t q q.members) (held_by_newest t q) free).0 member in
    held-none (λ at. Consumer consumer at.id at.snapshot.xmin) t (tick sub.position q.tick_list)
    (ap (λ o. option_and_then (held_by_tick_of (λ at. Consumer consumer at.id at.snapshot.xmin) t) (option_and_then (λ (s : Subscription). tick s.position q.tick_list) o)) (sym has) ∙ one) is

-- a switch drops the ticks that aren't above the second step, and no others
pub switch-drops : {xmin cut : ℕ} {pending : Option ℕ} (second : Option ℕ) (all left : List Tick) → Climbs 0 0 all → Cuts xmin cut second pending all left → is_some pending ≡ true
    → ticks_above (unwrap_or second 0) left ≡ filter (is_above (unwrap_or second 0)) left
switch-drops {cut = cut} second all left run c pending =
    let last : id_of (newest_tick left) ≡ last_id 0 all = ap id_of (newest-same all left c) ∙ sym (last_id-newest all) in
    let up : unwrap_or second 0 < last_xmin 0 all = subst (λ n. unwrap_or second 0 < n) (sym (last_xmin-newest all)) (c.awaits pending).1 in
    let above : All (λ t. t.id ≡ last_id 0 all → unwrap_or second 0 < t.snapshot.xmin) left =
    subst (All (λ t. t.id ≡ last_id 0 all → unwrap_or second 0 < t.snapshot.xmin)) (sym c.kept)
    (All-filter (is_above cut) (λ t. t.id ≡ last_id 0 all → unwrap_or second 0 < t.snapshot.xmin) all (last-above 0 0 (unwrap_or second 0) all run up)) in
    filter-alike (λ t. is_above (unwrap_or second 0) t || t.id == id_of (newest_tick left)) (is_above (unwrap_or second 0)) left
    (All-weaker (λ t. t.id ≡ last_id 0 all → unwrap_or second 0 < t.snapshot.xmin)
    (λ t. (is_above (unwrap_or second 0) t || t.id == id_of (newest_tick left)) ≡ is_above (unwrap_or second 0) t) (λ t is. grind (arith, nat_tests, last, is)) left above)

pub cuts : (h : History) → Legal h → (q : ℕ) → IsQueue h q → IsCut h q
cuts [] start q is = absurd (cc)
cuts (began whose t ∷ h) (next l fine) q is = higher (snapshot h).xmin (snapshot (began whose t ∷ h)).xmin (xmin-began h l whose t fine) (cuts h l q is)
cuts (ended whose t true ∷ h) (next l fine) q is = higher (snapshot h).xmin (snapshot (ended whose t true ∷ h)).xmin (xmin-ended h l whose t true) (cuts h l q is)
cuts (ended whose t false ∷ h) (next l fine) q is =
    let c = higher (snapshot h).xmin (snapshot (ended whose t false ∷ h)).xmin (xmin-ended h l whose t false) (cuts h l q is) in
    let ts : Tables = event_tables q h in
    by_test (λ b. Cuts (snapshot (ended whose t false ∷ h)).xmin (cut q h) (if b then without_pending ts else ts).second_step (if b then without_pending ts else ts).pending (ticks q h) (kept_ticks q h))
    (is_pending t ts) (λ _. record { below = c.below; kept = c.kept; fresh = c.fresh; after = c.after; awaits = λ e. absurd (cc) }) (λ _. c)
cuts _ (next {h = h} l (makes name t time new)) q is =
    stands-or-new (IsCut (queued (made name t time) ∷ h) q) h name t time q is
    (λ before.
    let other : (queues_made h == q) ≡ false = grind (arith, nat_tests, queue-below h q before) in
    subst (λ b. Cuts (snapshot h).xmin (if b then 0 else cut q h) (if b then new_tables t time else event_tables q h).second_step (if b then new_tables t time else event_tables q h).pending
    (if b then ticks q h ++ new_tick time h ∷ [] else ticks q h) (if b then kept_ticks q h ++ new_tick time h ∷ [] else kept_ticks q h))
    (sym other) (cuts h l q before))
    (λ last.
    let same : (queues_made h == q) ≡ true = grind (arith, nat_tests, last) in
    let b = beyond h l q (omega (arith, last)) in
    let above : is_above 0 (new_tick time h) ≡ true = grind (arith, nat_tests, xmin-least h l) in
    subst (λ b. Cuts (snapshot h).xmin (if b then 0 else cut q h) (if b then new_tables t time else event_tables q h).second_step (if b then new_tables t time else event_tables q h).pending
    (if b then ticks q h ++ new_tick time h ∷ [] else ticks q h) (if b then kept_ticks q h ++ new_tick time h ∷ [] else kept_ticks q h))
    (sym same)
    (record {
      below = omega (arith, xmin-least h l);
      kept = ap (λ ts. ts ++ new_tick time h ∷ []) b.kept ∙ sym (filter-push (is_above 0) [] (new_tick time h) above) ∙ ap (λ ts. filter (is_above 0) (ts ++ new_tick time h ∷ [])) (sym b.ticks);
      fresh = subst (λ o. 0 < xmin_of o) (sym (newest_tick-push (ticks q h) (new_tick time h))) (omega (arith, xmin-least h l));
      after = λ u e. omega arith;
      awaits = λ e. absurd (cc);
    }))
cuts _ (next {h = h} l (puts who p event i at mine newest)) q is =
    let c : IsCut h q = cuts h l q is in
    by_test (λ b. Cuts (snapshot h).xmin (cut q h) (if b then with_stored event (event_tables q h) else event_tables q h).second_step (if b then with_stored event (event_tables q h) else event_tables q h).pending (ticks q h) (kept_ticks q h))
    (p == q) (λ _. c) (λ _. c)
cuts _ (next {h = h} l (puts_back retry t back)) q is =
    let c : IsCut h q = cuts h l q is in
    let event = brought_by t retry.event in
    by_test (λ b. Cuts (snapshot h).xmin (cut q h) (if b then with_stored event (event_tables q h) else event_tables q h).second_step (if b then with_stored event (event_tables q h) else event_tables q h).pending (ticks q h) (kept_ticks q h))
    (retry.queue == q) (λ _. c) (λ _. c)
cuts _ (next {h = h} l (ticks_next p id time seq i e at)) q is =
    let c : IsCut h q = cuts h l q is in
    let new : Tick = record { id = id; time = time; snapshot = snapshot h; seq = seq } in
    let up : is_above (cut q h) new ≡ true = grind (arith, nat_tests, c.below) in
    let most : xmin_of (newest_tick (ticks q h)) ≤ (snapshot h).xmin = subst (λ n. n ≤ (snapshot h).xmin) (last_xmin-newest (ticks q h)) (climbing h l q).most in
    by_test (λ b. Cuts (snapshot h).xmin (cut q h) (event_tables q h).second_step (event_tables q h).pending (if b then ticks q h ++ new ∷ [] else ticks q h) (if b then kept_ticks q h ++ new ∷ [] else kept_ticks q h))
    (p == q)
    (λ _. record {
      below = c.below;
      kept = ap (λ ts. ts ++ new ∷ []) c.kept ∙ sym (filter-push (is_above (cut q h)) (ticks q h) new up);
      fresh = subst (λ o. cut q h < xmin_of o) (sym (newest_tick-push (ticks q h) new)) c.below;
      after = c.after;
      awaits = λ e. let a = c.awaits e in (a.0, subst (λ o. unwrap_or (event_tables q h).second_step 0 < xmin_of o) (sym (newest_tick-push (ticks q h) new)) (omega (arith, a.1, most)));
    }) (λ _. c)
cuts _ (next {h = h} l (begins_switch p t may)) q is =
    let c : IsCut h q = cuts h l q is in
    by_same (λ b. Cuts (snapshot h).xmin (cut q h) (if b then with_pending t (event_tables q h) else event_tables q h).second_step (if b then with_pending t (event_tables q h) else event_tables q h).pending (ticks q h) (kept_ticks q h)) p q
    (λ same.
    let mine : MaySwitch h q t = subst (λ n. MaySwitch h n t) same may in
    let newest = newest-same (ticks q h) (kept_ticks q h) c in
    let free = free-newest (queue_of h q) (event_tables q h).second_step mine.free (ap is_some newest ∙ above-is (cut q h) (newest_tick (ticks q h)) c.fresh) in
    record { below = c.below; kept = c.kept; fresh = c.fresh; after = c.after; awaits = λ _. (free.0, subst (λ o. unwrap_or (event_tables q h).second_step 0 < xmin_of o) newest free.1) })
    (λ _. c)
cuts _ (next {h = h} l (makes_switch p t time i has)) q is =
    let c : IsCut h q = cuts h l q is in
    by_same (λ b. Cuts (snapshot h).xmin (if b then second_step_of (event_tables q h) else cut q h) (if b then tables_of.with_switch time (event_tables q h) else event_tables q h).second_step
    (if b then tables_of.with_switch time (event_tables q h) else event_tables q h).pending (ticks q h) (if b then ticks_above (second_step_of (event_tables q h)) (kept_ticks q h) else kept_ticks q h)) p q
    (λ same.
    let pending : is_some (event_tables q h).pending ≡ true = ap is_some (subst (λ n. (event_tables n h).pending ≡ Some t) same has) in
    let a = c.awaits pending in
    let run : Climbing h q = climbing h l q in
    let newest : last_xmin 0 (ticks q h) ≡ xmin_of (newest_tick (ticks q h)) = last_xmin-newest (ticks q h) in
    let le : cut q h ≤ second_step_of (event_tables q h) = c.after (second_step_of (event_tables q h)) (some-is (event_tables q h).second_step a.0) in
    record {
      below = omega (arith, a.1, run.most, newest);
      kept = switch-drops (event_tables q h).second_step (ticks q h) (kept_ticks q h) run.run c pending ∙ ap (filter (is_above (second_step_of (event_tables q h)))) c.kept
          ∙ filter-both (cut q h) (second_step_of (event_tables q h)) (ticks q h) le;
      fresh = a.1;
      after = λ u e. absurd (cc);
      awaits = λ e. absurd (cc);
    }) (λ _. c)
cuts _ (next {h = h} l (ends_switch p t may)) q is =
    let c : IsCut h q = cuts h l q is in
    by_same (λ b. Cuts (snapshot h).xmin (cut q h) (if b then with_second_step t (event_tables q h) else event_tables q h).second_step (if b then with_second_step t (event_tables q h) else event_tables q h).pending (ticks q h) (kept_ticks q h)) p q
    (λ same.
    let mine : MayEnd h q t = subst (λ n. MayEnd h n t) same may in
    record {
      below = c.below;
      kept = c.kept;
      fresh = c.fresh;
      after = λ u e. let one : t ≡ u = ap (λ o. unwrap_or o u) e in omega (arith, one, c.below, xmin-most h l, mine.newest);
      awaits = λ e. absurd (cc (sym (c.awaits e).0 ∙ ap is_some mine.missing));
    }) (λ _. c)
cuts _ (next {h = h} l (drops p none untold idle aside)) q is =
    subst (λ b. Cuts (snapshot h).xmin (cut q h) (if b then no_tables else event_tables q h).second_step (if b then no_tables else event_tables q h).pending (ticks q h) (if b then [] else kept_ticks q h))
    (sym (others-apart p (queues h) q is)) (cuts h l q (others-among p (queues h) q is))
cuts _ (next {h = h} l _) q is = cuts h l q is

-- ---- the kept ticks

pub newest-kept : (h : History) → Legal h → (q : ℕ) → IsQueue h q → newest_tick (kept_ticks q h) ≡ newest_tick (ticks q h)
newest-kept h l q is = newest-same (ticks q h) (kept_ticks q h) (cuts h l q is)

pub kept-made : (h : History) → Legal h → (q : ℕ) → IsQueue h q → (id : ℕ) (t : Tick) → tick id (kept_ticks q h) ≡ Some t → tick id (ticks q h) ≡ Some t
kept-made h l q is id t there = tick-filtered 0 0 (cut q h) id (ticks q h) t (climbing h l q).run (ap (tick id) (sym (cuts h l q is).kept) ∙ there)

-- the transaction above which the ticks of a queue stay
abbrev pub base : ℕ → History → ℕ
base q h = bound (cut q h) (event_tables q h).second_step (event_tables q h).pending

-- the least tick at which a consumer may register is the first one above that
pub floor-first : (h : History) → Legal h → (q : ℕ) → IsQueue h q → floor (queue_of h q) ≡ id_of (first_above (base q h) (ticks q h))
floor-first h l q is =
    let c : IsCut h q = cuts h l q is in
    by_test (λ b. id_of (first_above (if b then second_step_of (event_tables q h) else 0) (kept_ticks q h)) ≡ id_of (first_above (if b then unwrap_or (event_tables q h).second_step 0 else cut q h) (ticks q h)))
    (is_some (event_tables q h).pending)
    (λ pending.
    let le : cut q h ≤ second_step_of (event_tables q h) = c.after (second_step_of (event_tables q h)) (some-is (event_tables q h).second_step (c.awaits pending).0) in
    ap (λ ts. id_of (first_above (second_step_of (event_tables q h)) ts)) c.kept ∙ ap id_of (first-over (cut q h) (second_step_of (event_tables q h)) (ticks q h) le))
    (λ _. ap (λ ts. id_of (first_above 0 ts)) c.kept ∙ ap id_of (first-below 0 (cut q h) (ticks q h) (omega arith)))

pub floor-newest : (h : History) → Legal h → (q : ℕ) → IsQueue h q → floor (queue_of h q) ≤ id_of (newest_tick (ticks q h))
floor-newest h l q is =
    let most : id_of (first_above (base q h) (ticks q h)) ≤ last_id 0 (ticks q h) = first-most 0 0 (base q h) (ticks q h) (climbing h l q).run in
    omega (arith, most, floor-first h l q is, last_id-newest (ticks q h))

-- what is dropped isn't above that
pub cut-base : (h : History) → Legal h → (q : ℕ) → IsQueue h q → cut q h ≤ base q h
cut-base h l q is =
    let c : IsCut h q = cuts h l q is in
    by_test (λ b. cut q h ≤ (if b then unwrap_or (event_tables q h).second_step 0 else cut q h)) (is_some (event_tables q h).pending)
    (λ pending. c.after (second_step_of (event_tables q h)) (some-is (event_tables q h).second_step (c.awaits pending).0)) (λ _. omega arith)

-- ---- positions

tick-more : (b n : ℕ) (ts : List Tick) (t : Tick) → b < xmin_of (tick n ts) → b < xmin_of (tick n (ts ++ t ∷ []))
tick-more b n [] t less = absurd (omega (arith, less))
tick-more b n (u ∷ ts) t less = grind (arith, tick-more b n ts t, less)

-- the newest tick is above what the ticks stay above
base-newest : (h : History) → Legal h → (q : ℕ) → IsQueue h q → base q h < last_xmin 0 (ticks q h)
base-newest h l q is =
    let c : IsCut h q = cuts h l q is in
    subst (λ n. base q h < n) (sym (last_xmin-newest (ticks q h)))
    (by_test (λ b. (if b then unwrap_or (event_tables q h).second_step 0 else cut q h) < xmin_of (newest_tick (ticks q h))) (is_some (event_tables q h).pending)
    (λ pending. (c.awaits pending).1) (λ _. c.fresh))

-- a tick at which a consumer may register is above that
pub sits-at : (h : History) → Legal h → (q : ℕ) → IsQueue h q → (n : ℕ) → n ≤ id_of (newest_tick (ticks q h)) → floor (queue_of h q) ≤ n → base q h < xmin_of (tick n (ticks q h))
sits-at h l q is n most from =
    let up = base-newest h l q is in
    let run : Climbs 0 0 (ticks q h) = (climbing h l q).run in
    let first : 0 < id_of (first_above (base q h) (ticks q h)) = first-after 0 0 (base q h) (ticks q h) run (omega arith) up in
    above-first 0 0 (base q h) (ticks q h) n run (omega arith) up (omega (arith, first, from, floor-first h l q is)) (omega (arith, most, last_id-newest (ticks q h)))
    (omega (arith, from, floor-first h l q is))

-- a consumer's position is a tick above what the ticks stay above
abbrev pub Sits : History → ℕ → List ℕ → Type 0
Sits h q consumer = base q h < xmin_of (tick (position q consumer h) (ticks q h))

-- and it is kept
kept-position : (h : History) → Legal h → (q n : ℕ) → IsQueue h q → base q h < xmin_of (tick n (ticks q h)) → tick n (kept_ticks q h) ≡ tick n (ticks q h)
kept-position h l q n is less =
    some-tick (tick n (ticks q h)) (above-is (base q h) (tick n (ticks q h)) less) (tick n (kept_ticks q h) ≡ tick n (ticks q h))
    (λ t there. ap (tick n) (cuts h l q is).kept
    ∙ tick-above (cut q h) n (ticks q h) t there (let up : base q h < t.snapshot.xmin = subst (λ o. base q h < xmin_of o) there less in omega (arith, cut-base h l q is, up)) ∙ sym there)

pub sits : (h : History) → Legal h → (q : ℕ) (consumer : List ℕ) (sub : ℕ) → subscription_id q consumer h ≡ Some sub → Sits h q consumer
sits [] start q consumer sub has = absurd (cc)
sits (ended whose t false ∷ h) (next l fine) q consumer sub has =
    let is = registered-stands h l q consumer sub has in
    let ih : Sits h q consumer = sits h l q consumer sub has in
    let ts : Tables = event_tables q h in
    by_test (λ b. bound (cut q h) (if b then without_pending ts else ts).second_step (if b then without_pending ts else ts).pending < xmin_of (tick (position q consumer h) (ticks q h)))
    (is_pending t ts) (λ _. omega (arith, cut-base h l q is, ih)) (λ _. ih)
sits _ (next {h = h} l (makes name t time new)) q consumer sub has =
    let other : (queues_made h == q) ≡ false = grind (arith, nat_tests, queue-below h q (registered-stands h l q consumer sub has)) in
    subst (λ b. bound (if b then 0 else cut q h) (if b then new_tables t time else event_tables q h).second_step (if b then new_tables t time else event_tables q h).pending
    < xmin_of (tick (position q consumer h) (if b then ticks q h ++ new_tick time h ∷ [] else ticks q h)))
    (sym other) (sits h l q consumer sub has)
sits _ (next {h = h} l (puts who p event i at mine newest)) q consumer sub has =
    let ih : Sits h q consumer = sits h l q consumer sub has in
    by_test (λ b. bound (cut q h) (if b then with_stored event (event_tables q h) else event_tables q h).second_step (if b then with_stored event (event_tables q h) else event_tables q h).pending < xmin_of (tick (position q consumer h) (ticks q h)))
    (p == q) (λ _. ih) (λ _. ih)
sits _ (next {h = h} l (puts_back retry t back)) q consumer sub has =
    let ih : Sits h q consumer = sits h l q consumer sub has in
    let event = brought_by t retry.event in
    by_test (λ b. bound (cut q h) (if b then with_stored event (event_tables q h) else event_tables q h).second_step (if b then with_stored event (event_tables q h) else event_tables q h).pending < xmin_of (tick (position q consumer h) (ticks q h)))
    (retry.queue == q) (λ _. ih) (λ _. ih)
sits _ (next {h = h} l (ticks_next p id time seq i e at)) q consumer sub has =
    let ih : Sits h q consumer = sits h l q consumer sub has in
    let new : Tick = record { id = id; time = time; snapshot = snapshot h; seq = seq } in
    by_test (λ b. base q h < xmin_of (tick (position q consumer h) (if b then ticks q h ++ new ∷ [] else ticks q h))) (p == q)
    (λ _. tick-more (base q h) (position q consumer h) (ticks q h) new ih) (λ _. ih)
sits _ (next {h = h} l (registers p name new n i none f most low few)) q consumer sub has =
    by_test (λ b. (if b then Some new else subscription_id q consumer h) ≡ Some sub → base q h < xmin_of (tick (if b then n else position q consumer h) (ticks q h)))
    (p == q && bytes_eq consumer name)
    (λ both _. let same : p ≡ q = grind (arith, nat_tests, both) in subst (λ x. base x h < xmin_of (tick n (ticks x h))) same (sits-at h l p i n most low))
    (λ _ has. sits h l q consumer sub has) has
sits _ (next {h = h} l (moves p name mine n i its least most low)) q consumer sub has =
    by_test (λ b. base q h < xmin_of (tick (if b then n else position q consumer h) (ticks q h))) (p == q && bytes_eq consumer name)
    (λ both. let same : p ≡ q = grind (arith, nat_tests, both) in subst (λ x. base x h < xmin_of (tick n (ticks x h))) same (sits-at h l p i n most low))
    (λ _. sits h l q consumer sub has)
sits _ (next {h = h} l (unregisters p name gone i its)) q consumer sub has =
    by_test (λ b. (if b then None else subscription_id q consumer h) ≡ Some sub → base q h < xmin_of (tick (if b then 0 else position q consumer h) (ticks q h)))
    (p == q && bytes_eq consumer name) (λ _ none. absurd (cc)) (λ _ has. sits h l q consumer sub has) has
sits _ (next {h = h} l (closes b e)) q consumer sub has =
    let ih : Sits h q consumer = sits h l q consumer sub has in
    let a : IsActive h b.id b = active_batches h l b.id b e in
    by_test (λ x. base q h < xmin_of (tick (if x then b.cur else position q consumer h) (ticks q h))) (b.queue == q && bytes_eq consumer b.consumer)
    (λ both.
    let same : b.queue ≡ q = grind (arith, nat_tests, both) in
    let at : position q consumer h ≡ b.prev = same_consumer (λ q c. position q c h) b.queue q b.consumer consumer both ∙ a.begins in
    let there : is_some (tick b.cur (ticks q h)) ≡ true = subst (λ x. is_some (tick b.cur (ticks x h)) ≡ true) same (is_made-tick h b.queue b.cur ∙ a.closing) in
    let later = climbs 0 0 (ticks q h) (position q consumer h) b.cur (climbing h l q).run (omega (arith, at, a.ends)) there in
    omega (arith, ih, later)) (λ _. ih)
sits _ (next {h = h} l (begins_switch p t may)) q consumer sub has =
    let ih : Sits h q consumer = sits h l q consumer sub has in
    by_same (λ b. bound (cut q h) (if b then with_pending t (event_tables q h) else event_tables q h).second_step (if b then with_pending t (event_tables q h) else event_tables q h).pending < xmin_of (tick (position q consumer h) (ticks q h)))
    p q
    (λ same.
    let mine : MaySwitch h q t = subst (λ n. MaySwitch h n t) same may in
    let kept = kept-position h l q (position q consumer h) mine.within ih in
    subst (λ o. second_step_of (event_tables q h) < xmin_of o) kept
    (free-position (queue_of h q) (event_tables q h).second_step consumer (record { id = sub; position = position q consumer h; active = active q consumer h }) mine.free
    (among-consumers h q consumer ∙ ap is_some has)
    (ap (option_map (λ n. record { id = n; position = position q consumer h; active = active q consumer h })) has)
    (ap is_some kept ∙ above-is (base q h) (tick (position q consumer h) (ticks q h)) ih))) (λ _. ih)
sits _ (next {h = h} l (makes_switch p t time i pends)) q consumer sub has =
    let ih : Sits h q consumer = sits h l q consumer sub has in
    by_same (λ b. bound (if b then second_step_of (event_tables q h) else cut q h) (if b then tables_of.with_switch time (event_tables q h) else event_tables q h).second_step
    (if b then tables_of.with_switch time (event_tables q h) else event_tables q h).pending < xmin_of (tick (position q consumer h) (ticks q h))) p q
    (λ same.
    let pending : is_some (event_tables q h).pending ≡ true = ap is_some (subst (λ n. (event_tables n h).pending ≡ Some t) same pends) in
    subst (λ b. (if b then unwrap_or (event_tables q h).second_step 0 else cut q h) < xmin_of (tick (position q consumer h) (ticks q h))) pending ih) (λ _. ih)
sits _ (next {h = h} l (ends_switch p t may)) q consumer sub has =
    let ih : Sits h q consumer = sits h l q consumer sub has in
    by_same (λ b. bound (cut q h) (if b then with_second_step t (event_tables q h) else event_tables q h).second_step (if b then with_second_step t (event_tables q h) else event_tables q h).pending < xmin_of (tick (position q consumer h) (ticks q h)))
    p q
    (λ same.
    let mine : MayEnd h q t = subst (λ n. MayEnd h n t) same may in
    let c : IsCut h q = cuts h l q mine.within in
    by_test (λ b. (if b then unwrap_or (event_tables q h).second_step 0 else cut q h) < xmin_of (tick (position q consumer h) (ticks q h)) → (if b then t else cut q h) < xmin_of (tick (position q consumer h) (ticks q h)))
    (is_some (event_tables q h).pending) (λ pending _. absurd (cc (sym (c.awaits pending).0 ∙ ap is_some mine.missing))) (λ _ up. up) ih) (λ _. ih)
sits _ (next {h = h} l (drops p none untold idle aside)) q consumer sub has =
    by_same (λ b. bound (cut q h) (if b then no_tables else event_tables q h).second_step (if b then no_tables else event_tables q h).pending < xmin_of (tick (position q consumer h) (ticks q h))) p q
    (λ same. absurd (cc (sym has ∙ ap (λ n. subscription_id n consumer h) (sym same) ∙ none consumer))) (λ _. sits h l q consumer sub has)
sits _ (next {h = h} l _) q consumer sub has = sits h l q consumer sub has

-- so it is kept, and at or above the least one at which a consumer may register
pub position-kept : (h : History) → Legal h → (q : ℕ) (consumer : List ℕ) (sub : ℕ) → subscription_id q consumer h ≡ Some sub
    → is_some (tick (position q consumer h) (kept_ticks q h)) ≡ true
position-kept h l q consumer sub has =
    let up : Sits h q consumer = sits h l q consumer sub has in
    ap is_some (kept-position h l q (position q consumer h) (registered-stands h l q consumer sub has) up) ∙ above-is (base q h) (tick (position q consumer h) (ticks q h)) up

pub position-above : (h : History) → Legal h → (q : ℕ) (consumer : List ℕ) (sub : ℕ) → subscription_id q consumer h ≡ Some sub
    → floor (queue_of h q) ≤ position q consumer h
position-above h l q consumer sub has =
    let least = first-least 0 0 (base q h) (ticks q h) (position q consumer h) (climbing h l q).run (sits h l q consumer sub has) in
    omega (arith, least, floor-first h l q (registered-stands h l q consumer sub has))

-- a tick that is made is kept if it isn't below a consumer's position
pub made-kept : (h : History) → Legal h → (q : ℕ) (consumer : List ℕ) (sub : ℕ) → subscription_id q consumer h ≡ Some sub → (id : ℕ) (t : Tick)
    → tick id (ticks q h) ≡ Some t → position q consumer h ≤ id → tick id (kept_ticks q h) ≡ Some t
made-kept h l q consumer sub has id t there from =
    let up : Sits h q consumer = sits h l q consumer sub has in
    let later = climbs 0 0 (ticks q h) (position q consumer h) id (climbing h l q).run from (ap is_some there) in
    kept-position h l q id (registered-stands h l q consumer sub has) (omega (arith, up, later)) ∙ there

-- so from there on the kept ticks are those that were made
pub position-later : (h : History) → Legal h → (q : ℕ) (consumer : List ℕ) (sub : ℕ) → subscription_id q consumer h ≡ Some sub → (id : ℕ)
    → position q consumer h ≤ id → tick id (kept_ticks q h) ≡ tick id (ticks q h)
position-later h l q consumer sub has id from = of (tick id (kept_ticks q h)) refl (tick id (ticks q h)) refl
  where
    of : (left : Option Tick) → tick id (kept_ticks q h) ≡ left → (all : Option Tick) → tick id (ticks q h) ≡ all → left ≡ all
    of left is (Some t) there = sym is ∙ made-kept h l q consumer sub has id t there from
    of None is None there = refl
    of (Some t) is None there = absurd (cc (sym (kept-made h l q (registered-stands h l q consumer sub has) id t is) ∙ there))

-- the tick after a consumer's position is made if it is kept
pub next-kept : (h : History) → Legal h → (q : ℕ) (consumer : List ℕ) (sub : ℕ) → subscription_id q consumer h ≡ Some sub → (t : Tick)
    → tick (position q consumer h + 1) (kept_ticks q h) ≡ Some t → tick (position q consumer h + 1) (ticks q h) ≡ Some t
next-kept h l q consumer sub has t = kept-made h l q (registered-stands h l q consumer sub has) (position q consumer h + 1) t
