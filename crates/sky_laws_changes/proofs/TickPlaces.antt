-- The places of ticks, and the events of a table in the order of their ids.
use Rattle.std.proofs.Common.{◌≡◌, ℕ, ◌<◌, ◌≤◌, Bool, true, false, ◌&&◌, ◌==◌, nat_lt, List, [], ◌∷◌, ◌++◌, All, is_none, filter, refl, sym, ◌∙◌, ap, subst, arith, if◌then◌else◌, append-nil, append_assoc}
use Rattle.std.proofs.lemmas.Bool.{cond_both}
use Rattle.std.proofs.lemmas.Bool.Decides.{nat_tests}
use Rattle.std.proofs.lemmas.List.Elements.{All-nil, All-head, All-tail, All-weaker, All-push, All-filter, filter-append}
use Rattle.sky_val.specs.declared.event.Event.{Event}
use Rattle.pgq_tables.specs.ById.{with_event, by_id_onto, by_id}
use Rattle.sky_model.specs.History.{queued, made, ticked, History}
use Rattle.sky_model.specs.Queues.{queues_made, events, at_tick}
use Rattle.sky_model.specs.Retries.{brought_by}
use Rattle.sky_histories.proofs.Legal.{makes, ticks_next, puts, puts_back, Legal, start, next}
use Rattle.sky_histories.proofs.RetryCopies.{owned}
use Rattle.sky_histories.proofs.TickOrder.{is_made, is_made-tick, unmade_above, unmade_beyond}
use Rattle.sky_histories.proofs.SnapshotLaws.{legal_place}
use Rattle.sky_histories.proofs.RowSights.{Since, here, later}
use Rattle.sky_model.proofs.Cases.{by_test, by_same}
use Rattle.sky_laws_changes.specs.TableEvents.{changes_table, table_events}
use Rattle.sky_laws_changes.specs.LawsOfChanges.{TicksAreInOrder}
use Rattle.sky_laws_changes.proofs.Places.{to-below}
use Rattle.sky_laws_changes.proofs.ToldEvents.{is_event}

-- ---- places

pub tick-since : (q id : ℕ) (h : History) → Since (at_tick q id h) h
tick-since q id [] = here
tick-since q id (queued (made name t time) ∷ h) =
    by_test (λ b. Since (if b then h else at_tick q id h) (queued (made name t time) ∷ h)) (queues_made h == q && 1 == id) (λ _. later here) (λ _. later (tick-since q id h))
tick-since q id (queued (ticked p m time seq) ∷ h) =
    by_test (λ b. Since (if b then h else at_tick q id h) (queued (ticked p m time seq) ∷ h)) (p == q && m == id) (λ _. later here) (λ _. later (tick-since q id h))
tick-since q id (_ ∷ h) = later (tick-since q id h)

-- of two ticks, the later one of which is made
ticks-since : (h : History) → Legal h → (q from to : ℕ) → from ≤ to → is_made q to h ≡ true → Since (at_tick q from h) (at_tick q to h)
ticks-since [] start q from to le there = absurd (cc)
ticks-since _ (next {h = h} l (makes name t time new)) q from to le there =
    by_test (λ b. (queues_made h == q && 1 == to) ≡ b → Since (if queues_made h == q && 1 == from then h else at_tick q from h) (if b then h else at_tick q to h)) (queues_made h == q && 1 == to)
    (λ _ is. cond_both (queues_made h == q && 1 == from) h (at_tick q from h) (λ x. Since x h) (λ _. here) (λ _. tick-since q from h))
    (λ _ isnt.
    let there_before : is_made q to h ≡ true = grind (arith, there, isnt) in
    let other : (queues_made h == q && 1 == from) ≡ false = grind (arith, nat_tests, unmade_beyond h l q to, there_before) in
    subst (λ b. Since (if b then h else at_tick q from h) (at_tick q to h)) (sym other) (ticks-since h l q from to le there_before)) refl
ticks-since _ (next {h = h} l (ticks_next p m time seq i above c)) q from to le there =
    by_test (λ b. (p == q && m == to) ≡ b → Since (if p == q && m == from then h else at_tick q from h) (if b then h else at_tick q to h)) (p == q && m == to)
    (λ _ is. cond_both (p == q && m == from) h (at_tick q from h) (λ x. Since x h) (λ _. here) (λ _. tick-since q from h))
    (λ _ isnt.
    let there_before : is_made q to h ≡ true = grind (arith, there, isnt) in
    let other : (p == q && m == from) ≡ false = grind (arith, nat_tests, unmade_above h l q to, above, there_before, isnt, le) in
    subst (λ b. Since (if b then h else at_tick q from h) (at_tick q to h)) (sym other) (ticks-since h l q from to le there_before)) refl
ticks-since _ (next {h = h} l _) q from to le there = ticks-since h l q from to le there

pub ticks_are_in_order : TicksAreInOrder
ticks_are_in_order h place q from to le made_it = to-below (ticks-since h (legal_place h place) q from to le (sym (is_made-tick h q to) ∙ made_it))

-- ---- events in the order of their ids

-- ids don't fall, from a number on
abbrev pub Ordered : ℕ → List Event → Type 0
Ordered low [] = Unit {0}
Ordered low (e ∷ es) = (low ≤ e.ev_id) × Ordered e.ev_id es

ordered-from : (low high : ℕ) (es : List Event) → low ≤ high → Ordered high es → Ordered low es
ordered-from low high [] le all = tt
ordered-from low high (e ∷ es) le all = let up : high ≤ e.ev_id = all.0 in (omega (arith, le, up), all.1)

ordered-filter : (p : Event → Bool) (low : ℕ) (es : List Event) → Ordered low es → Ordered low (filter p es)
ordered-filter p low [] all = tt
ordered-filter p low (e ∷ es) all =
    by_test (λ b. Ordered low (if b then e ∷ filter p es else filter p es)) (p e) (λ _. (all.0, ordered-filter p e.ev_id es all.1)) (λ _. ordered-from low e.ev_id (filter p es) all.0 (ordered-filter p e.ev_id es all.1))

ordered-push : (low : ℕ) (es : List Event) (e : Event) → Ordered low es → low ≤ e.ev_id → All (λ x. x.ev_id < e.ev_id) es → Ordered low (es ++ e ∷ [])
ordered-push low [] e all le below = (le, tt)
ordered-push low (x ∷ es) e all le below =
    let less : x.ev_id < e.ev_id = All-head (λ y. y.ev_id < e.ev_id) x es below in
    (all.0, ordered-push x.ev_id es e all.1 (omega (arith, less)) (All-tail (λ y. y.ev_id < e.ev_id) x es below))

-- one that is below none goes to the end
with-last : (low : ℕ) (e : Event) (es : List Event) → All (λ x. x.ev_id ≤ e.ev_id) es → with_event e es ≡ es ++ e ∷ []
with-last low e [] below = refl
with-last low e (x ∷ es) below =
    let le : x.ev_id ≤ e.ev_id = All-head (λ y. y.ev_id ≤ e.ev_id) x es below in
    let other : nat_lt e.ev_id x.ev_id ≡ false = grind (arith, nat_tests, le) in
    ap (λ b. if b then e ∷ x ∷ es else x ∷ with_event e es) other ∙ ap (λ ys. x ∷ ys) (with-last low e es (All-tail (λ y. y.ev_id ≤ e.ev_id) x es below))

-- so events in order stay as they are
by-id-ordered : (sorted es : List Event) (low : ℕ) → All (λ x. x.ev_id ≤ low) sorted → Ordered low es → by_id_onto sorted es ≡ sorted ++ es
by-id-ordered sorted [] low below all = sym (append-nil sorted)
by-id-ordered sorted (e ∷ es) low below all =
    let up : low ≤ e.ev_id = all.0 in
    let below_e : All (λ x. x.ev_id ≤ e.ev_id) sorted = All-weaker (λ x. x.ev_id ≤ low) (λ x. x.ev_id ≤ e.ev_id) (λ x le. omega (arith, le, up)) sorted below in
    ap (λ ys. by_id_onto ys es) (with-last low e sorted below_e)
    ∙ by-id-ordered (sorted ++ e ∷ []) es e.ev_id (All-push (λ x. x.ev_id ≤ e.ev_id) sorted e below_e (omega arith)) all.1
    ∙ append_assoc sorted (e ∷ []) es

-- one that is below all comes first
with-first : (e : Event) (low : ℕ) (es : List Event) → e.ev_id < low → Ordered low es → with_event e es ≡ e ∷ es
with-first e low [] less all = refl
with-first e low (x ∷ es) less all =
    let up : low ≤ x.ev_id = all.0 in
    let below : nat_lt e.ev_id x.ev_id ≡ true = grind (arith, nat_tests, less, up) in
    ap (λ b. if b then e ∷ x ∷ es else x ∷ with_event e es) below

ordered-with : (low : ℕ) (e : Event) (es : List Event) → low ≤ e.ev_id → Ordered low es → Ordered low (with_event e es)
ordered-with low e [] le all = (le, tt)
ordered-with low e (x ∷ es) le all =
    by_test (λ b. nat_lt e.ev_id x.ev_id ≡ b → Ordered low (if b then e ∷ x ∷ es else x ∷ with_event e es)) (nat_lt e.ev_id x.ev_id)
    (λ _ less. (le, (grind (arith, nat_tests, less), all.1))) (λ _ more. (all.0, ordered-with x.ev_id e es (grind (arith, nat_tests, more)) all.1)) refl

-- the events that pass a test, by id, are those of all by id
filter-with : (p : Event → Bool) (low : ℕ) (e : Event) (es : List Event) → Ordered low es → filter p (with_event e es) ≡ (if p e then with_event e (filter p es) else filter p es)
filter-with p low e [] all = refl
filter-with p low e (x ∷ es) all =
    by_test (λ b. nat_lt e.ev_id x.ev_id ≡ b → filter p (if b then e ∷ x ∷ es else x ∷ with_event e es) ≡ (if p e then with_event e (filter p (x ∷ es)) else filter p (x ∷ es))) (nat_lt e.ev_id x.ev_id)
    (λ _ less. ap (λ ys. if p e then ys else filter p (x ∷ es)) (sym (with-first e x.ev_id (filter p (x ∷ es)) (grind (arith, nat_tests, less)) (ordered-filter p x.ev_id (x ∷ es) (omega arith, all.1)))))
    (λ _ more. later_one more (filter-with p x.ev_id e es all.1)) refl
  where
    later_one : nat_lt e.ev_id x.ev_id ≡ false → filter p (with_event e es) ≡ (if p e then with_event e (filter p es) else filter p es)
        → filter p (x ∷ with_event e es) ≡ (if p e then with_event e (filter p (x ∷ es)) else filter p (x ∷ es))
    later_one more ih = grind (arith, more, ih)

filter-by-id : (p : Event → Bool) (sorted es : List Event) → Ordered 0 sorted → filter p (by_id_onto sorted es) ≡ by_id_onto (filter p sorted) (filter p es)
filter-by-id p sorted [] all = refl
filter-by-id p sorted (e ∷ es) all =
    filter-by-id p (with_event e sorted) es (ordered-with 0 e sorted (omega arith) all)
    ∙ ap (λ ys. by_id_onto ys (filter p es)) (filter-with p 0 e sorted all)
    ∙ by_test (λ b. by_id_onto (if b then with_event e (filter p sorted) else filter p sorted) (filter p es) ≡ by_id_onto (filter p sorted) (if b then e ∷ filter p es else filter p es)) (p e) (λ _. refl) (λ _. refl)

-- ---- a table's events

pub table-ordered : (name : List ℕ) (q : ℕ) (h : History) → Legal h → Ordered 0 (table_events name (events q h))
table-ordered name q _ start = tt
table-ordered name q _ (next {h = h} l (puts who p e i id mine newest)) =
    by_same (λ b. Ordered 0 (table_events name (if b then events q h ++ e ∷ [] else events q h))) p q
    (λ same. subst (Ordered 0) (sym (filter-append (is_event name) (events q h) (e ∷ [])))
    (by_test (λ b. Ordered 0 (table_events name (events q h) ++ (if b then e ∷ [] else []))) (is_event name e)
    (λ _. ordered-push 0 (table_events name (events q h)) e (table-ordered name q h l) (omega arith)
    (All-filter (is_event name) (λ x. x.ev_id < e.ev_id) (events q h) (subst (λ k. All (λ x. x.ev_id < e.ev_id) (events k h)) same newest)))
    (λ _. subst (Ordered 0) (sym (append-nil (table_events name (events q h)))) (table-ordered name q h l))))
    (λ _. table-ordered name q h l)
table-ordered name q _ (next {h = h} l (puts_back retry t back)) =
    let e : Event = brought_by t retry.event in
    let isnt : is_event name e ≡ false = ap (λ o. is_none o && changes_table name e) (owned h l retry back.waits) in
    by_test (λ b. Ordered 0 (table_events name (if b then events q h ++ e ∷ [] else events q h))) (retry.queue == q)
    (λ _. subst (Ordered 0) (sym (filter-append (is_event name) (events q h) (e ∷ []) ∙ ap (λ b. table_events name (events q h) ++ (if b then e ∷ [] else [])) isnt ∙ append-nil (table_events name (events q h)))) (table-ordered name q h l))
    (λ _. table-ordered name q h l)
table-ordered name q _ (next {h = h} l _) = table-ordered name q h l

-- those that pass a test, by id, are those of all, if what the test says of them is said by another one
pub by-id-of : (name : List ℕ) (q : ℕ) (h : History) → Legal h → (test other : Event → Bool) → ((e : Event) → is_event name e ≡ true → test e ≡ other e)
    → table_events name (by_id (filter test (events q h))) ≡ filter other (table_events name (events q h))
by-id-of name q h l test other alike =
    filter-by-id (is_event name) [] (filter test (events q h)) tt
    ∙ ap by_id (turned (events q h))
    ∙ by-id-ordered [] (filter other (table_events name (events q h))) 0 (All-nil (λ x. x.ev_id ≤ 0)) (ordered-filter other 0 (table_events name (events q h)) (table-ordered name q h l))
  where
    turned : (es : List Event) → filter (is_event name) (filter test es) ≡ filter other (filter (is_event name) es)
    turned [] = refl
    turned (e ∷ es) =
        by_test (λ b. is_event name e ≡ b → filter (is_event name) (if test e then e ∷ filter test es else filter test es) ≡ filter other (if b then e ∷ filter (is_event name) es else filter (is_event name) es)) (is_event name e)
        (λ _ is.
        by_test (λ c. filter (is_event name) (if c then e ∷ filter test es else filter test es) ≡ (if test e then e ∷ filter other (filter (is_event name) es) else filter other (filter (is_event name) es))) (test e)
        (λ yes_. ap (λ b. if b then e ∷ filter (is_event name) (filter test es) else filter (is_event name) (filter test es)) is ∙ ap (λ xs. e ∷ xs) (turned es) ∙ sym (ap (λ b. if b then e ∷ filter other (filter (is_event name) es) else filter other (filter (is_event name) es)) yes_))
        (λ no_. turned es ∙ sym (ap (λ b. if b then e ∷ filter other (filter (is_event name) es) else filter other (filter (is_event name) es)) no_))
        ∙ ap (λ b. if b then e ∷ filter other (filter (is_event name) es) else filter other (filter (is_event name) es)) (alike e is))
        (λ _ isnt.
        by_test (λ c. filter (is_event name) (if c then e ∷ filter test es else filter test es) ≡ filter other (filter (is_event name) es)) (test e)
        (λ _. ap (λ b. if b then e ∷ filter (is_event name) (filter test es) else filter (is_event name) (filter test es)) isnt ∙ turned es) (λ _. turned es)) refl
