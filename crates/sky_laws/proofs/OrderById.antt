-- Events by id: their ids don't fall, and those with equal ids stay in their order.
use Rattle.std.proofs.Common.{◌≡◌, ℕ, ◌<◌, ◌≤◌, List, [], ◌∷◌, ◌++◌, false, ◌==◌, nat_lt, refl, sym, ◌∙◌, ap, arith, append-nil, append_assoc, if◌then◌else◌}
use Rattle.std.proofs.lemmas.Bool.Decides.{nat_tests}
use Rattle.sky_val.specs.declared.event.Event.{Event}
use Rattle.pgq_tables.specs.ById.{with_event, by_id_onto, by_id}
use Rattle.sky_model.specs.LawsOfBatches.{IdsDontFall, EqualIdsStay}
use Rattle.pgq_tables.specs.ById.{InOrder, with_id}
use Rattle.std.proofs.lemmas.Bool.{cond_both}
use Rattle.sky_model.proofs.Cases.{by_test}

-- the ids don't fall, and none is above a number
abbrev Ordered : ℕ → List Event → Type 0
Ordered low [] = Unit {0}
Ordered low (e ∷ es) = (low ≤ e.ev_id) × Ordered e.ev_id es

Ordered-with_event : (low : ℕ) (e : Event) (es : List Event) → low ≤ e.ev_id → Ordered low es → Ordered low (with_event e es)
Ordered-with_event low e [] le o = (le, tt)
Ordered-with_event low e (x ∷ xs) le o =
    cond_both (nat_lt e.ev_id x.ev_id) (e ∷ x ∷ xs) (x ∷ with_event e xs) (Ordered low) (λ test. (le, ((grind (arith, nat_tests)), o.1)))
    (λ test. (o.0, Ordered-with_event x.ev_id e xs (grind (arith, nat_tests)) o.1))

Ordered-by_id_onto : (sorted es : List Event) → Ordered 0 sorted → Ordered 0 (by_id_onto sorted es)
Ordered-by_id_onto sorted [] o = o
Ordered-by_id_onto sorted (e ∷ es) o = Ordered-by_id_onto (with_event e sorted) es (Ordered-with_event 0 e sorted (omega arith) o)

InOrder-Ordered : (low : ℕ) (es : List Event) → Ordered low es → InOrder es
InOrder-Ordered low [] o = tt
InOrder-Ordered low (e ∷ []) o = tt
InOrder-Ordered low (e ∷ f ∷ es) o = (o.1.0, InOrder-Ordered e.ev_id (f ∷ es) o.1)

pub ids_dont_fall : IdsDontFall
ids_dont_fall es = InOrder-Ordered 0 (by_id es) (Ordered-by_id_onto [] es tt)

-- none has an id below those that don't fall
with_id-below : (id low : ℕ) (es : List Event) → id < low → Ordered low es → with_id id es ≡ []
with_id-below id low [] less o = refl
with_id-below id low (e ∷ es) less o =
    let le : low ≤ e.ev_id = o.0 in
    let other : (e.ev_id == id) ≡ false = grind (arith, nat_tests) in
    ap (λ b. if b then e ∷ with_id id es else with_id id es) other ∙ with_id-below id e.ev_id es (omega arith) o.1

-- an event is inserted after those with its id
with_id-with_event : (id low : ℕ) (e : Event) (es : List Event) → Ordered low es → with_id id (with_event e es) ≡ with_id id es ++ with_id id (e ∷ [])
with_id-with_event id low e [] o = refl
with_id-with_event id low e (x ∷ xs) o =
    let ih = with_id-with_event id x.ev_id e xs o.1 in
    cond_both (nat_lt e.ev_id x.ev_id) (e ∷ x ∷ xs) (x ∷ with_event e xs) (λ es. with_id id es ≡ with_id id (x ∷ xs) ++ with_id id (e ∷ []))
    (λ less. by_test (λ b. (if b then e ∷ with_id id (x ∷ xs) else with_id id (x ∷ xs)) ≡ with_id id (x ∷ xs) ++ (if b then e ∷ [] else [])) (e.ev_id == id)
    (λ test. let none : with_id id (x ∷ xs) ≡ [] = with_id-below id x.ev_id (x ∷ xs) (grind (arith, nat_tests)) ((omega arith), o.1) in rw none refl) (λ _. sym (append-nil (with_id id (x ∷ xs)))))
    (λ _. by_test (λ b. (if b then x ∷ with_id id (with_event e xs) else with_id id (with_event e xs)) ≡ (if b then x ∷ with_id id xs else with_id id xs) ++ with_id id (e ∷ [])) (x.ev_id == id)
    (λ _. ap (λ es. x ∷ es) ih) (λ _. ih))

with_id-first : (id : ℕ) (e : Event) (es : List Event) → with_id id (e ∷ []) ++ with_id id es ≡ with_id id (e ∷ es)
with_id-first id e es = grind arith

with_id-by_id_onto : (id : ℕ) (sorted es : List Event) → Ordered 0 sorted → with_id id (by_id_onto sorted es) ≡ with_id id sorted ++ with_id id es
with_id-by_id_onto id sorted [] o = sym (append-nil (with_id id sorted))
with_id-by_id_onto id sorted (e ∷ es) o =
    with_id-by_id_onto id (with_event e sorted) es (Ordered-with_event 0 e sorted (omega arith) o)
    ∙ ap (λ kept. kept ++ with_id id es) (with_id-with_event id 0 e sorted o)
    ∙ append_assoc (with_id id sorted) (with_id id (e ∷ [])) (with_id id es)
    ∙ ap (λ kept. with_id id sorted ++ kept) (with_id-first id e es)

pub equal_ids_stay : EqualIdsStay
equal_ids_stay es id = with_id-by_id_onto id [] es tt
