-- Places of a provider's history: that of a tick stays, and if all that had ended at one place has ended at another, its tables have no other rows there.
use Rattle.std.proofs.Common.{length, ◌<◌, ◌≤◌, nat_lt, ◌≡◌, ℕ, true, false, ◌&&◌, ◌||◌, ◌==◌, inl, inr, [], ◌∷◌, ◌++◌, append_assoc, refl, sym, ◌∙◌, ap, subst, arith, if◌then◌else◌}
use Rattle.std.proofs.lemmas.Bool.Decides.{nat_tests}
use Rattle.sky_model.specs.History.{Mark, ended, tabled, wrote, History}
use Rattle.sky_model.specs.Transactions.{has_ended}
use Rattle.sky_model.specs.Rows.{rows}
use Rattle.sky_model.specs.Queues.{queues_made, at_tick}
use Rattle.sky_model.specs.HistoryPlaces.{IsPlace}
use Rattle.sky_histories.proofs.Legal.{makes, ticks_next, Legal, next, legal-below_mark, fine_mark}
use Rattle.sky_histories.proofs.Snapshots.{ender-unended}
use Rattle.sky_histories.proofs.TickOrder.{is_made, unmade_above, unmade_beyond}
use Rattle.sky_histories.proofs.RowSights.{Since, here, later, legal-since, ended-behind, ended-since}
use Rattle.sky_histories.proofs.CopiesCovered.{rows-wrote}
use Rattle.sky_histories.proofs.Good.{same-session}
use Rattle.sky_model.proofs.Cases.{by_test}
use Rattle.sky_laws_changes.specs.Listing.{later_of}
use Rattle.sky_laws_changes.proofs.Places.{either-since, length-since, same-length}

-- a place is one still without its last mark
pub place-below : (mark : Mark) (h : History) → IsPlace (mark ∷ h) → IsPlace h
place-below mark h is = record { calls = is.calls; in_form = is.in_form; later = is.later ++ mark ∷ []; below = is.below ∙ sym (append_assoc is.later (mark ∷ []) h) }

-- ---- ticks

-- the place of a tick that is made stays
pub tick-stays : {k : History} {mark : Mark} → Legal (mark ∷ k) → (q id : ℕ) → is_made q id k ≡ true → at_tick q id (mark ∷ k) ≡ at_tick q id k
tick-stays (next {h = h} l (makes name t time new)) q id made_it =
    let other : (queues_made h == q && 1 == id) ≡ false = grind (arith, nat_tests, unmade_beyond h l q id, made_it) in
    ap (λ b. if b then h else at_tick q id h) other
tick-stays (next {h = h} l (ticks_next p m time seq i above c)) q id made_it =
    let other : (p == q && m == id) ≡ false = grind (arith, nat_tests, unmade_above h l q id, above, made_it) in
    ap (λ b. if b then h else at_tick q id h) other
tick-stays (next l _) q id made_it = refl

-- ---- the later of two places

-- which of two places of a history is the later one
pub if-later : {p q h : History} → Since p h → Since q h → nat_lt (length p) (length q) ≡ true → Since p q
if-later {p = p} {q = q} p_h q_h is = elim (either-since p_h q_h) [
  | inl up ↦ up
  | inr down ↦ let less : length p < length q = grind (arith, nat_tests, is) in absurd (omega (arith, less, length-since down))
]

pub if-not : {p q h : History} → Since p h → Since q h → nat_lt (length p) (length q) ≡ false → Since q p
if-not {p = p} {q = q} p_h q_h isnt = elim (either-since q_h p_h) [
  | inl up ↦ up
  | inr down ↦ let le : length q ≤ length p = grind (arith, nat_tests, isnt) in subst (λ z. Since z p) (same-length down le) here
]

pub later-above : {p q h : History} → Since p h → Since q h → Since p (later_of p q)
later-above {p = p} {q = q} p_h q_h =
    by_test (λ b. nat_lt (length p) (length q) ≡ b → Since p (if b then q else p)) (nat_lt (length p) (length q)) (λ _ is. if-later p_h q_h is) (λ _ _. here) refl

pub later-below : {p q h : History} → Since p h → Since q h → Since (later_of p q) h
later-below {p = p} {q = q} {h = h} p_h q_h = by_test (λ b. Since (if b then q else p) h) (nat_lt (length p) (length q)) (λ _. q_h) (λ _. p_h)

-- ---- what has ended

-- each transaction that had ended at one place had ended at another
abbrev pub EndedBy : (p q : History) → Type 0
EndedBy p q = (t : ℕ) → has_ended p t ≡ true → has_ended q t ≡ true

-- a mark by which none ends leaves the rows of a table
unended-rows : (n : ℕ) (h : History) (mark : Mark) → Legal (mark ∷ h) → EndedBy (mark ∷ h) h → rows n (mark ∷ h) ≡ rows n h
unended-rows n h (ended whose t c) l over =
    absurd (cc (sym (ender-unended h (legal-below_mark l) whose t c (fine_mark l)) ∙ over t (ap (λ b. b || has_ended h t) (same-session t))))
unended-rows n h (tabled (wrote whose t m key old new)) l over = rows-wrote h (legal-below_mark l) whose t m key old new (fine_mark l) n
unended-rows n h _ l over = refl

rows-ended-by : (n : ℕ) {a h : History} → Since a h → Legal h → EndedBy h a → rows n h ≡ rows n a
rows-ended-by n here l over = refl
rows-ended-by n (later {h = h} {mark = mark} s) l over =
    unended-rows n h mark l (λ t is. ended-since s t (over t is)) ∙ rows-ended-by n s (legal-below_mark l) (λ t is. over t (ended-behind h mark t is))

-- so the rows at the later of the two places are those at the other one
pub later-rows : (n : ℕ) {s a k : History} → Since s k → Since a k → Legal k → EndedBy s a → rows n (later_of s a) ≡ rows n a
later-rows n {s = s} {a = a} s_k a_k l over =
    by_test (λ b. nat_lt (length s) (length a) ≡ b → rows n (if b then a else s) ≡ rows n a) (nat_lt (length s) (length a)) (λ _ _. refl)
    (λ _ isnt. rows-ended-by n (if-not s_k a_k isnt) (legal-since s_k l) over) refl
