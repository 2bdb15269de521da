-- Places of a history, of which one is above another.
use Rattle.std.proofs.Common.{length, ◌≤◌, ◌≡◌, ℕ, ◌⊎◌, inl, inr, List, [], ◌∷◌, ◌++◌, true, false, refl, sym, ◌∙◌, ap, subst, arith, ◌==◌, not}
use Rattle.std.proofs.lemmas.Bool.{or_right, and_parts, false_from_ne_true}
use Rattle.sky_model.specs.History.{Mark, ended, History}
use Rattle.sky_model.specs.Transactions.{has_ended, has_committed, has_rolled_back}
use Rattle.sky_histories.proofs.Legal.{Legal}
use Rattle.sky_histories.proofs.Snapshots.{has_committed-ended}
use Rattle.sky_histories.proofs.RowSights.{Since, here, later, legal-since}
use Rattle.sky_laws_changes.specs.Listing.{IsBelow}

pub since-below : {mark : Mark} {k h : History} → Since (mark ∷ k) h → Since k h
since-below here = later here
since-below (later s) = later (since-below s)

pub since-joined : {a b c : History} → Since a b → Since b c → Since a c
since-joined ab here = ab
since-joined ab (later bc) = later (since-joined ab bc)

-- of two places of a history one is above the other
pub either-since : {a b h : History} → Since a h → Since b h → Since a b ⊎ Since b a
either-since here s = inr s
either-since (later s) here = inl (later s)
either-since (later s) (later t) = either-since s t

-- a place is the topmost one, or is below the last mark
pub since-or : (p : History) (mark : Mark) (h : History) → Since p (mark ∷ h) → (p ≡ mark ∷ h) ⊎ Since p h
since-or _ mark h here = inl refl
since-or p mark h (later s) = inr s

-- the higher one is the longer one
pub length-since : {p q : History} → Since p q → length p ≤ length q
length-since here = omega arith
length-since (later s) = omega (arith, length-since s)

-- one that is below another that isn't longer is the same
pub same-length : {p q : History} → Since p q → length q ≤ length p → p ≡ q
same-length here le = refl
same-length (later s) le = absurd (omega (arith, length-since s, le))

-- two that are each below the other are one
pub one-place : {p q : History} → Since p q → Since q p → p ≡ q
one-place here back = refl
one-place (later s) back = absurd (omega (arith, length-since s, length-since back))

-- marks on top of a place
pub on-top : (marks : List Mark) (p : History) → Since p (marks ++ p)
on-top [] p = here
on-top (mark ∷ marks) p = later (on-top marks p)

pub from-below : (p q : History) → IsBelow p q → Since p q
from-below p q is = subst (Since p) (sym is.reaches) (on-top is.later p)

pub to-below : {p q : History} → Since p q → IsBelow p q
to-below here = record { later = []; reaches = refl }
to-below (later {mark = mark} s) = let b = to-below s in record { later = mark ∷ b.later; reaches = ap (λ h. mark ∷ h) b.reaches }

-- ---- transactions

pub committed-behind : (h : History) (mark : Mark) (t : ℕ) → has_committed h t ≡ true → has_committed (mark ∷ h) t ≡ true
committed-behind h (ended whose u true) t e = or_right (t == u) (has_committed h t) e
committed-behind h _ t e = e

pub committed-since : {k h : History} → Since k h → (t : ℕ) → has_committed k t ≡ true → has_committed h t ≡ true
committed-since here t e = e
committed-since (later {h = h} {mark = mark} s) t e = committed-behind h mark t (committed-since s t e)

rolled_back-behind : (h : History) (mark : Mark) (t : ℕ) → has_rolled_back h t ≡ true → has_rolled_back (mark ∷ h) t ≡ true
rolled_back-behind h (ended whose u false) t e = or_right (t == u) (has_rolled_back h t) e
rolled_back-behind h _ t e = e

rolled_back-since : {k h : History} → Since k h → (t : ℕ) → has_rolled_back k t ≡ true → has_rolled_back h t ≡ true
rolled_back-since here t e = e
rolled_back-since (later {h = h} {mark = mark} s) t e = rolled_back-behind h mark t (rolled_back-since s t e)

-- one that has committed has ended
pub committed-ended : (h : History) → Legal h → (t : ℕ) → has_committed h t ≡ true → has_ended h t ≡ true
committed-ended h l t e = (and_parts (has_ended h t) (not (has_rolled_back h t)) (sym (has_committed-ended h l t) ∙ e)).0

-- nor had it at an earlier place
pub uncommitted-since : {k h : History} → Since k h → Legal h → (t : ℕ) → has_ended h t ≡ false → has_committed k t ≡ false
uncommitted-since {k = k} {h = h} s l t runs = false_from_ne_true (has_committed k t) (λ is. absurd (cc (sym runs ∙ committed-ended h l t (committed-since s t is))))

-- one that had ended at a place, and has committed, had committed there
pub committed-then : {k h : History} → Since k h → Legal h → (t : ℕ) → has_ended k t ≡ true → has_committed h t ≡ true → has_committed k t ≡ true
committed-then {k = k} {h = h} s l t over is = grind (arith, has_committed-ended k (legal-since s l) t, has_committed-ended h l t, rolled_back-since s t)
