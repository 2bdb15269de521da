-- What a binary search answers in a rising list of ids.
use Rattle.std.proofs.Common.{◌≡◌, ℕ, ◌<◌, ◌≤◌, true, false, not, List, length, get_or, Result, Ok, Err, MatchResult, is_ok, is_err, sym, refl, ◌∙◌, ap, arith}
use Rattle.std.specs.List.Sorted.{IsBinarySearchResult}
use Rattle.std.specs.Ordering.{nat_cmp}
use Rattle.std.proofs.lemmas.List.Sorted.{searched}
use Rattle.std.proofs.lemmas.Bool.Decides.{nat_tests}
use Rattle.std.specs.Prelude.{nat_lt}
use Rattle.sky_txid.specs.Snapshot.{SnapshotView, is_snapshot, sees}
use Rattle.sky_txid.specs.Ids.{contains, rises_within}
use Rattle.sky_txid.proofs.Seen.{sound}
use Rattle.sky_txid.proofs.Rising.{rising-ordered, contains-get_or, contains_none}

-- the place of an id that is in the list, or what lies before and after the place where it would be
abbrev pub Found : List ℕ → ℕ → Result ℕ ℕ → Type 0
Found ids t r = MatchResult r (λ i. (i < length ids) × (get_or ids i 0 ≡ t)) (λ i. (i ≤ length ids) × ((k : ℕ) → k < i → get_or ids k 0 < t) × ((k : ℕ) → i ≤ k → k < length ids → t < get_or ids k 0))

pub found : (low high : ℕ) (ids : List ℕ) (t : ℕ) (r : Result ℕ ℕ) → rises_within low high ids ≡ true → IsBinarySearchResult (λ y. nat_cmp y t) ids r → Found ids t r
found low high ids t r rises h = searched ids t r h (rising-ordered low high ids rises)

-- it is found if and only if the list contains it
pub is_ok-found : (ids : List ℕ) (t : ℕ) (r : Result ℕ ℕ) → Found ids t r → is_ok r ≡ contains t ids
is_ok-found ids t (Ok i) h = sym (ap (λ u. contains u ids) (sym h.1) ∙ contains-get_or ids i h.0)
is_ok-found ids t (Err i) h = sym (contains_none t ids (λ k within e. grind (arith, h.1 k, h.2 k)))

-- a snapshot sees an id between its bounds if and only if a search doesn't find it
pub sees_by_search : (s : SnapshotView) (t : ℕ) (r : Result ℕ ℕ) → is_snapshot s ≡ true → s.xmin ≤ t → t < s.xmax → IsBinarySearchResult (λ y. nat_cmp y t) s.xip r → is_err r ≡ sees s t
sees_by_search s t r is_sound above below h =
    let known = is_ok-found s.xip t r (found s.xmin s.xmax s.xip t r (sound s is_sound).rises h) in
    let low : nat_lt t s.xmin ≡ false = grind (arith, nat_tests) in
    let high : nat_lt t s.xmax ≡ true = grind (arith, nat_tests) in
    rw (low, high, ← known) (is_err-not r)
  where
    is_err-not : (r : Result ℕ ℕ) → is_err r ≡ not (is_ok r)
    is_err-not (Ok i) = refl
    is_err-not (Err i) = refl
