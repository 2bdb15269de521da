-- What is true of every `Trans`, part by part.
use Rattle.std.proofs.Common.{◌≡◌, ℕ, ◌+◌, ◌^◌, ◌<◌, ◌≤◌, true, false, List, [], ◌∷◌, ◌++◌, not, Result, Ok, Err, is_ok, refl, sym, ◌∙◌, ap, arith, ltb-true}
use Rattle.std.specs.Prelude.{◌&&◌, ◌||◌, ◌==◌, nat_le, nat_lt, slice_get, IfSome}
use Rattle.std.specs.List.{filter, remove, All}
use Rattle.std.specs.List.Sorted.{IsBinarySearchResult}
use Rattle.std.specs.Ordering.{nat_cmp}
use Rattle.std.proofs.lemmas.Result.{MatchResult-at_ok}
use Rattle.std.proofs.lemmas.Bool.Decides.{nat_tests}
use Rattle.std.proofs.lemmas.Bool.{and_parts, and_from, leb-true, le-leb}
use Rattle.std.proofs.lemmas.List.Elements.{All-from_get_or}
use Rattle.sky_txid.specs.Ids.{contains, rises_within}
use Rattle.sky_txid.proofs.Rising.{rising-push, rising-filter, rising-wider, rising-ordered, remove-filter, filter_absent}
use Rattle.sky_txid.proofs.Searched.{found, is_ok-found}
use Rattle.sky_trans.specs.Trans.{TransView, is_trans}

pub record Sound (trans : TransView) : Type 0 where
  pub first : 3 ≤ trans.next
  pub last : trans.next ≤ 2 ^ 62
  pub rises : rises_within 3 trans.next trans.running ≡ true

pub sound : (trans : TransView) → is_trans trans ≡ true → Sound trans
sound trans h =
    let outer = and_parts (nat_le 3 trans.next) (nat_le trans.next (2 ^ 62) && rises_within 3 trans.next trans.running) h in
    let inner = and_parts (nat_le trans.next (2 ^ 62)) (rises_within 3 trans.next trans.running) outer.1 in
    record { first = leb-true 3 trans.next outer.0; last = leb-true trans.next (2 ^ 62) inner.0; rises = inner.1 }

pub is_trans_from : (next : ℕ) (running : List ℕ) → 3 ≤ next → next ≤ 2 ^ 62 → rises_within 3 next running ≡ true → is_trans (record { next = next; running = running }) ≡ true
is_trans_from next running first last rises =
    and_from (nat_le 3 next) (nat_le next (2 ^ 62) && rises_within 3 next running) (le-leb 3 next first)
    (and_from (nat_le next (2 ^ 62)) (rises_within 3 next running) (le-leb next (2 ^ 62) last) rises)

-- a list that rises below a number doesn't contain it
contains-above : (low high : ℕ) (ids : List ℕ) → rises_within low high ids ≡ true → contains high ids ≡ false
contains-above low high [] h = refl
contains-above low high (t ∷ ts) h =
    let outer = and_parts (nat_le low t) (nat_lt t high && rises_within (t + 1) high ts) h in
    let inner = and_parts (nat_lt t high) (rises_within (t + 1) high ts) outer.1 in
    let below : t < high = ltb-true t high inner.0 in
    let other : (high == t) ≡ false = grind (arith, nat_tests) in
    ap (λ b. b || contains high ts) other ∙ contains-above (t + 1) high ts inner.1

-- the next id isn't running
pub next_is_fresh : (trans : TransView) → is_trans trans ≡ true → contains trans.next trans.running ≡ false
next_is_fresh trans h = contains-above 3 trans.next trans.running (sound trans h).rises

-- after the next id was given
pub sound_assigned : (trans : TransView) (running : List ℕ) → is_trans trans ≡ true → trans.next < 2 ^ 62 → running ≡ trans.running ++ trans.next ∷ [] → is_trans (record { next = trans.next + 1; running = running }) ≡ true
sound_assigned trans running h room is =
    let s = sound trans h in
    is_trans_from (trans.next + 1) running (omega arith) (omega arith) (rw is (rising-push 3 trans.next (trans.next + 1) trans.running s.first (omega arith) s.rises))

-- after the next id was given to a transaction that has ended
pub sound_spent : (trans : TransView) → is_trans trans ≡ true → trans.next < 2 ^ 62 → is_trans (record trans { next = trans.next + 1 }) ≡ true
sound_spent trans h room =
    let s = sound trans h in
    is_trans_from (trans.next + 1) trans.running (omega arith) (omega arith) (rising-wider 3 trans.next 3 (trans.next + 1) trans.running (omega arith) (omega arith) s.rises)

-- after an id was removed
pub sound_ended : (trans : TransView) (t : ℕ) (running : List ℕ) → is_trans trans ≡ true → running ≡ filter (λ u. not (u == t)) trans.running → is_trans (record { next = trans.next; running = running }) ≡ true
sound_ended trans t running h is =
    let s = sound trans h in
    is_trans_from trans.next running s.first s.last (rw is (rising-filter (λ u. not (u == t)) 3 trans.next trans.running s.rises))

-- the first running id is the least
pub least_first : (trans : TransView) → is_trans trans ≡ true → IfSome (slice_get trans.running 0) (λ t. All (λ u. t ≤ u) trans.running)
least_first trans h = first (trans.running) (sound trans h).rises
  where
    first : (ids : List ℕ) → rises_within 3 trans.next ids ≡ true → IfSome (slice_get ids 0) (λ t. All (λ u. t ≤ u) ids)
    first [] h = tt
    first (t ∷ ts) h = All-from_get_or (λ u. t ≤ u) (t ∷ ts) 0 (λ k within. rising-ordered 3 trans.next (t ∷ ts) h 0 k (omega arith) within)

-- no running id is 0
pub running_above_0 : (trans : TransView) → is_trans trans ≡ true → rises_within 1 trans.next trans.running ≡ true
running_above_0 trans h = rising-wider 3 trans.next 1 trans.next trans.running (omega arith) (omega arith) (sound trans h).rises

-- a search finds exactly what is running
pub runs_by_search : (trans : TransView) (t : ℕ) (r : Result ℕ ℕ) → is_trans trans ≡ true → IsBinarySearchResult (λ y. nat_cmp y t) trans.running r → is_ok r ≡ contains t trans.running
runs_by_search trans t r h position = is_ok-found trans.running t r (found 3 trans.next trans.running t r (sound trans h).rises position)

-- the item that a search found is the id that is removed
pub found_is_ended : (trans : TransView) (t place : ℕ) (r : Result ℕ ℕ) → is_trans trans ≡ true → IsBinarySearchResult (λ y. nat_cmp y t) trans.running r → r ≡ Ok place → remove trans.running place ≡ filter (λ u. not (u == t)) trans.running
found_is_ended trans t place r h position is =
    let rises = (sound trans h).rises in
    let at = MatchResult-at_ok _ _ place is (found 3 trans.next trans.running t r rises position) in
    remove-filter 3 trans.next t trans.running place rises at.0 at.1

-- if a search finds nothing, nothing is removed
pub not_found_stays : (trans : TransView) (t place : ℕ) (r : Result ℕ ℕ) → is_trans trans ≡ true → IsBinarySearchResult (λ y. nat_cmp y t) trans.running r → r ≡ Err place → trans ≡ record trans { running = filter (λ u. not (u == t)) trans.running }
not_found_stays trans t place r h position is =
    let absent : contains t trans.running ≡ false = sym (runs_by_search trans t r h position) ∙ ap is_ok is in
    ap (λ (ids : List ℕ). record trans { running = ids }) (sym (filter_absent t trans.running absent))
