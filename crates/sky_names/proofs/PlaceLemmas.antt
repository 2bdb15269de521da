-- What holds of the place of a name, and of two names that are equal by their bytes.
use Rattle.std.proofs.Common.{◌≡◌, ℕ, ◌+◌, ◌<◌, suc, zero, Bool, true, false, cond, if◌then◌else◌, List, [], ◌∷◌, ◌++◌, length, Option, Some, None, IfSome, option_map, position, slice_get, get_or, bytes_eq, is_some, not, ltb, ◌||◌, ◌⊎◌, refl, sym, ap, ◌∙◌, inl, inr, arith}
use Rattle.std.specs.List.{list_any, position_or_len}
use Rattle.std.specs.Option.{option_or}
use Rattle.std.proofs.lemmas.Bool.Decides.{nat_tests}
use Rattle.std.proofs.lemmas.Cmp.{nat_list_eq_equiv}
use Rattle.std.proofs.lemmas.Map.Keys.{IsDistinct-tail, apart_from_distinct}
use Rattle.std.proofs.lemmas.Option.{get_or_from_slice_get, slice_get_within}
use Rattle.std.proofs.lemmas.Slice.Eq.{bytes_eq-Decides}
use Rattle.sky_names.specs.Places.{place_of, Distinct}

-- a name equals itself
pub bytes_eq_refl : (name : List ℕ) → bytes_eq name name ≡ true
bytes_eq_refl name = (bytes_eq-Decides name name).1 refl

-- and the test is symmetric
pub bytes_eq_sym : (one other : List ℕ) → bytes_eq one other ≡ bytes_eq other one
bytes_eq_sym one other = nat_list_eq_equiv.symm one other

-- names that are equal by their bytes are one name
pub same_name : (one other : List ℕ) → bytes_eq one other ≡ true → one ≡ other
same_name one other = (bytes_eq-Decides one other).0

-- a name in a list is its first one, or is in the rest, one place later
pub place_of-cons : (key first : List ℕ) (names : List (List ℕ)) (place : ℕ) → place_of key (first ∷ names) ≡ Some place
    → ((bytes_eq key first ≡ true) × (place ≡ 0)) ⊎ ((bytes_eq key first ≡ false) × ((before : ℕ) × (place_of key names ≡ Some before) × (place ≡ suc before)))
place_of-cons key first names place = by (bytes_eq key first) (place_of key names)
  where
    by : (b : Bool) (rest : Option ℕ) → (if b then Some 0 else option_map (λ n. n + 1) rest) ≡ Some place
        → ((b ≡ true) × (place ≡ 0)) ⊎ ((b ≡ false) × ((before : ℕ) × (rest ≡ Some before) × (place ≡ suc before)))
    by true rest is = inl (refl, grind arith)
    by false None is = absurd (cc)
    by false (Some before) is = inr (refl, (before, refl, grind arith))

-- a place is within the list
pub place_of_within : (key : List ℕ) (names : List (List ℕ)) (place : ℕ) → place_of key names ≡ Some place → place < length names
place_of_within key [] place is = absurd (cc)
place_of_within key (first ∷ names) place is =
    elim (place_of-cons key first names place is) [
      | inl head ↦ omega arith
      | inr (_, (before, at, later)) ↦ omega (arith, place_of_within key names before at)
    ]

-- so a place that is found is within it
pub found_within : (key : List ℕ) (names : List (List ℕ)) (found : Option ℕ) → found ≡ place_of key names → IfSome found (λ place. place < length names)
found_within key names None is = tt
found_within key names (Some place) is = place_of_within key names place (sym is)

-- and so is one that may be found
pub may_be_within : (key : List ℕ) (names : List (List ℕ)) (found : Option ℕ) → IfSome found (λ place. place_of key names ≡ Some place) → IfSome found (λ place. place < length names)
may_be_within key names None is = tt
may_be_within key names (Some place) is = place_of_within key names place is

-- and the name is there
pub slice_get-place_of : (key : List ℕ) (names : List (List ℕ)) (place : ℕ) → place_of key names ≡ Some place → slice_get names place ≡ Some key
slice_get-place_of key [] place is = absurd (cc)
slice_get-place_of key (first ∷ names) place is =
    elim (place_of-cons key first names place is) [
      | inl (equal, head) ↦ ap (slice_get (first ∷ names)) head ∙ ap Some (sym (same_name key first equal))
      | inr (_, (before, at, later)) ↦ ap (slice_get (first ∷ names)) later ∙ slice_get-place_of key names before at
    ]

-- a name that is appended has the first free place, unless it was in the list before
pub place_of-append : (key : List ℕ) (names : List (List ℕ)) (last : List ℕ)
    → place_of key (names ++ last ∷ []) ≡ option_or (place_of key names) (if bytes_eq key last then Some (length names) else None)
place_of-append key [] last = by (bytes_eq key last)
  where
    by : (b : Bool) → (if b then Some 0 else option_map (λ n. n + 1) None) ≡ (if b then Some 0 else None)
    by true = refl
    by false = refl
place_of-append key (first ∷ names) last = by (bytes_eq key first) (place_of key names) (bytes_eq key last) (place_of-append key names last)
  where
    by : (b : Bool) (before : Option ℕ) (l : Bool) → place_of key (names ++ last ∷ []) ≡ option_or before (if l then Some (length names) else None)
        → (if b then Some 0 else option_map (λ n. n + 1) (place_of key (names ++ last ∷ [])))
        ≡ option_or (if b then Some 0 else option_map (λ n. n + 1) before) (if l then Some (length (first ∷ names)) else None)
    by true before l rest = refl
    by false (Some place) l rest = ap (option_map (λ n. n + 1)) rest
    by false None true rest = ap (option_map (λ n. n + 1)) rest ∙ ap Some (omega arith)
    by false None false rest = ap (option_map (λ n. n + 1)) rest

-- the place is what std calls the position
pub place_of-position : (key : List ℕ) (names : List (List ℕ)) → place_of key names ≡ position (bytes_eq key) names
place_of-position key [] = refl
place_of-position key (first ∷ names) = by (bytes_eq key first) (position_or_len (bytes_eq key) names) (place_of-position key names)
  where
    by : (b : Bool) (n : ℕ) → place_of key names ≡ cond (ltb n (length names)) (Some n) None
        → (if b then Some 0 else option_map (λ n. n + 1) (place_of key names))
        ≡ cond (ltb (cond (not b) (1 + n) 0) (length (first ∷ names))) (Some (cond (not b) (1 + n) 0)) None
    by true n rest = grind (arith, nat_tests)
    by false n rest = grind (arith, nat_tests, rest)

-- a name has a place if some name of the list equals it
pub list_any-place_of : (key : List ℕ) (names : List (List ℕ)) → list_any (bytes_eq key) names ≡ is_some (place_of key names)
list_any-place_of key [] = refl
list_any-place_of key (first ∷ names) = by (bytes_eq key first) (place_of key names) (list_any-place_of key names)
  where
    by : (b : Bool) (rest : Option ℕ) → list_any (bytes_eq key) names ≡ is_some rest
        → (b || list_any (bytes_eq key) names) ≡ is_some (if b then Some 0 else option_map (λ n. n + 1) rest)
    by true rest is = refl
    by false None is = is
    by false (Some place) is = is

-- if names are distinct, each is found at the place where it is
pub place_of-Distinct : (names : List (List ℕ)) (place : ℕ) (name : List ℕ) → Distinct names → slice_get names place ≡ Some name → place_of name names ≡ Some place
place_of-Distinct [] place name distinct at = absurd (cc)
place_of-Distinct (first ∷ names) zero name distinct at =
    let equal : name ≡ first = cc in
    let found : bytes_eq name first ≡ true = (bytes_eq-Decides name first).1 equal in
    ap (λ b. if b then Some 0 else option_map (λ n. n + 1) (place_of name names)) found
place_of-Distinct (first ∷ names) (suc before) name distinct at =
    let within : before < length names = slice_get_within names before name at in
    let apart : bytes_eq first (get_or names before name) ≡ false = apart_from_distinct bytes_eq (first ∷ names) 0 (suc before) name distinct (omega arith) (omega arith) in
    let other : bytes_eq name first ≡ false = bytes_eq_sym name first ∙ ap (bytes_eq first) (sym (get_or_from_slice_get names before name name at)) ∙ apart in
    let rest : place_of name names ≡ Some before = place_of-Distinct names before name (IsDistinct-tail bytes_eq first names distinct) at in
    ap (λ b. if b then Some 0 else option_map (λ n. n + 1) (place_of name names)) other ∙ ap (option_map (λ n. n + 1)) rest ∙ ap Some (omega arith)
