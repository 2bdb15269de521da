-- What a name finds among values that are kept under names.
use Rattle.std.proofs.Common.{◌≡◌, ◌≢◌, ℕ, zero, suc, ◌<◌, List, [], ◌∷◌, ◌++◌, Bool, true, false, Option, Some, None, length, get_or, slice_get, slice_set, option_and_then, bytes_eq, refl, sym, ◌∙◌, ap, arith, if◌then◌else◌}
use Rattle.std.specs.Option.{option_or}
use Rattle.std.proofs.lemmas.Option.{same_Some, slice_get_read}
use Rattle.sky_names.specs.Places.{place_of}
use Rattle.sky_names.specs.Named.{NamedView, with_value, value_of}
use Rattle.sky_names.proofs.PlaceLemmas.{bytes_eq_refl, same_name, place_of_within, slice_get-place_of, place_of-append}

module _ {V : Type 0} where
  outside : (xs : List V) (i : ℕ) → i < length xs → slice_get xs i ≡ None → ⊥
  outside [] i lt e = omega arith
  outside (x ∷ xs) zero lt e = cc
  outside (x ∷ xs) (suc i) lt e = outside xs i (omega arith) e

  -- a name that has no value has no place
  pub place_of-none : (n : NamedView V) (key : List ℕ) → length n.values ≡ length n.names → value_of key n ≡ None → place_of key n.names ≡ None
  place_of-none n key count none = by (place_of key n.names) refl
    where
      by : (found : Option ℕ) → place_of key n.names ≡ found → found ≡ None
      by None at = refl
      by (Some p) at = absurd (outside n.values p (omega (arith, count, place_of_within key n.names p at)) (sym (ap (option_and_then (slice_get n.values)) at) ∙ none))

  -- a name that has a place has the value there
  pub value_of-there : (n : NamedView V) (key : List ℕ) (place : ℕ) (value : V) → Some place ≡ place_of key n.names → place < length n.values → value ≡ get_or n.values place value → value_of key n ≡ Some value
  value_of-there n key place value is lt at = ap (option_and_then (slice_get n.values)) (sym is) ∙ slice_get_read n.values (length n.values) place value refl lt at

  set_there : (xs : List V) (i : ℕ) (x : V) → i < length xs → slice_get (slice_set xs i x) i ≡ Some x
  set_there [] i x lt = absurd (omega arith)
  set_there (y ∷ xs) zero x lt = refl
  set_there (y ∷ xs) (suc i) x lt = set_there xs i x (omega arith)

  set_elsewhere : (xs : List V) (i p : ℕ) (x : V) → i ≢ p → slice_get (slice_set xs i x) p ≡ slice_get xs p
  set_elsewhere [] i p x apart = refl
  set_elsewhere (y ∷ xs) zero zero x apart = absurd (apart refl)
  set_elsewhere (y ∷ xs) zero (suc p) x apart = refl
  set_elsewhere (y ∷ xs) (suc i) zero x apart = refl
  set_elsewhere (y ∷ xs) (suc i) (suc p) x apart = set_elsewhere xs i p x (λ e. apart (ap suc e))

  -- a value in place of another is found by its name, and each other name finds what it found
  pub value_of-with_value : (n : NamedView V) (key : List ℕ) (place : ℕ) (value : V) → place_of key n.names ≡ Some place → place < length n.values
      → (name : List ℕ) → value_of name (with_value n place value) ≡ (if bytes_eq name key then Some value else value_of name n)
  value_of-with_value n key place value is lt name = by (bytes_eq name key) refl (place_of name n.names) refl
    where
      by : (b : Bool) → bytes_eq name key ≡ b → (found : Option ℕ) → place_of name n.names ≡ found
          → option_and_then (slice_get (slice_set n.values place value)) found ≡ (if b then Some value else option_and_then (slice_get n.values) found)
      by true same found at =
          ap (option_and_then (slice_get (slice_set n.values place value))) (sym at ∙ ap (λ m. place_of m n.names) (same_name name key same) ∙ is) ∙ set_there n.values place value lt
      by false other None at = refl
      by false other (Some p) at = set_elsewhere n.values place p value
          (λ one.
          let alike : key ≡ name = same_Some key name (sym (slice_get-place_of key n.names place is) ∙ ap (slice_get n.names) one ∙ slice_get-place_of name n.names p at) in
          let equal : bytes_eq name key ≡ true = ap (bytes_eq name) alike ∙ bytes_eq_refl name in
          absurd (cc))

  pushed_there : (xs : List V) (x : V) → slice_get (xs ++ x ∷ []) (length xs) ≡ Some x
  pushed_there [] x = refl
  pushed_there (y ∷ xs) x = pushed_there xs x

  pushed_elsewhere : (xs : List V) (x : V) (p : ℕ) → p < length xs → slice_get (xs ++ x ∷ []) p ≡ slice_get xs p
  pushed_elsewhere [] x p lt = absurd (omega arith)
  pushed_elsewhere (y ∷ xs) x zero lt = refl
  pushed_elsewhere (y ∷ xs) x (suc p) lt = pushed_elsewhere xs x p (omega arith)

  -- and so it is with one of a new name
  pub value_of-added : (n : NamedView V) (key : List ℕ) (value : V) → length n.values ≡ length n.names → value_of key n ≡ None
      → (name : List ℕ) → value_of name (record { names = n.names ++ key ∷ []; values = n.values ++ value ∷ [] }) ≡ (if bytes_eq name key then Some value else value_of name n)
  value_of-added n key value count none name =
      ap (option_and_then (slice_get (n.values ++ value ∷ []))) (place_of-append name n.names key) ∙ by (bytes_eq name key) refl (place_of name n.names) refl
    where
      by : (b : Bool) → bytes_eq name key ≡ b → (found : Option ℕ) → place_of name n.names ≡ found
          → option_and_then (slice_get (n.values ++ value ∷ [])) (option_or found (if b then Some (length n.names) else None)) ≡ (if b then Some value else option_and_then (slice_get n.values) found)
      by true same None at = ap (slice_get (n.values ++ value ∷ [])) (sym count) ∙ pushed_there n.values value
      by true same (Some p) at =
          let known : None ≡ Some p = sym (place_of-none n key count none) ∙ ap (λ m. place_of m n.names) (sym (same_name name key same)) ∙ at in
          absurd (cc)
      by false other None at = refl
      by false other (Some p) at = pushed_elsewhere n.values value p (omega (arith, count, place_of_within name n.names p at))
