-- The bits that record which transactions have written in a table.
use Rattle.std.proofs.Common.{◌≡◌, ℕ, zero, suc, ◌<◌, ◌≤◌, ◌^◌, List, Bool, true, false, cond, bit_or, unwrap_or, Option, Some, None, refl, sym, IsSome, subst, ◌∙◌, ap, arith}
use Rattle.std.specs.Prelude.{◌||◌, ◌&&◌, ◌==◌}
use Prim.Native.Nat.{max}
use Rattle.std.specs.Int.{bit_at}
use Rattle.std.specs.Map.{lookup, set_value}
use Rattle.std.specs.BTreeMap.{is_at}
use Rattle.std.specs.Ordering.{nat_cmp}
use Rattle.std.specs.Option.{option_map_or}
use Rattle.std.specs.Cmp.{unsigned_tied, IsEquivalence}
use Rattle.std.proofs.lemmas.Cmp.{nat_eq_equiv}
use Rattle.std.proofs.lemmas.Map.{lookup-set_value}
use Rattle.std.proofs.lemmas.Bool.Decides.{nat_tests}
use Rattle.std.proofs.lemmas.Nat.Bits.{bit_at_or, bit_at-pow_same, bit_at-pow_other, bit_at-zero, bit_at-lt, bit_at_above}
use Rattle.sky_state.specs.Seen.{wrote_in}

-- a bit after the last one isn't set
pub behind : (tables table : ℕ) → tables < 2 ^ 64 → 64 ≤ table → false ≡ (bit_at tables table == 1)
behind tables table fits past = ap (λ b. b == 1) (sym (bit_at_above tables 64 table fits past))

-- a number whose one bit is the table's
one-set : (table n : ℕ) → (bit_at (2 ^ table) n == 1) ≡ (table == n)
one-set table n = of (table == n) refl
  where
    of : (b : Bool) → (table == n) ≡ b → (bit_at (2 ^ table) n == 1) ≡ b
    of true e = (let same : table ≡ n = grind (arith, nat_tests) in ap (λ m. bit_at (2 ^ table) m == 1) (sym same) ∙ ap (λ b. b == 1) (bit_at-pow_same table))
    of false e = ap (λ b. b == 1) (bit_at-pow_other table n (λ same. absurd (grind (arith, nat_tests))))

-- with the bit of a table set
more-set : (tables table n : ℕ) → (bit_at (bit_or tables (2 ^ table)) n == 1) ≡ ((table == n) || (bit_at tables n == 1))
more-set tables table n = ap (λ b. b == 1) (bit_at_or tables (2 ^ table) n) ∙ of (bit_at tables n) (bit_at (2 ^ table) n) (bit_at-lt tables n) (bit_at-lt (2 ^ table) n) ∙ ap (λ b. b || (bit_at tables n == 1)) (one-set table n)
  where
    of : (x y : ℕ) → x < 2 → y < 2 → (max x y == 1) ≡ ((y == 1) || (x == 1))
    of zero zero a b = refl
    of zero (suc zero) a b = refl
    of (suc zero) zero a b = refl
    of (suc zero) (suc zero) a b = refl
    of (suc (suc x)) y a b = absurd (omega arith)
    of zero (suc (suc y)) a b = absurd (omega arith)
    of (suc zero) (suc (suc y)) a b = absurd (omega arith)

abbrev is_set : ℕ → Option ℕ → Bool
is_set n o = option_map_or (λ tables. bit_at tables n == 1) o false

bits-kept : (n : ℕ) (o : Option ℕ) → is_set n o ≡ (bit_at (unwrap_or o 0) n == 1)
bits-kept n None = ap (λ b. b == 1) (sym (bit_at-zero n))
bits-kept n (Some bits) = refl

here : (old : List (ℕ × ℕ)) (txid bits n t : ℕ) → bits ≡ unwrap_or (lookup (is_at (nat_cmp txid)) old) 0 → (txid == t) ≡ true → wrote_in old n t ≡ (bit_at bits n == 1)
here old txid bits n t is e =
    let same : txid ≡ t = grind (arith, nat_tests) in
    ap (wrote_in old n) (sym same) ∙ bits-kept n (lookup (is_at (nat_cmp txid)) old) ∙ ap (λ m. bit_at m n == 1) (sym is)

-- a transaction has written in one more table
pub added : (old new : List (ℕ × ℕ)) (table txid bits bit : ℕ) → bits ≡ unwrap_or (lookup (is_at (nat_cmp txid)) old) 0 → bit ≡ 2 ^ table
    → ((t : ℕ) → lookup (is_at (nat_cmp t)) new ≡ cond (is_at (nat_cmp txid) t) (Some (bit_or bits bit)) (lookup (is_at (nat_cmp t)) old))
    → (n t : ℕ) → wrote_in new n t ≡ ((table == n && txid == t) || wrote_in old n t)
added old new table txid bits bit had one is n t =
    ap (is_set n) (is t ∙ ap (λ b. cond b (Some (bit_or bits bit)) (lookup (is_at (nat_cmp t)) old)) (unsigned_tied txid t)) ∙ of (txid == t) refl (table == n) refl
  where
    of : (b : Bool) → (txid == t) ≡ b → (c : Bool) → (table == n) ≡ c → is_set n (cond b (Some (bit_or bits bit)) (lookup (is_at (nat_cmp t)) old)) ≡ ((c && b) || wrote_in old n t)
    of true e true f = ap (λ m. bit_at (bit_or bits m) n == 1) one ∙ more-set bits table n ∙ ap (λ b. b || (bit_at bits n == 1)) f
    of true e false f = ap (λ m. bit_at (bit_or bits m) n == 1) one ∙ more-set bits table n ∙ ap (λ b. b || (bit_at bits n == 1)) f ∙ sym (here old txid bits n t had e)
    of false e true f = refl
    of false e false f = refl

-- what is found after the value of a key that is there was set
pub found-set : (k bits : ℕ) (es : List (ℕ × ℕ)) → IsSome (lookup (is_at (nat_cmp k)) es) → (t : ℕ)
    → lookup (is_at (nat_cmp t)) (set_value (is_at (nat_cmp k)) es bits) ≡ cond (is_at (nat_cmp k) t) (Some bits) (lookup (is_at (nat_cmp t)) es)
found-set k bits es there t = lookup-set_value laws (is_at (nat_cmp k)) alike t bits es there
  where
    laws : IsEquivalence (λ x y. is_at (nat_cmp x) y)
    laws = subst IsEquivalence (λ i x y. sym (unsigned_tied x y) i) nat_eq_equiv

    alike : (x y : ℕ) → is_at (nat_cmp k) x ≡ true → is_at (nat_cmp k) y ≡ is_at (nat_cmp x) y
    alike x y hit =
        let tied : (k == x) ≡ true = sym (unsigned_tied k x) ∙ hit in
        let same : k ≡ x = grind (arith, nat_tests) in
        ap (λ m. is_at (nat_cmp m) y) same
