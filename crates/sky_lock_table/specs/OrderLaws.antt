-- The order of all keys is total, and ties exactly those that `==` holds of: the laws of its impls.
use Rattle.std.proofs.Common.{◌≡◌, ℕ, true, false, refl, sym, ◌∙◌, ap}
use Rattle.std.specs.Prelude.{◌==◌, ◌&&◌}
use Rattle.std.specs.declared.cmp.Ordering.{Ordering}
use Rattle.std.specs.declared.cmp.Ordering.TheVariants.{Less, Equal, Greater}
use Rattle.std.specs.Ordering.{nat_cmp, is_eq, eq_by_cmp, ordering_then}
use Rattle.std.specs.Cmp.{IsTotalOrder, on_total, then_total, nat_cmp_total, tied_itself, Equal-is}
use Rattle.std.specs.FinMap.{nat_cmp-IsAntisymmetric}
use Rattle.std.proofs.lemmas.Bool.{eqb-true, eq-eqb}
use Rattle.sky_val.specs.Order.{key_cmp}
use Rattle.sky_val.specs.OrderLaws.{key_cmp-IsTotalOrder, key_eq-ties}
use Rattle.sky_lock_table.specs.declared.lock_key.LockKey.{LockKey}
use Rattle.sky_lock_table.specs.contracts.lock_key.LockKeyPartialEq.TheImpl as equality
use Rattle.sky_lock_table.specs.Order.{lock_cmp}

pub lock_cmp-IsTotalOrder : IsTotalOrder lock_cmp
lock_cmp-IsTotalOrder = then_total (on_total (λ (k : LockKey). k.table) nat_cmp_total) (on_total (λ (k : LockKey). k.key) key_cmp-IsTotalOrder)

pub is_eq-then : (a b : Ordering) → is_eq (ordering_then a b) ≡ (is_eq a && is_eq b)
is_eq-then Less b = refl
is_eq-then Equal b = refl
is_eq-then Greater b = refl

-- two numbers are equal if their order ties them
pub nat_ties : (m n : ℕ) → is_eq (nat_cmp m n) ≡ (m == n)
nat_ties m n = elim (m == n) as (λ b. (m == n) ≡ b → is_eq (nat_cmp m n) ≡ b) [
  | true ↦ λ e. ap (λ k. is_eq (nat_cmp m k)) (sym (eqb-true m n e)) ∙ ap is_eq (tied_itself nat_cmp_total m)
  | false ↦ λ e. elim (is_eq (nat_cmp m n)) as (λ b. is_eq (nat_cmp m n) ≡ b → b ≡ false) [
    | true ↦ λ tie. sym (eq-eqb m n (nat_cmp-IsAntisymmetric m n ((Equal-is (nat_cmp m n)).0 tie))) ∙ e
    | false ↦ λ _. refl
  ] refl
] refl

-- what `==` holds of is what the order ties
pub lock_eq-ties : (x y : LockKey) → equality.ghosts.eq x y ≡ eq_by_cmp lock_cmp x y
lock_eq-ties x y =
    ap (λ b. x.table == y.table && b) (key_eq-ties x.key y.key)
    ∙ ap (λ b. b && eq_by_cmp key_cmp x.key y.key) (sym (nat_ties x.table y.table))
    ∙ sym (is_eq-then (nat_cmp x.table y.table) (key_cmp x.key y.key))
