-- What the order ties is the same.
use Rattle.std.proofs.Common.{◌≡◌, ℕ, true, sym, ◌∙◌, ap}
use Rattle.std.specs.Prelude.{◌&&◌}
use Rattle.std.specs.Ordering.{nat_cmp, is_eq, eq_by_cmp}
use Rattle.std.specs.Cmp.{eq_by_cmp_equiv, tied_itself, Equal-is}
use Rattle.std.specs.FinMap.{nat_cmp-IsAntisymmetric}
use Rattle.std.proofs.lemmas.Bool.{and_parts}
use Rattle.sky_val.specs.Order.{key_cmp}
use Rattle.sky_keys.specs.Waits.{is_same_key}
use Rattle.sky_val.proofs.Orders.{key_cmp-IsAntisymmetric}
use Rattle.sky_lock_table.specs.declared.lock_key.LockKey.{LockKey}
use Rattle.sky_lock_table.specs.Order.{lock_cmp}
use Rattle.sky_lock_table.specs.OrderLaws.{is_eq-then}
pub use Rattle.sky_lock_table.specs.OrderLaws.{lock_cmp-IsTotalOrder, lock_eq-ties, nat_ties}

pub tie_is : (a b : ℕ) → eq_by_cmp nat_cmp a b ≡ true → a ≡ b
tie_is a b tie = nat_cmp-IsAntisymmetric a b ((Equal-is (nat_cmp a b)).0 tie)

-- the same key of the same table is what the order ties
pub is_same_key-ties : (x y : LockKey) → is_same_key x.table x.key y.table y.key ≡ eq_by_cmp lock_cmp x y
is_same_key-ties x y = ap (λ b. b && eq_by_cmp key_cmp x.key y.key) (sym (nat_ties x.table y.table)) ∙ sym (is_eq-then (nat_cmp x.table y.table) (key_cmp x.key y.key))

pub lock_ties-is : (x y : LockKey) → eq_by_cmp lock_cmp x y ≡ true → x ≡ y
lock_ties-is x y tie =
    let parts = and_parts (is_eq (nat_cmp x.table y.table)) (is_eq (key_cmp x.key y.key)) (sym (is_eq-then (nat_cmp x.table y.table) (key_cmp x.key y.key)) ∙ tie) in
    let tables : x.table ≡ y.table = nat_cmp-IsAntisymmetric x.table y.table ((Equal-is (nat_cmp x.table y.table)).0 parts.0) in
    let keys : x.key ≡ y.key = key_cmp-IsAntisymmetric x.key y.key ((Equal-is (key_cmp x.key y.key)).0 parts.1) in
    λ i. record { table = tables i; key = keys i }

pub lock_ties-symm : (x y : LockKey) → eq_by_cmp lock_cmp x y ≡ eq_by_cmp lock_cmp y x
lock_ties-symm = (eq_by_cmp_equiv lock_cmp-IsTotalOrder).symm

pub lock_ties-itself : (x : LockKey) → eq_by_cmp lock_cmp x x ≡ true
lock_ties-itself x = ap is_eq (tied_itself lock_cmp-IsTotalOrder x)
