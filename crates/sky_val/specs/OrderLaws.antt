-- The order of values, and of keys, is total, and ties exactly those that `==` holds of: the laws of their impls.
use Rattle.std.specs.Prelude.{◌≡◌, ℕ, ℤ, pos, List, [], refl}
use Rattle.std.proofs.Common.{subst}
use Rattle.std.specs.declared.cmp.Ordering.{Ordering}
use Rattle.std.specs.declared.cmp.Ordering.TheVariants.{Less, Equal, Greater}
use Rattle.std.specs.Ordering.{nat_cmp, int_cmp, ordering_then, on, then_cmp, eq_by_cmp}
use Rattle.std.specs.Cmp.{IsTotalOrder, on_total, then_total, nat_cmp_total, int_cmp_total}
use Rattle.std.specs.Cmp.Lexicographic.{pointwise, slice_cmp, lists_total, lists_ties, nat_list_cmp_total, texts_ties}
use Rattle.sky_val.specs.declared.val.Val.{Val}
use Rattle.sky_val.specs.declared.val.Val.TheVariants.{Null, Int, Text}
use Rattle.sky_val.specs.contracts.val.ValPartialEq.TheImpl as equality
use Rattle.sky_val.specs.Order.{val_cmp, key_cmp}

-- which kind of value comes first
abbrev kind_place : Val → ℕ
kind_place Null = 0
kind_place (Int n) = 1
kind_place (Text t) = 2

abbrev number_of : Val → ℤ
number_of Null = pos 0
number_of (Int n) = n
number_of (Text t) = pos 0

abbrev bytes_of : Val → List ℕ
bytes_of Null = []
bytes_of (Int n) = []
bytes_of (Text t) = t

-- by kind, then by number, then by bytes
abbrev in_turn : Val → Val → Ordering
in_turn = then_cmp (on kind_place nat_cmp) (then_cmp (on number_of int_cmp) (on bytes_of (slice_cmp nat_cmp)))

then-Equal : (o : Ordering) → ordering_then o Equal ≡ o
then-Equal Less = refl
then-Equal Equal = refl
then-Equal Greater = refl

in_turn-val_cmp : (x y : Val) → in_turn x y ≡ val_cmp x y
in_turn-val_cmp Null Null = refl
in_turn-val_cmp Null (Int n) = refl
in_turn-val_cmp Null (Text t) = refl
in_turn-val_cmp (Int m) Null = refl
in_turn-val_cmp (Int m) (Int n) = then-Equal (int_cmp m n)
in_turn-val_cmp (Int m) (Text t) = refl
in_turn-val_cmp (Text s) Null = refl
in_turn-val_cmp (Text s) (Int n) = refl
in_turn-val_cmp (Text s) (Text t) = refl

pub val_cmp-IsTotalOrder : IsTotalOrder val_cmp
val_cmp-IsTotalOrder =
    let total : IsTotalOrder in_turn = then_total (on_total kind_place nat_cmp_total) (then_total (on_total number_of int_cmp_total) (on_total bytes_of nat_list_cmp_total)) in
    subst IsTotalOrder (λ i x y. in_turn-val_cmp x y i) total

pub key_cmp-IsTotalOrder : IsTotalOrder key_cmp
key_cmp-IsTotalOrder = lists_total val_cmp-IsTotalOrder

-- values are equal if the order ties them
pub val_eq-ties : (x y : Val) → equality.ghosts.eq x y ≡ eq_by_cmp val_cmp x y
val_eq-ties Null Null = refl
val_eq-ties Null (Int n) = refl
val_eq-ties Null (Text t) = refl
val_eq-ties (Int m) Null = refl
val_eq-ties (Int m) (Int n) = refl
val_eq-ties (Int m) (Text t) = refl
val_eq-ties (Text s) Null = refl
val_eq-ties (Text s) (Int n) = refl
val_eq-ties (Text s) (Text t) = texts_ties s t

pub key_eq-ties : (xs ys : List Val) → pointwise equality.ghosts.eq xs ys ≡ eq_by_cmp key_cmp xs ys
key_eq-ties = lists_ties val_cmp val_eq-ties
