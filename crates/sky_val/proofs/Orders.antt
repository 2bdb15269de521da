-- The order of values, and of keys, ties only equal ones, and so does `==`.
use Rattle.std.proofs.Common.{refl, ap}
use Rattle.std.specs.FinMap.{IsAntisymmetric, nat_cmp-IsAntisymmetric, int_cmp-IsAntisymmetric, slice_cmp-IsAntisymmetric}
use Rattle.sky_val.specs.declared.val.Val.TheVariants.{Null, Int, Text}
use Rattle.sky_val.specs.Order.{val_cmp, key_cmp}
pub use Rattle.sky_val.specs.OrderLaws.{val_cmp-IsTotalOrder, key_cmp-IsTotalOrder}

pub val_cmp-IsAntisymmetric : IsAntisymmetric val_cmp
val_cmp-IsAntisymmetric Null Null e = refl
val_cmp-IsAntisymmetric Null (Int n) e = absurd (cc e)
val_cmp-IsAntisymmetric Null (Text t) e = absurd (cc e)
val_cmp-IsAntisymmetric (Int m) Null e = absurd (cc e)
val_cmp-IsAntisymmetric (Int m) (Int n) e = ap (λ k. Int k) (int_cmp-IsAntisymmetric m n e)
val_cmp-IsAntisymmetric (Int m) (Text t) e = absurd (cc e)
val_cmp-IsAntisymmetric (Text s) Null e = absurd (cc e)
val_cmp-IsAntisymmetric (Text s) (Int n) e = absurd (cc e)
val_cmp-IsAntisymmetric (Text s) (Text t) e = ap (λ b. Text b) (slice_cmp-IsAntisymmetric nat_cmp-IsAntisymmetric s t e)

pub key_cmp-IsAntisymmetric : IsAntisymmetric key_cmp
key_cmp-IsAntisymmetric = slice_cmp-IsAntisymmetric val_cmp-IsAntisymmetric
