-- The order of values, and of the keys that are lists of them.
use Rattle.std.specs.Prelude.{List}
use Rattle.std.specs.declared.cmp.Ordering.{Ordering}
use Rattle.std.specs.declared.cmp.Ordering.TheVariants.{Less, Equal, Greater}
use Rattle.std.specs.Ordering.{nat_cmp, int_cmp}
use Rattle.std.specs.Cmp.Lexicographic.{slice_cmp}
use Rattle.sky_val.specs.declared.val.Val.{Val}
use Rattle.sky_val.specs.declared.val.Val.TheVariants.{Null, Int, Text}

-- Null comes first, then the numbers by value, then the texts by bytes
abbrev pub val_cmp : Val → Val → Ordering
val_cmp Null Null = Equal
val_cmp Null (Int n) = Less
val_cmp Null (Text t) = Less
val_cmp (Int m) Null = Greater
val_cmp (Int m) (Int n) = int_cmp m n
val_cmp (Int m) (Text t) = Less
val_cmp (Text s) Null = Greater
val_cmp (Text s) (Int n) = Greater
val_cmp (Text s) (Text t) = slice_cmp nat_cmp s t

-- value by value, and a key comes before the longer ones that begin with it
abbrev pub key_cmp : List Val → List Val → Ordering
key_cmp = slice_cmp val_cmp
