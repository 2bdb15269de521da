-- What is at a key after something was put at a key, and that entries in order differ if what is at their keys does.
use Rattle.std.proofs.Common.{◌≡◌, Bool, true, false, cond, T, List, Some, refl, sym, subst}
use Rattle.std.specs.Ordering.{eq_by_cmp}
use Rattle.std.specs.FinMap.Entries as entry
use Rattle.sky_val.specs.declared.val.Val.{Val}
use Rattle.sky_val.specs.Order.{key_cmp}
use Rattle.sky_val.specs.Entries.{Entries, at, put, is_in_order}
use Rattle.sky_val.proofs.Orders.{key_cmp-IsTotalOrder, key_cmp-IsAntisymmetric}

pub at-put : {X : Type 0} (asked key : List Val) (item : X) (entries : Entries X) → at asked (put key item entries) ≡ cond (eq_by_cmp key_cmp asked key) (Some item) (at asked entries)
at-put = entry.find-put key_cmp key_cmp-IsTotalOrder

from_T : (b : Bool) → T b → b ≡ true
from_T true h = refl
from_T false h = absurd h

to_T : (b : Bool) → b ≡ true → T b
to_T b h = subst T (sym h) tt

pub is_in_order-put : {X : Type 0} (key : List Val) (item : X) (entries : Entries X) → is_in_order entries ≡ true → is_in_order (put key item entries) ≡ true
is_in_order-put key item entries order = from_T _ (entry.is_sorted-put key_cmp key_cmp-IsTotalOrder key item entries (to_T _ order))

pub same_entries : {X : Type 0} (these those : Entries X) → is_in_order these ≡ true → is_in_order those ≡ true → ((key : List Val) → at key these ≡ at key those) → these ≡ those
same_entries these those one other alike = entry.same_entries key_cmp key_cmp-IsTotalOrder key_cmp-IsAntisymmetric these those (to_T _ one) (to_T _ other) alike
