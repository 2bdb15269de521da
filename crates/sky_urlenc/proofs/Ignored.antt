-- Which updates a trigger ignores, column by column.
use Rattle.std.proofs.Common.{◌≡◌, ℕ, Bool, true, false, ◌⊎◌, inl, inr, List, [], ◌∷◌, length, bytes_eq, refl, nat_lt, arith}
use Rattle.std.proofs.lemmas.Bool.Decides.{nat_tests}
use Rattle.std.specs.Prelude.{◌&&◌, ◌||◌}
use Rattle.std.specs.List.{list_any, list_all}
use Rattle.std.specs.Ordering.{eq_by_cmp}
use Rattle.sky_val.specs.declared.val.Val.{Val}
use Rattle.sky_val.specs.declared.column.Column.{Column}
use Rattle.sky_val.specs.Order.{val_cmp}
use Rattle.sky_urlenc.specs.RowEvents.{Trigger, changed_columns, are_ignored}
use Rattle.std.proofs.lemmas.List.{nil_from_length}

-- whether columns were changed so far, or these are, and the trigger ignores all of these
abbrev pub ignored_more : Trigger → Bool → List (List ℕ) → Bool
ignored_more trigger changed names = (changed || nat_lt 0 (length names)) && list_all (λ name. list_any (bytes_eq name) trigger.ignored) names

-- if one of the lists has ended, no column is left
pub none_left : (trigger : Trigger) (changed : Bool) (columns : List Column) (old new : List Val) → (length columns ≡ 0) ⊎ ((length old ≡ 0) ⊎ (length new ≡ 0))
    → ignored_more trigger changed (changed_columns columns old new) ≡ changed
none_left trigger changed [] old new ends = grind arith
none_left trigger changed (c ∷ cs) [] new ends = grind arith
none_left trigger changed (c ∷ cs) (o ∷ os) [] ends = grind arith
none_left trigger changed (c ∷ cs) (o ∷ os) (n ∷ ns) ends = absurd (elim ends [ inl none ↦ omega arith | inr ended ↦ elim ended [ inl none ↦ omega arith | inr none ↦ omega arith ] ])

-- a column whose value is the same
pub same_left : (trigger : Trigger) (changed : Bool) (c : Column) (cs : List Column) (o n : Val) (os ns : List Val) → eq_by_cmp val_cmp o n ≡ true
    → ignored_more trigger changed (changed_columns (c ∷ cs) (o ∷ os) (n ∷ ns)) ≡ ignored_more trigger changed (changed_columns cs os ns)
same_left trigger changed c cs o n os ns e = grind (arith, e)

-- a column that was changed and is ignored
pub ignored_left : (trigger : Trigger) (changed : Bool) (c : Column) (cs : List Column) (o n : Val) (os ns : List Val) → eq_by_cmp val_cmp o n ≡ false → list_any (bytes_eq c.name) trigger.ignored ≡ true
    → ignored_more trigger changed (changed_columns (c ∷ cs) (o ∷ os) (n ∷ ns)) ≡ ignored_more trigger true (changed_columns cs os ns)
ignored_left trigger changed c cs o n os ns e ignored = grind (arith, nat_tests, e, ignored)

-- and one that was changed and isn't
pub told_left : (trigger : Trigger) (changed : Bool) (c : Column) (cs : List Column) (o n : Val) (os ns : List Val) → eq_by_cmp val_cmp o n ≡ false → list_any (bytes_eq c.name) trigger.ignored ≡ false
    → ignored_more trigger changed (changed_columns (c ∷ cs) (o ∷ os) (n ∷ ns)) ≡ false
told_left trigger changed c cs o n os ns e told = grind (arith, e, told)

-- a trigger that ignores no column ignores no change
pub none_ignored : (trigger : Trigger) (changed : List (List ℕ)) → length trigger.ignored ≡ 0 → false ≡ are_ignored trigger changed
none_ignored trigger [] none = refl
none_ignored trigger (name ∷ names) none = grind (arith, nil_from_length trigger.ignored none)
