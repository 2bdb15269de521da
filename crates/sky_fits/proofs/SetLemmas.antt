-- The changes of an update, one by one.
use Rattle.std.specs.Prelude.{◌||◌, option_map, bytes_eq, slice_get, slice_set}
use Rattle.std.proofs.Common.{◌≡◌, ℕ, ◌+◌, ◌<◌, ◌≤◌, arith, Bool, true, false, cond, List, [], ◌∷◌, ◌++◌, length, take, drop, get_or, Option, None, Some, zero, suc, add-one, refl, sym, ◌∙◌, ap}
use Rattle.std.specs.List.{list_any, position, position_from}
use Rattle.std.specs.Option.{option_or}
use Rattle.std.proofs.Math.Seq.{take-suc, drop-cons}
use Rattle.std.proofs.lemmas.Option.{none-some, same_Some}
use Rattle.std.proofs.lemmas.Iterator.Adapters.{position_from-zero}
use Rattle.sky_val.specs.declared.val.Val.{Val}
use Rattle.sky_val.specs.declared.column.Column.{Column}
use Rattle.sky_model.specs.declared.stmt.Change.{Change}
use Rattle.sky_model.specs.declared.stmt.Set.{Set}
use Rattle.sky_model.specs.declared.reply.BadRow as bad
use Rattle.sky_model.specs.declared.reply.BadRow.TheVariants as badly
use Rattle.sky_model.specs.StepRows.{column_called, is_change_of, bad_set, bad_sets, changed, with_set}

-- these names, after those of changes, the last one first
abbrev pub names_onto : List (List ℕ) → List Set → List (List ℕ)
names_onto before [] = before
names_onto before (set ∷ sets) = names_onto (set.column ∷ before) sets

names_onto-append : (before : List (List ℕ)) (sets : List Set) (set : Set) → names_onto before (sets ++ set ∷ []) ≡ set.column ∷ names_onto before sets
names_onto-append before [] set = refl
names_onto-append before (first ∷ sets) set = names_onto-append (first.column ∷ before) sets set

turned : (one two three : Bool) → (one || (two || three)) ≡ ((two || one) || three)
turned true true three = refl
turned true false three = refl
turned false true three = refl
turned false false three = refl

list_any-names_onto : (p : List ℕ → Bool) (before : List (List ℕ)) (sets : List Set) → list_any p (names_onto before sets) ≡ (list_any (λ set. p set.column) sets || list_any p before)
list_any-names_onto p before [] = refl
list_any-names_onto p before (set ∷ sets) =
    list_any-names_onto p (set.column ∷ before) sets ∙ turned (list_any (λ s. p s.column) sets) (p set.column) (list_any p before)

or-false : (b : Bool) → (b || false) ≡ b
or-false true = refl
or-false false = refl

-- whether one of the changes before is of this column
pub named_before : (name : List ℕ) (sets : List Set) → list_any (bytes_eq name) (names_onto [] sets) ≡ list_any (λ set. bytes_eq name set.column) sets
named_before name sets = list_any-names_onto (bytes_eq name) [] sets ∙ or-false (list_any (λ set. bytes_eq name set.column) sets)

-- the fault of the changes from a place on, the first of which is this one
pub bad_sets-from : (columns : List Column) (sets : List Set) (place : ℕ) (set : Set) → place < length sets → get_or sets place set ≡ set
    → bad_sets columns (names_onto [] (take place sets)) (drop place sets)
    ≡ option_or (bad_set (names_onto [] (take place sets)) set (column_called set.column columns)) (bad_sets columns (names_onto [] (take (place + 1) sets)) (drop (place + 1) sets))
bad_sets-from columns sets place set within is =
    let before = names_onto [] (take place sets) in
    let left : drop place sets ≡ set ∷ drop (suc place) sets = drop-cons sets place set within ∙ ap (λ s. s ∷ drop (suc place) sets) is in
    let names : set.column ∷ before ≡ names_onto [] (take (suc place) sets)
    = sym (ap (names_onto []) (take-suc sets place set within ∙ ap (λ s. take place sets ++ s ∷ []) is) ∙ names_onto-append [] (take place sets) set) in
    ap (bad_sets columns before) left
    ∙ ap (λ ns. option_or (bad_set before set (column_called set.column columns)) (bad_sets columns ns (drop (suc place) sets))) names
    ∙ ap (λ n. option_or (bad_set before set (column_called set.column columns)) (bad_sets columns (names_onto [] (take n sets)) (drop n sets))) (sym (add-one place))

-- a row with the change of the value at a place, if there is one
abbrev pub changed_in : Change → List Val → ℕ → Option Val → Option (List Val)
changed_in change row place None = Some row
changed_in change row place (Some v) = option_map (λ w. slice_set row place w) (changed change v)

behind : (change : Change) (v : Val) (row : List Val) (place : ℕ) (old : Option Val)
    → option_map (λ rest. v ∷ rest) (changed_in change row place old) ≡ changed_in change (v ∷ row) (suc place) old
behind change v row place None = refl
behind change v row place (Some w) = elim (changed change w) as (λ new. option_map (λ rest. v ∷ rest) (option_map (λ x. slice_set row place x) new) ≡ option_map (λ x. slice_set (v ∷ row) (suc place) x) new) [ None ↦ refl | Some x ↦ refl ]

unfound : {X : Type 0} (test : Bool) (x : X) (rest : Option X) → cond test (Some x) rest ≡ None → (test ≡ false) × (rest ≡ None)
unfound true x rest e = absurd (none-some x (sym e))
unfound false x rest e = (refl, e)

-- no column has the name
with_set-from : (columns : List Column) (set : Set) (row : List Val) (k : ℕ) → position_from (λ column. bytes_eq column.name set.column) k columns ≡ None → with_set columns set row ≡ Some row
with_set-from [] set row k e = refl
with_set-from (column ∷ columns) set [] k e = refl
with_set-from (column ∷ columns) set (v ∷ row) k e =
    let parts = unfound (bytes_eq column.name set.column) k (position_from (λ c. bytes_eq c.name set.column) (k + 1) columns) e in
    ap (λ b. cond b (option_map (λ w. w ∷ row) (changed set.change v)) (option_map (λ rest. v ∷ rest) (with_set columns set row))) parts.0
    ∙ ap (option_map (λ rest. v ∷ rest)) (with_set-from columns set row (k + 1) parts.1)

pub with_set-nowhere : (columns : List Column) (set : Set) (row : List Val) → position (λ column. bytes_eq column.name set.column) columns ≡ None → with_set columns set row ≡ Some row
with_set-nowhere columns set row e = with_set-from columns set row 0 (sym (position_from-zero (λ column. bytes_eq column.name set.column) columns) ∙ e)

-- a place that is found from another on isn't before that
position_from-low : (test : Column → Bool) (k : ℕ) (columns : List Column) (n : ℕ) → position_from test k columns ≡ Some n → k ≤ n
position_from-low test k [] n e = absurd (none-some n e)
position_from-low test k (column ∷ columns) n e =
    elim (test column) as (λ b. cond b (Some k) (position_from test (k + 1) columns) ≡ Some n → k ≤ n) [
      | true ↦ (λ same. let equal : k ≡ n = same_Some k n same in omega arith)
      | false ↦ (λ further. let low = position_from-low test (k + 1) columns n further in omega arith)
    ] e

-- a value before a row, and the change of a value in it
at_next : (change : Change) (row : List Val) (v : Val) (place : ℕ) → option_map (λ rest. v ∷ rest) (changed_in change row place (slice_get row place)) ≡ changed_in change (v ∷ row) (suc place) (slice_get row place)
at_next change row v place = behind change v row place (slice_get row place)

here : (columns : List Column) (set : Set) (column : Column) (row : List Val) → bytes_eq column.name set.column ≡ true → with_set (column ∷ columns) set row ≡ changed_in set.change row 0 (slice_get row 0)
here columns set column [] e = refl
here columns set column (v ∷ row) e = ap (λ b. cond b (option_map (λ w. w ∷ row) (changed set.change v)) (option_map (λ rest. v ∷ rest) (with_set columns set row))) e

further : (columns : List Column) (set : Set) (column : Column) (row : List Val) (place : ℕ) → bytes_eq column.name set.column ≡ false
    → ((left : List Val) → with_set columns set left ≡ changed_in set.change left place (slice_get left place))
    → with_set (column ∷ columns) set row ≡ changed_in set.change row (suc place) (slice_get row (suc place))
further columns set column [] place e rest = refl
further columns set column (v ∷ row) place e rest =
    ap (λ b. cond b (option_map (λ w. w ∷ row) (changed set.change v)) (option_map (λ left. v ∷ left) (with_set columns set row))) e
    ∙ ap (option_map (λ left. v ∷ left)) (rest row) ∙ at_next set.change row v place

-- found at the first place
first_found : (columns : List Column) (set : Set) (column : Column) (k n : ℕ) → n ≡ k → position_from (λ c. bytes_eq c.name set.column) k (column ∷ columns) ≡ Some n → bytes_eq column.name set.column ≡ true
first_found columns set column k n same e =
    elim (bytes_eq column.name set.column) as (λ b. cond b (Some k) (position_from (λ c. bytes_eq c.name set.column) (k + 1) columns) ≡ Some n → b ≡ true) [
      | true ↦ (λ found. refl)
      | false ↦ (λ later. let low = position_from-low (λ c. bytes_eq c.name set.column) (k + 1) columns n later in absurd (omega arith))
    ] e

-- found after it
next_found : (columns : List Column) (set : Set) (column : Column) (k n : ℕ) → k < n → position_from (λ c. bytes_eq c.name set.column) k (column ∷ columns) ≡ Some n
    → (bytes_eq column.name set.column ≡ false) × (position_from (λ c. bytes_eq c.name set.column) (k + 1) columns ≡ Some n)
next_found columns set column k n above e =
    elim (bytes_eq column.name set.column) as (λ b. cond b (Some k) (position_from (λ c. bytes_eq c.name set.column) (k + 1) columns) ≡ Some n → (b ≡ false) × (position_from (λ c. bytes_eq c.name set.column) (k + 1) columns ≡ Some n)) [
      | true ↦ (λ found. let equal : k ≡ n = same_Some k n found in absurd (omega arith))
      | false ↦ (λ later. (refl, later))
    ] e

-- the column at a place is the first that has the name
with_set-found : (columns : List Column) (set : Set) (k place n : ℕ) → n ≡ k + place → position_from (λ column. bytes_eq column.name set.column) k columns ≡ Some n
    → (row : List Val) → with_set columns set row ≡ changed_in set.change row place (slice_get row place)
with_set-found [] set k place n sum e row = absurd (none-some n e)
with_set-found (column ∷ columns) set k zero n sum e row = here columns set column row (first_found columns set column k n (omega arith) e)
with_set-found (column ∷ columns) set k (suc place) n sum e row =
    let parts = next_found columns set column k n (omega arith) e in
    further columns set column row place parts.0 (with_set-found columns set (k + 1) place n (omega arith) parts.1)

pub with_set-place : (columns : List Column) (set : Set) (row : List Val) (place : ℕ) → position (λ column. bytes_eq column.name set.column) columns ≡ Some place
    → with_set columns set row ≡ changed_in set.change row place (slice_get row place)
with_set-place columns set row place e =
    with_set-found columns set 0 place place (omega arith) (sym (position_from-zero (λ column. bytes_eq column.name set.column) columns) ∙ e) row

-- the first bad change is the one at this place
pub bad_sets-at : (columns : List Column) (sets : List Set) (place : ℕ) (set : Set) (found : Option Column) (fault : bad.BadRow) → place < length sets → get_or sets place set ≡ set
    → bad_sets columns (names_onto [] (take place sets)) (drop place sets) ≡ bad_sets columns [] sets
    → found ≡ column_called set.column columns → bad_set (names_onto [] (take place sets)) set found ≡ Some fault → bad_sets columns [] sets ≡ Some fault
bad_sets-at columns sets place set found fault within is so_far called e =
    let rest = bad_sets columns (names_onto [] (take (place + 1) sets)) (drop (place + 1) sets) in
    sym so_far ∙ bad_sets-from columns sets place set within is ∙ ap (λ o. option_or (bad_set (names_onto [] (take place sets)) set o) rest) (sym called) ∙ ap (λ o. option_or o rest) e

-- a change that isn't bad is passed
pub bad_sets-pass : (columns : List Column) (sets : List Set) (place : ℕ) (set : Set) (found : Option Column) → place < length sets → get_or sets place set ≡ set
    → found ≡ column_called set.column columns → bad_set (names_onto [] (take place sets)) set found ≡ None
    → bad_sets columns (names_onto [] (take (place + 1) sets)) (drop (place + 1) sets) ≡ bad_sets columns (names_onto [] (take place sets)) (drop place sets)
bad_sets-pass columns sets place set found within is called e =
    let rest = bad_sets columns (names_onto [] (take (place + 1) sets)) (drop (place + 1) sets) in
    sym (bad_sets-from columns sets place set within is ∙ ap (λ o. option_or (bad_set (names_onto [] (take place sets)) set o) rest) (sym called) ∙ ap (λ o. option_or o rest) e)

-- a change of a column that exists, by what the tests gave
pub twice_bad : (before : List (List ℕ)) (set : Set) (column : Column) → list_any (bytes_eq set.column) before ≡ true → bad_set before set (Some column) ≡ Some (badly.Twice set.column)
twice_bad before set column e = ap (λ b. cond b (Some (badly.Twice set.column)) (cond (is_change_of column.kind set.change) None (Some (badly.Type set.column)))) e

pub kind_bad : (before : List (List ℕ)) (set : Set) (column : Column) → list_any (bytes_eq set.column) before ≡ false → is_change_of column.kind set.change ≡ false → bad_set before set (Some column) ≡ Some (badly.Type set.column)
kind_bad before set column once other =
    ap (λ b. cond b (Some (badly.Twice set.column)) (cond (is_change_of column.kind set.change) None (Some (badly.Type set.column)))) once
    ∙ ap (λ b. cond b None (Some (badly.Type set.column))) other

pub not_bad : (before : List (List ℕ)) (set : Set) (column : Column) → list_any (bytes_eq set.column) before ≡ false → is_change_of column.kind set.change ≡ true → bad_set before set (Some column) ≡ None
not_bad before set column once alike =
    ap (λ b. cond b (Some (badly.Twice set.column)) (cond (is_change_of column.kind set.change) None (Some (badly.Type set.column)))) once
    ∙ ap (λ b. cond b None (Some (badly.Type set.column))) alike
