-- The change of a row that an event records, by what its type says and what its data are.
use Rattle.std.proofs.Common.{◌≡◌, ℕ, List, Option, Some, None, option_and_then, refl, sym, ◌∙◌, ap}
use Rattle.std.specs.Result.{result_ok}
use Rattle.sky_val.specs.declared.val.Val.{Val}
use Rattle.sky_val.specs.declared.column.Column.{Column}
use Rattle.sky_val.specs.declared.event.Event.{Event}
use Rattle.sky_val.specs.declared.op.Op.{Op}
use Rattle.sky_urlenc.specs.Changes.{op_named, Change, change_of}
use Rattle.sky_urlenc.specs.ReadRow.{read_row}

abbrev with-row : Op → List Val → Option Change
with-row op row = Some (record { op = op; row = row })

-- by what its type says, and the row that its data are
abbrev change-by : Option Op → Option (List Val) → Option Change
change-by op row = option_and_then (λ op. option_and_then (with-row op) row) op

-- the row that the data of an event are
abbrev data-row : List Column → Option (List ℕ) → Option (List Val)
data-row columns o = option_and_then (λ text. result_ok (read_row columns text)) o

-- the same, said of the data
abbrev by-data : List Column → Option (List ℕ) → Op → Option Change
by-data columns o op = option_and_then (λ text. option_and_then (with-row op) (result_ok (read_row columns text))) o

changes-by : (columns : List Column) (event : Event) → change_of columns event ≡ change-by (option_and_then op_named event.ev_type) (data-row columns event.ev_data)
changes-by columns event = by_type event.ev_type
  where
    by_text : (o : Option (List ℕ)) (op : Op) → by-data columns o op ≡ option_and_then (with-row op) (data-row columns o)
    by_text None op = refl
    by_text (Some text) op = refl

    by_op : (o : Option Op) → option_and_then (by-data columns event.ev_data) o ≡ change-by o (data-row columns event.ev_data)
    by_op None = refl
    by_op (Some op) = by_text event.ev_data op

    by_type : (o : Option (List ℕ)) → option_and_then (λ name. option_and_then (by-data columns event.ev_data) (op_named name)) o ≡ change-by (option_and_then op_named o) (data-row columns event.ev_data)
    by_type None = refl
    by_type (Some name) = by_op (op_named name)

-- none if its type says nothing of the kind, or its data aren't a row
pub change-untyped : (columns : List Column) (event : Event) → None ≡ option_and_then op_named event.ev_type → None ≡ change_of columns event
change-untyped columns event none = ap (λ o. change-by o (data-row columns event.ev_data)) none ∙ sym (changes-by columns event)

pub change-unread : (columns : List Column) (event : Event) (op : Op) → Some op ≡ option_and_then op_named event.ev_type → None ≡ option_and_then (λ text. result_ok (read_row columns text)) event.ev_data
    → None ≡ change_of columns event
change-unread columns event op typed none = (λ i. change-by (typed i) (none i)) ∙ sym (changes-by columns event)

pub change-read : (columns : List Column) (event : Event) (op : Op) → Some op ≡ option_and_then op_named event.ev_type → (row : List Val) → Some row ≡ option_and_then (λ text. result_ok (read_row columns text)) event.ev_data
    → Some (record { op = op; row = row }) ≡ change_of columns event
change-read columns event op typed row read = (λ i. change-by (typed i) (read i)) ∙ sym (changes-by columns event)
