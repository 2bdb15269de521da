-- Worked events of triggers, by computation.
use Rattle.std.proofs.Common.{◌≡◌, ℕ, pos, true, false, List, [], ◌∷◌, Option, Some, None, refl}
use Rattle.std.specs.Fmt.{digits}
use lib.Chars.{codes}
use Rattle.form_urlencoded.specs.Form.{byte_serialize}
use Rattle.sky_val.specs.declared.val.Val.{Val}
use Rattle.sky_val.specs.declared.val.Val.TheVariants.{Null, Int, Text}
use Rattle.sky_val.specs.declared.column.Column.{Column}
use Rattle.sky_val.specs.declared.column.ColKind.TheVariants as kind
use Rattle.sky_urlenc.specs.RowEvents.{Trigger, TracedWrite, RowEvent, events_of}

columns : List Column
columns =
    record { name = codes "id"; kind = kind.Int; key = true }
    ∷ record { name = codes "n"; kind = kind.Int; key = false }
    ∷ record { name = codes "note"; kind = kind.Text; key = false } ∷ []

row : ℕ → List ℕ → List Val
row n note = Int (pos 1) ∷ Int (pos n) ∷ Text note ∷ []

write : (old new : Option (List Val)) → TracedWrite
write old new = record { table = codes "u"; columns = columns; old = old; new = new }

-- without options
plain : Trigger
plain = record { queue = 1; backup = false; ignored = [] }

-- with `backup`, and ignoring `note`
tg : Trigger
tg = record { queue = 0; backup = true; ignored = codes "note" ∷ [] }

event : ℕ → List ℕ → List ℕ → Option (List ℕ) → RowEvent
event queue ev_type ev_data before = record { queue = queue; ev_type = ev_type; ev_data = Some ev_data; ev_extra1 = codes "u"; ev_extra2 = before }

inserted : events_of (write None (Some (row 5 (codes "x")))) (tg ∷ []) ≡ event 0 (codes "I:id") (codes "id=1&n=5&note=x") None ∷ []
unfolding columns row write tg event byte_serialize digits
inserted = refl

-- `tg` ignores the change, `plain` records it
ignored : events_of (write (Some (row 5 (codes "x"))) (Some (row 5 (codes "y")))) (tg ∷ plain ∷ []) ≡ event 1 (codes "U:id") (codes "id=1&n=5&note=y") None ∷ []
unfolding columns row write tg plain event byte_serialize digits
ignored = refl

updated : events_of (write (Some (row 5 (codes "y"))) (Some (row 6 (codes "y")))) (tg ∷ plain ∷ []) ≡ event 0 (codes "U:id") (codes "id=1&n=6&note=y") (Some (codes "id=1&n=5&note=y")) ∷ event 1 (codes "U:id") (codes "id=1&n=6&note=y") None ∷ []
unfolding columns row write tg plain event byte_serialize digits
updated = refl

-- Null instead of Null is no change, Null instead of a text is one
nulls : events_of (write (Some (Int (pos 1) ∷ Null ∷ Text (codes "x") ∷ [])) (Some (Int (pos 1) ∷ Null ∷ Null ∷ []))) (tg ∷ plain ∷ []) ≡ event 1 (codes "U:id") (codes "id=1&n&note") None ∷ []
unfolding columns write tg plain event byte_serialize digits
nulls = refl

-- another column was changed too
both : events_of (write (Some (row 5 (codes "x"))) (Some (row 6 (codes "y")))) (tg ∷ []) ≡ event 0 (codes "U:id") (codes "id=1&n=6&note=y") (Some (codes "id=1&n=5&note=x")) ∷ []
unfolding columns row write tg event byte_serialize digits
both = refl

-- nothing was changed
unchanged : events_of (write (Some (row 5 (codes "x"))) (Some (row 5 (codes "x")))) (tg ∷ []) ≡ event 0 (codes "U:id") (codes "id=1&n=5&note=x") (Some (codes "id=1&n=5&note=x")) ∷ []
unfolding columns row write tg event byte_serialize digits
unchanged = refl

deleted : events_of (write (Some (row 6 (codes "y"))) None) (tg ∷ []) ≡ event 0 (codes "D:id") (codes "id=1&n=6&note=y") None ∷ []
unfolding columns row write tg event byte_serialize digits
deleted = refl
