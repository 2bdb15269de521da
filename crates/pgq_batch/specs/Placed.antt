-- Events with their places in their table.
use Rattle.std.specs.Prelude.{ℕ, Bool, true, Option, Some, None, List, [], ◌∷◌, nat_lt, if◌then◌else◌}
use Rattle.sky_val.specs.declared.event.Event.{Event}
use Rattle.pgq_tables.specs.Tables.{Stored}

-- one is put in front of the first one with a higher place
abbrev pub put_by_place : ℕ × Event → List (ℕ × Event) → List (ℕ × Event)
put_by_place x [] = x ∷ []
put_by_place x (y ∷ ys) = if nat_lt x.0 y.0 then x ∷ y ∷ ys else y ∷ put_by_place x ys

abbrev pub by_place_onto : List (ℕ × Event) → List (ℕ × Event) → List (ℕ × Event)
by_place_onto sorted [] = sorted
by_place_onto sorted (x ∷ xs) = by_place_onto (put_by_place x sorted) xs

-- events in order of their places
abbrev pub by_place : List (ℕ × Event) → List (ℕ × Event)
by_place xs = by_place_onto [] xs

-- a stored event as it is collected, with its place
abbrev pub with_place : ℕ × Stored → ℕ × Event
with_place x = (x.0, x.1.event)

-- whether a place is before that of another, if there is another; this has its place and its index by transaction
abbrev pub is_before : ℕ → Option (ℕ × ℕ) → Bool
is_before place None = true
is_before place (Some best) = nat_lt place best.0
