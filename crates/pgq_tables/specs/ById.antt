-- Events by id.
use Rattle.std.specs.Prelude.{ℕ, ◌≤◌, ◌==◌, nat_lt, List, [], ◌∷◌, filter, if◌then◌else◌}
use Rattle.sky_val.specs.declared.event.Event.{Event}

-- an event is inserted into a list in order of ids, after those with its id
abbrev pub with_event : Event → List Event → List Event
with_event e [] = e ∷ []
with_event e (x ∷ xs) = if nat_lt e.ev_id x.ev_id then e ∷ x ∷ xs else x ∷ with_event e xs

-- events in order of their ids, those with equal ids in their order
abbrev pub by_id_onto : List Event → List Event → List Event
by_id_onto sorted [] = sorted
by_id_onto sorted (e ∷ es) = by_id_onto (with_event e sorted) es

abbrev pub by_id : List Event → List Event
by_id es = by_id_onto [] es

-- events whose ids don't fall
abbrev pub InOrder : List Event → Type 0
InOrder [] = Unit {0}
InOrder (e ∷ []) = Unit {0}
InOrder (e ∷ f ∷ es) = (e.ev_id ≤ f.ev_id) × InOrder (f ∷ es)

-- the events with an id, in their order
abbrev pub with_id : ℕ → List Event → List Event
with_id id es = filter (λ e. e.ev_id == id) es
