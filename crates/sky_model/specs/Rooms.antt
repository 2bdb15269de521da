-- The room that a gate has for writes during a call, whatever else the gate is.
use Rattle.std.specs.Prelude.{ℕ, Bool, true, List, [], ◌∷◌, ◌++◌}
use Rattle.sky_model.specs.Gates.{RowWrite, Gate}

-- what a gate is notified of: a transaction's write, or that it was rolled back
pub data Notice : Type 0 where
  write_made : (t : ℕ) (write : RowWrite) → Notice
  undone : (t : ℕ) → Notice

-- whether there is room for a write after what the gate was notified of in the call, in order
abbrev pub Room : Type 0
Room = List Notice → RowWrite → Bool

-- for any write
abbrev pub any_room : Room
any_room notices write = true

-- a gate after notices
abbrev pub after_notices : {G : Type 0} → Gate G → G → List Notice → G
after_notices gate g [] = g
after_notices gate g (write_made t write ∷ notices) = after_notices gate (gate.after g t write) notices
after_notices gate g (undone t ∷ notices) = after_notices gate (gate.undone g t) notices

-- the room that a gate has, as it is at a call
abbrev pub room_of : {G : Type 0} → Gate G → G → Room
room_of gate g notices write = gate.has_room (after_notices gate g notices) write

-- a room as a gate, which keeps what it is notified of in the call
abbrev pub room_gate : Room → Gate (List Notice)
room_gate room = record {
  has_room = room;
  after = λ notices t write. notices ++ write_made t write ∷ [];
  undone = λ notices t. notices ++ undone t ∷ [];
}
