-- A gate for writes of rows: it is asked whether it has room for a write, and notified of each that is made, and of each transaction that is rolled
-- back.
use Rattle.std.specs.Prelude.{ℕ, List, [], ◌∷◌, Bool, true, false, not, ◌&&◌, Option, Ok}
use Rattle.sky_val.specs.declared.val.Val.{Val}
use Rattle.sky_model.specs.declared.reply.Refusal.TheVariants.{EventIdsSpent}
use Rattle.sky_model.specs.History.{Mark, of_session, ended, tabled, wrote}
use Rattle.sky_model.specs.Outcome.{Outcome, Checked, ◌>>=◌, ◌>>◌, refused_if}
use Rattle.sky_model.specs.Reader.{PartReader}

-- a write to a table: the row that the key had, and the row that it has
pub record RowWrite : Type 0 where
  pub table : ℕ
  pub old : Option (List Val)
  pub new : Option (List Val)

-- whether a gate, in its state, has room for a write; its state after it was notified of a transaction's write; and its state after it was notified
-- that a transaction was rolled back
pub record Gate (G : Type 0) : Type 0 where
  pub has_room : G → RowWrite → Bool
  pub after : G → ℕ → RowWrite → G
  pub undone : G → ℕ → G

-- whether it has room for a mark: for the write, if it is a session's
abbrev pub takes : {G : Type 0} → Gate G → G → Mark → Bool
takes gate g (tabled (wrote (of_session who) t table key old new)) = gate.has_room g (record { table = table; old = old; new = new })
takes gate g _ = true

-- the gate after a mark
abbrev pub passed : {G : Type 0} → Gate G → G → Mark → G
passed gate g (tabled (wrote (of_session who) t table key old new)) = gate.after g t (record { table = table; old = old; new = new })
passed gate g (ended whose t false) = gate.undone g t
passed gate g _ = g

-- whether it has room for each of some marks, in their order
abbrev pub takes_all : {G : Type 0} → Gate G → G → List Mark → Bool
takes_all gate g [] = true
takes_all gate g (mark ∷ marks) = takes gate g mark && takes_all gate (passed gate g mark) marks

-- the gate after them
abbrev pub passed_all : {G : Type 0} → Gate G → G → List Mark → G
passed_all gate g [] = g
passed_all gate g (mark ∷ marks) = passed_all gate (passed gate g mark) marks

-- what a statement would do is refused if the gate has no room for its writes
abbrev pub gated : {G : Type 0} → Gate G → G → Checked Outcome → Checked Outcome
gated gate g checked = do
  outcome ← checked
  refused_if (not (takes_all gate g outcome.marks)) EventIdsSpent
  Ok outcome

-- a place with a gate for the writes there
abbrev pub by_gate : {G P : Type 0} → Gate G → PartReader P → PartReader (P × G)
by_gate gate r = record {
  part = λ p. r.part p.0;
  rows = λ p. r.rows p.0;
  tells = λ p checked. gated gate p.1 (r.tells p.0 checked);
  behind = λ p mark. (r.behind p.0 mark, passed gate p.1 mark);
}

-- the gate that always has room, and keeps nothing
abbrev pub open_gate : Gate (Unit {0})
open_gate = record { has_room = λ g write. true; after = λ g t write. g; undone = λ g t. g }
