-- With a gate a row part does what it does with the room that the gate has at the call.
use Rattle.std.proofs.Common.{◌≡◌, ℕ, List, [], ◌∷◌, ◌++◌, false, Ok, Err, refl, sym, ◌∙◌, ap, not, ◌&&◌}
use Rattle.sky_model.specs.declared.stmt.RowStmt.{RowStmt}
use Rattle.sky_model.specs.declared.reply.Refusal.TheVariants.{EventIdsSpent}
use Rattle.sky_model.specs.History.{Mark, of_session, ended, tabled, wrote}
use Rattle.sky_model.specs.State.{RowPart, after_part}
use Rattle.sky_model.specs.ShownRows.{rows_by}
use Rattle.sky_model.specs.Outcome.{Outcome, Checked, ◌>>◌, refused_if}
use Rattle.sky_model.specs.Reader.{part_by_itself}
use Rattle.sky_model.specs.Gates.{RowWrite, Gate, takes, passed, takes_all, gated, by_gate}
use Rattle.sky_model.specs.Rooms.{Notice, write_made, undone, after_notices, room_of, room_gate}
use Rattle.sky_model.specs.Settling.{Turn, with_settling}
use Rattle.sky_model.specs.Calls.{row_turn}
use Rattle.sky_histories.proofs.Turns.{ReadAlike, same-with_settling, alike-turn, Any, each-any}

after_written : {G : Type 0} (gate : Gate G) (g : G) (notices : List Notice) (t : ℕ) (write : RowWrite)
    → after_notices gate g (notices ++ write_made t write ∷ []) ≡ gate.after (after_notices gate g notices) t write
after_written gate g [] t write = refl
after_written gate g (write_made u w ∷ notices) t write = after_written gate (gate.after g u w) notices t write
after_written gate g (undone u ∷ notices) t write = after_written gate (gate.undone g u) notices t write

after_undone : {G : Type 0} (gate : Gate G) (g : G) (notices : List Notice) (t : ℕ) → after_notices gate g (notices ++ undone t ∷ []) ≡ gate.undone (after_notices gate g notices) t
after_undone gate g [] t = refl
after_undone gate g (write_made u w ∷ notices) t = after_undone gate (gate.after g u w) notices t
after_undone gate g (undone u ∷ notices) t = after_undone gate (gate.undone g u) notices t

module _ {G : Type 0} (gate : Gate G) (g : G) where
  abbrev as_room : Gate (List Notice)
  as_room = room_gate (room_of gate g)

  same-takes : (notices : List Notice) (mark : Mark) → takes gate (after_notices gate g notices) mark ≡ takes as_room notices mark
  same-takes notices (tabled (wrote (of_session who) t table key old new)) = refl
  same-takes notices _ = refl

  same-passed : (notices : List Notice) (mark : Mark) → passed gate (after_notices gate g notices) mark ≡ after_notices gate g (passed as_room notices mark)
  same-passed notices (tabled (wrote (of_session who) t table key old new)) = sym (after_written gate g notices t (record { table = table; old = old; new = new }))
  same-passed notices (ended whose t false) = sym (after_undone gate g notices t)
  same-passed notices _ = refl

  same-takes_all : (notices : List Notice) (marks : List Mark) → takes_all gate (after_notices gate g notices) marks ≡ takes_all as_room notices marks
  same-takes_all notices [] = refl
  same-takes_all notices (mark ∷ marks) =
      (λ i. same-takes notices mark i && takes_all gate (same-passed notices mark i) marks)
      ∙ ap (λ b. takes as_room notices mark && b) (same-takes_all (passed as_room notices mark) marks)

  same-gated : (notices : List Notice) (c : Checked Outcome) → gated gate (after_notices gate g notices) c ≡ gated as_room notices c
  same-gated notices (Err refusal) = refl
  same-gated notices (Ok o) = ap (λ b. refused_if (not b) EventIdsSpent >> Ok o) (same-takes_all notices o.marks)

  abbrev AsRoom : RowPart × G → RowPart × List Notice → Type 0
  AsRoom p q = (p.0 ≡ q.0) × (p.1 ≡ after_notices gate g q.1)

  as-room : ReadAlike (by_gate gate part_by_itself) (by_gate as_room part_by_itself) Any AsRoom
  as-room = record {
    parts = λ p q is. is.0;
    rows = λ p q is. ap rows_by is.0;
    tells = λ p q is. ap (gated gate) is.1 ∙ (λ i c. same-gated q.1 c i);
    behind = λ p q mark is _. (ap (λ d. after_part d mark) is.0, ap (λ x. passed gate x mark) is.1 ∙ same-passed q.1 mark);
  }

  -- a statement, with what it unblocks
  pub room-turn : (d : RowPart) (who : ℕ) (stmt : RowStmt) → row_turn (by_gate gate part_by_itself) (d, g) who stmt ≡ row_turn (by_gate as_room part_by_itself) (d, []) who stmt
  room-turn d who stmt =
      alike-turn (by_gate gate part_by_itself) (by_gate as_room part_by_itself) Any AsRoom as-room (d, g) (d, []) who stmt (refl, refl) tt
      (each-any (by_gate gate part_by_itself) (d, g) _)

  -- and what another turn unblocks
  pub room-settling : (d : RowPart) (turn : Turn) → with_settling (by_gate gate part_by_itself) (d, g) turn ≡ with_settling (by_gate as_room part_by_itself) (d, []) turn
  room-settling d turn =
      same-with_settling (by_gate gate part_by_itself) (by_gate as_room part_by_itself) Any AsRoom as-room (d, g) (d, []) turn turn (refl, refl) refl
      (each-any (by_gate gate part_by_itself) (d, g) _)
