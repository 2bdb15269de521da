use Rattle.std.proofs.Common.{◌≡◌, ◌==◌, ◌+◌, ◌≤◌, drop}
use Rattle.std.specs.Prelude.{find}
use Rattle.pgq_tables.specs.Listed.{is_listed}
use Rattle.pgq_batch.specs.Looked.{ages}
use Rattle.pgq_batch.proofs.Ages.{passing_of, looks}
use Rattle.pgq_batch.proofs.batch.find.Given as goal

-- what is found in the tables that are left is found in all, and there are looks for those that are left
abbrev pub invariant-loop-turn : goal.invariant-loop-turn
invariant-loop-turn l =
    let all = ages l.fn.tables.tables in
    (l.tables.tables ≡ l.fn.tables.tables)
    × (find (λ e. e.ev_id == l.id) (passing_of (is_listed l.prev l.cur l.sub) (drop l.turn all)) ≡ find (λ e. e.ev_id == l.id) (passing_of (is_listed l.prev l.cur l.sub) all))
    × (l.tables.reads + looks l.prev l.cur (drop l.turn all) ≤ l.fn.tables.reads + looks l.prev l.cur all)
