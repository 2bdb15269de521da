use Rattle.std.proofs.Common.{◌≡◌, ℕ, ◌+◌, ◌-◌, ◌^◌, ◌<◌, ◌≤◌, length, drop}
use Rattle.pgq_tables.specs.Listed.{is_listed}
use Rattle.pgq_batch.specs.Looked.{ages}
use Rattle.pgq_batch.proofs.Ages.{passing_of, looks}
use Rattle.pgq_batch.proofs.Lent.{AreLookedAtUpTo}
use Rattle.pgq_batch.proofs.batch.look.Given as goal

-- the tables so far were looked at, there are looks for those that are left, and each event that is listed of those so far was looked at
abbrev pub invariant-loop-turn : goal.invariant-loop-turn
invariant-loop-turn l =
    let all = ages l.fn.tables.tables in
    (l.tables.tables ≡ l.fn.tables.tables)
    × AreLookedAtUpTo l.prev l.cur l.fn.tables.tables l.turn l.looks.items
    × (l.tables.reads + looks l.prev l.cur (drop l.turn all) ≤ l.fn.tables.reads + looks l.prev l.cur all)
    × ((sub : ℕ) → l.tables.reads < 2 ^ 64 - 1
    → length (passing_of (is_listed l.prev l.cur sub) all) + l.fn.tables.reads ≤ l.tables.reads + length (passing_of (is_listed l.prev l.cur sub) (drop l.turn all)))
