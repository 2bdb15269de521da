use Rattle.std.proofs.Common.{◌≡◌, ◌≤◌, ◌+◌, ◌-◌, [], length, slice_index_or}
use Rattle.pgq_batch.specs.Bound.{digits}
use Rattle.pgq_batch.specs.Looked.{count_below}
use Rattle.pgq_batch.proofs.ends.count_below.Given as goal

-- the count is from `low` to `high`, and there are looks for the digits of what lies between
abbrev pub invariant-loop-low : goal.invariant-loop-low
invariant-loop-low l =
    let list = slice_index_or l.fn.tables.tables.lists l.table [] in
    (l.tables.tables ≡ l.fn.tables.tables)
    × (l.low ≤ count_below l.txid list)
    × (count_below l.txid list ≤ l.high)
    × (l.high ≤ length list)
    × (l.tables.reads + digits (l.high - l.low) ≤ l.fn.tables.reads + digits (length list))
    × (l.fn.tables.reads ≤ l.tables.reads)

abbrev pub decreases-loop-low : goal.decreases-loop-low
decreases-loop-low l = l.high - l.low
