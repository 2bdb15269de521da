use Rattle.std.proofs.Common.{◌≡◌, ◌+◌, ◌-◌, ◌*◌, ◌≤◌, [], length, slice_index_or}
use Rattle.pgq_tables.specs.Listed.{is_listed}
use Rattle.pgq_batch.specs.Bound.{digits}
use Rattle.pgq_batch.specs.Looked.{count_below}
use Rattle.pgq_batch.proofs.Earliest.{has_id, earliest, IsEarliest}
use Rattle.pgq_batch.proofs.table.first_with_id.Given as goal

-- what is the best so far is the first by place of those that were read; and there was one look for each, after those for the ends
abbrev pub invariant-loop-index : goal.invariant-loop-index
invariant-loop-index l =
    let list = slice_index_or l.fn.tables.tables.lists l.table [] in
    (l.tables.tables ≡ l.fn.tables.tables)
    × IsEarliest list (earliest (has_id l.id (is_listed l.prev l.cur l.sub)) list l.index) l.best
    × (l.tables.reads ≤ l.fn.tables.reads + (2 * digits (length list) + (l.index - l.start)))
    × (l.start ≡ count_below l.prev.xmin list)
    × (l.end ≡ count_below l.cur.xmax list)
    × (l.index - l.start ≤ l.end - l.start)
