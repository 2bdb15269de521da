use Rattle.std.proofs.Common.{◌≡◌, ◌-◌, [], slice_index_or}
use Rattle.pgq_tables.specs.Listed.{is_listed}
use Rattle.pgq_batch.specs.Placed.{with_place}
use Rattle.pgq_batch.specs.Looked.{placed_events, count_below}
use Rattle.pgq_batch.proofs.Between.{Gathered}
use Rattle.pgq_batch.proofs.table.collect.Given as goal

-- what was collected is what is listed of those that were lent
abbrev pub invariant-loop-place : goal.invariant-loop-place
invariant-loop-place l =
    let list = slice_index_or l.tables.tables.lists l.initial.looked.table [] in
    Gathered with_place (is_listed l.prev l.cur l.sub) list l.looked.first [] (placed_events l.found.items)
    × (l.looked.table ≡ l.initial.looked.table)
    × (l.looked.end ≡ count_below l.cur.xmax list)

abbrev pub decreases-loop-place : goal.decreases-loop-place
decreases-loop-place l = l.looked.end - l.looked.first
