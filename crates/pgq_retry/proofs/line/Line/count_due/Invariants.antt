use Rattle.std.proofs.Common.{◌≡◌, ◌+◌, ◌-◌, ◌≤◌, min, length}
use Rattle.std.specs.Prelude.{filter}
use Rattle.std.specs.List.Sorted.{IsStrictlySortedBy}
use Rattle.std.specs.Map.{values_of}
use Rattle.pgq_retry.specs.Retries.{is_due, by_due}
use Rattle.pgq_retry.specs.Kept.{due_cmp}
use Rattle.pgq_retry.proofs.DueCounts.{due_count}
use Rattle.pgq_retry.proofs.line.Line.count_due.Given as goal

abbrev pub invariant-loop-due : goal.invariant-loop-due
invariant-loop-due l =
    (l.count ≤ l.most)
    × (l.count + min (l.most - l.count) (due_count l.now l.due-iterator) ≡ min l.most (length (filter (is_due l.now) (by_due (values_of l.self)))))
    × IsStrictlySortedBy due_cmp l.due-iterator
