use Rattle.std.proofs.Common.{◌≡◌, ◌++◌, length, drop}
use Rattle.pgq_tables.specs.Listed.{is_listed}
use Rattle.pgq_batch.specs.Looked.{ages, lent_events}
use Rattle.pgq_batch.proofs.Ages.{passing_of}
use Rattle.pgq_batch.proofs.batch.lend.Given as goal

-- what was collected and what the tables that are left list is all
abbrev pub invariant-loop-looked : goal.invariant-loop-looked
invariant-loop-looked l =
    let all = ages l.tables.tables in
    (l.fn.looks.items ≡ l.yielded ++ l.looked-iterator.rest.items)
    × (lent_events l.events.items ++ passing_of (is_listed l.prev l.cur l.sub) (drop (length l.yielded) all) ≡ passing_of (is_listed l.prev l.cur l.sub) all)
