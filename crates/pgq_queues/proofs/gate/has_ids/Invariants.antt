use Rattle.std.proofs.Common.{◌≡◌, option_copied}
use Rattle.pgq_queues.specs.EventRule.{table_events, sequences, ids_left}
use Rattle.pgq_queues.proofs.Telling.{ids_from}
use Rattle.pgq_queues.proofs.gate.has_ids.Given as goal

-- the rest of the triggers decides as all do
abbrev pub invariant-loop-place : goal.invariant-loop-place
invariant-loop-place l =
    ids_from l.traced (option_copied l.old) (option_copied l.new) (sequences l.queues) l.place
    ≡ ids_left (sequences l.queues) (table_events l.traced (option_copied l.old) (option_copied l.new))
