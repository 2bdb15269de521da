use Rattle.std.proofs.Common.{◌≡◌, ◌≤◌, length, take, filter}
use Rattle.std.specs.Prelude.{is_none}
use Rattle.pgq_queues.specs.Seen.{queues_of, queue_at}
use Rattle.pgq_queues.proofs.queues.Queues.unfinished.Given as goal

-- those of the first queues are counted
abbrev pub invariant-loop-place : goal.invariant-loop-place
invariant-loop-place l = record {
  counted : l.count ≡ length (filter (λ q. is_none (queue_at l.self q.number).event_tables.second_step) (take l.place (queues_of l.self)));
  few : l.count ≤ l.place;
}
