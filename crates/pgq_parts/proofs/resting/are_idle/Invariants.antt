use Rattle.std.proofs.Common.{◌≡◌, drop}
use Rattle.std.specs.List.{list_all}
use Rattle.sky_model.specs.Queues.{NamedQueue}
use Rattle.pgq_queues.specs.Seen.{queue_at, queues_of}
use Rattle.sky_store.specs.Idle.{queue_idles}
use Rattle.pgq_parts.proofs.resting.are_idle.Given as goal

-- the queues so far are idle
abbrev pub invariant-loop-place : goal.invariant-loop-place
invariant-loop-place l =
    list_all (λ (q : NamedQueue). queue_idles l.moment (queue_at l.queues q.number)) (drop l.place (queues_of l.queues)) ≡ list_all (λ (q : NamedQueue). queue_idles l.moment (queue_at l.queues q.number)) (queues_of l.queues)
