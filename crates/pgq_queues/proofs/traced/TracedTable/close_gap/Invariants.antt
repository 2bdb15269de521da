use Rattle.std.proofs.Common.{◌≡◌, ◌++◌, take, drop, map}
use Rattle.pgq_queues.specs.Traced.{place_after}
use Rattle.pgq_queues.proofs.traced.TracedTable.close_gap.Given as goal

-- those before the place have moved
abbrev pub invariant-loop-place : goal.invariant-loop-place
invariant-loop-place l =
    l.place-items ≡ map (place_after l.gone) (take l.place-index l.initial.place-items) ++ drop l.place-index l.initial.place-items
