use Rattle.std.proofs.Common.{◌≡◌}
use Rattle.pgq_retry.specs.Kept.{InOrder}
use Rattle.pgq_retry.proofs.OfSub.{outside, entries_without}
use Rattle.pgq_retry.proofs.placed.Placed.drop_sub.Given as goal

abbrev pub invariant-loop-place : goal.invariant-loop-place
invariant-loop-place l = (outside l.place-iterator l.self-inside.line ≡ entries_without l.sub l.initial.self-inside.line) × InOrder l.self-inside.line × (l.self-inside.places ≡ l.initial.self-inside.places)
