use Rattle.std.proofs.Common.{◌≡◌, ◌++◌, drop, length}
use Rattle.std.specs.Vec.{vec_len, vec_capacity}
use Rattle.pgq_batch.specs.Looked.{lent_events}
use Rattle.pgq_batch.proofs.batch.copies.Given as goal

-- those that were copied, and those that are left; and there is room for these
abbrev pub invariant-loop-stored : goal.invariant-loop-stored
invariant-loop-stored l =
    (l.events.items ++ lent_events (drop l.stored-index l.found) ≡ lent_events l.found)
    × (vec_len l.events ≡ l.stored-index)
    × (vec_capacity l.events ≡ length l.found)
