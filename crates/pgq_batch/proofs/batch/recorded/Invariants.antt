use Rattle.std.proofs.Common.{◌≡◌, ◌++◌, drop, length, map}
use Rattle.std.specs.Vec.{vec_len, vec_capacity}
use Rattle.pgq_tables.specs.Tables.{recorded_part}
use Rattle.pgq_batch.specs.Looked.{lent_events}
use Rattle.pgq_batch.proofs.batch.recorded.Given as goal

-- those so far, and those that are left; and there is room for these
abbrev pub invariant-loop-stored : goal.invariant-loop-stored
invariant-loop-stored l =
    (l.events.items ++ map recorded_part (lent_events (drop l.stored-index l.found)) ≡ map recorded_part (lent_events l.found))
    × (vec_len l.events ≡ l.stored-index)
    × (vec_capacity l.events ≡ length l.found)
