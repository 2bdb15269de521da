use Rattle.std.proofs.Common.{◌≡◌, length, vec_capacity}
use Rattle.sky_keys.specs.Waits.{released}
use Rattle.sky_lock_table.specs.Sessions.{keys_of}
use Rattle.sky_locks.specs.Freed.{IsListed}
use Rattle.sky_locks.proofs.LockLemmas.{holders}
use Rattle.sky_locks.proofs.locks.Locks.release.Given as goal

abbrev pub decreases-loop-key : goal.decreases-loop-key
decreases-loop-key l = length (keys_of l.self-inside.table.listed l.who)

abbrev pub invariant-loop-key : goal.invariant-loop-key
invariant-loop-key l = IsListed l.self-inside.table.held l.self-inside.table.waiting l.self-inside.freed.items (vec_capacity l.self-inside.freed)
    × (released l.who (holders l.self-inside.table.held) ≡ released l.who (holders l.initial.self-inside.table.held))
    × (l.self-inside.table.waiting ≡ l.initial.self-inside.table.waiting)
