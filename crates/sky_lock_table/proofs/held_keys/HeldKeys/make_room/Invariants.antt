use Rattle.std.proofs.Common.{◌≡◌, ◌+◌, ◌-◌, ℕ, length}
use Rattle.sky_lock_table.specs.Sessions.{keys_of}
use Rattle.sky_lock_table.proofs.held_keys.HeldKeys.make_room.Given as goal

abbrev pub invariant-loop-alloc : goal.invariant-loop-alloc
invariant-loop-alloc l = ((s : ℕ) → keys_of l.self-inside.keys.items s ≡ keys_of l.initial.self-inside.keys.items s)

abbrev pub decreases-loop-alloc : goal.decreases-loop-alloc
decreases-loop-alloc l = l.who + 1 - length l.self-inside.keys.items
