use Rattle.std.proofs.Common.{◌≡◌, false, take}
use Rattle.sky_lock_table.specs.Waiters.{is_among}
use Rattle.sky_lock_table.proofs.held_keys.place_of.Given as goal

abbrev pub invariant-loop-place : goal.invariant-loop-place
invariant-loop-place l = is_among (take l.place l.keys) l.fn.key ≡ false
