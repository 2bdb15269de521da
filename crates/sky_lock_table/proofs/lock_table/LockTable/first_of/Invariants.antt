use Rattle.std.proofs.Common.{◌≡◌, take}
use Rattle.sky_lock_table.proofs.FirstLemmas.{first_among}
use Rattle.sky_lock_table.proofs.lock_table.LockTable.first_of.Given as goal

abbrev pub invariant-loop-key : goal.invariant-loop-key
invariant-loop-key l = l.first ≡ first_among (take l.key-index l.keys) l.self-inside.entries
