use Rattle.std.proofs.Common.{◌≡◌, ◌++◌, codes, map, take}
use Rattle.sky_model.specs.Printed.{name_at, spaced}
use Rattle.sky_print.proofs.refusal.append_deadlock.Given as goal

abbrev pub invariant-loop-waiter : goal.invariant-loop-waiter
invariant-loop-waiter l = l.into.items ≡ l.fn.into.items ++ codes "Deadlock" ++ spaced (map (name_at l.names) (take l.waiter-index l.waiters))
