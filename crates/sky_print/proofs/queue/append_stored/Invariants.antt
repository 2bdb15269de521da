use Rattle.std.proofs.Common.{◌≡◌, ◌++◌, codes, map, take}
use Rattle.std.specs.Fmt.{decimal}
use Rattle.sky_model.specs.Printed.{spaced}
use Rattle.sky_print.proofs.queue.append_stored.Given as goal

abbrev pub invariant-loop-count : goal.invariant-loop-count
invariant-loop-count l = l.into.items ≡ l.fn.into.items ++ codes " stored" ++ spaced (map decimal (take l.count-index l.stored))
