use Rattle.std.proofs.Common.{◌≡◌, ◌++◌, take}
use Rattle.sky_model.specs.Printed.{doubled}
use Rattle.sky_print.proofs.event.append_doubled.Given as goal

abbrev pub invariant-loop-byte : goal.invariant-loop-byte
invariant-loop-byte l = l.into.items ≡ l.initial.into.items ++ doubled (take l.byte-index l.text)
