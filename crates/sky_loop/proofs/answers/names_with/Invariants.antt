use Rattle.std.proofs.Common.{◌≡◌, take}
use Rattle.sky_loop.proofs.answers.names_with.Given as goal

abbrev pub invariant-loop-other : goal.invariant-loop-other
invariant-loop-other l = l.all.items ≡ take l.other-index l.names
