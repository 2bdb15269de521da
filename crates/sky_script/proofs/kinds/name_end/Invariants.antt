use Rattle.std.proofs.Common.{◌≡◌, true, take}
use Rattle.std.specs.List.{list_all}
use Rattle.sky_model.specs.Kinds as kind
use Rattle.sky_script.proofs.kinds.name_end.Given as goal

abbrev pub invariant-loop-i : goal.invariant-loop-i
invariant-loop-i l = list_all kind.continues_name (take l.i l.bytes) ≡ true
