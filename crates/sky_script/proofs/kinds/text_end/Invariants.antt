use Rattle.std.proofs.Common.{◌≡◌, ◌==◌, ◌&&◌, not, true, take}
use Rattle.std.specs.List.{list_all}
use Rattle.sky_model.specs.Kinds as kind
use Rattle.sky_script.proofs.kinds.text_end.Given as goal

abbrev pub invariant-loop-i : goal.invariant-loop-i
invariant-loop-i l = list_all (λ b. not (b == 39) && kind.is_text_byte b) (take l.i l.bytes) ≡ true
