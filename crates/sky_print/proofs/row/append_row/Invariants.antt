use Rattle.std.proofs.Common.{◌≡◌, ◌++◌, codes, map, take}
use Rattle.sky_model.specs.Printed.{value_text, spaced}
use Rattle.sky_print.proofs.row.append_row.Given as goal

abbrev pub invariant-loop-value : goal.invariant-loop-value
invariant-loop-value l = l.into.items ≡ l.fn.into.items ++ codes "row" ++ spaced (map value_text (take l.value-index l.values))
