use Rattle.std.proofs.Common.{◌≡◌, ◌++◌, flat_map, take}
use Rattle.sky_model.specs.Printed.{row_text, line_text}
use Rattle.sky_print.proofs.print.append_listing.Given as goal

abbrev pub invariant-loop-row : goal.invariant-loop-row
invariant-loop-row l = l.into.items ≡ l.initial.into.items ++ flat_map (λ r. line_text l.name (row_text r)) (take l.row-index l.rows)
