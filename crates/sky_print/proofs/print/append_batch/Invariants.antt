use Rattle.std.proofs.Common.{◌≡◌, ◌++◌, flat_map, take}
use Rattle.sky_model.specs.Printed.{event_text, line_text}
use Rattle.sky_print.proofs.print.append_batch.Given as goal

abbrev pub invariant-loop-event : goal.invariant-loop-event
invariant-loop-event l = l.into.items ≡ l.initial.into.items ++ flat_map (λ e. line_text l.name (event_text e)) (take l.event-index l.events)
