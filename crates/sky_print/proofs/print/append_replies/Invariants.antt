use Rattle.std.proofs.Common.{◌≡◌, ◌++◌, take}
use Rattle.sky_model.specs.Printed.{printed}
use Rattle.sky_print.proofs.print.append_replies.Given as goal

abbrev pub invariant-loop-session : goal.invariant-loop-session
invariant-loop-session l = l.into.items ≡ l.initial.into.items ++ printed l.names (take l.session-index l.replies)
