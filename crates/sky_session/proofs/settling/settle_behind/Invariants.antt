use Rattle.std.proofs.Common.{length}
use Rattle.sky_state.specs.Seen.{seen}
use Rattle.sky_session.proofs.LockLemmas.{Remains}
use Rattle.sky_session.proofs.settling.settle_behind.Given as goal

abbrev pub invariant-loop-who : goal.invariant-loop-who
invariant-loop-who g l = Remains g.G.WriteGate.rule (seen l.fn.state, l.fn.gate) (seen l.state, l.gate) l.fn.step l.step

abbrev pub decreases-loop-who : goal.decreases-loop-who
decreases-loop-who g l = length (seen l.state).waiting
