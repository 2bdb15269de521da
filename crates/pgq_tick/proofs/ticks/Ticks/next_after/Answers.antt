use Rattle.std.proofs.Common.{arith}
use Rattle.pgq_tick.proofs.TickLists.{tick-above-newest}
use Rattle.pgq_tick.proofs.ticks.Ticks.next_after.Goals as goal

pub returns-then-id : goal.returns-then-id
returns-then-id c = tick-above-newest _ _ _ c.newest.ensures.ticks c.newest.ensures.newest (omega arith)
