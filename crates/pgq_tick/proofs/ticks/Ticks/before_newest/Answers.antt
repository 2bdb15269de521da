use Rattle.std.proofs.Common.{refl, arith}
use Rattle.pgq_tick.proofs.TickLists.{IfSome-time, last_two-none, last_two-found}
use Rattle.pgq_tick.proofs.ticks.Ticks.before_newest.Goals as goal

pub returns-then-len-lt2-clause-last : goal.returns-then-len-lt2-clause-last
returns-then-len-lt2-clause-last c = last_two-none _ _ _ c.len-len.ensures.len c.if-len-lt2.true refl

pub returns-clause-last : goal.returns-clause-last
returns-clause-last c = last_two-found _ _ _ c.len-len.ensures.len (omega arith) c.at.ensures

pub returns-clause-time : goal.returns-clause-time
returns-clause-time c = IfSome-time _ _ c.at.result c.len-len.ensures.ticks c.at.ensures
