use Rattle.pgq_tick.proofs.TickLists.{newest-is, newest-time}
use Rattle.pgq_tick.proofs.ticks.Ticks.newest.Goals as goal

pub returns-clause-newest : goal.returns-clause-newest
returns-clause-newest c = newest-is _ _ _ _ c.as_slice-ticks.ensures.value c.self.view_is c.self.invariant.0 c.index-ticks-ticks.is

pub returns-clause-time : goal.returns-clause-time
returns-clause-time c = newest-time _ _ _ c.as_slice-ticks.ensures.value c.self.invariant.0 c.self.invariant.1 c.index-ticks-ticks.is
