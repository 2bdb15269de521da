use Rattle.pgq_tick.proofs.TickLists.{AreTicks-next}
use Rattle.pgq_tick.proofs.ticks.Ticks.push.Goals as goal

pub invariant_of-self-2 : goal.invariant_of-self-2
invariant_of-self-2 c = AreTicks-next _ _ _ _ c.self.view_is c.self.invariant c.in_ok-push.ensures.items c.requires.next c.requires.time
