use Rattle.sky_world.proofs.Clocks.{IsWorking}
use Rattle.sky_world.proofs.state.State.work_at.Given as goal

-- the daemons of the databases that are left are still to work
abbrev pub invariant-loop-database : goal.invariant-loop-database
invariant-loop-database g l = IsWorking g.D.Store.seen l.fn.self l.self l.fn.moment l.database
