use Rattle.std.proofs.Common.{ℕ, ◌<◌, IfSome}
use Rattle.sky_store.specs.Idle.{IsIdleUntil}
use Rattle.sky_world.specs.Seen.{seen_state}
use Rattle.sky_world.proofs.state.State.is_idle_until.Given as goal

-- the daemons of the databases so far are idle
abbrev pub invariant-loop-database : goal.invariant-loop-database
invariant-loop-database g l = (d : ℕ) → d < l.database → IfSome ((seen_state g.D.Store.seen l.self).daemons d) (λ start. IsIdleUntil l.moment ((seen_state g.D.Store.seen l.self).database d))
