-- How the state of a leaf's table moves.
use Rattle.std.specs.Prelude.{Bool, true, false, nat_le}
use Rattle.londiste_state.specs.declared.state.TableState.{TableState}
use Rattle.londiste_state.specs.declared.state.TableState.TheVariants.{Absent, InCopy, CatchingUp, WannaSync, DoSync, Synced}

-- a table is copied, catches up with its queue, and is handed over at a tick that its copy has reached
abbrev pub is_allowed : (from to : TableState) → Bool
is_allowed Absent InCopy = true
is_allowed InCopy CatchingUp = true
is_allowed CatchingUp (WannaSync reached) = true
is_allowed (WannaSync reached) (DoSync tick) = nat_le reached tick
is_allowed (DoSync tick) Synced = true
is_allowed from to = false
