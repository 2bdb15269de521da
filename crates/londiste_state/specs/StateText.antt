-- How the state of a leaf's table is written.
use Rattle.std.specs.Prelude.{◌≡◌, Bool, true, false, List, ℕ, ◌<◌, ◌^◌, ◌++◌, codes}
use Rattle.std.specs.Fmt.{decimal}
use Rattle.londiste_state.specs.declared.state.TableState.{TableState}
use Rattle.londiste_state.specs.declared.state.TableState.TheVariants.{Absent, InCopy, CatchingUp, WannaSync, DoSync, Synced}

abbrev pub state_text : TableState → List ℕ
state_text Absent = codes "none"
state_text InCopy = codes "in-copy"
state_text CatchingUp = codes "catching-up"
state_text (WannaSync tick) = codes "wanna-sync:" ++ decimal tick
state_text (DoSync tick) = codes "do-sync:" ++ decimal tick
state_text Synced = codes "ok"

-- what is true of every state: its tick, if it has one, is below 2 ^ 64
abbrev pub IsState : TableState → Type 0
IsState (WannaSync tick) = tick < 2 ^ 64
IsState (DoSync tick) = tick < 2 ^ 64
IsState state = Unit {0}

-- some state is written so
abbrev pub IsStateText : List ℕ → Type 0
IsStateText text = (state : TableState) × IsState state × (state_text state ≡ text)

-- whether a tick is written with the state
abbrev pub has_tick : TableState → Bool
has_tick (WannaSync tick) = true
has_tick (DoSync tick) = true
has_tick state = false
