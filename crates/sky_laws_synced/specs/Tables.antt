-- How far a replicated table is.
use Rattle.std.specs.Prelude.{ℕ, Bool, true, false}
use Rattle.londiste_state.specs.declared.state.TableState.{TableState}
use Rattle.londiste_state.specs.declared.state.TableState.TheVariants.{CatchingUp, WannaSync, DoSync, Synced}
use Rattle.londiste_state.specs.Nodes.{Leaf, LeafTable}

-- whether a table that was copied has a tick of its own: its copy's worker goes on until it is handed over
abbrev pub has_own_tick : TableState → Bool
has_own_tick CatchingUp = true
has_own_tick (WannaSync tick) = true
has_own_tick (DoSync tick) = true
has_own_tick state = false

-- the tick whose rows a table in a state has: its leaf's, if it is in sync, or else that to which its copy has come
abbrev pub tick_in : TableState → (leafs own : ℕ) → ℕ
tick_in Synced leafs own = leafs
tick_in state leafs own = own

abbrev pub tick_of : Leaf → LeafTable → ℕ
tick_of l t = tick_in t.state l.tick t.tick
