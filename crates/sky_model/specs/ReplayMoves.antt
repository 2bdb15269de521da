-- One move of the worker of a leaf, which applies batches to the tables that are in sync, and decides which table is copied next and when it is handed
-- over. Each definition reads the databases `p` of the provider and `r` of the leaf as they are before the move.
use Rattle.std.specs.Prelude.{ℕ, List, Bool, true, false, Option, Some, None, nat_le, option_map, unwrap_or, find, if◌then◌else◌}
use Rattle.std.specs.List.{list_any}
use Rattle.londiste_state.specs.declared.state.TableState.{TableState}
use Rattle.londiste_state.specs.declared.state.TableState.TheVariants.{Absent, InCopy, WannaSync, DoSync, Synced}
use Rattle.londiste_state.specs.Nodes.{Leaf, LeafTable}
use Rattle.sky_model.specs.declared.reply.Reply.TheVariants.{AwaitsTable}
use Rattle.sky_model.specs.Hands.{BatchHand}
use Rattle.sky_model.specs.History.{of_synced}
use Rattle.sky_model.specs.State.{Database}
use Rattle.sky_model.specs.Outcome.{Checked}
use Rattle.sky_model.specs.WorkerMoves.{Move, only_prints, moves_to}
use Rattle.sky_model.specs.BatchMoves.{Follower, goes_through, takes_next}

-- the worker of a leaf
abbrev pub replayer : Leaf → Follower
replayer l = record { consumer = l.name; tick = l.tick; pick = of_synced }

-- whether a table isn't copied yet
abbrev pub is_absent : TableState → Bool
is_absent Absent = true
is_absent state = false

-- whether it is on its way from one that isn't copied to one in sync
abbrev pub is_on_way : TableState → Bool
is_on_way Absent = false
is_on_way Synced = false
is_on_way state = true

-- whether it is handed over
abbrev pub is_handed_over : TableState → Bool
is_handed_over (DoSync tick) = true
is_handed_over state = false

-- whether it waits for the leaf to come up to its tick, and the leaf has
abbrev pub is_met : (tick : ℕ) → TableState → Bool
is_met tick (WannaSync bound) = nat_le bound tick
is_met tick state = false

-- the first table of a leaf in such a state
abbrev pub first_in : (TableState → Bool) → Leaf → Option (List ℕ)
first_in is l = option_map LeafTable.name (find (λ t. is t.state) l.tables)

-- the table that is to be copied next, one at a time
abbrev pub next_to_copy : Leaf → Option (List ℕ)
next_to_copy l = if list_any (λ t. is_on_way t.state) l.tables then None else first_in is_absent l

-- a move for a table, if there is one, or else another
abbrev pub for_table : Option (List ℕ) → (List ℕ → Checked (Move BatchHand)) → Checked (Move BatchHand) → Checked (Move BatchHand)
for_table table move other = unwrap_or (option_map move table) other

-- what is done with nothing in hand: a table that is being handed over is waited for; one that the leaf has come up to is handed over, at the leaf's
-- tick; the next copy is begun; or the next batch is taken
abbrev pub empty_handed_move : Database → Leaf → Checked (Move BatchHand)
empty_handed_move p l =
    for_table (first_in is_handed_over l) (λ table. only_prints (AwaitsTable table) None)
    (for_table (first_in (is_met l.tick) l) (moves_to (DoSync l.tick))
    (for_table (next_to_copy l) (moves_to InCopy)
    (takes_next p (replayer l))))

-- one move of the worker
abbrev pub replay_move : (p r : Database) → Leaf → Option BatchHand → Checked (Move BatchHand)
replay_move p r l (Some batch) = goes_through p r (replayer l) batch
replay_move p r l None = empty_handed_move p l
