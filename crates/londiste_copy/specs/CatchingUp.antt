-- The table that a worker copies, and what is done with one that was copied.
use Rattle.std.specs.Prelude.{List, ℕ, Bool, true, false, Option, unwrap_or, is_some}
use Rattle.londiste_state.specs.declared.state.TableState.{TableState}
use Rattle.londiste_state.specs.declared.state.TableState.TheVariants.{CatchingUp, DoSync}
use Rattle.londiste_state.specs.Nodes.{LeafTable, Node, new_table}
use Rattle.sky_model.specs.Hands.{BatchHand}
use Rattle.sky_model.specs.Outcome.{Checked}
use Rattle.sky_model.specs.State.{Database}
use Rattle.sky_model.specs.WorkerMoves.{Move}
use Rattle.sky_model.specs.CopyMoves.{catches_up, hands_over, table_at}
use Rattle.londiste_copy.specs.declared.table.Progress.{Progress}

-- the table of a name of a leaf; without one it is as if the table had just joined
abbrev pub the_table : List ℕ → Option Node → LeafTable
the_table table n = unwrap_or (table_at table n) (new_table table)

-- how far a table has come
abbrev pub progress_of : LeafTable → Progress
progress_of t = record { state = t.state; tick = t.tick; is_copied = is_some t.snapshot }

-- whether a table in a state goes through batches
abbrev pub is_following : TableState → Bool
is_following CatchingUp = true
is_following (DoSync tick) = true
is_following state = false

-- what is done with such a table when no batch is in hand
abbrev pub without_batch : TableState → (p r : Database) → LeafTable → Checked (Move BatchHand)
without_batch (DoSync tick) p r t = hands_over p r tick t
without_batch state p r t = catches_up p r t
