-- What the world's methods on the workers of leaves give, by what the world showed.
use Rattle.std.specs.Prelude.{◌≡◌, true, ℕ, List, [], ◌∷◌, ◌++◌, not, Option, Some, None, Result, Ok, Err}
use Rattle.londiste_state.specs.Nodes.{Node, of_root, of_leaf, Leaf, is_among, tables_of}
use Rattle.sky_model.specs.declared.reply.Reply.TheVariants.{Done}
use Rattle.sky_model.specs.declared.reply.Refusal.TheVariants.{IdsSpent, NoNode, NotInSet, NotLeaf, TooMany, TxidsSpent}
use Rattle.sky_model.specs.declared.reply.Limit.TheVariants.{Consumers}
use Rattle.sky_model.specs.declared.stop.Stop.{Stop}
use Rattle.sky_model.specs.declared.stop.Stop.TheVariants as stop
use Rattle.sky_model.specs.Hands.{Hand, copy_in}
use Rattle.sky_model.specs.History.{in_hand, batch_in_hand}
use Rattle.sky_model.specs.Outcome.{Checked, ◌>>=◌, ◌>>◌, found_or, refused_if}
use Rattle.sky_model.specs.StepNode.{NodeCall, table_number, parting, removing, letting_go}
use Rattle.sky_model.specs.WorkerMoves.{Move}
use Rattle.sky_model.specs.CopyMoves.{copy_move, lets_go_for}
use Rattle.sky_model.specs.ReplayMoves.{replay_move}
use Rattle.sky_model.specs.NodesOfWorld.{WorldOutcome, node_called, columns_called}
use Rattle.sky_model.specs.State.{Database}
use Rattle.sky_model.specs.WorkersOfWorld.{moves, are_alike}
use Rattle.sky_model.specs.World.{World}
use Rattle.londiste_calls.specs.declared.faults.WorkerFault.{WorkerFault}
use Rattle.londiste_calls.specs.declared.faults.WorkerFault.TheVariants as fault

-- a node that is a leaf, in a database
abbrev pub if_leaf : (name : List ℕ) → (database : ℕ) → Node → Checked (ℕ × Leaf)
if_leaf name database (of_root r) = Err (NotLeaf name)
if_leaf name database (of_leaf l) = Ok (database, l)

-- the leaf of a name, and the number of its database
abbrev pub leaf_called : World → (name : List ℕ) → Checked (ℕ × Leaf)
leaf_called w name = do
  n ← found_or (node_called w name) (NoNode name)
  if_leaf name n.database n.node

-- the same, if the leaf has a table
abbrev pub leaf_with : World → (name table : List ℕ) → Checked (ℕ × Leaf)
leaf_with w name table = do
  x ← leaf_called w name
  refused_if (not (is_among table (tables_of (of_leaf x.1)))) (NotInSet table)
  Ok x

-- two databases have a table, under these numbers, with the same columns
pub record AreAlike (p r : Database) (table : List ℕ) (numbers : ℕ × ℕ) : Type 0 where
  pub there : table_number p table ≡ Some numbers.0
  pub here : table_number r table ≡ Some numbers.1
  pub columns : are_alike (columns_called table p) (columns_called table r) ≡ true

-- the leaf that a node is; any other node is read as a leaf without tables
abbrev pub leaf_in : Option Node → Leaf
leaf_in (Some (of_leaf l)) = l
leaf_in n = record { name = []; provider = []; tick = 0; tables = [] }

-- one move of the worker that copies a table of database `d` from database `p`
abbrev pub copies : World → (p d : ℕ) → (table : List ℕ) → Checked WorldOutcome
copies w p d table = moves w p d (in_hand d table) (copy_move (w.database p) (w.database d) table (w.hands d table))

-- one move of the worker of the leaf of database `d`, whose provider has database `p`
abbrev pub replays : World → (p d : ℕ) → Checked WorldOutcome
replays w p d = moves w p d (batch_in_hand d) (replay_move (w.database p) (w.database d) (leaf_in (w.database d).node) (w.batches d))

-- a snapshot that is held is let go, if there is one
abbrev pub lets_go_with : (hold : Option ℕ) → List NodeCall
lets_go_with None = []
lets_go_with (Some hold) = letting_go hold ∷ []

-- a consumer leaves, if there is one
abbrev pub parts_with : Option (List ℕ) → List NodeCall
parts_with None = []
parts_with (Some consumer) = parting consumer ∷ []

-- a table leaves a leaf, with what its worker has in hand, and this consumer of its copy
abbrev pub leaving : List ℕ → Option (List ℕ) → Option Hand → Move Hand
leaving table consumer hand = record { provider = lets_go_for (copy_in hand) ++ parts_with consumer; replica = removing table ∷ []; replies = Done ∷ []; hand = None }

-- why a statement stopped, by its worker's fault
abbrev pub stop_of : WorkerFault → Stop
stop_of fault.TooManyConsumers = stop.Refused (TooMany Consumers)
stop_of fault.IdsSpent = stop.Refused IdsSpent
stop_of fault.TxidsSpent = stop.Refused TxidsSpent
stop_of fault.NoMemory = stop.NoMemory

-- what a worker's move gave, as a statement gives it
abbrev pub stopping : {A : Type 0} → Result A WorkerFault → Result A Stop
stopping (Ok a) = Ok a
stopping (Err f) = Err (stop_of f)
