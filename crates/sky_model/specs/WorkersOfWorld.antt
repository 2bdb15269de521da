-- What the statements on the workers of a leaf do, and what a table that leaves a node leaves behind. Each reads the world `w` as it is; `d` is the
-- database of the node.
use Rattle.std.specs.Prelude.{ℕ, List, [], ◌∷◌, ◌++◌, Bool, false, not, map, Option, Some, None, option_map, Ok, Err, if◌then◌else◌}
use Rattle.sky_val.specs.declared.column.Column.{Column}
use Rattle.londiste_state.specs.declared.state.TableState.{TableState}
use Rattle.londiste_state.specs.Nodes.{Node, of_root, of_leaf, Leaf, LeafTable, is_among, table_of, tables_of}
use Rattle.sky_model.specs.declared.stmt.NodeStmt.{NodeStmt}
use Rattle.sky_model.specs.declared.stmt.NodeStmt.TheVariants as node
use Rattle.sky_model.specs.declared.reply.Reply.TheVariants.{Done}
use Rattle.sky_model.specs.declared.reply.Refusal.TheVariants.{NoNode, NotInSet, NotLeaf, NotProvider, SchemaDiffers, TableInUse}
use Rattle.sky_model.specs.Hands.{Hand, copy_in}
use Rattle.sky_model.specs.History.{Fact, within, in_hand, batch_in_hand}
use Rattle.sky_model.specs.Outcome.{Checked, ◌>>=◌, ◌>>◌, refused_if, refused_by, found_or, marks_of}
use Rattle.sky_model.specs.StepRows.{table_called}
use Rattle.sky_model.specs.StepNode.{NodeCall, parting, removing, node_does, set_queue, unlists}
use Rattle.sky_model.specs.WorkerMoves.{Move}
use Rattle.sky_model.specs.CopyMoves.{copy_consumer, copy_move, lets_go_for, gives_up_in}
use Rattle.sky_model.specs.ReplayMoves.{is_on_way, replay_move}
use Rattle.sky_model.specs.NodesOfWorld.{WorldOutcome, node_called, provides, are_columns, columns_called, first_user, done_in, create_root, create_leaf, add_table, table_state}
use Rattle.sky_model.specs.World.{World, after_facts}

-- ---- what calls leave in the world

-- what a call for a node leaves of its database
abbrev pub call_facts : World → (d : ℕ) → NodeCall → List Fact
call_facts w d call = map (within d) (marks_of (node_does (w.database d) call))

-- what calls leave, one after another
abbrev pub calls_facts : World → (d : ℕ) → List NodeCall → List Fact
calls_facts w d [] = []
calls_facts w d (call ∷ calls) = call_facts w d call ++ calls_facts (after_facts w (call_facts w d call)) d calls

-- what a move of a worker leaves: its calls in the provider's database `p`, and then those in the leaf's, and what it then has in hand
abbrev pub move_facts : {H : Type 0} → World → (p d : ℕ) → (Option H → Fact) → Move H → List Fact
move_facts w p d handed move =
    let there : List Fact = calls_facts w p move.provider in there ++ (calls_facts (after_facts w there) d move.replica ++ handed move.hand ∷ [])

-- what it does, if it isn't refused
abbrev pub moves : {H : Type 0} → World → (p d : ℕ) → (Option H → Fact) → Checked (Move H) → Checked WorldOutcome
moves w p d handed (Ok move) = Ok (record { replies = move.replies; facts = move_facts w p d handed move })
moves w p d handed (Err refusal) = Err refusal

-- ---- the database from which a table is copied

-- the database of a leaf's provider, which has the table in its set
abbrev pub source : World → Leaf → List ℕ → Checked ℕ
source w l table = do
  p ← found_or (provides table (node_called w l.provider)) (NotInSet table)
  queue ← found_or (set_queue (w.database p)) (NotProvider l.provider)
  Ok p

-- whether two databases have a table, with the same columns
abbrev pub are_alike : Option (List Column) → Option (List Column) → Bool
are_alike None columns = false
are_alike (Some others) columns = are_columns others columns

-- it can be copied from there: the columns are the same
abbrev pub source_alike : World → ℕ → Leaf → List ℕ → Checked ℕ
source_alike w d l table = do
  p ← source w l table
  refused_if (not (are_alike (columns_called table (w.database p)) (columns_called table (w.database d)))) (SchemaDiffers table)
  Ok p

-- ---- the workers' statements

-- a table of a leaf
abbrev pub leaf_table : (name table : List ℕ) → Node → Checked Leaf
leaf_table name table (of_root r) = Err (NotLeaf name)
leaf_table name table (of_leaf l) = do
  refused_if (not (is_among table (tables_of (of_leaf l)))) (NotInSet table)
  Ok l

-- `copy_step NAME TABLE`
abbrev pub copy_step : World → (name table : List ℕ) → Checked WorldOutcome
copy_step w name table = do
  n ← found_or (node_called w name) (NoNode name)
  l ← leaf_table name table n.node
  p ← source_alike w n.database l table
  moves w p n.database (in_hand n.database table) (copy_move (w.database p) (w.database n.database) table (w.hands n.database table))

-- `restart NAME`: what its worker has in hand is lost
abbrev pub restarts : (d : ℕ) → (name : List ℕ) → Node → Checked WorldOutcome
restarts d name (of_root r) = Err (NotLeaf name)
restarts d name (of_leaf l) = Ok (record { replies = Done ∷ []; facts = batch_in_hand d None ∷ [] })

abbrev pub restart : World → (name : List ℕ) → Checked WorldOutcome
restart w name = do
  n ← found_or (node_called w name) (NoNode name)
  restarts n.database name n.node

-- what is in hand is given up, and it is answered
abbrev pub restarting : List ℕ → Option Hand → Move Hand
restarting table hand = record (gives_up_in table hand) { replies = Done ∷ [] }

-- `restart NAME TABLE`: what its worker has in hand is lost
abbrev pub restart_table : World → (name table : List ℕ) → Checked WorldOutcome
restart_table w name table = do
  n ← found_or (node_called w name) (NoNode name)
  l ← leaf_table name table n.node
  p ← source w l table
  moves w p n.database (in_hand n.database table) (Ok (restarting table (w.hands n.database table)))

-- the database of a leaf's provider
abbrev pub provider_of : World → Leaf → Checked ℕ
provider_of w l = do
  n ← found_or (node_called w l.provider) (NoNode l.provider)
  queue ← found_or (set_queue (w.database n.database)) (NotProvider l.provider)
  Ok n.database

abbrev pub leaf_steps : World → ℕ → (name : List ℕ) → Node → Checked WorldOutcome
leaf_steps w d name (of_root r) = Err (NotLeaf name)
leaf_steps w d name (of_leaf l) = do
  p ← provider_of w l
  moves w p d (batch_in_hand d) (replay_move (w.database p) (w.database d) l (w.batches d))

-- `londiste_step NAME`
abbrev pub londiste_step : World → (name : List ℕ) → Checked WorldOutcome
londiste_step w name = do
  n ← found_or (node_called w name) (NoNode name)
  leaf_steps w n.database name n.node

-- ---- a table leaves a node

-- the consumer of the copies of a node's tables leaves, if the copy of the table in this state has it
abbrev pub parts_for : Option Node → Option TableState → List NodeCall
parts_for n None = []
parts_for n (Some state) = if is_on_way state then parting (copy_consumer n) ∷ [] else []

-- a table leaves a leaf: a copy of it that runs is given up, and its consumer leaves
abbrev pub leaves_leaf : Leaf → List ℕ → Option Hand → Move Hand
leaves_leaf l table hand = record {
  provider = lets_go_for (copy_in hand) ++ parts_for (Some (of_leaf l)) (option_map LeafTable.state (table_of table l));
  replica = removing table ∷ [];
  replies = Done ∷ [];
  hand = None;
}

abbrev pub removes_from : World → ℕ → (table : ℕ) → List ℕ → Node → Checked WorldOutcome
removes_from w d table name (of_root r) = do
  refused_by (option_map TableInUse (first_user w r.name name))
  done_in d Done (unlists table name)
removes_from w d table name (of_leaf l) = do
  p ← source w l name
  moves w p d (in_hand d name) (Ok (leaves_leaf l name (w.hands d name)))

-- `remove_table NAME TABLE`
abbrev pub remove_table : World → (name table : List ℕ) → Checked WorldOutcome
remove_table w name table_name = do
  n ← found_or (node_called w name) (NoNode name)
  refused_if (not (is_among table_name (tables_of n.node))) (NotInSet table_name)
  table ← table_called table_name (w.database n.database).part
  removes_from w n.database table table_name n.node

-- ---- what a statement on nodes does, if its session may make it
abbrev pub node_form : World → ℕ → NodeStmt → Checked WorldOutcome
node_form w d (node.CreateRoot name queue) = create_root w d name queue
node_form w d (node.CreateLeaf name provider) = create_leaf w d name provider
node_form w d (node.AddTable name table) = add_table w name table
node_form w d (node.RemoveTable name table) = remove_table w name table
node_form w d (node.TableState name table) = table_state w name table
node_form w d (node.CopyStep name table) = copy_step w name table
node_form w d (node.Restart name) = restart w name
node_form w d (node.RestartTable name table) = restart_table w name table
node_form w d (node.LondisteStep name) = londiste_step w name
