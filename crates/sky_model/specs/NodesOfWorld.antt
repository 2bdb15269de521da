-- What the statements on nodes do that concern two databases, or the one of a node's name; what those on their workers do is in WorkersOfWorld. Each
-- reads the world `w` as it is; `d` is the database that the session has open.
use Rattle.std.specs.Prelude.{ℕ, List, [], ◌∷◌, ◌++◌, Bool, true, false, not, ◌&&◌, ◌||◌, map, find, Option, Some, None, option_map, is_some, bytes_eq, Ok, Err, if◌then◌else◌}
use Rattle.sky_val.specs.declared.column.Column.{Column}
use Rattle.sky_val.specs.declared.column.ColKind.{ColKind}
use Rattle.sky_val.specs.declared.column.ColKind.TheVariants as kind
use Rattle.sky_names.specs.Places.{place_of}
use Rattle.londiste_state.specs.Nodes.{Node, of_root, of_leaf, node_name, is_among, table_of, tables_of}
use Rattle.sky_model.specs.declared.reply.Reply.{Reply}
use Rattle.sky_model.specs.declared.reply.Reply.TheVariants as replies
use Rattle.sky_model.specs.declared.reply.Reply.TheVariants.{Done}
use Rattle.sky_model.specs.declared.reply.Refusal.TheVariants.{AlreadyInSet, NodeExists, NoNode, NotInSet, NotLeaf, NotProvider, SchemaDiffers}
use Rattle.sky_model.specs.History.{Fact, within, node_made, noded, leaf_made}
use Rattle.sky_model.specs.State.{Database}
use Rattle.sky_model.specs.Outcome.{Outcome, Checked, ◌>>=◌, ◌>>◌, refused_if, found_or}
use Rattle.sky_model.specs.StepRows.{table_called}
use Rattle.sky_model.specs.StepQueue.{newest_id}
use Rattle.sky_model.specs.StepNode.{makes_root, set_queue, joins, lists, adds}
use Rattle.sky_model.specs.World.{World}

-- the answers, and what happened in the world, in order
pub record WorldOutcome : Type 0 where
  pub replies : List Reply
  pub facts : List Fact

-- a node, and the number of its database
pub record Located : Type 0 where
  pub database : ℕ
  pub node : Node

-- the node of a database, if it has this name, or else another
abbrev pub if_named : List ℕ → ℕ → Option Node → Option Located → Option Located
if_named name d None other = other
if_named name d (Some node) other = if bytes_eq name (node_name node) then Some (record { database = d; node = node }) else other

-- the first node of a name in some databases
abbrev pub node_among : (ℕ → Option Node) → List ℕ → List ℕ → Option Located
node_among nodes name [] = None
node_among nodes name (d ∷ ds) = if_named name d (nodes d) (node_among nodes name ds)

-- the node of a name
abbrev pub node_called : World → List ℕ → Option Located
node_called w name = node_among (λ d. (w.database d).node) name w.nodes

-- what is done in a database, with an answer
abbrev pub done_in : ℕ → Reply → Checked Outcome → Checked WorldOutcome
done_in d reply (Ok outcome) = Ok (record { replies = reply ∷ []; facts = map (within d) outcome.marks })
done_in d reply (Err refusal) = Err refusal

-- a root, which its database has made
abbrev pub root_of : ℕ → Checked Outcome → Checked WorldOutcome
root_of d (Ok making) = Ok (record { replies = Done ∷ []; facts = map (within d) making.marks ++ node_made d ∷ [] })
root_of d (Err refusal) = Err refusal

-- why a database may not get a node of this name: there is one, or the database has a node
abbrev pub refuses_new : World → ℕ → List ℕ → Checked (Unit {0})
refuses_new w d name = refused_if (is_some (node_called w name) || is_some (w.database d).node) (NodeExists name)

-- `create_root NAME NAME`: a root in the session's database, with the set's queue
abbrev pub create_root : World → ℕ → (name queue : List ℕ) → Checked WorldOutcome
create_root w d name queue = do
  refuses_new w d name
  root_of d (makes_root (w.database d) w.now name queue)

-- a leaf of a provider, in whose database its consumer has joined the set's queue
abbrev pub leaf_of : ℕ → (provider : ℕ) → (name provider_name : List ℕ) → (tick : ℕ) → Checked Outcome → Checked WorldOutcome
leaf_of d provider name provider_name tick (Ok joining) = Ok (record {
  replies = Done ∷ [];
  facts = map (within provider) joining.marks ++ within d (noded (leaf_made name provider_name tick)) ∷ node_made d ∷ [];
})
leaf_of d provider name provider_name tick (Err refusal) = Err refusal

-- `create_leaf NAME NAME`: a leaf in the session's database, whose tick is the newest of its provider's queue
abbrev pub create_leaf : World → ℕ → (name provider : List ℕ) → Checked WorldOutcome
create_leaf w d name provider = do
  refuses_new w d name
  p ← found_or (node_called w provider) (NoNode provider)
  queue ← found_or (set_queue (w.database p.database)) (NotProvider provider)
  leaf_of d p.database name provider (newest_id ((w.database p.database).queue queue)) (joins (w.database p.database) queue name)

-- the database of a root that has a table
abbrev pub provides : List ℕ → Option Located → Option ℕ
provides table None = None
provides table (Some n) = if is_among table (tables_of n.node) then Some n.database else None

-- whether two columns have one kind
abbrev pub same_kind : ColKind → ColKind → Bool
same_kind kind.Int kind.Int = true
same_kind kind.Text kind.Text = true
same_kind k l = false

-- whether two columns are the same: by name, kind, and whether they are part of the key
abbrev pub same_column : Column → Column → Bool
same_column c e = bytes_eq c.name e.name && same_kind c.kind e.kind && (if c.key then e.key else not e.key)

-- whether columns are the same, in order
abbrev pub same_columns : List Column → List Column → Bool
same_columns [] [] = true
same_columns (c ∷ cs) (e ∷ es) = same_column c e && same_columns cs es
same_columns cs es = false

-- the columns of a table of a name
abbrev pub columns_called : List ℕ → Database → Option (List Column)
columns_called name d = option_map d.part.columns (place_of name d.part.tables)

-- whether there are these columns
abbrev pub are_columns : List Column → Option (List Column) → Bool
are_columns columns None = false
are_columns columns (Some others) = same_columns columns others

-- a table joins a node: a root, or a leaf whose provider has it
abbrev pub adds_to : World → ℕ → (table : ℕ) → List ℕ → Node → Checked WorldOutcome
adds_to w d table name (of_root r) = do
  queue ← found_or (set_queue (w.database d)) (NotProvider r.name)
  done_in d Done (lists (w.database d) queue table name)
adds_to w d table name (of_leaf l) = do
  p ← found_or (provides name (node_called w l.provider)) (NotInSet name)
  refused_if (not (are_columns ((w.database d).part.columns table) (columns_called name (w.database p)))) (SchemaDiffers name)
  done_in d Done (adds (w.database d) table name)

-- `add_table NAME TABLE`
abbrev pub add_table : World → (name table : List ℕ) → Checked WorldOutcome
add_table w name table_name = do
  n ← found_or (node_called w name) (NoNode name)
  table ← table_called table_name (w.database n.database).part
  refused_if (is_among table_name (tables_of n.node)) (AlreadyInSet table_name)
  adds_to w n.database table table_name n.node

-- whether a node is a leaf of a provider, and has a table
abbrev pub uses : (provider table : List ℕ) → Option Node → Bool
uses provider table None = false
uses provider table (Some (of_root r)) = false
uses provider table (Some (of_leaf l)) = bytes_eq provider l.provider && is_among table (tables_of (of_leaf l))

-- the name of a database's node
abbrev pub name_in : World → ℕ → List ℕ
name_in w d = name_or_none (w.database d).node where
  name_or_none : Option Node → List ℕ
  name_or_none None = []
  name_or_none (Some n) = node_name n

-- the first leaf of a provider that has a table
abbrev pub first_user : World → (provider table : List ℕ) → Option (List ℕ)
first_user w provider table = option_map (name_in w) (find (λ d. uses provider table (w.database d).node) w.nodes)

-- the state of a table of a leaf
abbrev pub shows_state : List ℕ → List ℕ → Node → Checked WorldOutcome
shows_state name table (of_root r) = Err (NotLeaf name)
shows_state name table (of_leaf l) = do
  t ← found_or (table_of table l) (NotInSet table)
  Ok (record { replies = replies.State t.state ∷ []; facts = [] })

-- `table_state NAME TABLE`
abbrev pub table_state : World → (name table : List ℕ) → Checked WorldOutcome
table_state w name table = do
  n ← found_or (node_called w name) (NoNode name)
  shows_state name table n.node
