-- The laws on nodes: what a root or a leaf finds in its database, and that sessions write no table of a leaf.
use Rattle.std.specs.Prelude.{◌≡◌, ◌≢◌, ℕ, Bool, true, false, List, [], ◌∷◌, ◌==◌, Option, Some, None, is_some, filter, Err, All, if◌then◌else◌}
use Rattle.std.specs.List.{list_any}
use Rattle.sky_val.specs.declared.val.Val.{Val}
use Rattle.sky_names.specs.Places.{place_of}
use Rattle.sky_model.specs.declared.reply.Refusal.TheVariants.{NotProvider, NoTable}
use Rattle.sky_model.specs.History.{of_session, tabled, wrote, History}
use Rattle.sky_model.specs.Sessions.{own_txid}
use Rattle.sky_model.specs.Rows.{table_names, wrote_in, is_read_only}
use Rattle.sky_model.specs.Triggers.{TableTrigger, is_sets}
use Rattle.sky_model.specs.Nodes.{node, is_root, set_tables, leaf_tables}
use Rattle.sky_model.specs.State.{database_of}
use Rattle.sky_model.specs.StepNode.{set_queue, set_trigger}
use Rattle.sky_model.specs.NodesOfWorld.{add_table}
use Rattle.sky_model.specs.WorkersOfWorld.{remove_table}
use Rattle.sky_model.specs.World.{world_of}
use Rattle.sky_model.specs.Calls.{Call, past_of}
use Rattle.sky_model.specs.Promises.{after_all}
use Rattle.sky_model.specs.DatabaseCalls.{DatabaseCall, database_part}
use Rattle.sky_model.specs.HistoryPlaces.{IsPlace}

-- a root's set has its queue
abbrev pub SetsHaveQueues : Type 0
SetsHaveQueues = (p : History) → IsPlace p → is_root (node p) ≡ true → is_some (set_queue (database_of p)) ≡ true

-- each of `names` is the name of a table; `tables` are the names of all tables
abbrev pub AreTables : (tables names : List (List ℕ)) → Type 0
AreTables tables names = All (λ name. is_some (place_of name tables) ≡ true) names

-- the tables of a set are tables of its root's database, and those of a leaf are of its own
abbrev pub NodesHaveTables : Type 0
NodesHaveTables = (p : History) → IsPlace p → AreTables (table_names p) (set_tables (node p)) × AreTables (table_names p) (leaf_tables (node p))

-- whether a place is this one
abbrev pub is_at : ℕ → Option ℕ → Bool
is_at n None = false
is_at n (Some place) = place == n

-- whether the table of a number has one of these names
abbrev pub is_one_of : (tables names : List (List ℕ)) → ℕ → Bool
is_one_of tables names table = list_any (λ name. is_at table (place_of name tables)) names

-- the trigger of a set on a table
abbrev pub triggers_into : ℕ → Option ℕ → List TableTrigger
triggers_into table None = []
triggers_into table (Some queue) = record { table = table; name = None; trigger = set_trigger queue } ∷ []

-- after calls each table of a root's set has one trigger without a name, which puts events into the set's queue, and no other table has one such
abbrev pub SetsHaveTriggers : Type 0
SetsHaveTriggers = (calls : List DatabaseCall) → (let h : History = after_all database_part calls in
    (table : ℕ) → filter (is_sets table) (database_of h).triggers
    ≡ (if is_one_of (table_names h) (set_tables (node h)) table then triggers_into table (set_queue (database_of h)) else []))

-- after calls the tables of a leaf are read-only, and no others are
abbrev pub LeafTablesAreReadOnly : Type 0
LeafTablesAreReadOnly = (calls : List DatabaseCall) → (let h : History = after_all database_part calls in
    (table : ℕ) → is_read_only table h ≡ is_one_of (table_names h) (leaf_tables (node h)) table)

-- no session writes a read-only table
abbrev pub SessionsWriteNoReadOnlyTable : Type 0
SessionsWriteNoReadOnlyTable = (p : History) (who t table : ℕ) (key : List Val) (old new : Option (List Val))
    → IsPlace (tabled (wrote (of_session who) t table key old new) ∷ p) → is_read_only table p ≡ false

-- and no running transaction of a session has written a read-only table
abbrev pub ReadOnlyTablesAreUnwritten : Type 0
ReadOnlyTablesAreUnwritten = (p : History) → IsPlace p → (who t table : ℕ) → own_txid who p ≡ Some t → is_read_only table p ≡ true → wrote_in table t p ≡ false

-- `add_table` is never refused because the root has no queue
abbrev pub RootsAreProviders : Type 0
RootsAreProviders = (calls : List Call) (name table root : List ℕ) → add_table (world_of (past_of calls)) name table ≢ Err (NotProvider root)

-- nor `remove_table` because the database of the node doesn't have the table
abbrev pub RemovedTablesExist : Type 0
RemovedTablesExist = (calls : List Call) (name table other : List ℕ) → remove_table (world_of (past_of calls)) name table ≢ Err (NoTable other)
