-- What the code keeps, read as the definitions' state.
use Rattle.std.specs.Prelude.{ℕ, Bool, false, ◌==◌, List, [], Option, None, slice_index_or}
use Rattle.std.specs.Int.{bit_at}
use Rattle.std.specs.Option.{option_map_or}
use Rattle.std.specs.Map.{lookup}
use Rattle.std.specs.BTreeMap.{is_at}
use Rattle.std.specs.Ordering.{nat_cmp}
use Rattle.sky_val.specs.declared.val.Val.{Val}
use Rattle.sky_val.specs.declared.column.Column.{Column}
use Rattle.sky_val.specs.Entries.{Entries}
use Rattle.sky_keys.specs.declared.version.Version.{Version}
use Rattle.sky_txid.specs.Snapshot.{SnapshotView}
use Rattle.sky_rows.specs.Table.{TableView, place_in}
use Rattle.sky_locks.specs.Locks.{holder, slot_place}
use Rattle.sky_model.specs.declared.stmt.Attempt.{Attempt}
use Rattle.sky_model.specs.declared.stmt.Attempt.TheVariants.{Deletion}
use Rattle.sky_model.specs.Sessions as model
use Rattle.sky_model.specs.State.{RowPart}
use Rattle.sky_fits.specs.declared.standing.Block.TheVariants.{Outside}
use Rattle.sky_fits.specs.Blocks.{seen_block}
use Rattle.sky_state.specs.declared.places.Places.{Places}
use Rattle.sky_state.specs.declared.session.Sight.{Sight}
use Rattle.sky_state.specs.declared.session.Sight.TheVariants.{AtEach, AtFirst, AtPlace}
use Rattle.sky_state.specs.declared.session.Session.{Session}
use Rattle.sky_state.specs.Views.{RowStateView}

abbrev pub seen_sight : Sight → model.Sight SnapshotView
seen_sight AtEach = model.at_each
seen_sight AtFirst = model.at_first
seen_sight (AtPlace snapshot) = model.at_place snapshot

abbrev pub seen_session : Session → model.Session
seen_session s = record { is_open = s.is_open; block = seen_block s.block; txid = s.txid; sight = seen_sight s.sight }

-- a session that doesn't have the database open, and so is in no transaction
abbrev pub rest : Session
rest = record { is_open = false; block = Outside; txid = None; sight = AtEach }

-- the sessions, by number
abbrev pub session_of : List Session → ℕ → model.Session
session_of sessions who = seen_session (slice_index_or sessions who rest)

-- a table that doesn't exist
abbrev pub no_table : TableView
no_table = record { columns = []; versions = []; places = [] }

-- the tables, by number
abbrev pub table_of : List TableView → ℕ → TableView
table_of tables n = slice_index_or tables n no_table

abbrev pub columns_of : List TableView → ℕ → List Column
columns_of tables n = (table_of tables n).columns

abbrev pub versions_of : List TableView → ℕ → Entries (List Version)
versions_of tables n = (table_of tables n).versions

-- where a key of a table is found, if it has a version
abbrev pub found_in : RowStateView → ℕ → List Val → Option ℕ
found_in d table key = place_in (table_of d.tables.values table) key

-- where its slot among the locks is found, if it is held or waited for
abbrev pub lock_in : RowStateView → ℕ → List Val → Option ℕ
lock_in d table key = slot_place d.locks table key

abbrev pub places_in : RowStateView → ℕ → List Val → Places
places_in d table key = record { row = found_in d table key; lock = lock_in d table key }

-- whether a transaction has written in a table: its bit for the table is set
abbrev pub wrote_in : List (ℕ × ℕ) → (table t : ℕ) → Bool
wrote_in writers table t = option_map_or (λ tables. bit_at tables table == 1) (lookup (is_at (nat_cmp t)) writers) false

-- whether sessions may not write a table
abbrev pub is_read_only : List Bool → ℕ → Bool
is_read_only tables n = slice_index_or tables n false

-- what a session that waits attempts
abbrev pub attempt_of : List Attempt → ℕ → Attempt
attempt_of attempts who = slice_index_or attempts who Deletion

abbrev pub seen : RowStateView → RowPart
seen d = record {
  next = d.trans.next;
  running_ids = d.trans.running;
  workers = d.workers;
  session = session_of d.sessions;
  tables = d.tables.names;
  columns = columns_of d.tables.values;
  versions = versions_of d.tables.values;
  wrote_in = wrote_in d.writers;
  is_read_only = is_read_only d.read_only;
  holder = holder d.locks;
  waiting = d.locks.waiting;
  attempt = attempt_of d.attempts;
}
