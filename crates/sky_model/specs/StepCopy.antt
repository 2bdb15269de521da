-- What a copy of a table does to the database that gets the rows, and how the other one holds a snapshot for it. Each reads its database `d` as it is.
use Rattle.std.specs.Prelude.{ℕ, List, [], ◌∷◌, map, Bool, true, false, ◌==◌, Option, Some, None, is_none, if◌then◌else◌}
use Rattle.std.specs.List.{list_all, list_any}
use Rattle.sky_val.specs.declared.val.Val.{Val}
use Rattle.sky_val.specs.declared.column.Column.{Column}
use Rattle.sky_val.specs.Entries.{Entries}
use Rattle.sky_val.specs.Schemas.{row_fault, key_of}
use Rattle.sky_keys.specs.Versions.{read, versions_at, rows_read}
use Rattle.sky_txid.specs.Snapshot.{SnapshotView}
use Rattle.sky_model.specs.declared.reply.Reply.TheVariants.{Done, Number, Null}
use Rattle.sky_model.specs.History.{Mark, of_copy, began, ended, tabled, wrote, noded, copied, restarted, hold_begun, hold_ended}
use Rattle.sky_model.specs.Rows.{Write}
use Rattle.sky_model.specs.Copies.{Hold, least_free}
use Rattle.sky_model.specs.State.{RowPart, after_part, Database}
use Rattle.sky_model.specs.ShownRows.{snapshot_now}
use Rattle.sky_model.specs.OwnTransaction.{next_id}
use Rattle.sky_model.specs.Outcome.{Outcome, Checked, ◌>>=◌, answers, does_marks}

-- the row that a key has for a transaction: as it left it, or else by the newest committed write
abbrev pub row_for : RowPart → (table t : ℕ) → List Val → Option (List Val)
row_for d table t key = read (snapshot_now d) (Some t) (versions_at key (d.versions table))

-- the rows of a table, by the newest committed write of each key
abbrev pub rows_now : RowPart → ℕ → Entries (List Val)
rows_now d table = rows_read (snapshot_now d) None (d.versions table)

-- a write of a copy
abbrev pub copy_write : RowPart → (table t : ℕ) → Write → Mark
copy_write d table t w = tabled (wrote (of_copy table) t table w.key (row_for d table t w.key) w.row)

-- its writes, one after another
abbrev pub copy_writes : RowPart → (table t : ℕ) → List Write → List Mark
copy_writes d table t [] = []
copy_writes d table t (w ∷ ws) = copy_write d table t w ∷ copy_writes (after_part d (copy_write d table t w)) table t ws

-- the deletion of each key that has a row
abbrev pub deletions : Entries (List Val) → List Write
deletions rows = map (λ e. record { key = e.0; row = None }) rows

-- the rows of a table of these columns, each written under its key
abbrev pub insertions : List Column → List (List Val) → List Write
insertions columns rows = map (λ row. record { key = key_of columns row; row = Some row }) rows

-- the copy of a table begins, unless it runs: the rows that the table has are deleted
abbrev pub begins_copy : Database → (table : ℕ) → Option ℕ → Checked Outcome
begins_copy d table (Some t) = answers Null
begins_copy d table None = do
  t ← next_id d.part
  does_marks Done (began (of_copy table) t ∷ copy_writes (after_part d.part (began (of_copy table) t)) table t (deletions (rows_now d.part table)))

-- whether each of some rows fits columns
abbrev pub all_fit : List Column → List (List Val) → Bool
all_fit columns rows = list_all (λ row. is_none (row_fault columns row)) rows

-- it goes on with rows, if they fit the table
abbrev pub copies_rows : Database → (table t : ℕ) → List (List Val) → Checked Outcome
copies_rows d table t rows =
    if all_fit (d.part.columns table) rows then does_marks Done (copy_writes d.part table t (insertions (d.part.columns table) rows)) else answers Null

-- it ends: the table has the rows under a snapshot, and its consumer is at a tick
abbrev pub ends_copy : (table t : ℕ) → List ℕ → SnapshotView → (tick : ℕ) → Checked Outcome
ends_copy table t name snapshot tick = does_marks Done (ended (of_copy table) t true ∷ noded (copied name snapshot tick) ∷ [])

-- it is given up, if it runs: the table has the rows that it had before
abbrev pub given_up : (table : ℕ) → List ℕ → Option ℕ → List Mark
given_up table name None = []
given_up table name (Some t) = ended (of_copy table) t false ∷ noded (restarted name) ∷ []

-- a snapshot is held, under the least number that no other one has, which is the answer
abbrev pub holds_snapshot : Database → Checked Outcome
holds_snapshot d =
    let number : ℕ = least_free (map Hold.number d.holds) in
    does_marks (Number number) (noded (hold_begun number) ∷ [])

-- one is let go, if it is held
abbrev pub lets_go : Database → (hold : ℕ) → Checked Outcome
lets_go d hold = if list_any (λ (x : Hold). x.number == hold) d.holds then does_marks Done (noded (hold_ended hold) ∷ []) else answers Null
