-- What applying a batch does to the database of a leaf: one transaction writes the rows of the events that are picked,
-- one after another, and stores the tick. Each definition that takes the database `d` reads it as it is.
use Rattle.std.specs.Prelude.{ℕ, List, [], ◌∷◌, ◌++◌, Bool, true, false, not, ◌&&◌, Option, Some, None, option_map, option_and_then, unwrap_or, is_some, is_none, filter, length, bytes_eq, if◌then◌else◌}
use Rattle.std.specs.List.{list_any}
use Rattle.sky_val.specs.declared.val.Val.{Val}
use Rattle.sky_val.specs.declared.column.Column.{Column}
use Rattle.sky_val.specs.declared.event.Event.{Event}
use Rattle.sky_val.specs.declared.op.Op.{Op}
use Rattle.sky_val.specs.declared.op.Op.TheVariants.{Insert, Update, Delete}
use Rattle.sky_val.specs.Schemas.{key_of}
use Rattle.sky_urlenc.specs.Changes.{Change, change_of}
use Rattle.sky_names.specs.Places.{place_of}
use Rattle.sky_txid.specs.Snapshot.{SnapshotView, sees}
use Rattle.londiste_state.specs.declared.state.TableState.{TableState}
use Rattle.londiste_state.specs.declared.state.TableState.TheVariants.{Synced}
use Rattle.londiste_state.specs.Nodes.{LeafTable, Leaf, Node, of_leaf, table_of}
use Rattle.sky_model.specs.declared.reply.Reply.TheVariants.{Number, Null}
use Rattle.sky_model.specs.History.{Mark, Pick, of_synced, copy_of, of_worker, began, ended, tabled, wrote, noded, applied}
use Rattle.sky_model.specs.Rows.{Write}
use Rattle.sky_model.specs.Copies.{is_copied}
use Rattle.sky_model.specs.State.{RowPart, after_part, Database}
use Rattle.sky_model.specs.StepQueue.{tells_of_rows}
use Rattle.sky_model.specs.StepCopy.{row_for}
use Rattle.sky_model.specs.OwnTransaction.{next_id}
use Rattle.sky_model.specs.Outcome.{Outcome, Checked, ◌>>=◌, answers, does_marks}

-- ---- which events are picked

-- whether an event records the change of a row, as its type says
abbrev pub is_change : Event → Bool
is_change event = tells_of_rows event.ev_type

-- whether it is one of the table of a name
abbrev pub is_of_table : List ℕ → Event → Bool
is_of_table name event = unwrap_or (option_map (bytes_eq name) event.ev_extra1) false

-- whether a state is that of a table that is in sync
abbrev pub is_synced : TableState → Bool
is_synced Synced = true
is_synced state = false

-- whether a leaf has a table of that name that is in sync
abbrev pub has_synced : Leaf → List ℕ → Bool
has_synced l name = unwrap_or (option_map (λ (t : LeafTable). is_synced t.state) (table_of name l)) false

-- the snapshot under which a leaf's table was copied, if it was
abbrev pub kept_snapshot : Leaf → List ℕ → Option SnapshotView
kept_snapshot l name = option_and_then LeafTable.snapshot (table_of name l)

-- whether a leaf picks an event: of the tables that are in sync, or of one table those that its copy hasn't seen
abbrev pub picks : Leaf → Pick → Event → Bool
picks l of_synced event = is_change event && unwrap_or (option_map (has_synced l) event.ev_extra1) false
picks l (copy_of name) event = is_change event && is_of_table name event && unwrap_or (option_map (λ s. not (sees s event.ev_txid)) (kept_snapshot l name)) false

-- whether a leaf may apply a batch as a pick says: of one table only if it was copied
abbrev pub may_apply : Pick → Option Node → Bool
may_apply of_synced (Some (of_leaf l)) = true
may_apply (copy_of name) (Some (of_leaf l)) = is_some (kept_snapshot l name)
may_apply pick n = false

-- those that it picks, in order
abbrev pub picked : Option Node → Pick → List Event → List Event
picked (Some (of_leaf l)) pick events = filter (picks l pick) events
picked _ pick events = []

-- ---- what they do

-- whether a change may be made where this row is: an insert where there is none, any other where there is one
abbrev pub may_meet : Op → Option (List Val) → Bool
may_meet Insert old = is_none old
may_meet Update old = is_some old
may_meet Delete old = is_some old

-- what it leaves there
abbrev pub row_left : Op → List Val → Option (List Val)
row_left Insert row = Some row
row_left Update row = Some row
row_left Delete row = None

-- the write of a change
abbrev pub change_write : List Column → Change → Write
change_write columns change = record { key = key_of columns change.row; row = row_left change.op change.row }

-- a write of a worker
abbrev pub work_write : RowPart → (table t : ℕ) → Write → Mark
work_write d table t w = tabled (wrote of_worker t table w.key (row_for d table t w.key) w.row)

-- the change of a row, if there is one, and if it may be made where the row is
abbrev pub changes_row : RowPart → (table t : ℕ) → Option Change → Option Mark
changes_row d table t None = None
changes_row d table t (Some change) =
    let w : Write = change_write (d.columns table) change in
    if may_meet change.op (row_for d table t w.key) then Some (work_write d table t w) else None

-- the change that an event records, in its table
abbrev pub applies_event : RowPart → (t : ℕ) → Event → Option Mark
applies_event d t event =
    option_and_then (λ table. changes_row d table t (change_of (d.columns table) event)) (option_and_then (λ name. place_of name d.tables) event.ev_extra1)

-- what a transaction makes of events: its writes, up to the first event that can't be applied, and the id of that one, if there is one
pub record Applying : Type 0 where
  pub marks : List Mark
  pub bad : Option ℕ

-- the write of an event, and what comes after it; or the event can't be applied
abbrev pub write_then : Event → Option Mark → (Mark → Applying) → Applying
write_then event None next = record { marks = []; bad = Some event.ev_id }
write_then event (Some mark) next = record { marks = mark ∷ (next mark).marks; bad = (next mark).bad }

-- that of events, one after another
abbrev pub applies_events : RowPart → (t : ℕ) → List Event → Applying
applies_events d t [] = record { marks = []; bad = None }
applies_events d t (event ∷ events) = write_then event (applies_event d t event) (λ mark. applies_events (after_part d mark) t events)

-- the same of a transaction that begins with them
abbrev pub applies_in : RowPart → (t : ℕ) → List Event → Applying
applies_in d t events = applies_events (after_part d (began of_worker t)) t events

-- the transaction commits, and the tick is stored, if all of them were applied; or it is rolled back
abbrev pub ends_applying : Pick → (tick t many : ℕ) → List Mark → Option ℕ → Checked Outcome
ends_applying pick tick t many marks None = does_marks (Number many) (began of_worker t ∷ marks ++ ended of_worker t true ∷ noded (applied pick tick) ∷ [])
ends_applying pick tick t many marks (Some id) = does_marks Null (began of_worker t ∷ marks ++ ended of_worker t false ∷ [])

-- the events that were picked are applied, in a transaction of their own; how many they are is the answer
abbrev pub applies_picked : Database → Pick → (tick : ℕ) → List Event → Checked Outcome
applies_picked d pick tick events = do
  t ← next_id d.part
  ends_applying pick tick t (length events) (applies_in d.part t events).marks (applies_in d.part t events).bad

-- whether a copy of an event's table runs
abbrev pub is_of_copied : Database → Event → Bool
is_of_copied d event = unwrap_or (option_map (λ table. is_copied table d.copies) (option_and_then (λ name. place_of name d.part.tables) event.ev_extra1)) false

-- a batch's events are applied as a pick says, unless a copy of the table of one of them runs
abbrev pub applies_batch : Database → Pick → (tick : ℕ) → List Event → Checked Outcome
applies_batch d pick tick events =
    if list_any (is_of_copied d) (picked d.node pick events) then answers Null else applies_picked d pick tick (picked d.node pick events)

-- the id of the first event that is picked and can't be applied, if there is one
abbrev pub bad_event : Database → Pick → List Event → Option ℕ
bad_event d pick events = (applies_in d.part d.part.next (picked d.node pick events)).bad
