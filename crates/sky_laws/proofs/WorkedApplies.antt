-- Worked batches that a leaf applies, by computation.
use Rattle.std.proofs.Common.{◌≡◌, ℕ, pos, true, false, List, [], ◌∷◌, ◌++◌, Option, Some, None, refl}
use Rattle.std.specs.Str.{is_utf8, chars}
use Rattle.percent_encoding.specs.Percent.{percent_decode}
use lib.Utf8.{encode}
use lib.Chars.{codes}
use Rattle.sky_val.specs.declared.val.Val.{Val}
use Rattle.sky_val.specs.declared.val.Val.TheVariants as value
use Rattle.sky_val.specs.declared.column.ColKind.TheVariants as kind
use Rattle.sky_val.specs.declared.event.Event.{Event}
use Rattle.londiste_state.specs.declared.state.TableState.TheVariants.{InCopy, WannaSync, DoSync, Synced}
use Rattle.sky_model.specs.declared.stmt.DbStmt.TheVariants.{Row}
use Rattle.sky_model.specs.declared.stmt.RowStmt.{RowStmt}
use Rattle.sky_model.specs.declared.stmt.RowStmt.TheVariants.{OpenDb, CreateTable, Insert}
use Rattle.sky_model.specs.declared.reply.Reply.{Reply}
use Rattle.sky_model.specs.declared.reply.Reply.TheVariants.{Number, Null}
use Rattle.sky_model.specs.History.{Pick, of_synced, copy_of, History}
use Rattle.sky_model.specs.Transactions.{next_txid, running, snapshot}
use Rattle.sky_model.specs.Rows.{rows}
use Rattle.sky_model.specs.State.{database_of}
use Rattle.sky_model.specs.Outcome.{reply_of}
use Rattle.sky_model.specs.Promises.{after_all}
use Rattle.sky_model.specs.DatabaseCalls.{DatabaseCall, stepped, served, database_part}
use Rattle.sky_model.specs.StepApply.{bad_event}
use Rattle.sky_model.specs.StepNode.{making_leaf, adding, moving, beginning_copy, copying_rows, ending_copy, applying, node_does}

does : RowStmt → DatabaseCall
does statement = stepped 0 (Row statement) (pos 0)

make_table : List ℕ → DatabaseCall
make_table name = does (CreateTable name (record { name = codes "id"; kind = kind.Int; key = true } ∷ record { name = codes "n"; kind = kind.Int; key = false } ∷ []))

row : ℕ → ℕ → List Val
row id n = value.Int (pos id) ∷ value.Int (pos n) ∷ []

entry : ℕ → ℕ → List Val × List Val
entry id n = (value.Int (pos id) ∷ [], row id n)

insert : List ℕ → ℕ → ℕ → DatabaseCall
insert table id n = does (Insert table (row id n))

-- an event of a transaction
event : (id txid : ℕ) → (name table text : List ℕ) → Event
event id txid name table text = record {
  ev_id = id;
  ev_time = pos 0;
  ev_txid = txid;
  ev_owner = None;
  ev_retry = None;
  ev_type = Some name;
  ev_data = Some text;
  ev_extra1 = Some table;
  ev_extra2 = None;
  ev_extra3 = None;
  ev_extra4 = None;
}

-- a leaf's database with two tables; `t` has been copied, with two rows, under the snapshot of a database in which all transactions below 3 have ended;
-- the last call first
copied : List DatabaseCall
copied =
    served (ending_copy (codes "t") (snapshot []) 1) ∷ served (copying_rows (codes "t") (row 1 10 ∷ row 3 30 ∷ [])) ∷ served (beginning_copy (codes "t"))
    ∷ served (moving (codes "t") InCopy) ∷ served (adding (codes "u")) ∷ served (adding (codes "t")) ∷ served (making_leaf (codes "leaf") (codes "root") 1)
    ∷ insert (codes "u") 1 1 ∷ make_table (codes "u") ∷ make_table (codes "t") ∷ does (OpenDb (codes "r")) ∷ []

-- and `t` is in sync
synced : List DatabaseCall
synced = served (moving (codes "t") Synced) ∷ served (moving (codes "t") (DoSync 1)) ∷ served (moving (codes "t") (WannaSync 1)) ∷ copied

after : List DatabaseCall → History
after calls = after_all database_part calls

-- what such a batch makes of a database: the answer, the event that can't be applied, the rows of both tables, the next transaction and those that run
applied : List DatabaseCall → Pick → List Event → Reply × Option ℕ × List (List Val × List Val) × List (List Val × List Val) × ℕ × List ℕ
applied calls pick events =
    let h : History = after calls in
    let k : History = after (served (applying events pick 2) ∷ calls) in
    (reply_of (node_does (database_of h) (applying events pick 2)), bad_event (database_of h) pick events, rows 0 k, rows 1 k, next_txid k, running k)

-- one row is inserted, one updated, and one deleted; what is no row's event, or another table's, isn't picked
events : List Event
events =
    event 4 5 (codes "I:id") (codes "t") (codes "id=2&n=20") ∷ event 5 5 (codes "note") (codes "t") (codes "x")
    ∷ event 6 5 (codes "U:id") (codes "t") (codes "id=1&n=11") ∷ event 7 6 (codes "D:id") (codes "u") (codes "id=1&n=1")
    ∷ event 8 6 (codes "D:id") (codes "t") (codes "id=3&n=30") ∷ []

batch : applied synced of_synced events ≡ (Number 3, None, entry 1 11 ∷ entry 2 20 ∷ [], entry 1 1 ∷ [], 6, [])
unfolding applied synced copied after does make_table row entry insert event events percent_decode is_utf8 chars encode
batch = refl

-- at an event that can't be applied nothing is left but its transaction's id
bad_batch : applied synced of_synced (events ++ event 9 6 (codes "D:id") (codes "t") (codes "id=3&n=30") ∷ event 10 6 (codes "D:id") (codes "t") (codes "id=4&n=0") ∷ [])
    ≡ (Null, Some 9, entry 1 10 ∷ entry 3 30 ∷ [], entry 1 1 ∷ [], 6, [])
unfolding applied synced copied after does make_table row entry insert event events percent_decode is_utf8 chars encode
bad_batch = refl

-- a copy leaves out what its snapshot sees
catches_up : applied copied (copy_of (codes "t")) (event 3 2 (codes "I:id") (codes "t") (codes "id=3&n=30") ∷ events) ≡ (Number 3, None, entry 1 11 ∷ entry 2 20 ∷ [], entry 1 1 ∷ [], 6, [])
unfolding applied synced copied after does make_table row entry insert event events percent_decode is_utf8 chars encode
catches_up = refl

-- while no table is in sync, an empty batch is applied
none_picked : applied copied of_synced events ≡ (Number 0, None, entry 1 10 ∷ entry 3 30 ∷ [], entry 1 1 ∷ [], 6, [])
unfolding applied synced copied after does make_table row entry insert event events percent_decode is_utf8 chars encode
none_picked = refl

-- a table that has not been copied can't catch up
uncopied : applied synced (copy_of (codes "u")) events ≡ (Null, None, entry 1 10 ∷ entry 3 30 ∷ [], entry 1 1 ∷ [], 5, [])
unfolding applied synced copied after does make_table row entry insert event events percent_decode is_utf8 chars encode
uncopied = refl
