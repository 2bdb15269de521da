-- The events of a replicated table in a worked run, by computation: the laws on them aren't vacuous.
use Rattle.std.proofs.Common.{◌≡◌, ℕ, pos, true, false, List, [], ◌∷◌, Some, None, refl, codes}
use Rattle.std.specs.Fmt.{digits}
use Rattle.std.specs.Str.{is_utf8, chars}
use lib.Utf8.{encode}
use Rattle.sky_val.specs.declared.val.Val.{Val}
use Rattle.sky_val.specs.declared.val.Val.TheVariants as value
use Rattle.sky_val.specs.declared.column.ColKind.TheVariants as kind
use Rattle.sky_val.specs.declared.column.Column.{Column}
use Rattle.sky_val.specs.declared.event.Event.{Event}
use Rattle.sky_urlenc.specs.RowText.{row_text}
use Rattle.sky_urlenc.specs.Changes.{put, applies}
use Rattle.sky_model.specs.declared.stmt.Change.TheVariants.{To}
use Rattle.sky_model.specs.declared.stmt.RowStmt.{RowStmt}
use Rattle.sky_model.specs.declared.stmt.RowStmt.TheVariants.{OpenDb, Begin, Commit, CreateTable, Insert, Update, Delete}
use Rattle.sky_model.specs.declared.stmt.DbStmt.TheVariants.{Row, Queue}
use Rattle.sky_model.specs.declared.stmt.QueueStmt.TheVariants.{ForceTick, Ticker}
use Rattle.sky_model.specs.History.{Batch, History}
use Rattle.sky_model.specs.Transactions.{snapshot}
use Rattle.sky_model.specs.Rows.{rows}
use Rattle.sky_model.specs.Queues.{at_tick}
use Rattle.sky_model.specs.Batches.{batch_events}
use Rattle.sky_model.specs.Promises.{after_all}
use Rattle.sky_model.specs.DatabaseCalls.{DatabaseCall, stepped, served, database_part}
use Rattle.sky_model.specs.StepNode.{making_root, listing}
use Rattle.sky_laws_changes.specs.TableEvents.{table_events, unseen_events}
use Rattle.form_urlencoded.specs.Form.{byte_serialize}
use Rattle.percent_encoding.specs.Percent.{percent_decode}

abbrev does : ℕ → RowStmt → DatabaseCall
does who stmt = stepped who (Row stmt) (pos 0)

abbrev key : ℕ → List Val
key k = value.Int (pos k) ∷ []

abbrev row : ℕ → ℕ → List Val
row k n = value.Int (pos k) ∷ value.Int (pos n) ∷ []

abbrev insert : (who k n : ℕ) → DatabaseCall
insert who k n = does who (Insert (codes "t") (row k n))

abbrev update : (who k n : ℕ) → DatabaseCall
update who k n = does who (Update (codes "t") (key k) (record { column = codes "n"; change = To (value.Int (pos n)) } ∷ []))

abbrev columns : List Column
columns = record { name = codes "id"; kind = kind.Int; key = true } ∷ record { name = codes "n"; kind = kind.Int; key = false } ∷ []

-- a table of a set, with one row; while a transaction of session 1 runs that has inserted a row, session 0 makes a tick and inserts another row
abbrev held : List DatabaseCall
held = insert 0 3 30 ∷ stepped 0 (Queue (Ticker (codes "q"))) (pos 0) ∷ stepped 0 (Queue (ForceTick (codes "q"))) (pos 0) ∷ insert 1 2 20 ∷ does 1 Begin
    ∷ insert 0 1 10 ∷ served (listing (codes "t")) ∷ served (making_root (codes "root") (codes "q") (pos 0)) ∷ does 0 (CreateTable (codes "t") columns)
    ∷ does 1 (OpenDb (codes "p")) ∷ does 0 (OpenDb (codes "p")) ∷ []

-- then session 1 commits, session 0 deletes a row and changes that of session 1, and a tick is made
abbrev all : List DatabaseCall
all = stepped 0 (Queue (Ticker (codes "q"))) (pos 0) ∷ stepped 0 (Queue (ForceTick (codes "q"))) (pos 0) ∷ update 0 2 21 ∷ does 0 (Delete (codes "t") (key 1)) ∷ does 1 Commit ∷ held

abbrev h : History
h = after_all database_part all

-- the place in between, at which the snapshot of a copy may be held
abbrev p : History
p = after_all database_part held

abbrev batch : Batch
batch = record { id = 1; queue = 0; consumer = codes "leaf"; sub = 1; prev = 2; cur = 3 }

abbrev entry : ℕ → ℕ → List Val × List Val
entry k n = (key k, row k n)

rows_there : (rows 0 (at_tick 0 2 h) ≡ entry 1 10 ∷ []) × (rows 0 p ≡ entry 1 10 ∷ entry 3 30 ∷ []) × (rows 0 (at_tick 0 3 h) ≡ entry 2 21 ∷ entry 3 30 ∷ [])
rows_there = (refl, refl, refl)

abbrev event : (id t : ℕ) → (name : List ℕ) → List Val → Event
event id t name changed = record {
  ev_id = id;
  ev_time = pos 0;
  ev_txid = t;
  ev_owner = None;
  ev_retry = None;
  ev_type = Some name;
  ev_data = Some (row_text columns changed);
  ev_extra1 = Some (codes "t");
  ev_extra2 = None;
  ev_extra3 = None;
  ev_extra4 = None;
}

-- the table's events of the batch
abbrev changes : List Event
changes = event 2 5 (codes "I:id") (row 2 20) ∷ event 2003 6 (codes "I:id") (row 3 30) ∷ event 2004 7 (codes "D:id") (row 1 10) ∷ event 2005 8 (codes "U:id") (row 2 21) ∷ []

listed : table_events (codes "t") (batch_events h batch) ≡ changes
listed = refl

-- they apply to the rows at the opening tick, and give those at the closing one
apply : applies columns (entry 1 10 ∷ []) changes ≡ true
unfolding byte_serialize percent_decode is_utf8 chars encode digits
apply = refl

give : put columns (entry 1 10 ∷ []) changes ≡ entry 2 21 ∷ entry 3 30 ∷ []
unfolding byte_serialize percent_decode is_utf8 chars encode digits
give = refl

-- those that the snapshot of the place in between doesn't see apply to the rows there, and give the same
abbrev missing : List Event
missing = event 2 5 (codes "I:id") (row 2 20) ∷ event 2004 7 (codes "D:id") (row 1 10) ∷ event 2005 8 (codes "U:id") (row 2 21) ∷ []

unseen : unseen_events (snapshot p) changes ≡ missing
unseen = refl

apply_missing : applies columns (entry 1 10 ∷ entry 3 30 ∷ []) missing ≡ true
unfolding byte_serialize percent_decode is_utf8 chars encode digits
apply_missing = refl

give_missing : put columns (entry 1 10 ∷ entry 3 30 ∷ []) missing ≡ entry 2 21 ∷ entry 3 30 ∷ []
unfolding byte_serialize percent_decode is_utf8 chars encode digits
give_missing = refl

-- with those that it sees they wouldn't apply
all_but_apply : applies columns (entry 1 10 ∷ entry 3 30 ∷ []) changes ≡ false
unfolding byte_serialize percent_decode is_utf8 chars encode digits
all_but_apply = refl
