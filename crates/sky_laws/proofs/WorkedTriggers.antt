-- The events of writes in a worked run, by computation: the laws on them aren't vacuous.
use Rattle.std.proofs.Common.{◌≡◌, ℕ, pos, List, [], ◌∷◌, ◌++◌, true, false, Option, Some, None, take, refl, codes, map}
use Rattle.sky_val.specs.declared.event.Event.{Event}
use Rattle.sky_val.specs.declared.val.Val.{Val}
use Rattle.sky_val.specs.declared.val.Val.TheVariants as value
use Rattle.sky_val.specs.declared.column.ColKind.TheVariants as kind
use Rattle.sky_val.specs.declared.column.Column.{Column}
use Rattle.sky_urlenc.specs.RowText.{row_text}
use Rattle.sky_model.specs.declared.stmt.Change.TheVariants.{To}
use Rattle.sky_model.specs.declared.stmt.Stmt.{Stmt}
use Rattle.sky_model.specs.declared.stmt.RowStmt.TheVariants.{OpenDb, Begin, Commit, Rollback, CreateTable, Insert, Update}
use Rattle.sky_model.specs.declared.stmt.QueueStmt.TheVariants.{CreateQueue}
use Rattle.sky_model.specs.Grammar.{added_trigger, on_rows, on_queues}
use Rattle.sky_model.specs.declared.reply.Reply.{Reply}
use Rattle.sky_model.specs.declared.reply.Reply.TheVariants.{Done, Refused}
use Rattle.sky_model.specs.declared.reply.Refusal.TheVariants.{BadColumn, TableBusy, TriggerExists}
use Rattle.sky_model.specs.History.{of_session, ended, tabled, wrote, queued, raised, put, History}
use Rattle.sky_model.specs.Queues.{events}
use Rattle.sky_model.specs.World.{history_in}
use Rattle.sky_model.specs.Calls.{Call, past_of, answers_of}
use Rattle.sky_model.specs.LawsOfWrites.{writers}

abbrev a : Stmt → Call
a stmt = record { who = codes "a"; stmt = stmt }

abbrev b : Stmt → Call
b stmt = record { who = codes "b"; stmt = stmt }

abbrev key : ℕ → List Val
key n = value.Int (pos n) ∷ []

abbrev row : ℕ → ℕ → List Val
row k n = value.Int (pos k) ∷ value.Int (pos n) ∷ []

abbrev columns : List Column
columns = record { name = codes "id"; kind = kind.Int; key = true } ∷ record { name = codes "n"; kind = kind.Int; key = false } ∷ []

abbrev text : ℕ → ℕ → List ℕ
text k n = row_text columns (row k n)

abbrev update : ℕ → ℕ → Stmt
update k n = on_rows (Update (codes "t") (key k) (record { column = codes "n"; change = To (value.Int (pos n)) } ∷ []))

abbrev insert : ℕ → Stmt
insert k = on_rows (Insert (codes "t") (row k 0))

-- a queue, and a table with two triggers, of which the second ignores what changes `n` alone; the last statement first
abbrev run : List Call
run = b (on_rows (OpenDb (codes "d"))) ∷ a (added_trigger (codes "keys") (codes "t") (codes "q") false (codes "n" ∷ [])) ∷ a (added_trigger (codes "all") (codes "t") (codes "q") true [])
    ∷ a (on_rows (CreateTable (codes "t") columns))
    ∷ a (on_queues (CreateQueue (codes "q"))) ∷ a (on_rows (OpenDb (codes "d"))) ∷ []

abbrev then : List Call → History
then calls = history_in (past_of (calls ++ run)) 0

abbrev event : (id t : ℕ) → (ev_type ev_data : List ℕ) → Option (List ℕ) → Event
event id t ev_type ev_data before = record {
  ev_id = id;
  ev_time = pos 0;
  ev_txid = t;
  ev_owner = None;
  ev_retry = None;
  ev_type = Some ev_type;
  ev_data = Some ev_data;
  ev_extra1 = Some (codes "t");
  ev_extra2 = before;
  ev_extra3 = None;
  ev_extra4 = None;
}

-- after an insert come an event of each trigger, and then the end of its transaction
inserted : take 6 (then (a (insert 1) ∷ []))
    ≡ ended (of_session 0) 4 true
    ∷ queued (put 0 (event 2 4 (codes "I:id") (text 1 0) None)) ∷ queued (raised 0 2)
    ∷ queued (put 0 (event 1 4 (codes "I:id") (text 1 0) None)) ∷ queued (raised 0 1)
    ∷ tabled (wrote (of_session 0) 4 0 (key 1) None (Some (row 1 0))) ∷ []
inserted = refl

-- a statement that waited writes when it resumes, so its event comes after those of the other one
abbrev waited_for : List Call
waited_for = a (on_rows Commit) ∷ b (update 1 2) ∷ a (update 1 1) ∷ a (on_rows Begin) ∷ b (insert 2) ∷ b (on_rows Begin) ∷ a (insert 1) ∷ []

abbrev ids : List Event → List (ℕ × ℕ)
ids es = map (λ (e : Event). (e.ev_id, e.ev_txid)) es

in_turn : ids (events 0 (then waited_for)) ≡ (1, 4) ∷ (2, 4) ∷ (3, 5) ∷ (4, 5) ∷ (5, 6) ∷ (6, 5) ∷ []
in_turn = refl

written_in_turn : writers 0 (key 1) (then waited_for) ≡ 4 ∷ 6 ∷ 5 ∷ []
written_in_turn = refl

-- the update has its old row, too
updated : take 3 (then waited_for)
    ≡ queued (put 0 (event 6 5 (codes "U:id") (text 1 2) (Some (text 1 1)))) ∷ queued (raised 0 6)
    ∷ tabled (wrote (of_session 1) 5 0 (key 1) (Some (row 1 1)) (Some (row 1 2))) ∷ []
updated = refl

abbrev answers : List Call → Stmt → List (ℕ × Reply)
answers calls stmt = answers_of (past_of (calls ++ run)) (a stmt)

abbrev trigger : (name : List ℕ) → List (List ℕ) → Stmt
trigger name ignored = added_trigger name (codes "t") (codes "q") false ignored

-- a table that a running transaction has written gets no trigger, nor does any a second one of a name, nor one that ignores part of the key
triggered : answers (b (insert 1) ∷ b (on_rows Begin) ∷ []) (trigger (codes "more") []) ++ answers (b (on_rows Rollback) ∷ b (insert 1) ∷ b (on_rows Begin) ∷ []) (trigger (codes "more") [])
    ++ answers [] (trigger (codes "all") []) ++ answers [] (trigger (codes "more") (codes "n" ∷ codes "id" ∷ []))
    ≡ (0, Refused (TableBusy 4)) ∷ (0, Done) ∷ (0, Refused (TriggerExists (codes "all"))) ∷ (0, Refused (BadColumn (codes "id"))) ∷ []
triggered = refl
