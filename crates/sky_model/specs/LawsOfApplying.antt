-- The laws on batches that a leaf applies.
use Rattle.std.specs.Prelude.{◌≡◌, ◌≢◌, ℕ, ◌^◌, nat_le, true, false, List, [], ◌∷◌, ◌++◌, Option, Some, None, filter, length, ◌==◌, if◌then◌else◌}
use Rattle.std.specs.List.{list_any}
use Rattle.sky_val.specs.declared.val.Val.{Val}
use Rattle.sky_val.specs.declared.event.Event.{Event}
use Rattle.sky_val.specs.Entries.{at}
use Rattle.sky_urlenc.specs.Changes.{put, applies}
use Rattle.sky_names.specs.Places.{place_of}
use Rattle.sky_txid.specs.Ids.{contains}
use Rattle.sky_model.specs.declared.reply.Reply.{Reply}
use Rattle.sky_model.specs.declared.reply.Reply.TheVariants.{Number, Refused}
use Rattle.sky_model.specs.declared.reply.Refusal.TheVariants.{TxidsSpent}
use Rattle.sky_model.specs.History.{Pick, of_worker, tabled, wrote, applied, History}
use Rattle.sky_model.specs.Transactions.{next_txid, running}
use Rattle.sky_model.specs.Copies.{copies, is_copied}
use Rattle.sky_model.specs.Rows.{table_names, columns_of, wrote_in, is_read_only, rows, rows_with_own}
use Rattle.sky_model.specs.Locks.{holder}
use Rattle.sky_model.specs.Nodes.{after_node, node, is_leaf}
use Rattle.sky_model.specs.State.{database_of}
use Rattle.sky_model.specs.Outcome.{reply_of}
use Rattle.sky_model.specs.StepApply.{is_of_table, may_apply, picked, is_of_copied, bad_event}
use Rattle.sky_model.specs.StepNode.{applying, node_does}
use Rattle.sky_model.specs.Promises.{after_all}
use Rattle.sky_model.specs.DatabaseCalls.{DatabaseCall, served, database_part}
use Rattle.sky_model.specs.HistoryPlaces.{IsPlace}

-- a worker's write of a key of a table, by a transaction: that runs, the table is a leaf's and read-only, no copy of it runs, no session holds the key,
-- and no other running transaction has written the table; the old row that it names is the one that was there for its transaction
pub record WritesAlone (p : History) (table t : ℕ) (key : List Val) (old : Option (List Val)) : Type 0 where
  pub runs : contains t (running p) ≡ true
  pub leaf : is_leaf (node p) ≡ true
  pub guarded : is_read_only table p ≡ true
  pub uncopied : is_copied table (copies p) ≡ false
  pub unheld : holder table key p ≡ None
  pub alone : (u : ℕ) → contains u (running p) ≡ true → (t == u) ≡ false → wrote_in table u p ≡ false
  pub stands : at key (rows_with_own table (Some t) p p) ≡ old

-- each of them is such
abbrev pub WorkersWriteAlone : Type 0
WorkersWriteAlone = (p : History) (t table : ℕ) (key : List Val) (old new : Option (List Val)) → IsPlace (tabled (wrote of_worker t table key old new) ∷ p) → WritesAlone p table t key old

-- what a batch is answered after calls
abbrev pub answer_to : History → List Event → Pick → (tick : ℕ) → Reply
answer_to h events pick tick = reply_of (node_does (database_of h) (applying events pick tick))

-- the events of a table that are picked
abbrev pub picked_of : History → Pick → List ℕ → List Event → List Event
picked_of h pick name events = filter (is_of_table name) (picked (node h) pick events)

-- a batch is applied from one place to another: the rows of each table are those that its picked events make of them, one after another, and each of
-- these could be applied; of a table without such events they are as before
pub record IsApplied (h k : History) (events : List Event) (pick : Pick) (tick : ℕ) : Type 0 where
  pub stored : node k ≡ after_node (applied pick tick) (node h)
  pub fit : (name : List ℕ) (table : ℕ) → place_of name (table_names h) ≡ Some table → applies (columns_of table h) (rows table h) (picked_of h pick name events) ≡ true
  pub puts : (name : List ℕ) (table : ℕ) → place_of name (table_names h) ≡ Some table → rows table k ≡ put (columns_of table h) (rows table h) (picked_of h pick name events)

-- if the answer is a number, the batch is applied, and so many events are picked
abbrev pub BatchesPutTheirEvents : Type 0
BatchesPutTheirEvents = (calls : List DatabaseCall) (events : List Event) (pick : Pick) (tick many : ℕ) →
    (let h : History = after_all database_part calls in let k : History = after_all database_part (served (applying events pick tick) ∷ calls) in
    answer_to h events pick tick ≡ Number many → (many ≡ length (picked (node h) pick events)) × IsApplied h k events pick tick)

-- if it is none, the rows of all tables are as before, and so is the node
abbrev pub OtherBatchesLeaveRows : Type 0
OtherBatchesLeaveRows = (calls : List DatabaseCall) (events : List Event) (pick : Pick) (tick : ℕ) →
    (let h : History = after_all database_part calls in let k : History = after_all database_part (served (applying events pick tick) ∷ calls) in
    ((many : ℕ) → answer_to h events pick tick ≢ Number many) → (node k ≡ node h) × ((table : ℕ) → rows table k ≡ rows table h))

-- no copy runs of the table of an event that is picked
abbrev pub NoPickedTableIsCopied : Type 0
NoPickedTableIsCopied = (calls : List DatabaseCall) (events : List Event) (pick : Pick) →
    (let h : History = after_all database_part calls in list_any (is_of_copied (database_of h)) (picked (node h) pick events) ≡ false)

-- an event is the first of some that can't be applied: those before it can, and with it those of its table can't
pub record IsFirstBad (h : History) (events : List Event) (id : ℕ) : Type 0 where
  pub front : List Event
  pub event : Event
  pub rest : List Event
  pub split : events ≡ front ++ event ∷ rest
  pub named : event.ev_id ≡ id
  pub before : (name : List ℕ) (table : ℕ) → place_of name (table_names h) ≡ Some table → applies (columns_of table h) (rows table h) (filter (is_of_table name) front) ≡ true
  pub bad : (name : List ℕ) (table : ℕ) → event.ev_extra1 ≡ Some name → place_of name (table_names h) ≡ Some table
      → applies (columns_of table h) (rows table h) (filter (is_of_table name) front ++ event ∷ []) ≡ false

-- such is the event that is said to be bad, on a leaf
abbrev pub BadEventsCantBeApplied : Type 0
BadEventsCantBeApplied = (calls : List DatabaseCall) (events : List Event) (pick : Pick) (id : ℕ) →
    (let h : History = after_all database_part calls in
    may_apply pick (node h) ≡ true → bad_event (database_of h) pick events ≡ Some id → IsFirstBad h (picked (node h) pick events) id)

-- and if the picked events of each table can be applied, there is none: the batch is applied, unless no transaction id is left
abbrev pub GoodBatchesAreApplied : Type 0
GoodBatchesAreApplied = (calls : List DatabaseCall) (events : List Event) (pick : Pick) (tick : ℕ) →
    (let h : History = after_all database_part calls in
    may_apply pick (node h) ≡ true
    → ((name : List ℕ) (table : ℕ) → place_of name (table_names h) ≡ Some table → applies (columns_of table h) (rows table h) (picked_of h pick name events) ≡ true)
    → (bad_event (database_of h) pick events ≡ None)
    × (answer_to h events pick tick ≡ (if nat_le (2 ^ 62) (next_txid h) then Refused TxidsSpent else Number (length (picked (node h) pick events)))))
