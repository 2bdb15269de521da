-- How answers are printed.
use Rattle.std.specs.Prelude.{ℕ, ◌<◌, ◌==◌, true, false, List, [], ◌∷◌, ◌++◌, map, flat_map, length, All, Option, Some, None, unwrap_or, slice_get, if◌then◌else◌, codes}
use Rattle.std.specs.Fmt.{decimal, signed_decimal}
use Rattle.sky_val.specs.declared.event.Event.{Event}
use Rattle.sky_val.specs.declared.val.Val.{Val}
use Rattle.sky_val.specs.declared.val.Val.TheVariants as value
use Rattle.sky_model.specs.declared.reply.QueueInfo as info
use Rattle.sky_model.specs.declared.reply.BatchInfo as batch
use Rattle.sky_model.specs.declared.reply.ConsumerInfo as consumer
use Rattle.sky_model.specs.declared.reply.HeldBack as held
use Rattle.sky_model.specs.declared.reply.HeldBack.TheVariants.{Pending, Period, SecondStep, Consumer, Tick}
use Rattle.sky_model.specs.declared.reply.Reply.{Reply}
use Rattle.sky_model.specs.declared.reply.Reply.TheVariants.{Done, Number, Null, Bool, Begin, AlreadyInTransaction, Commit, Rollback, NoTransaction, NotWaiting, Waits, Snapshot, Events, Row, NoRow, Rows, Moment, QueueInfo, BatchInfo, ConsumerInfo, HeldBack, State, TableMoved, RowsCopied, AwaitsTable, BatchTaken, BatchApplied, BatchSkipped, BatchFinished, Idle, Refused}
use Rattle.sky_model.specs.Limits.{most_of}
use Rattle.sky_model.specs.declared.reply.Limit.{Limit}
use Rattle.sky_model.specs.declared.reply.Limit.TheVariants.{Sessions, Databases, Queues, Consumers, Tables, Columns, Triggers}
use Rattle.sky_model.specs.declared.reply.BadRow as bad_row
use Rattle.sky_model.specs.declared.reply.BadRow.TheVariants.{Count, «Type», NullKey, NoColumn, Twice}
use Rattle.sky_model.specs.declared.reply.Refusal.{Refusal}
use Rattle.sky_model.specs.declared.reply.Refusal.TheVariants.{Aborted, AlreadyInSet, AlreadyOpen, BadColumn, BadRow, BadSnapshot, BadValue, Busy, Canceled, ClockSpent, ConsumerExists, Deadlock, Duplicate, EventIdsSpent, HasConsumers, HasTriggers, IdsSpent, InTransaction, KeyChange, NoBatch, NoConsumer, NoEvent, NodeConsumer, NodeExists, NoKey, NoNode, NoParam, NoQueue, NoTable, NoTick, NotInSet, NotLeaf, NotOpen, NotProvider, OutOfRange, QueueBusy, QueueExists, ReadOnly, ReservedColumn, ReservedType, SchemaDiffers, Serialize, SetQueue, TableBusy, TableExists, TableInUse, TickTooOld, TooMany, TriggerExists, TwiceNamed, TxidsSpent}
use Rattle.sky_txid.specs.SnapshotText.{snapshot_text}
use Rattle.londiste_state.specs.StateText.{state_text}
use Rattle.sky_model.specs.Moment.{moment, HasMoment}

-- a text with each quote in it twice
abbrev pub doubled : List ℕ → List ℕ
doubled [] = []
doubled (b ∷ bs) = if b == 39 then 39 ∷ 39 ∷ doubled bs else b ∷ doubled bs

-- a text in quotes
abbrev pub quoted : List ℕ → List ℕ
quoted text = 39 ∷ doubled text ++ 39 ∷ []

-- a text in quotes, or null
abbrev pub text_or_null : Option (List ℕ) → List ℕ
text_or_null None = codes "null"
text_or_null (Some text) = quoted text

-- a number, or null
abbrev pub number_or_null : Option ℕ → List ℕ
number_or_null None = codes "null"
number_or_null (Some n) = decimal n

-- words, a space before each
abbrev pub spaced : List (List ℕ) → List ℕ
spaced words = flat_map (λ word. 32 ∷ word) words

-- an event
abbrev pub event_text : Event → List ℕ
event_text e = codes "event" ++ spaced (
    decimal e.ev_id
    ∷ moment e.ev_time
    ∷ decimal e.ev_txid
    ∷ number_or_null e.ev_retry
    ∷ text_or_null e.ev_type
    ∷ text_or_null e.ev_data
    ∷ text_or_null e.ev_extra1
    ∷ text_or_null e.ev_extra2
    ∷ text_or_null e.ev_extra3
    ∷ text_or_null e.ev_extra4
    ∷ [])

-- a value: null, a number, or a text in quotes
abbrev pub value_text : Val → List ℕ
value_text value.Null = codes "null"
value_text (value.Int n) = signed_decimal n
value_text (value.Text text) = quoted text

-- a row
abbrev pub row_text : List Val → List ℕ
row_text row = codes "row" ++ spaced (map value_text row)

-- how many there are
abbrev pub count_text : ℕ → List ℕ
count_text n = codes "rows " ++ decimal n

-- what is limited in number, and by how much
abbrev pub limit_name : Limit → List ℕ
limit_name Sessions = codes "sessions"
limit_name Databases = codes "databases"
limit_name Queues = codes "queues"
limit_name Consumers = codes "consumers"
limit_name Tables = codes "tables"
limit_name Columns = codes "columns"
limit_name Triggers = codes "triggers"

abbrev pub limit_text : Limit → List ℕ
limit_text limit = limit_name limit ++ 32 ∷ decimal (most_of limit)

-- what is wrong with the values of a row
abbrev pub bad_row_text : bad_row.BadRow → List ℕ
bad_row_text Count = codes "count"
bad_row_text («Type» column) = codes "type " ++ column
bad_row_text (NullKey column) = codes "nullkey " ++ column
bad_row_text (NoColumn column) = codes "nocolumn " ++ column
bad_row_text (Twice column) = codes "twice " ++ column

-- the name at a place
abbrev pub name_at : List (List ℕ) → ℕ → List ℕ
name_at names n = unwrap_or (slice_get names n) []

-- a refusal, if the sessions have these names
abbrev pub refusal_text : List (List ℕ) → Refusal → List ℕ
refusal_text names Aborted = codes "Aborted"
refusal_text names (AlreadyInSet table) = codes "AlreadyInSet " ++ table
refusal_text names AlreadyOpen = codes "AlreadyOpen"
refusal_text names (BadColumn column) = codes "BadColumn " ++ column
refusal_text names (BadRow why) = codes "BadRow " ++ bad_row_text why
refusal_text names BadSnapshot = codes "BadSnapshot"
refusal_text names (BadValue param) = codes "BadValue " ++ param
refusal_text names Busy = codes "Busy"
refusal_text names Canceled = codes "Canceled"
refusal_text names ClockSpent = codes "ClockSpent"
refusal_text names (ConsumerExists name) = codes "ConsumerExists " ++ name
refusal_text names (Deadlock waiters) = codes "Deadlock" ++ spaced (map (name_at names) waiters)
refusal_text names Duplicate = codes "Duplicate"
refusal_text names EventIdsSpent = codes "EventIdsSpent"
refusal_text names (HasConsumers count) = codes "HasConsumers " ++ decimal count
refusal_text names (HasTriggers name) = codes "HasTriggers " ++ name
refusal_text names IdsSpent = codes "IdsSpent"
refusal_text names InTransaction = codes "InTransaction"
refusal_text names (KeyChange column) = codes "KeyChange " ++ column
refusal_text names NoBatch = codes "NoBatch"
refusal_text names (NoConsumer name) = codes "NoConsumer " ++ name
refusal_text names NoEvent = codes "NoEvent"
refusal_text names NodeConsumer = codes "NodeConsumer"
refusal_text names (NodeExists name) = codes "NodeExists " ++ name
refusal_text names NoKey = codes "NoKey"
refusal_text names (NoNode name) = codes "NoNode " ++ name
refusal_text names (NoParam param) = codes "NoParam " ++ param
refusal_text names (NoQueue name) = codes "NoQueue " ++ name
refusal_text names (NoTable name) = codes "NoTable " ++ name
refusal_text names (NoTick tick newest) = codes "NoTick " ++ decimal tick ++ 32 ∷ decimal newest
refusal_text names (NotInSet table) = codes "NotInSet " ++ table
refusal_text names (NotLeaf name) = codes "NotLeaf " ++ name
refusal_text names NotOpen = codes "NotOpen"
refusal_text names (NotProvider name) = codes "NotProvider " ++ name
refusal_text names (OutOfRange column) = codes "OutOfRange " ++ column
refusal_text names (QueueBusy txid) = codes "QueueBusy " ++ decimal txid
refusal_text names (QueueExists name) = codes "QueueExists " ++ name
refusal_text names ReadOnly = codes "ReadOnly"
refusal_text names (ReservedColumn column) = codes "ReservedColumn " ++ column
refusal_text names ReservedType = codes "ReservedType"
refusal_text names (SchemaDiffers table) = codes "SchemaDiffers " ++ table
refusal_text names (Serialize txid) = codes "Serialize " ++ decimal txid
refusal_text names SetQueue = codes "SetQueue"
refusal_text names (TableBusy txid) = codes "TableBusy " ++ decimal txid
refusal_text names (TableExists name) = codes "TableExists " ++ name
refusal_text names (TableInUse node) = codes "TableInUse " ++ node
refusal_text names (TickTooOld tick least) = codes "TickTooOld " ++ decimal tick ++ 32 ∷ decimal least
refusal_text names (TooMany limit) = codes "TooMany " ++ limit_text limit
refusal_text names (TriggerExists name) = codes "TriggerExists " ++ name
refusal_text names (TwiceNamed column) = codes "TwiceNamed " ++ column
refusal_text names TxidsSpent = codes "TxidsSpent"

-- what is shown of a queue
abbrev pub queue_text : info.QueueInfo → List ℕ
queue_text q =
    codes "ntables " ++ decimal (length q.stored) ++ codes " cur_table " ++ decimal q.current ++ codes " last_tick " ++ decimal q.last_tick
    ++ codes " seq " ++ decimal q.seq ++ codes " stored" ++ spaced (map decimal q.stored)

-- what is shown of a batch
abbrev pub batch_text : batch.BatchInfo → List ℕ
batch_text b =
    codes "queue " ++ b.queue ++ codes " consumer " ++ b.consumer ++ codes " prev_tick " ++ decimal b.prev_tick ++ codes " tick " ++ decimal b.tick
    ++ codes " prev_seq " ++ decimal b.prev_seq ++ codes " seq " ++ decimal b.seq

-- what is shown of a consumer
abbrev pub consumer_text : consumer.ConsumerInfo → List ℕ
consumer_text c =
    codes "sub " ++ decimal c.sub ++ codes " last_tick " ++ decimal c.last_tick ++ codes " batch " ++ number_or_null c.batch
    ++ codes " retries " ++ decimal c.retries

-- what holds a switch of event tables back
abbrev pub held_text : held.HeldBack → List ℕ
held_text (Pending txid) = codes "0 pending " ++ decimal txid
held_text (Period ends) = codes "0 period " ++ moment ends
held_text (SecondStep txid) = codes "0 step2 " ++ decimal txid
held_text (Consumer consumer tick xmin) = codes "0 consumer " ++ consumer ++ 32 ∷ decimal tick ++ 32 ∷ decimal xmin
held_text (Tick tick xmin) = codes "0 tick " ++ decimal tick ++ 32 ∷ decimal xmin

-- the lines of an answer, if the sessions have these names
abbrev pub reply_lines : List (List ℕ) → Reply → List (List ℕ)
reply_lines names Done = codes "ok" ∷ []
reply_lines names (Number n) = decimal n ∷ []
reply_lines names Null = codes "null" ∷ []
reply_lines names (Bool true) = codes "true" ∷ []
reply_lines names (Bool false) = codes "false" ∷ []
reply_lines names Begin = codes "BEGIN" ∷ []
reply_lines names AlreadyInTransaction = codes "WARNING already in a transaction" ∷ []
reply_lines names Commit = codes "COMMIT" ∷ []
reply_lines names Rollback = codes "ROLLBACK" ∷ []
reply_lines names NoTransaction = codes "WARNING no transaction" ∷ []
reply_lines names NotWaiting = codes "not waiting" ∷ []
reply_lines names (Waits holder) = (codes "waits for " ++ name_at names holder) ∷ []
reply_lines names (Snapshot s) = snapshot_text s ∷ []
reply_lines names (Events events) = map event_text events ++ count_text (length events) ∷ []
reply_lines names (Row row) = row_text row ∷ []
reply_lines names NoRow = codes "none" ∷ []
reply_lines names (Rows rows) = map row_text rows ++ count_text (length rows) ∷ []
reply_lines names (Moment now) = moment now ∷ []
reply_lines names (QueueInfo queue) = queue_text queue ∷ []
reply_lines names (BatchInfo batch) = batch_text batch ∷ []
reply_lines names (ConsumerInfo consumer) = consumer_text consumer ∷ []
reply_lines names (HeldBack held) = held_text held ∷ []
reply_lines names (State state) = state_text state ∷ []
reply_lines names (TableMoved table state) = (codes "state " ++ table ++ 32 ∷ state_text state) ∷ []
reply_lines names (RowsCopied n) = (codes "copied " ++ decimal n) ∷ []
reply_lines names (AwaitsTable table) = (codes "wait " ++ table) ∷ []
reply_lines names (BatchTaken id prev cur) = (codes "batch " ++ decimal id ++ 32 ∷ decimal prev ++ 32 ∷ decimal cur) ∷ []
reply_lines names (BatchApplied cur many) = (codes "applied " ++ decimal cur ++ 32 ∷ decimal many) ∷ []
reply_lines names (BatchSkipped cur) = (codes "skipped " ++ decimal cur) ∷ []
reply_lines names (BatchFinished id) = (codes "finished " ++ decimal id) ∷ []
reply_lines names Idle = codes "idle" ∷ []
reply_lines names (Refused refusal) = (codes "error " ++ refusal_text names refusal) ∷ []

-- a line of an answer, after its session's name
abbrev pub line_text : List ℕ → List ℕ → List ℕ
line_text name line = name ++ codes ": " ++ line ++ 10 ∷ []

-- an answer of the session of this name
abbrev pub reply_text : List (List ℕ) → List ℕ → Reply → List ℕ
reply_text names name reply = flat_map (line_text name) (reply_lines names reply)

-- answers, each after the name of its session
abbrev pub printed : List (List ℕ) → List (ℕ × Reply) → List ℕ
printed names replies = flat_map (λ answer. reply_text names (name_at names answer.0) answer.1) replies

-- the sessions that an answer names
abbrev pub sessions_in : Reply → List ℕ
sessions_in (Waits holder) = holder ∷ []
sessions_in (Refused (Deadlock waiters)) = waiters
sessions_in _ = []

-- each answer is of a session that has a name
abbrev pub HaveNames : List (List ℕ) → List (ℕ × Reply) → Type 0
HaveNames names replies = All (λ answer. answer.0 < length names) replies

-- and names no session that has none
abbrev pub AllNamed : List (List ℕ) → List (ℕ × Reply) → Type 0
AllNamed names replies = All (λ answer. (answer.0 < length names) × All (λ who. who < length names) (sessions_in answer.1)) replies

-- each event was made at a time that is printed
abbrev pub EventsHaveMoments : List Event → Type 0
EventsHaveMoments events = All (λ e. HasMoment e.ev_time) events

-- the same of an answer's events, and of a moment that it is or names
abbrev pub ReplyHasMoments : Reply → Type 0
ReplyHasMoments (Events events) = EventsHaveMoments events
ReplyHasMoments (Moment now) = HasMoment now
ReplyHasMoments (HeldBack (Period ends)) = HasMoment ends
ReplyHasMoments _ = Unit {0}

-- and of every answer
abbrev pub HaveMoments : List (ℕ × Reply) → Type 0
HaveMoments replies = All (λ answer. ReplyHasMoments answer.1) replies
