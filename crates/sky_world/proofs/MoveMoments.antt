-- The answers of a worker's move have no moments.
use Rattle.std.proofs.Common.{ℕ, List, [], ◌∷◌, ◌==◌, Bool, true, false, nat_lt, length, is_some, Option, Some, None, Ok, Err, IfOk, All, if◌then◌else◌}
use Rattle.std.proofs.lemmas.List.Elements.{All-from_recursion}
use Rattle.sky_val.specs.declared.val.Val.{Val}
use Rattle.sky_val.specs.Entries.{Entries}
use Rattle.sky_txid.specs.Snapshot.{SnapshotView}
use Rattle.londiste_state.specs.declared.state.TableState.{TableState}
use Rattle.londiste_state.specs.declared.state.TableState.TheVariants.{Absent, InCopy, CatchingUp, WannaSync, DoSync, Synced}
use Rattle.londiste_state.specs.Nodes.{Leaf, LeafTable}
use Rattle.sky_model.specs.declared.reply.Limit.TheVariants.{Consumers}
use Rattle.sky_model.specs.declared.reply.Refusal.TheVariants.{IdsSpent, TooMany}
use Rattle.sky_model.specs.declared.reply.Reply.{Reply}
use Rattle.sky_model.specs.declared.reply.Reply.TheVariants.{TableMoved, RowsCopied, AwaitsTable, BatchTaken, BatchApplied, BatchSkipped, BatchFinished, Idle}
use Rattle.sky_model.specs.Printed.{ReplyHasMoments}
use Rattle.sky_model.specs.Hands.{CopyHand, BatchHand, Hand, of_copy, of_batch, copy_in, batch_in}
use Rattle.sky_model.specs.History.{Batch}
use Rattle.sky_model.specs.State.{Database, after_marks}
use Rattle.sky_model.specs.ShownRows.{snapshot_now}
use Rattle.sky_model.specs.OwnTransaction.{next_id}
use Rattle.sky_model.specs.Outcome.{Checked, Outcome, ◌>>=◌, ◌>>◌, refused_if}
use Rattle.sky_model.specs.StepApply.{picked, bad_event}
use Rattle.sky_model.specs.StepConsumer.{sub_ids_spent}
use Rattle.sky_model.specs.StepNode.{NodeCall, applying, fetching, joining, parting, holding, beginning_copy, is_full, node_does}
use Rattle.sky_model.specs.WorkerMoves.{Move, behind_calls, handing, moves_to}
use Rattle.sky_model.specs.BatchMoves.{Follower, events_of_batch, has_applied, applies_in_hand, taken, takes, takes_next, goes_through}
use Rattle.sky_model.specs.ReplayMoves.{replayer, is_handed_over, is_met, first_in, next_to_copy, for_table, replay_move}
use Rattle.sky_model.specs.CopyMoves.{copy_consumer, copies_piece, next_piece, piece_size, rows_from, first_hand, starts_copy, under_way, continues, starts_or_continues, copier, goes_through_or, has_caught_up, catches_up, hands_over, if_copied, moves_in, table_at, table_move, copy_move, copy_running}

abbrev HasNone : {H : Type 0} → Move H → Type 0
HasNone move = All ReplyHasMoments move.replies

abbrev HaveNone : {H : Type 0} → Checked (Move H) → Type 0
HaveNone c = IfOk c HasNone

one-reply : (reply : Reply) → ReplyHasMoments reply → All ReplyHasMoments (reply ∷ [])
one-reply reply has = All-from_recursion ReplyHasMoments (reply ∷ []) (has, tt)

either : {H : Type 0} (b : Bool) (x y : Move H) → HasNone x → HasNone y → HasNone (if b then x else y)
either true x y has also = has
either false x y has also = also

one-of : {H : Type 0} (b : Bool) (x y : Checked (Move H)) → HaveNone x → HaveNone y → HaveNone (if b then x else y)
one-of true x y has also = has
one-of false x y has also = also

-- ---- a worker that goes through batches

applies : (p r : Database) (f : Follower) (batch : BatchHand) → HaveNone (applies_in_hand p r f batch)
applies p r f batch = of (next_id r.part)
  where
    call : NodeCall
    call = applying (events_of_batch p batch.id) f.pick batch.cur

    many : ℕ
    many = length (picked r.node f.pick (events_of_batch p batch.id))

    by : (bad : Option ℕ) → HasNone (has_applied call batch many bad)
    by None = one-reply (BatchApplied batch.cur many) tt
    by (Some id) = one-reply Idle tt

    of : (id : Checked ℕ) → HaveNone (id >>= (λ t. Ok (has_applied call batch many (bad_event r f.pick (events_of_batch p batch.id)))))
    of (Err refusal) = tt
    of (Ok t) = by (bad_event r f.pick (events_of_batch p batch.id))

goes-through : (p r : Database) (f : Follower) (batch : BatchHand) → HaveNone (goes_through p r f batch)
goes-through p r f batch =
    one-of batch.is_done _ _ (one-reply (BatchFinished batch.id) tt) (one-of (nat_lt f.tick batch.cur) _ _ (applies p r f batch) (one-reply (BatchSkipped batch.cur) tt))

takes-next : (p : Database) (f : Follower) → HaveNone (takes_next p f)
takes-next p f = of (node_does p (fetching f.consumer))
  where
    by : (o : Option Batch) → HaveNone (takes f o)
    by None = one-reply Idle tt
    by (Some batch) = one-reply (BatchTaken batch.id batch.prev batch.cur) tt

    of : (asked : Checked Outcome) → HaveNone (asked >>= (λ x. takes f (taken (after_marks p x.marks) x.reply)))
    of (Err refusal) = tt
    of (Ok x) = by (taken (after_marks p x.marks) x.reply)

moves-to : (state : TableState) (table : List ℕ) → HaveNone {H = BatchHand} (moves_to state table)
moves-to state table = one-reply (TableMoved table state) tt

-- ---- the worker that copies a table

piece : (table : List ℕ) (s : SnapshotView) (hand : CopyHand) (rows : Entries (List Val)) → HasNone (copies_piece table s hand rows)
piece table s hand rows =
    either (nat_lt (length rows) piece_size) _ _ (All-from_recursion ReplyHasMoments (RowsCopied (length rows) ∷ TableMoved table CatchingUp ∷ []) (tt, (tt, tt))) (one-reply (RowsCopied (length rows)) tt)

starts : (p r : Database) (table : List ℕ) → HaveNone (starts_copy p r table)
starts p r table = of (is_full p (copy_consumer r.node)) (sub_ids_spent p) (next_id r.part)
  where
    begins : ℕ → Checked (Move CopyHand)
    begins t = Ok (behind_calls (parting (copy_consumer r.node) ∷ joining (copy_consumer r.node) ∷ holding ∷ []) (beginning_copy table ∷ []) (next_piece p table (snapshot_now p.part) (first_hand p)))

    of : (full spent : Bool) (id : Checked ℕ) → HaveNone (refused_if full (TooMany Consumers) >> (refused_if spent IdsSpent >> (id >>= begins)))
    of true spent id = tt
    of false true id = tt
    of false false (Err refusal) = tt
    of false false (Ok t) = piece table (snapshot_now p.part) (first_hand p) (rows_from p table (snapshot_now p.part) None piece_size)

goes : (p r : Database) (table : List ℕ) (hand : Option CopyHand) (running : Option ℕ) → HaveNone (starts_or_continues p r table hand running)
goes p r table hand None = starts p r table
goes p r table hand (Some t) = by (under_way p hand)
  where
    by : (o : Option (CopyHand × SnapshotView)) → HaveNone (continues p table hand o)
    by None = one-reply (AwaitsTable table) tt
    by (Some x) = piece table x.1 x.0 (rows_from p table x.1 x.0.last piece_size)

handed : {H I : Type 0} (kind : H → I) (c : Checked (Move H)) → HaveNone c → HaveNone (handing kind c)
handed kind (Ok move) has = has
handed kind (Err refusal) has = tt

by-batch : (p r : Database) (t : LeafTable) (batch : Option BatchHand) (other : Checked (Move BatchHand)) → HaveNone other → HaveNone (goes_through_or p r t batch other)
by-batch p r t None other has = has
by-batch p r t (Some batch) other has = goes-through p r (copier r.node t) batch

copied : (t : LeafTable) (hand : Option Hand) (c : Checked (Move BatchHand)) → HaveNone c → HaveNone (if_copied t hand c)
copied t hand c has = one-of (is_some t.snapshot) _ _ (handed of_batch c has) (one-reply (AwaitsTable t.name) tt)

catches-up : (p r : Database) (t : LeafTable) → HaveNone (catches_up p r t)
catches-up p r t = one-of (has_caught_up p t) _ _ (moves-to (WannaSync t.tick) t.name) (takes-next p (copier r.node t))

hands-over : (p r : Database) (tick : ℕ) (t : LeafTable) → HaveNone (hands_over p r tick t)
hands-over p r tick t = one-of (t.tick == tick) _ _ (one-reply (TableMoved t.name Synced) tt) (takes-next p (copier r.node t))

-- a move's answers
pub moments-moved : (p r : Database) (table : List ℕ) (hand : Option Hand) → IfOk (copy_move p r table hand) (λ move. All ReplyHasMoments move.replies)
moments-moved p r table hand = of (table_at table r.node)
  where
    by : (t : LeafTable) (state : TableState) → HaveNone (moves_in state p r t hand)
    by t InCopy = handed of_copy (starts_or_continues p r t.name (copy_in hand) (copy_running r t.name)) (goes p r t.name (copy_in hand) (copy_running r t.name))
    by t Synced = one-reply Idle tt
    by t Absent = one-reply (AwaitsTable t.name) tt
    by t CatchingUp = copied t hand (goes_through_or p r t (batch_in hand) (catches_up p r t)) (by-batch p r t (batch_in hand) (catches_up p r t) (catches-up p r t))
    by t (WannaSync tick) = one-reply (AwaitsTable t.name) tt
    by t (DoSync tick) = copied t hand (goes_through_or p r t (batch_in hand) (hands_over p r tick t)) (by-batch p r t (batch_in hand) (hands_over p r tick t) (hands-over p r tick t))

    of : (o : Option LeafTable) → HaveNone (table_move p r table o hand)
    of None = one-reply (AwaitsTable table) tt
    of (Some t) = by t t.state

-- ---- the worker of a leaf

for-table : (o : Option (List ℕ)) (move : List ℕ → Checked (Move BatchHand)) (other : Checked (Move BatchHand)) → ((table : List ℕ) → HaveNone (move table)) → HaveNone other → HaveNone (for_table o move other)
for-table None move other has also = also
for-table (Some table) move other has also = has table

pub moments-replayed : (p r : Database) (l : Leaf) (hand : Option BatchHand) → IfOk (replay_move p r l hand) (λ move. All ReplyHasMoments move.replies)
moments-replayed p r l (Some batch) = goes-through p r (replayer l) batch
moments-replayed p r l None =
    for-table (first_in is_handed_over l) _ _ (λ table. one-reply (AwaitsTable table) tt)
    (for-table (first_in (is_met l.tick) l) _ _ (λ table. moves-to (DoSync l.tick) table)
    (for-table (next_to_copy l) _ _ (λ table. moves-to InCopy table)
    (takes-next p (replayer l))))
