-- The calls for nodes that moves of workers make.
use Rattle.std.proofs.Common.{◌≡◌, ℕ, ◌==◌, List, [], ◌∷◌, ◌++◌, length, nat_lt, Bool, true, false, Option, Some, None, Ok, Err, IfOk, is_some, refl, if◌then◌else◌}
use Rattle.std.proofs.lemmas.Result.{IfOk-weaker}
use Rattle.sky_val.specs.Entries.{Entries}
use Rattle.sky_val.specs.declared.val.Val.{Val}
use Rattle.sky_txid.specs.Snapshot.{SnapshotView}
use Rattle.londiste_state.specs.declared.state.TableState.{TableState}
use Rattle.londiste_state.specs.declared.state.TableState.TheVariants.{InCopy, CatchingUp, DoSync, Synced}
use Rattle.londiste_state.specs.Nodes.{Node, Leaf, LeafTable}
use Rattle.sky_model.specs.declared.reply.Limit.TheVariants.{Consumers}
use Rattle.sky_model.specs.declared.reply.Refusal.TheVariants.{IdsSpent, TooMany}
use Rattle.sky_val.specs.declared.event.Event.{Event}
use Rattle.sky_model.specs.History.{Batch, Pick}
use Rattle.sky_model.specs.Hands.{CopyHand, BatchHand, Hand, of_copy, of_batch, copy_in, batch_in}
use Rattle.sky_model.specs.ShownRows.{snapshot_now}
use Rattle.sky_model.specs.State.{Database, after_marks}
use Rattle.sky_model.specs.Outcome.{Checked}
use Rattle.sky_model.specs.OwnTransaction.{next_id}
use Rattle.sky_model.specs.StepConsumer.{sub_ids_spent}
use Rattle.sky_model.specs.StepNode.{NodeCall, joining, parting, fetching, making_leaf, adding, moving, listing, unlisting, beginning_copy, applying, holding, is_full, node_does, making_root, finishing}
use Rattle.sky_model.specs.WorkerMoves.{Move, behind_calls, handing}
use Rattle.sky_model.specs.BatchMoves.{Follower, events_of_batch, has_applied, applies_in_hand, skips_in_hand, finishes_in_hand, taken, takes, takes_next, goes_through}
use Rattle.sky_model.specs.CopyMoves.{piece_size, rows_from, copies_piece, next_piece, copy_consumer, first_hand, starts_copy, under_way, continues, starts_or_continues, moves_in, table_move, table_at, copier, goes_through_or, if_copied, has_caught_up, catches_up, hands_over, copy_running, copy_move, lets_go_for}
use Rattle.sky_model.specs.ReplayMoves.{replayer, is_on_way, is_handed_over, is_met, first_in, next_to_copy, for_table, replay_move}
use Rattle.sky_model.specs.WorkersOfWorld.{parts_for}
use Rattle.sky_model.specs.StepApply.{picked, bad_event}
use Rattle.sky_model.proofs.Cases.{by_test, ok-then}
use Rattle.sky_laws_replicas.proofs.UnlessRefused.{if-test}

-- whether a call is one with batches: no table is said to catch up by it
abbrev pub is_of_batches : NodeCall → Bool
is_of_batches (parting consumer) = true
is_of_batches (fetching consumer) = true
is_of_batches (finishing batch) = true
is_of_batches (applying events pick tick) = true
is_of_batches (moving name CatchingUp) = false
is_of_batches (moving name state) = true
is_of_batches call = false

-- whether it is one of a worker: by it no node is made either, and no table joins or leaves a set, or joins a leaf
abbrev pub is_workers : NodeCall → Bool
is_workers (making_root name queue now) = false
is_workers (making_leaf name provider tick) = false
is_workers (adding name) = false
is_workers (moving name CatchingUp) = false
is_workers (listing name) = false
is_workers (unlisting name) = false
is_workers call = true

of-workers : (call : NodeCall) → is_of_batches call ≡ true → is_workers call ≡ true
of-workers (making_root name queue now) e = absurd (cc e)
of-workers (making_leaf name provider tick) e = absurd (cc e)
of-workers (adding name) e = absurd (cc e)
of-workers (moving name CatchingUp) e = absurd (cc e)
of-workers (listing name) e = absurd (cc e)
of-workers (unlisting name) e = absurd (cc e)
of-workers call e = refl

-- each of some calls is such a one
abbrev pub AllCalls : (NodeCall → Bool) → List NodeCall → Type 0
AllCalls p [] = Unit {0}
AllCalls p (call ∷ calls) = (p call ≡ true) × AllCalls p calls

pub calls-append : (p : NodeCall → Bool) (xs ys : List NodeCall) → AllCalls p xs → AllCalls p ys → AllCalls p (xs ++ ys)
calls-append p [] ys all also = also
calls-append p (x ∷ xs) ys all also = (all.0, calls-append p xs ys all.1 also)

calls-weaker : (p q : NodeCall → Bool) → ((call : NodeCall) → p call ≡ true → q call ≡ true) → (calls : List NodeCall) → AllCalls p calls → AllCalls q calls
calls-weaker p q implies [] all = tt
calls-weaker p q implies (call ∷ calls) all = (implies call all.0, calls-weaker p q implies calls all.1)

-- ---- a move

-- its calls are
pub record Makes (p : NodeCall → Bool) {H : Type 0} (move : Move H) : Type 0 where
  pub provider : AllCalls p move.provider
  pub replica : AllCalls p move.replica

abbrev pub BatchesIfOk : {H : Type 0} → Checked (Move H) → Type 0
BatchesIfOk c = IfOk c (Makes is_of_batches)

abbrev pub WorkersIfOk : {H : Type 0} → Checked (Move H) → Type 0
WorkersIfOk c = IfOk c (Makes is_workers)

batches-workers : {H : Type 0} (c : Checked (Move H)) → BatchesIfOk c → WorkersIfOk c
batches-workers c all =
    IfOk-weaker c _ _
    (λ move is. record { provider = calls-weaker is_of_batches is_workers of-workers move.provider is.provider; replica = calls-weaker is_of_batches is_workers of-workers move.replica is.replica }) all

either-workers : {H : Type 0} (b : Bool) (x y : Move H) → Makes is_workers x → Makes is_workers y → Makes is_workers (if b then x else y)
either-workers true x y all also = all
either-workers false x y all also = also

if-either : {H : Type 0} (p : NodeCall → Bool) (b : Bool) (x y : Checked (Move H)) → IfOk x (Makes p) → IfOk y (Makes p) → IfOk (if b then x else y) (Makes p)
if-either p true x y all also = all
if-either p false x y all also = also

if-handing : {H I : Type 0} (kind : H → I) (c : Checked (Move H)) → WorkersIfOk c → WorkersIfOk (handing kind c)
if-handing kind (Ok move) all = record { provider = all.provider; replica = all.replica }
if-handing kind (Err refusal) all = tt

-- with batches
batches-takes : (f : Follower) (o : Option Batch) → BatchesIfOk (takes f o)
batches-takes f None = record { provider = tt; replica = tt }
batches-takes f (Some batch) = record { provider = (refl, tt); replica = tt }

batches-takes_next : (p : Database) (f : Follower) → BatchesIfOk (takes_next p f)
batches-takes_next p f = ok-then _ (node_does p (fetching f.consumer)) _ (λ asked _. batches-takes f (taken (after_marks p asked.marks) asked.reply))

batches-applied : (events : List Event) (pick : Pick) (tick : ℕ) (batch : BatchHand) (many : ℕ) (bad : Option ℕ) → Makes is_of_batches (has_applied (applying events pick tick) batch many bad)
batches-applied events pick tick batch many None = record { provider = tt; replica = (refl, tt) }
batches-applied events pick tick batch many (Some id) = record { provider = tt; replica = (refl, tt) }

batches-through : (p r : Database) (f : Follower) (batch : BatchHand) → BatchesIfOk (goes_through p r f batch)
batches-through p r f batch =
    if-either is_of_batches batch.is_done (finishes_in_hand batch) _ (record { provider = (refl, tt); replica = tt })
    (if-either is_of_batches (nat_lt f.tick batch.cur) (applies_in_hand p r f batch) (skips_in_hand batch) (ok-then _ (next_id r.part) _ (λ t _. batches-applied (events_of_batch p batch.id) f.pick batch.cur batch (length (picked r.node f.pick (events_of_batch p batch.id))) (bad_event r f.pick (events_of_batch p batch.id))))
    (record { provider = tt; replica = tt }))

batches-goes_through_or : (p r : Database) (t : LeafTable) (o : Option BatchHand) (other : Checked (Move BatchHand)) → BatchesIfOk other → BatchesIfOk (goes_through_or p r t o other)
batches-goes_through_or p r t (Some batch) other all = batches-through p r (copier r.node t) batch
batches-goes_through_or p r t None other all = all

batches-for_table : (o : Option (List ℕ)) (move : List ℕ → Checked (Move BatchHand)) (other : Checked (Move BatchHand)) → ((table : List ℕ) → BatchesIfOk (move table)) → BatchesIfOk other → BatchesIfOk (for_table o move other)
batches-for_table None move other all also = also
batches-for_table (Some table) move other all also = all table

pub batches-replay : (p r : Database) (l : Leaf) (o : Option BatchHand) → BatchesIfOk (replay_move p r l o)
batches-replay p r l (Some batch) = batches-through p r (replayer l) batch
batches-replay p r l None =
    batches-for_table (first_in is_handed_over l) _ _ (λ table. record { provider = tt; replica = tt })
    (batches-for_table (first_in (is_met l.tick) l) _ _ (λ table. record { provider = tt; replica = (refl, tt) })
    (batches-for_table (next_to_copy l) _ _ (λ table. record { provider = tt; replica = (refl, tt) }) (batches-takes_next p (replayer l))))

-- of a table that has been copied
pub batches-catches_up : (p r : Database) (t : LeafTable) (o : Option BatchHand) → BatchesIfOk (goes_through_or p r t o (catches_up p r t))
batches-catches_up p r t o =
    batches-goes_through_or p r t o (catches_up p r t) (if-either is_of_batches (has_caught_up p t) _ _ (record { provider = tt; replica = (refl, tt) }) (batches-takes_next p (copier r.node t)))

pub batches-hands_over : (p r : Database) (tick : ℕ) (t : LeafTable) (o : Option BatchHand) → BatchesIfOk (goes_through_or p r t o (hands_over p r tick t))
batches-hands_over p r tick t o =
    batches-goes_through_or p r t o (hands_over p r tick t)
    (if-either is_of_batches (t.tick == tick) _ _ (record { provider = (refl, tt); replica = (refl, tt) }) (batches-takes_next p (copier r.node t)))

pub workers-replay : (p r : Database) (l : Leaf) (o : Option BatchHand) → WorkersIfOk (replay_move p r l o)
workers-replay p r l o = batches-workers (replay_move p r l o) (batches-replay p r l o)

-- with copies
workers-piece : (table : List ℕ) (snapshot : SnapshotView) (hand : CopyHand) (rows : Entries (List Val)) → Makes is_workers (copies_piece table snapshot hand rows)
workers-piece table snapshot hand rows =
    either-workers (nat_lt (length rows) piece_size) _ _ (record { provider = (refl, tt); replica = (refl, (refl, tt)) }) (record { provider = tt; replica = (refl, tt) })

workers-next : (p : Database) (table : List ℕ) (snapshot : SnapshotView) (hand : CopyHand) → Makes is_workers (next_piece p table snapshot hand)
workers-next p table snapshot hand = workers-piece table snapshot hand (rows_from p table snapshot hand.last piece_size)

module _ (p r : Database) (table : List ℕ) where
  abbrev first : Move CopyHand
  first = next_piece p table (snapshot_now p.part) (first_hand p)

  workers-first : Makes is_workers (behind_calls (parting (copy_consumer r.node) ∷ joining (copy_consumer r.node) ∷ holding ∷ []) (beginning_copy table ∷ []) first)
  workers-first = let rest : Makes is_workers first = workers-next p table (snapshot_now p.part) (first_hand p) in record { provider = (refl, (refl, (refl, rest.provider))); replica = (refl, rest.replica) }

  workers-starts : WorkersIfOk (starts_copy p r table)
  workers-starts =
      if-test _ (is_full p (copy_consumer r.node)) (TooMany Consumers) _ (λ _. if-test _ (sub_ids_spent p) IdsSpent _ (λ _. ok-then _ (next_id r.part) _ (λ t _. workers-first)))

  workers-starts_or_continues : (hand : Option CopyHand) (running : Option ℕ) → WorkersIfOk (starts_or_continues p r table hand running)
  workers-starts_or_continues hand None = workers-starts
  workers-starts_or_continues hand (Some t) = of (under_way p hand)
    where
      of : (o : Option (CopyHand × SnapshotView)) → WorkersIfOk (continues p table hand o)
      of None = record { provider = tt; replica = tt }
      of (Some x) = workers-next p table x.1 x.0

workers-copied : (t : LeafTable) (hand : Option Hand) (c : Checked (Move BatchHand)) → WorkersIfOk c → WorkersIfOk (if_copied t hand c)
workers-copied t hand c all = if-either is_workers (is_some t.snapshot) (handing of_batch c) _ (if-handing of_batch c all) (record { provider = tt; replica = tt })

workers-in : (p r : Database) (t : LeafTable) (state : TableState) (hand : Option Hand) → WorkersIfOk (moves_in state p r t hand)
workers-in p r t InCopy hand = if-handing of_copy (starts_or_continues p r t.name (copy_in hand) (copy_running r t.name)) (workers-starts_or_continues p r t.name (copy_in hand) (copy_running r t.name))
workers-in p r t CatchingUp hand = workers-copied t hand (goes_through_or p r t (batch_in hand) (catches_up p r t)) (batches-workers _ (batches-catches_up p r t (batch_in hand)))
workers-in p r t (DoSync tick) hand = workers-copied t hand (goes_through_or p r t (batch_in hand) (hands_over p r tick t)) (batches-workers _ (batches-hands_over p r tick t (batch_in hand)))
workers-in p r t Synced hand = record { provider = tt; replica = tt }
workers-in p r t state hand = record { provider = tt; replica = tt }

pub workers-move : (p r : Database) (table : List ℕ) (hand : Option Hand) → WorkersIfOk (copy_move p r table hand)
workers-move p r table hand = of (table_at table r.node)
  where
    of : (o : Option LeafTable) → WorkersIfOk (table_move p r table o hand)
    of None = record { provider = tt; replica = tt }
    of (Some t) = workers-in p r t t.state hand

pub workers-lets : (hand : Option CopyHand) → AllCalls is_workers (lets_go_for hand)
workers-lets None = tt
workers-lets (Some hand) = (refl, tt)

pub workers-parts : (n : Option Node) (o : Option TableState) → AllCalls is_workers (parts_for n o)
workers-parts n None = tt
workers-parts n (Some state) = by_test (λ b. AllCalls is_workers (if b then parting (copy_consumer n) ∷ [] else [])) (is_on_way state) (λ _. (refl, tt)) (λ _. tt)
