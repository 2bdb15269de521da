-- One move of the worker that copies a table of a leaf: it copies the rows, and then goes through batches until the table can be handed over to the
-- leaf's own worker. Each definition reads the databases `p` of the provider and `r` of the leaf as they are before the move.
use Rattle.std.specs.Prelude.{ℕ, List, Bool, false, not, ◌||◌, [], ◌∷◌, ◌++◌, Option, Some, None, option_map, option_and_then, unwrap_or, is_some, map, take, length, nat_lt, find, ◌==◌, codes, Ok, if◌then◌else◌}
use Rattle.sky_val.specs.declared.val.Val.{Val}
use Rattle.sky_val.specs.declared.column.Column.{Column}
use Rattle.sky_val.specs.Entries.{Entries}
use Rattle.sky_keys.specs.Versions.{above, rows_read}
use Rattle.sky_txid.specs.Snapshot.{SnapshotView, sees}
use Rattle.std.specs.List.{list_all, range_with_len}
use Rattle.londiste_state.specs.declared.state.TableState.{TableState}
use Rattle.londiste_state.specs.declared.state.TableState.TheVariants.{InCopy, CatchingUp, WannaSync, DoSync, Synced}
use Rattle.londiste_state.specs.Nodes.{Node, of_leaf, node_name, table_of, LeafTable}
use Rattle.sky_model.specs.declared.reply.Limit.TheVariants.{Consumers}
use Rattle.sky_model.specs.declared.reply.Refusal.TheVariants.{IdsSpent, TooMany}
use Rattle.sky_model.specs.declared.reply.Reply.TheVariants.{TableMoved, RowsCopied, AwaitsTable, Idle}
use Rattle.sky_model.specs.Hands.{CopyHand, BatchHand, Hand, of_copy, of_batch, copy_in, batch_in}
use Rattle.sky_model.specs.History.{copy_of}
use Rattle.sky_model.specs.Copies.{Hold, least_free, copy_txid}
use Rattle.sky_model.specs.State.{Database}
use Rattle.sky_model.specs.ShownRows.{snapshot_now}
use Rattle.sky_model.specs.OwnTransaction.{next_id}
use Rattle.sky_model.specs.Outcome.{Checked, ◌>>=◌, ◌>>◌, refused_if}
use Rattle.sky_model.specs.StepQueue.{newest_id}
use Rattle.sky_model.specs.StepConsumer.{sub_ids_spent}
use Rattle.sky_model.specs.StepNode.{NodeCall, joining, parting, holding, letting_go, beginning_copy, copying_rows, ending_copy, giving_up_copy, moving, set_queue, is_full, snapshot_of_tick, table_number}
use Rattle.sky_model.specs.WorkerMoves.{Move, only_prints, moves_to, behind_calls, handing}
use Rattle.sky_model.specs.BatchMoves.{Follower, goes_through, takes_next}

-- how many rows are copied at once
abbrev pub piece_size : ℕ
piece_size = 1000

-- the snapshot of a hold
abbrev pub held_snapshot : Database → (hold : ℕ) → Option SnapshotView
held_snapshot p hold = option_map Hold.snapshot (find (λ (x : Hold). x.number == hold) p.holds)

-- the first rows of a table by key, at most this many, above a key, under a snapshot
abbrev pub rows_from : Database → List ℕ → SnapshotView → (after : Option (List Val)) → (most : ℕ) → Entries (List Val)
rows_from p table snapshot after most = unwrap_or (option_map (λ t. take most (rows_read snapshot None (above after (p.part.versions t)))) (table_number p table)) []

-- the columns of a table
abbrev pub columns_for : Database → List ℕ → List Column
columns_for d table = unwrap_or (option_map d.part.columns (table_number d table)) []

-- the transaction of the copy of a table, if one runs
abbrev pub copy_running : Database → List ℕ → Option ℕ
copy_running d table = option_and_then (λ t. copy_txid t d.copies) (table_number d table)

-- the rows of these entries; the key of the last of them, or else one from before
abbrev pub rows_of : Entries (List Val) → List (List Val)
rows_of rows = map (λ e. e.1) rows

abbrev pub last_key : Option (List Val) → Entries (List Val) → Option (List Val)
last_key before [] = before
last_key before (e ∷ es) = last_key (Some e.0) es

-- rows are copied; and if they are fewer than a piece has, the copy ends, and the snapshot is held no longer
abbrev pub copies_piece : List ℕ → SnapshotView → CopyHand → Entries (List Val) → Move CopyHand
copies_piece table snapshot hand rows =
    if nat_lt (length rows) piece_size then record {
      provider = letting_go hand.hold ∷ [];
      replica = copying_rows table (rows_of rows) ∷ ending_copy table snapshot hand.tick ∷ [];
      replies = RowsCopied (length rows) ∷ TableMoved table CatchingUp ∷ [];
      hand = None;
    } else record {
      provider = [];
      replica = copying_rows table (rows_of rows) ∷ [];
      replies = RowsCopied (length rows) ∷ [];
      hand = Some (record hand { last = last_key hand.last rows });
    }

-- the next rows above the last key that was copied
abbrev pub next_piece : Database → List ℕ → SnapshotView → CopyHand → Move CopyHand
next_piece p table snapshot hand = copies_piece table snapshot hand (rows_from p table snapshot hand.last piece_size)

-- the consumer of the copies of a node's tables
abbrev pub copy_consumer : Option Node → List ℕ
copy_consumer None = codes ".copy"
copy_consumer (Some node) = node_name node ++ codes ".copy"

-- the newest tick of the set's queue
abbrev pub newest_of : Database → ℕ
newest_of p = unwrap_or (option_map (λ queue. newest_id (p.queue queue)) (set_queue p)) 0

-- the hand of a copy that begins
abbrev pub first_hand : Database → CopyHand
first_hand p = record { hold = least_free (map Hold.number p.holds); tick = newest_of p; last = None }

-- a copy begins: its consumer registers at the newest tick, the present snapshot is held, and the rows that the table has are deleted; then the first
-- rows are copied
abbrev pub starts_copy : (p r : Database) → List ℕ → Checked (Move CopyHand)
starts_copy p r table = do
  refused_if (is_full p (copy_consumer r.node)) (TooMany Consumers)
  refused_if (sub_ids_spent p) IdsSpent
  t ← next_id r.part
  Ok (behind_calls (parting (copy_consumer r.node) ∷ joining (copy_consumer r.node) ∷ holding ∷ []) (beginning_copy table ∷ [])
      (next_piece p table (snapshot_now p.part) (first_hand p)))

-- what is in hand, and the snapshot that is held for it
abbrev pub under_way : Database → Option CopyHand → Option (CopyHand × SnapshotView)
under_way p None = None
under_way p (Some hand) = option_map (λ snapshot. (hand, snapshot)) (held_snapshot p hand.hold)

-- a copy that runs continues with the next rows; if it isn't in hand, it is waited for
abbrev pub continues : Database → List ℕ → Option CopyHand → Option (CopyHand × SnapshotView) → Checked (Move CopyHand)
continues p table hand None = only_prints (AwaitsTable table) hand
continues p table hand (Some x) = Ok (next_piece p table x.1 x.0)

-- a copy begins, unless one of the table runs, by this transaction: then that one continues
abbrev pub starts_or_continues : (p r : Database) → List ℕ → Option CopyHand → (running : Option ℕ) → Checked (Move CopyHand)
starts_or_continues p r table hand None = starts_copy p r table
starts_or_continues p r table hand (Some t) = continues p table hand (under_way p hand)

-- the worker of a table's copy, as one that goes through batches
abbrev pub copier : Option Node → LeafTable → Follower
copier n t = record { consumer = copy_consumer n; tick = t.tick; pick = copy_of t.name }

-- what is done with a batch in hand, or, with none, another move
abbrev pub goes_through_or : (p r : Database) → LeafTable → Option BatchHand → Checked (Move BatchHand) → Checked (Move BatchHand)
goes_through_or p r t (Some batch) other = goes_through p r (copier r.node t) batch
goes_through_or p r t None other = other

-- whether a snapshot sees each transaction that another sees
abbrev pub covers : (a b : SnapshotView) → Bool
covers a b = list_all (λ t. not (sees b t) || sees a t) (range_with_len 0 b.xmax)

-- whether each transaction that had ended when the table was copied has ended at the tick that its copy has come to
abbrev pub has_caught_up : Database → LeafTable → Bool
has_caught_up p t = unwrap_or (option_map (λ at. unwrap_or (option_map (covers at) t.snapshot) false) (snapshot_of_tick p t.tick)) false

-- a table that has caught up waits until the leaf has come to its tick; until it has caught up, its copy goes through batches
abbrev pub catches_up : (p r : Database) → LeafTable → Checked (Move BatchHand)
catches_up p r t = if has_caught_up p t then moves_to (WannaSync t.tick) t.name else takes_next p (copier r.node t)

-- a table that is handed over at a tick is in sync once its copy has come to that tick; the consumer of its copy leaves
abbrev pub hands_over : (p r : Database) → (tick : ℕ) → LeafTable → Checked (Move BatchHand)
hands_over p r tick t =
    if t.tick == tick then Ok (record {
      provider = parting (copy_consumer r.node) ∷ [];
      replica = moving t.name Synced ∷ [];
      replies = TableMoved t.name Synced ∷ [];
      hand = None;
    }) else takes_next p (copier r.node t)

-- what is done with a table that was copied; one of which no snapshot is kept is waited for
abbrev pub if_copied : LeafTable → Option Hand → Checked (Move BatchHand) → Checked (Move Hand)
if_copied t hand move = if is_some t.snapshot then handing of_batch move else only_prints (AwaitsTable t.name) hand

-- what the worker does with a table in a state
abbrev pub moves_in : TableState → (p r : Database) → LeafTable → Option Hand → Checked (Move Hand)
moves_in InCopy p r t hand = handing of_copy (starts_or_continues p r t.name (copy_in hand) (copy_running r t.name))
moves_in CatchingUp p r t hand = if_copied t hand (goes_through_or p r t (batch_in hand) (catches_up p r t))
moves_in (DoSync tick) p r t hand = if_copied t hand (goes_through_or p r t (batch_in hand) (hands_over p r tick t))
moves_in Synced p r t hand = only_prints Idle hand
moves_in state p r t hand = only_prints (AwaitsTable t.name) hand

-- one move of the worker; a table that the leaf doesn't have is waited for
abbrev pub table_move : (p r : Database) → List ℕ → Option LeafTable → Option Hand → Checked (Move Hand)
table_move p r table None hand = only_prints (AwaitsTable table) hand
table_move p r table (Some t) hand = moves_in t.state p r t hand

-- the table of a name of a leaf
abbrev pub table_at : List ℕ → Option Node → Option LeafTable
table_at table (Some (of_leaf l)) = table_of table l
table_at table n = None

abbrev pub copy_move : (p r : Database) → List ℕ → Option Hand → Checked (Move Hand)
copy_move p r table hand = table_move p r table (table_at table r.node) hand

-- the snapshot that is held for a copy is let go
abbrev pub lets_go_for : Option CopyHand → List NodeCall
lets_go_for None = []
lets_go_for (Some hand) = letting_go hand.hold ∷ []

-- what is in hand is lost: the copy is given up, if one runs, and its snapshot is held no longer
abbrev pub gives_up_in : (table : List ℕ) → Option Hand → Move Hand
gives_up_in table hand = record { provider = lets_go_for (copy_in hand); replica = giving_up_copy table ∷ []; replies = []; hand = None }
