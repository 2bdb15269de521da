-- What the moves of workers keep.
use Rattle.std.proofs.Common.{arith, ◌≡◌, ℕ, ◌==◌, nat_lt, nat_le, ◌^◌, length, List, [], ◌∷◌, ◌++◌, find, Bool, true, false, Option, Some, None, Ok, Err, IfOk, is_some, option_map, bytes_eq, refl, sym, ap, subst, ◌∙◌, if◌then◌else◌}
use Rattle.std.proofs.lemmas.Bool.{eqb-true}
use Rattle.std.proofs.lemmas.Bool.Decides.{nat_tests}
use Rattle.sky_val.specs.declared.val.Val.{Val}
use Rattle.sky_val.specs.Entries.{Entries}
use Rattle.sky_txid.specs.Snapshot.{SnapshotView}
use Rattle.londiste_state.specs.declared.state.TableState.{TableState}
use Rattle.londiste_state.specs.declared.state.TableState.TheVariants.{Absent, InCopy, CatchingUp, WannaSync, DoSync, Synced}
use Rattle.londiste_state.specs.Nodes.{Node, of_root, of_leaf, Leaf, LeafTable}
use Rattle.sky_model.specs.declared.reply.Limit.TheVariants.{Consumers}
use Rattle.sky_model.specs.declared.reply.Refusal.TheVariants.{IdsSpent, TooMany, TxidsSpent}
use Rattle.sky_model.specs.declared.reply.Reply.TheVariants.{AwaitsTable, RowsCopied, TableMoved}
use Rattle.sky_model.specs.Hands.{CopyHand, BatchHand, Hand, of_copy, of_batch, copy_in, batch_in}
use Rattle.sky_model.specs.History.{Batch, of_synced, Fact, in_hand, batch_in_hand, Past}
use Rattle.sky_model.specs.Transactions.{next_txid}
use Rattle.sky_model.specs.Queues.{at_tick}
use Rattle.sky_model.specs.Nodes.{node, is_root, is_leaf}
use Rattle.sky_model.specs.State.{Database, database_of, after_marks}
use Rattle.sky_model.specs.ShownRows.{snapshot_now}
use Rattle.sky_model.specs.Outcome.{Outcome, Checked, ◌>>=◌, ◌>>◌, refused_if}
use Rattle.sky_model.specs.StepConsumer.{sub_ids_spent}
use Rattle.sky_model.specs.StepApply.{picked, bad_event}
use Rattle.sky_model.specs.StepNode.{NodeCall, joining, parting, fetching, finishing, moving, beginning_copy, copying_rows, ending_copy, applying, holding, letting_go, is_full, node_does}
use Rattle.sky_model.specs.WorkerMoves.{Move, only_prints, moves_to, handing, behind_calls}
use Rattle.sky_model.specs.BatchMoves.{Follower, events_of_batch, has_applied, applies_in_hand, skips_in_hand, finishes_in_hand, taken, takes, takes_next, goes_through}
use Rattle.sky_model.specs.ReplayMoves.{replayer, is_handed_over, is_met, first_in, next_to_copy, for_table, empty_handed_move, replay_move}
use Rattle.sky_model.specs.CopyMoves.{piece_size, rows_from, rows_of, last_key, copies_piece, next_piece, copy_consumer, first_hand, starts_copy, under_way, continues, starts_or_continues, copier, goes_through_or, has_caught_up, catches_up, hands_over, if_copied, moves_in, table_move, table_at, copy_move, copy_running}
use Rattle.sky_model.specs.World.{history_in, hands, batches}
use Rattle.sky_histories.proofs.SnapshotLaws.{legal_place}
use Rattle.sky_histories.proofs.InCopyTables.{leaf_table}
use Rattle.sky_model.proofs.Cases.{by_test}
use Rattle.sky_laws_replicas.proofs.NodeNames.{source_of}
use Rattle.sky_laws_replicas.proofs.ProvidedTables.{TablesOffered, AllProvided}
use Rattle.sky_laws_replicas.proofs.CallPasts.{called, after_calls, histories-elsewhere}
use Rattle.sky_laws_synced.specs.Tables.{has_own_tick}
use Rattle.sky_laws_synced.proofs.ChangedTables.{leafs_tick, table-named}
use Rattle.sky_laws_synced.proofs.Covering.{EndedBy}
use Rattle.sky_laws_synced.proofs.Showing.{IsBetween}
use Rattle.sky_laws_synced.proofs.SetTicks.{caught-up}
use Rattle.sky_laws_synced.proofs.Going.{AllPlaces, apart-root, Goes, KeptGoes, suits-step, listed-now}
use Rattle.sky_laws_synced.proofs.PlainCalls.{ArePlain, plain-append, kept-call, kept-calls}
use Rattle.sky_laws_synced.proofs.FollowingAt.{FollowsIn, AllFollow, InWork, in-work, goes-worked}
use Rattle.sky_laws_synced.proofs.CopyEnds.{AtEnd}
use Rattle.sky_laws_synced.proofs.MovingTables.{kept-ending, kept-moving}
use Rattle.sky_laws_synced.proofs.NextBatch.{HasCome}
use Rattle.sky_laws_synced.proofs.FollowPasts.{batches-calls}

-- what is known before a call
pub record AtStart (past : Past) : Type 0 where
  pub between : (d : ℕ) → IsBetween (history_in past d)
  pub places : AllPlaces past
  pub provided : AllProvided past
  pub follow : AllFollow past

-- the last of some calls
after-last : (past : Past) (d : ℕ) (calls : List NodeCall) (one last : NodeCall) → after_calls past d (calls ++ one ∷ last ∷ []) ≡ called (after_calls past d (calls ++ one ∷ [])) d last
after-last past d [] one last = refl
after-last past d (call ∷ calls) one last = after-last (called past d call) d calls one last

module _ (past : Past) (d p : ℕ) (start : AtStart past) (kept : KeptGoes past) (from : source_of past d ≡ Some p) (leaf : is_leaf (node (history_in past d)) ≡ true) where
  abbrev pub provider : Database
  provider = database_of (history_in past p)

  abbrev pub replica : Database
  replica = database_of (history_in past d)

  goes : Goes past
  goes = kept start.places

  -- they are two databases
  pub provider-apart : (p == d) ≡ false
  provider-apart =
      let c : TablesOffered past d = start.provided.leaves d leaf in
      let same : c.p ≡ p = let both : Some c.p ≡ Some p = sym c.from ∙ from in cc both in
      let differ : (d == p) ≡ false = apart-root past d p (ap (λ x. is_root (node (history_in past x))) (sym same) ∙ c.root) leaf in
      grind (arith, nat_tests, differ)

  -- after the calls of a move
  abbrev pub moved : {H : Type 0} → Move H → Past
  moved move = after_calls (after_calls past p move.provider) d move.replica

  -- a move of a worker that goes through batches, or of one that does something of another kind
  abbrev pub BatchKept : Checked (Move BatchHand) → Type 0
  BatchKept c = IfOk c (λ move. KeptGoes (moved move))

  pick-if : (b : Bool) (x y : Checked (Move BatchHand)) → (b ≡ true → BatchKept x) → (b ≡ false → BatchKept y) → BatchKept (if b then x else y)
  pick-if true x y one two = one refl
  pick-if false x y one two = two refl

  -- ---- batches

  module _ (f : Follower) (b : BatchHand) (hand : Option BatchHand) (is : hand ≡ Some b) (follows : FollowsIn past p f hand) (has : HasCome (node (history_in past d)) f.pick f.tick)
      (none : f.pick ≡ of_synced → (name : List ℕ) (t : LeafTable) (tick : ℕ) → leaf_table name (node (history_in past d)) ≡ Some t → t.state ≡ DoSync tick → ⊥) where
    kept-applies : nat_lt f.tick b.cur ≡ true → BatchKept (applies_in_hand provider replica f b)
    kept-applies less = of (nat_le (2 ^ 62) (next_txid (history_in past d))) refl
      where
        w : InWork past p f b
        w = in-work past p f b hand is follows (start.places p) (grind (arith, nat_tests, less))

        call : NodeCall
        call = applying (events_of_batch provider b.id) f.pick b.cur

        many : ℕ
        many = length (picked replica.node f.pick (events_of_batch provider b.id))

        either : nat_le (2 ^ 62) (next_txid (history_in past d)) ≡ false → (bad : Option ℕ) → KeptGoes (moved (has_applied call b many bad))
        either e None = λ all. goes-worked past d p f b goes from (start.places p) (start.between d) w has e none all
        either e (Some id) = λ all. goes-worked past d p f b goes from (start.places p) (start.between d) w has e none all

        of : (spent : Bool) → nat_le (2 ^ 62) (next_txid (history_in past d)) ≡ spent
            → BatchKept ((refused_if spent TxidsSpent >> Ok (next_txid (history_in past d))) >>= (λ t. Ok (has_applied (applying (events_of_batch provider b.id) f.pick b.cur) b (length (picked replica.node f.pick (events_of_batch provider b.id))) (bad_event replica f.pick (events_of_batch provider b.id)))))
        of true e = tt
        of false e = either e (bad_event replica f.pick (events_of_batch provider b.id))

    pub kept-through : BatchKept (goes_through provider replica f b)
    kept-through =
        pick-if b.is_done (finishes_in_hand b) _ (λ _. kept-calls past p (finishing b.id ∷ []) (refl, tt) kept)
        (λ _. pick-if (nat_lt f.tick b.cur) (applies_in_hand provider replica f b) (skips_in_hand b) kept-applies (λ _. kept))

  pub kept-takes : (f : Follower) → BatchKept (takes_next provider f)
  kept-takes f = of (node_does provider (fetching f.consumer))
    where
      with_one : (o : Option Batch) → BatchKept (takes f o)
      with_one None = kept
      with_one (Some batch) = kept-calls past p (fetching f.consumer ∷ []) (refl, tt) kept

      of : (c : Checked Outcome) → BatchKept (c >>= (λ asked. takes f (taken (after_marks provider asked.marks) asked.reply)))
      of (Ok asked) = with_one (taken (after_marks provider asked.marks) asked.reply)
      of (Err refusal) = tt

  -- ---- a table that was copied

  module _ (name : List ℕ) (t : LeafTable) (there : leaf_table name (node (history_in past d)) ≡ Some t) where
    named : t.name ≡ name
    named = table-named name (node (history_in past d)) t there

    by-own-name : leaf_table t.name (node (history_in past d)) ≡ Some t
    by-own-name = ap (λ n. leaf_table n (node (history_in past d))) named ∙ there

    -- the one of its name is this one
    this-one : (u : LeafTable) → leaf_table t.name (node (history_in past d)) ≡ Some u → u ≡ t
    this-one u at = let both : Some t ≡ Some u = sym by-own-name ∙ at in sym (let one : t ≡ u = cc both in one)

    pub kept-copys : (other : Checked (Move BatchHand)) → has_own_tick t.state ≡ true → BatchKept other → BatchKept (goes_through_or provider replica t (batch_in (hands past d name)) other)
    kept-copys other copied also = of (batch_in (hands past d name)) refl
      where
        of : (o : Option BatchHand) → batch_in (hands past d name) ≡ o → BatchKept (goes_through_or provider replica t o other)
        of None is = also
        of (Some b) is =
            kept-through (copier replica.node t) b (batch_in (hands past d name)) is (start.follow.copies d p name t there copied from) (t, by-own-name, copied, refl) (λ e. absurd (cc e))

    pub kept-catches : t.state ≡ CatchingUp → BatchKept (catches_up provider replica t)
    kept-catches state =
        pick-if (has_caught_up provider t) (moves_to (WannaSync t.tick) t.name) (takes_next provider (copier replica.node t))
        (λ caught. kept-moving past d t.name (WannaSync t.tick) refl (λ all first u at s.
        let one : u ≡ t = this-one u at in
        let same_p : s.p ≡ p = let both : Some s.p ≡ Some p = sym s.from ∙ from in cc both in
        subst (λ (x : LeafTable). EndedBy s.shows.held (at_tick s.shows.queue x.tick (history_in past s.p))) (sym one)
        (caught-up (history_in past s.p) s.shows.held (legal_place (history_in past s.p) (all s.p)) s.shows.below t (ap LeafTable.snapshot (sym one) ∙ s.shows.under) s.shows.queue
        (listed-now s.shows.below s.shows.listed).set (ap (λ x. has_caught_up (database_of (history_in past x)) t) same_p ∙ caught))) kept)
        (λ _. kept-takes (copier replica.node t))

    pub kept-hands : (tick : ℕ) → t.state ≡ DoSync tick → BatchKept (hands_over provider replica tick t)
    kept-hands tick state =
        pick-if (t.tick == tick) _ (takes_next provider (copier replica.node t))
        (λ met.
        let parted : Past = after_calls past p (parting (copy_consumer replica.node) ∷ []) in
        let elsewhere : history_in parted d ≡ history_in past d = histories-elsewhere past p (parting (copy_consumer replica.node) ∷ []) d provider-apart in
        kept-moving parted d t.name Synced refl (λ all first u at other is.
        let one : u ≡ t = this-one u (sym (ap (λ h. leaf_table t.name (node h)) elsewhere) ∙ at) in
        ap LeafTable.tick one ∙ eqb-true t.tick tick met ∙ (let both : DoSync tick ≡ DoSync other = sym state ∙ ap LeafTable.state (sym one) ∙ is in cc both))
        (kept-calls past p (parting (copy_consumer replica.node) ∷ []) (refl, tt) kept))
        (λ _. kept-takes (copier replica.node t))

  -- ---- the move of the worker of a table

  -- with what it then has in hand
  abbrev pub EndKept : (Option Hand → Fact) → Checked (Move Hand) → Type 0
  EndKept handed c = IfOk c (λ move. AtEnd (handed move.hand ∷ moved move) → KeptGoes (handed move.hand ∷ moved move))

  abbrev InHand : List ℕ → Checked (Move Hand) → Type 0
  InHand table c = EndKept (in_hand d table) c

  after-batch : (table : List ℕ) (c : Checked (Move BatchHand)) → BatchKept c → InHand table (handing of_batch c)
  after-batch table (Ok move) holds = λ _. suits-step (moved move) (in_hand d table (option_map of_batch move.hand)) tt holds
  after-batch table (Err refusal) holds = tt

  prints-only : (table : List ℕ) (hand : Option Hand) → AtEnd (in_hand d table hand ∷ past) → KeptGoes (in_hand d table hand ∷ past)
  prints-only table hand _ = suits-step past (in_hand d table hand) tt kept

  if-copied : (table : List ℕ) (t : LeafTable) (hand : Option Hand) (c : Checked (Move BatchHand)) → BatchKept c → InHand table (if_copied t hand c)
  if-copied table t hand c holds = of (is_some t.snapshot)
    where
      of : (b : Bool) → InHand table (if b then handing of_batch c else only_prints (AwaitsTable t.name) hand)
      of true = after-batch table c holds
      of false = prints-only table hand

  -- a piece of a copy, after other calls
  module _ (table name : List ℕ) (under : SnapshotView) (before own : List NodeCall) (plain : ArePlain before) (own_plain : ArePlain own) where
    kept-piece : (hand : CopyHand) (rows : Entries (List Val)) → InHand table (handing of_copy (Ok (behind_calls before own (copies_piece name under hand rows))))
    kept-piece hand rows = of (nat_lt (length rows) piece_size)
      where
        of : (b : Bool) → InHand table (handing of_copy (Ok (behind_calls before own (if b then record {
          provider = letting_go hand.hold ∷ [];
          replica = copying_rows name (rows_of rows) ∷ ending_copy name under hand.tick ∷ [];
          replies = RowsCopied (length rows) ∷ TableMoved name CatchingUp ∷ [];
          hand = None;
        } else record {
          provider = [];
          replica = copying_rows name (rows_of rows) ∷ [];
          replies = RowsCopied (length rows) ∷ [];
          hand = Some (record hand { last = last_key hand.last rows });
        }))))
        of false = λ _.
            suits-step _ (in_hand d table _) tt
            (kept-calls (after_calls past p (before ++ [])) d (own ++ copying_rows name (rows_of rows) ∷ []) (plain-append own (copying_rows name (rows_of rows) ∷ []) own_plain (refl, tt))
            (kept-calls past p (before ++ []) (plain-append before [] plain tt) kept))
        of true = λ at_end.
            let there : Past = after_calls past p (before ++ letting_go hand.hold ∷ []) in
            let copied_on : Past = after_calls there d (own ++ copying_rows name (rows_of rows) ∷ []) in
            let kept_on : KeptGoes copied_on =
            kept-calls there d (own ++ copying_rows name (rows_of rows) ∷ []) (plain-append own (copying_rows name (rows_of rows) ∷ []) own_plain (refl, tt))
            (kept-calls past p (before ++ letting_go hand.hold ∷ []) (plain-append before (letting_go hand.hold ∷ []) plain (refl, tt)) kept) in
            let same : after_calls there d (own ++ copying_rows name (rows_of rows) ∷ ending_copy name under hand.tick ∷ []) ≡ called copied_on d (ending_copy name under hand.tick) =
            after-last there d own (copying_rows name (rows_of rows)) (ending_copy name under hand.tick) in
            suits-step _ (in_hand d table None) tt
            (subst KeptGoes (sym same) (kept-ending copied_on d name under hand.tick table None kept_on (subst (λ q. AtEnd (in_hand d table None ∷ q)) same at_end)))

  kept-starts : (table name : List ℕ) → InHand table (handing of_copy (starts_copy provider replica name))
  kept-starts table name = of (is_full provider (copy_consumer replica.node)) (sub_ids_spent provider) (nat_le (2 ^ 62) (next_txid (history_in past d)))
    where
      of : (full subs spent : Bool) → InHand table (handing of_copy (refused_if full (TooMany Consumers) >> (refused_if subs IdsSpent >> ((refused_if spent TxidsSpent >> Ok (next_txid (history_in past d)))
          >>= (λ t. Ok (behind_calls (parting (copy_consumer replica.node) ∷ joining (copy_consumer replica.node) ∷ holding ∷ []) (beginning_copy name ∷ [])
          (next_piece provider name (snapshot_now provider.part) (first_hand provider))))))))
      of true subs spent = tt
      of false true spent = tt
      of false false true = tt
      of false false false =
          kept-piece table name (snapshot_now provider.part) (parting (copy_consumer replica.node) ∷ joining (copy_consumer replica.node) ∷ holding ∷ []) (beginning_copy name ∷ []) (refl, (refl, (refl, tt))) (refl, tt)
          (first_hand provider) (rows_from provider name (snapshot_now provider.part) (first_hand provider).last piece_size)

  kept-copying : (table name : List ℕ) (hand : Option CopyHand) (running : Option ℕ) → InHand table (handing of_copy (starts_or_continues provider replica name hand running))
  kept-copying table name hand None = kept-starts table name
  kept-copying table name hand (Some t) = of (under_way provider hand)
    where
      of : (o : Option (CopyHand × SnapshotView)) → InHand table (handing of_copy (continues provider name hand o))
      of None = prints-only table (option_map of_copy hand)
      of (Some x) = kept-piece table name x.1 [] [] tt tt x.0 (rows_from provider name x.1 x.0.last piece_size)

  pub kept-copy_move : (name : List ℕ) → InHand name (copy_move provider replica name (hands past d name))
  kept-copy_move name = of (table_at name replica.node) refl
    where
      hand : Option Hand
      hand = hands past d name

      as-leafs : (n : Option Node) (t : LeafTable) → table_at name n ≡ Some t → leaf_table name n ≡ Some t
      as-leafs None t is = absurd (cc is)
      as-leafs (Some (of_root r)) t is = absurd (cc is)
      as-leafs (Some (of_leaf l)) t is = is

      in-state : (t : LeafTable) → leaf_table name (node (history_in past d)) ≡ Some t → (state : TableState) → t.state ≡ state → InHand name (moves_in state provider replica t hand)
      in-state t there InCopy is = kept-copying name t.name (copy_in hand) (copy_running replica t.name)
      in-state t there CatchingUp is =
          if-copied name t hand (goes_through_or provider replica t (batch_in hand) (catches_up provider replica t))
          (kept-copys name t there (catches_up provider replica t) (ap has_own_tick is) (kept-catches name t there is))
      in-state t there (DoSync tick) is =
          if-copied name t hand (goes_through_or provider replica t (batch_in hand) (hands_over provider replica tick t))
          (kept-copys name t there (hands_over provider replica tick t) (ap has_own_tick is) (kept-hands name t there tick is))
      in-state t there Synced is = prints-only name hand
      in-state t there Absent is = prints-only name hand
      in-state t there (WannaSync bound) is = prints-only name hand

      of : (o : Option LeafTable) → table_at name replica.node ≡ o → InHand name (table_move provider replica name o hand)
      of None is = prints-only name hand
      of (Some t) is = in-state t (as-leafs replica.node t is) t.state refl

  -- ---- the move of the leaf's worker

  -- with what it then has in hand
  abbrev LeafKept : Checked (Move BatchHand) → Type 0
  LeafKept c = IfOk c (λ move. KeptGoes (batch_in_hand d move.hand ∷ moved move))

  -- nothing
  empties : (c : Checked (Move BatchHand)) → BatchKept c → IfOk c (λ move. move.hand ≡ None) → LeafKept c
  empties (Ok move) holds none = suits-step (moved move) (batch_in_hand d move.hand) (λ _ _ _ _ _ _. none) holds
  empties (Err refusal) holds none = tt

  -- or something, if no table is handed over then
  abbrev NoneHanded : Past → Type 0
  NoneHanded now = Goes now → (name : List ℕ) (t : LeafTable) (tick : ℕ) → leaf_table name (node (history_in now d)) ≡ Some t → t.state ≡ DoSync tick → ⊥

  fills : (c : Checked (Move BatchHand)) → BatchKept c → IfOk c (λ move. NoneHanded (moved move)) → LeafKept c
  fills (Ok move) holds none = suits-step (moved move) (batch_in_hand d move.hand) (λ g name t tick there state. absurd (none g name t tick there state)) holds
  fills (Err refusal) holds none = tt

  busy : (b : BatchHand) → batches past d ≡ Some b → (move : Move BatchHand) → NoneHanded (moved move)
  busy b is move g name t tick there state =
      let idle = (g.handed d name t tick there state).idle in
      cc (sym idle ∙ ap (λ f. f d) (batches-calls (after_calls past p move.provider) d move.replica ∙ batches-calls past p move.provider) ∙ is)

  all-busy : (b : BatchHand) → batches past d ≡ Some b → (c : Checked (Move BatchHand)) → IfOk c (λ move. NoneHanded (moved move))
  all-busy b is (Ok move) = busy b is move
  all-busy b is (Err refusal) = tt

  module _ (l : Leaf) (is : node (history_in past d) ≡ Some (of_leaf l)) where
    -- a table that is handed over is the first such, or there is none
    none-first : (which : TableState → Bool) → first_in which l ≡ None → (name : List ℕ) (t : LeafTable) → leaf_table name (node (history_in past d)) ≡ Some t → which t.state ≡ false
    none-first which none name t there = of l.tables none (sym (ap (leaf_table name) is) ∙ there)
      where
        of : (ts : List LeafTable) → option_map LeafTable.name (find (λ (x : LeafTable). which x.state) ts) ≡ None → find (λ (x : LeafTable). bytes_eq name x.name) ts ≡ Some t → which t.state ≡ false
        of [] first found = absurd (cc found)
        of (x ∷ ts) first found =
            by_test (λ b. which x.state ≡ b → option_map LeafTable.name (if b then Some x else find (λ (y : LeafTable). which y.state) ts) ≡ None → which t.state ≡ false) (which x.state) (λ _ _ some. absurd (cc some))
            (λ _ isnt rest.
            by_test (λ b. (if b then Some x else find (λ (y : LeafTable). bytes_eq name y.name) ts) ≡ Some t → which t.state ≡ false) (bytes_eq name x.name)
            (λ _ here. let same : x ≡ t = cc here in ap (λ (y : LeafTable). which y.state) (sym same) ∙ isnt) (λ _ there. of ts rest there) found) refl first

    replaying : HasCome (node (history_in past d)) of_synced l.tick
    replaying = (leaf, ap leafs_tick is)

    -- the next batch is taken only if no table is handed over
    takes-none : first_in is_handed_over l ≡ None → (c : Checked Outcome) → IfOk (c >>= (λ asked. takes (replayer l) (taken (after_marks provider asked.marks) asked.reply))) (λ move. NoneHanded (moved move))
    takes-none none (Err refusal) = tt
    takes-none none (Ok asked) = of (taken (after_marks provider asked.marks) asked.reply)
      where
        at-past : NoneHanded past
        at-past _ name t tick there state = cc (sym (none-first is_handed_over none name t there) ∙ ap is_handed_over state)

        of : (o : Option Batch) → IfOk (takes (replayer l) o) (λ move. NoneHanded (moved move))
        of None = at-past
        of (Some batch) = λ _ name t tick there state.
            at-past goes name t tick (sym (ap (λ h. leaf_table name (node h)) (histories-elsewhere past p (fetching l.name ∷ []) d provider-apart)) ∙ there) state

    kept-idle : batches past d ≡ None → LeafKept (empty_handed_move provider l)
    kept-idle idle = of (first_in is_handed_over l) refl (first_in (is_met l.tick) l) (next_to_copy l)
      where
        of : (handed : Option (List ℕ)) → first_in is_handed_over l ≡ handed → (met next : Option (List ℕ))
            → LeafKept (for_table handed (λ table. only_prints (AwaitsTable table) None) (for_table met (moves_to (DoSync l.tick)) (for_table next (moves_to InCopy) (takes_next provider (replayer l)))))
        of (Some table) e met next = empties (only_prints (AwaitsTable table) None) kept refl
        of None e (Some table) next =
            empties (moves_to (DoSync l.tick) table) (kept-moving past d table (DoSync l.tick) refl (λ _ _. record { leafs = ap leafs_tick is; idle = idle }) kept) refl
        of None e None (Some table) = empties (moves_to InCopy table) (kept-call past d (moving table InCopy) refl kept) refl
        of None e None None = fills (takes_next provider (replayer l)) (kept-takes (replayer l)) (takes-none e (node_does provider (fetching l.name)))

    pub kept-replay : LeafKept (replay_move provider replica l (batches past d))
    kept-replay = of (batches past d) refl
      where
        of : (o : Option BatchHand) → batches past d ≡ o → LeafKept (replay_move provider replica l o)
        of None e = kept-idle e
        of (Some b) e =
            fills (goes_through provider replica (replayer l) b)
            (kept-through (replayer l) b (batches past d) e (start.follow.leaves d p l is from) replaying
            (λ _ name t tick there state. let none = (goes.handed d name t tick there state).idle in cc (sym none ∙ e)))
            (all-busy b e (goes_through provider replica (replayer l) b))
