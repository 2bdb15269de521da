-- The step of a worker that has a batch in hand leads each table on for which the batch is.
use Rattle.std.proofs.Common.{arith, ◌≡◌, ℕ, ◌==◌, ◌^◌, nat_le, nat_lt, length, List, [], ◌∷◌, true, false, not, Option, Some, None, Ok, All, IfSome, is_some, option_map, refl, sym, ap, subst, ◌∙◌, if◌then◌else◌}
use Rattle.std.proofs.lemmas.Bool.{false_from_ne_true}
use Rattle.std.proofs.lemmas.Bool.Decides.{nat_tests}
use Rattle.sky_val.specs.declared.event.Event.{Event}
use Rattle.londiste_state.specs.declared.state.TableState.{TableState}
use Rattle.londiste_state.specs.declared.state.TableState.TheVariants.{CatchingUp, DoSync}
use Rattle.londiste_state.specs.Nodes.{of_leaf, Leaf, LeafTable, is_among, table_of, tables_of}
use Rattle.sky_model.specs.declared.reply.Reply.TheVariants.{BatchApplied, AwaitsTable}
use Rattle.sky_model.specs.declared.reply.Refusal.TheVariants.{NoNode, NotInSet, TxidsSpent}
use Rattle.sky_model.specs.Hands.{BatchHand, Hand, of_batch, batch_in}
use Rattle.sky_model.specs.History.{Fact, in_hand, batch_in_hand, History, Past}
use Rattle.sky_model.specs.Transactions.{next_txid}
use Rattle.sky_model.specs.Nodes.{node, is_leaf, leaf_tables}
use Rattle.sky_model.specs.State.{database_of}
use Rattle.sky_model.specs.Outcome.{Checked, ◌>>=◌, ◌>>◌, refused_if, found_or}
use Rattle.sky_model.specs.Settling.{marked}
use Rattle.sky_model.specs.StepApply.{picked, bad_event}
use Rattle.sky_model.specs.StepNode.{NodeCall, applying}
use Rattle.sky_model.specs.LawsOfApplying.{picked_of, IsApplied}
use Rattle.sky_model.specs.WorkerMoves.{Move, only_prints, handing}
use Rattle.sky_model.specs.BatchMoves.{Follower, events_of_batch, done, has_applied, applies_in_hand, skips_in_hand, finishes_in_hand, goes_through}
use Rattle.sky_model.specs.ReplayMoves.{replayer, replay_move}
use Rattle.sky_model.specs.CopyMoves.{copier, goes_through_or, catches_up, hands_over, if_copied, moves_in, table_move, table_at, copy_move}
use Rattle.sky_model.specs.NodesOfWorld.{WorldOutcome}
use Rattle.sky_model.specs.WorkersOfWorld.{move_facts, moves, source_alike, leaf_table as leafs_table, copy_step, londiste_step}
use Rattle.sky_model.specs.World.{World, world_of, history_in, hands, batches, on_top}
use Rattle.sky_model.specs.Calls.{Call, past_of}
use Rattle.sky_model.specs.Steps.{IsCallInForm}
use Rattle.sky_model.specs.HistoryPlaces.{IsPlace}
use Rattle.sky_histories.proofs.InCopyTables.{leaf_table}
use Rattle.sky_histories.proofs.NodeDeeds.{called-there}
use Rattle.sky_model.proofs.Cases.{by_test}
use Rattle.sky_laws_replicas.specs.LawsOfReplicas.{IsProvided as IsTableProvided}
use Rattle.sky_laws_replicas.proofs.CallPasts.{call_marks, called, on-move, history-called, history-elsewhere}
use Rattle.sky_laws_replicas.proofs.LeafTables.{leaf_tables_are_provided}
use Rattle.sky_laws_replicas.proofs.Sources.{alike-is}
use Rattle.sky_laws_synced.specs.Tables.{has_own_tick}
use Rattle.sky_laws_synced.specs.LawsOfFollowing.{IsActive}
use Rattle.sky_laws_synced.specs.LawsOfChanges.{is_picked, IsLedOn, AppliesBatch, IsInWork, LeavesBatchesLeadOn, takes_batches, CopiesBatchesLeadOn}
use Rattle.sky_laws_synced.proofs.ChangedTables.{leafs_tick, table-named}
use Rattle.sky_laws_synced.proofs.RestingTables.{among-found}
use Rattle.sky_laws_synced.proofs.Showing.{applied-at, AllFit}
use Rattle.sky_laws_synced.proofs.Going.{Goes}
use Rattle.sky_laws_synced.proofs.NextBatch.{HasCome, copied-along, all-fit, may-apply}
use Rattle.sky_laws_synced.proofs.FollowingAt.{FollowsIn, InWork, in-work, not-bad}
use Rattle.sky_laws_synced.proofs.LedTables.{led-on}
use Rattle.sky_laws_synced.proofs.GoingCalls.{between-past, places-past}
use Rattle.sky_laws_synced.proofs.LeafProviders.{IsProvided, is-provided, step-is}
use Rattle.sky_laws_synced.proofs.SyncedLaws.{leaf-follows, copy-follows, goes-past}

-- ---- the batch that a worker has in hand

module _ (calls : List Call) (in_form : All IsCallInForm calls) (d : ℕ) (leaf : Leaf) (is : node (history_in (past_of calls) d) ≡ Some (of_leaf leaf)) (x : IsProvided (past_of calls) d leaf)
    (f : Follower) (b : BatchHand) (hand : Option BatchHand) (work : IsInWork (world_of (past_of calls)) d f b hand) (follows : FollowsIn (past_of calls) x.provider.database f hand)
    (has : HasCome (node (history_in (past_of calls) d)) f.pick f.tick) where
  abbrev past : Past
  past = past_of calls

  abbrev w : World
  w = world_of past

  abbrev p : ℕ
  p = x.provider.database

  abbrev h : History
  h = history_in past d

  abbrev k : History
  k = history_in past p

  -- its events, and the call that applies them
  abbrev own : List Event
  own = events_of_batch (database_of k) b.id

  abbrev call : NodeCall
  call = applying own f.pick b.cur

  abbrev many : ℕ
  many = length (picked (node h) f.pick own)

  g : Goes past
  g = goes-past calls in_form

  place : IsPlace k
  place = places-past calls in_form p

  i : InWork past p f b
  i = in-work past p f b hand work.in_hand follows place work.behind

  come_is : HasCome (node h) f.pick i.batch.prev
  come_is = subst (HasCome (node h) f.pick) i.opens has

  unspent : nat_le (2 ^ 62) (next_txid h) ≡ false
  unspent = let free = work.unspent in grind (arith, nat_tests, free)

  fit : AllFit h own f.pick
  fit = subst (λ es. AllFit h es f.pick) (sym i.events_are) (all-fit past d p i.batch f.pick g x.from place i.next come_is)

  abbrev after : History
  after = marked h (call_marks h call)

  applied_is : IsApplied h after own f.pick b.cur
  applied_is = applied-at h (between-past calls d) own f.pick b.cur (may-apply past d p i.batch f.pick g x.from place i.next come_is) fit unspent

  -- ---- the tables

  led-here : (name : List ℕ) (t : LeafTable) → table_of name leaf ≡ Some t → is_picked f.pick name (node h) ≡ true → IsLedOn h after k leaf t (picked_of h f.pick name own) b.cur
  led-here name t there sure =
      subst (λ (y : List Event × ℕ). IsLedOn h after k leaf t (picked_of h f.pick name y.0) y.1) (λ j. (sym i.events_are j, i.closes j))
      (led-on past d p i.batch f.pick g x.from place i.next come_is leaf is after (subst (λ (y : List Event × ℕ). IsApplied h after y.0 f.pick y.1) (λ j. (i.events_are j, sym i.closes j)) applied_is) name t there sure)

  -- ---- the move

  active : IsActive (database_of k) follows.follows.queue follows.follows.sub f b
  active = subst (λ o. IfSome o (IsActive (database_of k) follows.follows.queue follows.follows.sub f)) work.in_hand follows.follows.in_hand

  undone : b.is_done ≡ false
  undone = false_from_ne_true b.is_done (λ so. let same = active.done so in let less = work.behind in omega (arith, same, less))

  less : nat_lt f.tick b.cur ≡ true
  less = let behind = work.behind in grind (arith, nat_tests, behind)

  through : goes_through (database_of k) (database_of h) f b ≡ Ok (has_applied call b many None)
  through =
      ap (λ c. if c then finishes_in_hand b else (if nat_lt f.tick b.cur then applies_in_hand (database_of k) (database_of h) f b else skips_in_hand b)) undone
      ∙ ap (λ c. if c then applies_in_hand (database_of k) (database_of h) f b else skips_in_hand b) less
      ∙ ap (λ c. (refused_if c TxidsSpent >> Ok (next_txid h)) >>= (λ t. Ok (has_applied call b many (bad_event (database_of h) f.pick own)))) unspent
      ∙ ap (λ o. Ok (has_applied call b many o)) (not-bad past d p f b g x.from place (between-past calls d) i has)

  -- with what the worker then has in hand, which is a fact that changes no history
  module _ {H : Type 0} (handed : Option H → Fact) (bare : (o : Option H) (q : Past) (e : ℕ) → history_in (handed o ∷ q) e ≡ history_in q e) (o : Option H) (step : Checked WorldOutcome) where
    abbrev move : Move H
    move = record { provider = []; replica = call ∷ []; replies = BatchApplied b.cur many ∷ []; hand = o }

    abbrev facts : List Fact
    facts = move_facts w p d handed move

    there : (e : ℕ) → history_in (on_top past facts) e ≡ history_in (called past d call) e
    there e = ap (λ q. history_in q e) (on-move past p d handed move) ∙ bare o (called past d call) e

    own_there : history_in (on_top past facts) d ≡ after
    own_there = there d ∙ history-called past d call

    pub applies : step ≡ Ok (record { replies = move.replies; facts = facts }) → AppliesBatch past d leaf f b step
    applies stepped = record {
      provider = x.provider;
      events = own;
      of_batch = refl;
      outcome = record { replies = move.replies; facts = facts };
      done = stepped;
      says = refl;
      puts = subst (λ y. IsApplied h y own f.pick b.cur) (sym own_there) applied_is;
      led = λ name t has_it sure. subst (λ y. IsLedOn h y k leaf t (picked_of h f.pick name own) b.cur) (sym own_there) (led-here name t has_it sure);
      others = λ e other. there e ∙ history-elsewhere past d call e (by_test (λ c. (d == e) ≡ c → c ≡ false) (d == e) (λ _ same. absurd (other (let back = same in grind (arith, nat_tests, back)))) (λ _ _. refl) refl);
    }

-- ---- the leaf's own worker

pub leaves_batches_lead_on : LeavesBatchesLeadOn
leaves_batches_lead_on calls in_form name n leaf b called_it is work =
    applies calls in_form d leaf stands x (replayer leaf) b (batches past d) work (leaf-follows calls in_form d x.provider.database leaf stands x.from) (ap is_leaf stands, ap leafs_tick stands)
    (batch_in_hand d) (λ o q e. refl) (done b) (londiste_step w name)
    (step-is past name n leaf called_it is x.provider
    ∙ ap (λ o. moves w x.provider.database d (batch_in_hand d) (replay_move (w.database x.provider.database) (w.database d) leaf o)) work.in_hand
    ∙ ap (moves w x.provider.database d (batch_in_hand d))
    (through calls in_form d leaf stands x (replayer leaf) b (batches past d) work (leaf-follows calls in_form d x.provider.database leaf stands x.from) (ap is_leaf stands, ap leafs_tick stands)))
  where
    past : Past
    past = past_of calls

    w : World
    w = world_of past

    d : ℕ
    d = n.database

    stands : node (history_in past d) ≡ Some (of_leaf leaf)
    stands = called-there w name n called_it ∙ ap Some is

    x : IsProvided past d leaf
    x = is-provided calls in_form d leaf stands

-- ---- the worker of a copy

takes-copied : (state : TableState) → takes_batches state ≡ true → has_own_tick state ≡ true
takes-copied CatchingUp e = refl
takes-copied (DoSync tick) e = refl
takes-copied state e = absurd (cc e)

pub copies_batches_lead_on : CopiesBatchesLeadOn
copies_batches_lead_on calls in_form name table n leaf t b called_it is there takes work =
    applies calls in_form d leaf stands x f b (batch_in (hands past d table)) work follows has (in_hand d table) (λ o q e. refl) (option_map of_batch (done b)) (copy_step w name table)
    (found ∙ ap (λ (c : Checked (Move Hand)). moves w p d (in_hand d table) c) moves_on)
  where
    past : Past
    past = past_of calls

    w : World
    w = world_of past

    d : ℕ
    d = n.database

    stands : node (history_in past d) ≡ Some (of_leaf leaf)
    stands = called-there w name n called_it ∙ ap Some is

    x : IsProvided past d leaf
    x = is-provided calls in_form d leaf stands

    p : ℕ
    p = x.provider.database

    f : Follower
    f = copier (node (history_in past d)) t

    copied : has_own_tick t.state ≡ true
    copied = takes-copied t.state takes

    in_table : leaf_table table (node (history_in past d)) ≡ Some t
    in_table = ap (leaf_table table) stands ∙ there

    follows : FollowsIn past p f (batch_in (hands past d table))
    follows = copy-follows calls in_form d p table t in_table copied x.from

    has : HasCome (node (history_in past d)) f.pick f.tick
    has = (t, ap (λ m. leaf_table m (node (history_in past d))) (table-named table (node (history_in past d)) t in_table) ∙ in_table, copied, refl)

    -- the statement finds the leaf, and its provider
    among : is_among table (tables_of (of_leaf leaf)) ≡ true
    among = sym (ap (λ m. is_among table (leaf_tables m)) stands) ∙ among-found table (node (history_in past d)) t in_table

    alike : IsTableProvided w d leaf table
    alike = leaf_tables_are_provided calls in_form name n leaf table called_it is (ap (λ m. is_among table (tables_of m)) is ∙ among)

    same_p : alike.provider ≡ p
    same_p = let both : Some alike.provider ≡ Some p = sym (alike-is past d alike.provider leaf table stands alike.alike).source.from ∙ x.from in cc both

    found : copy_step w name table ≡ moves w p d (in_hand d table) (copy_move (w.database p) (w.database d) table (w.hands d table))
    found =
        ap (λ o. found_or o (NoNode name) >>= (λ m. leafs_table name table m.node >>= (λ l. source_alike w m.database l table >>= (λ q.
        moves w q m.database (in_hand m.database table) (copy_move (w.database q) (w.database m.database) table (w.hands m.database table)))))) called_it
        ∙ ap (λ m. leafs_table name table m >>= (λ l. source_alike w d l table >>= (λ q. moves w q d (in_hand d table) (copy_move (w.database q) (w.database d) table (w.hands d table))))) is
        ∙ ap (λ c. (refused_if (not c) (NotInSet table) >> Ok leaf) >>= (λ l. source_alike w d l table >>= (λ q. moves w q d (in_hand d table) (copy_move (w.database q) (w.database d) table (w.hands d table))))) among
        ∙ ap (λ c. c >>= (λ q. moves w q d (in_hand d table) (copy_move (w.database q) (w.database d) table (w.hands d table)))) alike.alike
        ∙ ap (λ q. moves w q d (in_hand d table) (copy_move (w.database q) (w.database d) table (w.hands d table))) same_p

    -- its move goes through the batch
    under : is_some t.snapshot ≡ true
    under = ap is_some ((goes-past calls in_form).shown d table t in_table (copied-along t.state copied)).shows.under

    goes : handing of_batch (goes_through (w.database p) (w.database d) f b) ≡ Ok (record { provider = []; replica = applying (events_of_batch (w.database p) b.id) f.pick b.cur ∷ []; replies = BatchApplied b.cur (length (picked (node (history_in past d)) f.pick (events_of_batch (w.database p) b.id))) ∷ []; hand = option_map of_batch (done b) })
    goes = ap (handing of_batch) (through calls in_form d leaf stands x f b (batch_in (hands past d table)) work follows has)

    copied-move : (other : Checked (Move BatchHand)) → if_copied t (w.hands d table) (goes_through_or (w.database p) (w.database d) t (batch_in (w.hands d table)) other) ≡ handing of_batch (goes_through (w.database p) (w.database d) f b)
    copied-move other =
        ap (λ c. if c then handing of_batch (goes_through_or (w.database p) (w.database d) t (batch_in (w.hands d table)) other) else only_prints (AwaitsTable t.name) (w.hands d table)) under
        ∙ ap (λ o. handing of_batch (goes_through_or (w.database p) (w.database d) t o other)) work.in_hand

    by-state : (state : TableState) → takes_batches state ≡ true → moves_in state (w.database p) (w.database d) t (w.hands d table) ≡ handing of_batch (goes_through (w.database p) (w.database d) f b)
    by-state CatchingUp e = copied-move (catches_up (w.database p) (w.database d) t)
    by-state (DoSync tick) e = copied-move (hands_over (w.database p) (w.database d) tick t)
    by-state state e = absurd (cc e)

    moves_on : copy_move (w.database p) (w.database d) table (w.hands d table) ≡ Ok (record { provider = []; replica = applying (events_of_batch (w.database p) b.id) f.pick b.cur ∷ []; replies = BatchApplied b.cur (length (picked (node (history_in past d)) f.pick (events_of_batch (w.database p) b.id))) ∷ []; hand = option_map of_batch (done b) })
    moves_on =
        ap (λ o. table_move (w.database p) (w.database d) table o (w.hands d table)) (ap (table_at table) stands ∙ there) ∙ by-state t.state takes ∙ goes
