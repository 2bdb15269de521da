-- What holds of all copies in hand, and of all tables that have been copied, is kept by each call of the world.
use Rattle.std.proofs.Common.{◌≡◌, ℕ, List, [], ◌∷◌, ◌++◌, map, Bool, true, false, not, ◌||◌, Option, Some, None, Ok, Err, IfOk, is_some, option_map, refl, sym, ap, subst, ◌∙◌, if◌then◌else◌}
use Rattle.std.proofs.lemmas.Bool.{not-false}
use Rattle.sky_names.specs.Places.{place_of}
use Rattle.londiste_state.specs.declared.state.TableState.{TableState}
use Rattle.londiste_state.specs.declared.state.TableState.TheVariants.{InCopy, CatchingUp, DoSync, Synced}
use Rattle.londiste_state.specs.Nodes.{Node, of_root, of_leaf, Leaf, LeafTable, is_among, table_of, tables_of}
use Rattle.sky_model.specs.declared.stmt.NodeStmt.{NodeStmt}
use Rattle.sky_model.specs.declared.stmt.NodeStmt.TheVariants.{CreateRoot, CreateLeaf, AddTable, RemoveTable, TableState as ShowState, CopyStep, Restart, RestartTable, LondisteStep}
use Rattle.sky_model.specs.declared.reply.Reply.{Reply}
use Rattle.sky_model.specs.declared.reply.Reply.TheVariants.{Done, AwaitsTable}
use Rattle.sky_model.specs.declared.reply.Refusal.TheVariants.{AlreadyInSet, NodeExists, NoNode, NoTable, NotInSet, NotProvider, SchemaDiffers, TableInUse}
use Rattle.sky_model.specs.History.{Mark, of_copy, ended, tabled, read_only, noded, leaf_made, leaf_removed, copied, History, Fact, within, node_made, in_hand, batch_in_hand, Past, began, wrote}
use Rattle.sky_model.specs.Hands.{CopyHand, BatchHand, of_copy, of_batch, copy_in, batch_in}
use Rattle.sky_model.specs.Transactions.{snapshot}
use Rattle.sky_model.specs.Copies.{copies, copy_txid}
use Rattle.sky_model.specs.Rows.{table_names, writes as writes_of, put_all, rows}
use Rattle.sky_model.specs.Nodes.{node, leaf_tables}
use Rattle.sky_model.specs.State.{Database, database_of}
use Rattle.sky_model.specs.Outcome.{Outcome, Checked, ◌>>◌, refused_if}
use Rattle.sky_model.specs.Settling.{marked}
use Rattle.sky_model.specs.StepQueue.{newest_id}
use Rattle.sky_model.specs.StepCopy.{given_up}
use Rattle.sky_model.specs.StepNode.{NodeCall, joining, parting, removing, letting_go, giving_up_copy, if_there, set_queue, joins, lists, adds, unlists, is_in_copy, may_copy, node_does}
use Rattle.sky_model.specs.WorkerMoves.{Move, only_prints, handing}
use Rattle.sky_model.specs.CopyMoves.{newest_of, copy_move, copy_consumer, lets_go_for, copy_running, starts_or_continues, moves_in, table_move, table_at, goes_through_or, if_copied, catches_up, hands_over}
use Rattle.sky_model.specs.ReplayMoves.{is_on_way, replay_move}
use Rattle.sky_model.specs.NodesOfWorld.{WorldOutcome, node_called, done_in, leaf_of, create_leaf, provides, are_columns, columns_called, adds_to, first_user, shows_state, Located}
use Rattle.sky_model.specs.WorkersOfWorld.{move_facts, moves, source, source_alike, leaf_table, restarts, restarting, provider_of as providers_database, leaf_steps, parts_for, leaves_leaf, removes_from, node_form}
use Rattle.sky_model.specs.World.{World, world_of, history_in, hands, on_top, nodes}
use Rattle.sky_model.specs.Calls.{Call, past_of}
use Rattle.sky_model.specs.DatabaseCalls.{DatabaseCall}
use Rattle.sky_model.specs.LawsOfCopies.{HasCopied}
use Rattle.sky_histories.proofs.Histories.{AllLegal, world_place, legal_past}
use Rattle.sky_histories.proofs.NodeDeeds.{called-there}
use Rattle.sky_histories.proofs.Good.{same-session}
use Rattle.sky_histories.proofs.CopyLaws.{copies_leave_their_rows}
use Rattle.sky_histories.proofs.StatementMarks.{EachMark, each-rest, each-given, when-true, Gives, AnyReply, after, each-map}
use Rattle.sky_model.proofs.Cases.{by_test, ok-then}
use Rattle.sky_laws_replicas.specs.LawsOfReplicas.{CopyBegan, copy_in_hand, CopiedTablesHaveProvidersRows}
use Rattle.sky_laws_replicas.proofs.HandsAt.{hands-marks}
use Rattle.sky_laws_replicas.proofs.StaysInCopy.{table-named, may-as}
use Rattle.std.specs.Option.{option_and_then}
use Rattle.sky_laws_replicas.proofs.NodeNames.{provider_of, database_among, names_in, source_of, called-database}
use Rattle.sky_laws_replicas.proofs.RunningCopies.{Uncopied}
use Rattle.sky_laws_replicas.proofs.SessionsMarks.{is_sessions, is_served, sessions-does}
use Rattle.sky_laws_replicas.proofs.EachCall.{is_beside, marks_in, after-calls}
use Rattle.sky_laws_replicas.proofs.UnlessRefused.{if-test, if-refused, if-found, root_marks, if-root}
use Rattle.sky_laws_replicas.proofs.Keeping.{CopiedFrom, Copying, Keeps, Kept, keeps_copies, FactFits, FactsFit, fits-step, fits-steps}
use Rattle.sky_laws_replicas.proofs.Others.{each_table, other_than, legal-under, by-before, fewer, idle-hand, own-free, own-marks, quiet-marks, puts-down}
use Rattle.sky_laws_replicas.proofs.CallPasts.{call_marks, called, after_calls, on-move, history-called, history-elsewhere, histories-elsewhere, quiet-call, lets-go, own-call, removing-marks}
use Rattle.sky_laws_replicas.proofs.Sources.{IsSource, source-is, IsAlike, alike-is}
use Rattle.sky_laws_replicas.proofs.CopySteps.{copy_handed, MoveKept, move-kept, uncopied-removed, nothing-given_up, uncopied-given_up}
use Rattle.sky_laws_replicas.proofs.KeptMoves.{copy-kept}
use Rattle.sky_laws_replicas.proofs.HoldsInHand.{AllHeld, held-steps, AreOther, MoveHeld, move-held, down-held, copy-held}
use Rattle.sky_laws_replicas.proofs.QuietMoves.{CopiesOnlyInCopy, quiet-batches}
use Rattle.sky_laws_replicas.proofs.WorkersCalls.{is_of_batches, AllCalls, Makes, BatchesIfOk, batches-catches_up, batches-hands_over, batches-replay}

-- ---- what is kept

-- that, and each hold is that of what a worker has in hand
abbrev pub AllKept : Past → Type 0
AllKept past = Kept each_table past × AllHeld past

all-step : (past : Past) (fact : Fact) → FactFits past fact → AllKept past → AllKept (fact ∷ past)
all-step past fact fit kept = (fits-step each_table past fact fit kept.0, held-steps past (fact ∷ []) (fit, tt) kept.1)

all-steps : (past : Past) (facts : List Fact) → FactsFit past facts → AllKept past → AllKept (on_top past facts)
all-steps past facts fit kept = (fits-steps each_table past facts fit kept.0, held-steps past facts fit kept.1)

-- so it may be proved by what holds before some facts
all-before : (past : Past) (facts : List Fact) → (AllLegal past → Keeps each_table past → AllKept (on_top past facts)) → AllKept past → AllKept (on_top past facts)
all-before past facts so kept = (
  λ after. let legal : AllLegal past = legal-under past facts after in (so legal (kept.0 legal)).0 after,
  λ after. let legal : AllLegal past = legal-under past facts after in (so legal (kept.0 legal)).1 after,
)

-- ---- facts that fit

sessions-quiet : (mark : Mark) → is_sessions mark ≡ true → keeps_copies mark ≡ true
sessions-quiet (began (of_copy n) t) e = absurd (cc)
sessions-quiet (ended (of_copy n) t c) e = absurd (cc)
sessions-quiet (tabled (wrote (of_copy n) t table key old new)) e = absurd (cc)
sessions-quiet (noded mark) e = absurd (cc)
sessions-quiet _ e = refl

fit-aside : (past : Past) (fact : Fact) → is_beside fact ≡ true → FactFits past fact
fit-aside past (within d mark) e = absurd (cc)
fit-aside past (node_made d) e = absurd (cc)
fit-aside past (in_hand d table hand) e = absurd (cc)
fit-aside past _ e = tt

fit-marks : (past : Past) (e : ℕ) (marks : List Mark) → EachMark keeps_copies marks → FactsFit past (map (within e) marks)
fit-marks past e [] each = tt
fit-marks past e (mark ∷ marks) each = (when-true (EachMark keeps_copies marks) (keeps_copies mark) each, fit-marks (within e mark ∷ past) e marks (each-rest keeps_copies mark marks each))

fit-append : (past : Past) (xs ys : List Fact) → FactsFit past xs → FactsFit (on_top past xs) ys → FactsFit past (xs ++ ys)
fit-append past [] ys fit also = also
fit-append past (x ∷ xs) ys fit also = (fit.0, fit-append (x ∷ past) xs ys fit.1 also)

-- ---- moves that leave such facts

-- a table that isn't being copied has no copy in hand, and none of it runs
no-copy : (past : Past) (d : ℕ) (name : List ℕ) → Keeps each_table past → may_copy name (node (history_in past d)) ≡ false → copy_in_hand past d name ≡ None
no-copy past d name k isnt = of (copy_in_hand past d name) refl
  where
    of : (o : Option CopyHand) → copy_in_hand past d name ≡ o → o ≡ None
    of None is = refl
    of (Some hand) is = absurd (cc (sym isnt ∙ (k.copying d name hand refl is).here.may))

only-in-copy : (past : Past) (d : ℕ) → Keeps each_table past → CopiesOnlyInCopy (history_in past d)
only-in-copy past d k name isnt = idle-hand past d name k (no-copy past d name k isnt)

quiet-called : (past : Past) (e : ℕ) (call : NodeCall) → is_of_batches call ≡ true → AllKept past → AllKept (called past e call)
quiet-called past e call quiet kept =
    let h : History = history_in past e in
    let marks : List Mark = call_marks h call in
    all-before past (map (within e) marks)
    (λ _ k. all-steps past (map (within e) marks) (fit-marks past e marks (each-given AnyReply keeps_copies (node_does (database_of h) call) (quiet-batches call quiet h (only-in-copy past e k)))) kept) kept

quiet-calls : (past : Past) (e : ℕ) (calls : List NodeCall) → AllCalls is_of_batches calls → AllKept past → AllKept (after_calls past e calls)
quiet-calls past e [] quiet kept = kept
quiet-calls past e (call ∷ calls) quiet kept = quiet-calls (called past e call) e calls quiet.1 (quiet-called past e call quiet.0 kept)

pub hands-calls : (past : Past) (e : ℕ) (calls : List NodeCall) → hands (after_calls past e calls) ≡ hands past
hands-calls past e [] = refl
hands-calls past e (call ∷ calls) = hands-calls (called past e call) e calls ∙ hands-marks past e (call_marks (history_in past e) call)

quiet-move : {H : Type 0} (past : Past) (p d : ℕ) (handed : Option H → Fact) (move : Move H) → Makes is_of_batches move
    → FactFits (after_calls (after_calls past p move.provider) d move.replica) (handed move.hand) → AllKept past → AllKept (on_top past (move_facts (world_of past) p d handed move))
quiet-move past p d handed move quiet fits kept =
    subst AllKept (sym (on-move past p d handed move))
    (all-step (after_calls (after_calls past p move.provider) d move.replica) (handed move.hand) fits
    (quiet-calls (after_calls past p move.provider) d move.replica quiet.replica (quiet-calls past p move.provider quiet.provider kept)))

no-copy-in : (o : Option BatchHand) → copy_in (option_map of_batch o) ≡ None
no-copy-in None = refl
no-copy-in (Some batch) = refl

-- ---- statements on nodes

after-append : (past : Past) (d : ℕ) (xs ys : List NodeCall) → after_calls past d (xs ++ ys) ≡ after_calls (after_calls past d xs) d ys
after-append past d [] ys = refl
after-append past d (x ∷ xs) ys = after-append (called past d x) d xs ys

-- a leaf's table
pub leaf-is : (name table : List ℕ) (n : Node) (l : Leaf) → leaf_table name table n ≡ Ok l → n ≡ of_leaf l
leaf-is name table (of_root r) l is = absurd (cc is)
leaf-is name table (of_leaf m) l is =
    by_test (λ b. (refused_if b (NotInSet table) >> Ok m) ≡ Ok l → of_leaf m ≡ of_leaf l) (not (is_among table (tables_of (of_leaf m)))) (λ _ e. absurd (cc e)) (λ _ e. let same : m ≡ l = cc e in ap of_leaf same) is

module _ (past : Past) (kept : AllKept past) where
  abbrev w : World
  w = world_of past

  abbrev KeptIfOk : Checked WorldOutcome → Type 0
  KeptIfOk c = IfOk c (λ o. AllKept (on_top past o.facts))

  kept-done : (d : ℕ) (reply : Reply) (c : Checked Outcome) → Gives AnyReply keeps_copies c → KeptIfOk (done_in d reply c)
  kept-done d reply (Ok o) given = all-steps past (map (within d) o.marks) (fit-marks past d o.marks given.1) kept
  kept-done d reply (Err refusal) given = tt

  kept-leaf : (d p : ℕ) (name provider : List ℕ) (tick : ℕ) (c : Checked Outcome) → Gives AnyReply keeps_copies c → KeptIfOk (leaf_of d p name provider tick c)
  kept-leaf d p name provider tick (Err refusal) given = tt
  kept-leaf d p name provider tick (Ok o) given =
      let q : Past = on_top past (map (within p) o.marks) in
      all-steps past (map (within p) o.marks ++ within d (noded (leaf_made name provider tick)) ∷ node_made d ∷ [])
      (fit-append past (map (within p) o.marks) (within d (noded (leaf_made name provider tick)) ∷ node_made d ∷ []) (fit-marks past p o.marks given.1)
      (refl, (ap (λ b. is_some (node (if b then noded (leaf_made name provider tick) ∷ history_in q d else history_in q d))) (same-session d), tt))) kept

  kept-create_leaf : (d : ℕ) (name provider : List ℕ) → KeptIfOk (create_leaf w d name provider)
  kept-create_leaf d name provider =
      if-test _ (is_some (node_called w name) || is_some (w.database d).node) (NodeExists name) _ (λ _.
      if-found _ (node_called w provider) (NoNode provider) _ (λ p _.
      if-found _ (set_queue (w.database p.database)) (NotProvider provider) _ (λ queue is.
      kept-leaf d p.database name provider (newest_id ((w.database p.database).queue queue)) (joins (w.database p.database) queue name)
      (subst (λ o. Gives AnyReply keeps_copies (if_there o (λ q. joins (w.database p.database) q name))) is (quiet-call (w.database p.database) (joining name) refl)))))

  quiet-lists : (d : Database) (queue table : ℕ) (name : List ℕ) → Gives AnyReply keeps_copies (lists d queue table name)
  quiet-lists d queue table name = search (after)

  quiet-adds : (d : Database) (table : ℕ) (name : List ℕ) → Gives AnyReply keeps_copies (adds d table name)
  quiet-adds d table name = search (after)

  kept-adds : (d table : ℕ) (name : List ℕ) (n : Node) → KeptIfOk (adds_to w d table name n)
  kept-adds d table name (of_root r) =
      if-found _ (set_queue (w.database d)) (NotProvider r.name) _ (λ queue _. kept-done d Done (lists (w.database d) queue table name) (quiet-lists (w.database d) queue table name))
  kept-adds d table name (of_leaf l) =
      if-found _ (provides name (node_called w l.provider)) (NotInSet name) _ (λ p _.
      if-test _ (not (are_columns ((w.database d).part.columns table) (columns_called name (w.database p)))) (SchemaDiffers name) _ (λ _.
      kept-done d Done (adds (w.database d) table name) (quiet-adds (w.database d) table name)))

  -- the worker's hold is let go
  kept-lets : (d p : ℕ) (name : List ℕ) (hand : Option CopyHand) → AllLegal past → Keeps each_table past → copy_in_hand past d name ≡ hand → IsSource past d p → Kept (other_than d name) (after_calls past p (lets_go_for hand))
  kept-lets d p name None legal k has s = fewer d name past k
  kept-lets d p name (Some hand) legal k has s = lets-go p d name hand.hold past (λ l. (fewer d name past k l, own-free past p d name hand k has s.from))

  kept-parts : (q : Past) (d p : ℕ) (name : List ℕ) (n : Option Node) (o : Option TableState) → Kept (other_than d name) q → Kept (other_than d name) (after_calls q p (parts_for n o))
  kept-parts q d p name n None holds = holds
  kept-parts q d p name n (Some state) holds =
      by_test (λ b. Kept (other_than d name) (after_calls q p (if b then parting (copy_consumer n) ∷ [] else []))) (is_on_way state)
      (λ _. quiet-marks q p d name (call_marks (history_in q p) (parting (copy_consumer n)))
      (each-given AnyReply keeps_copies (node_does (database_of (history_in q p)) (parting (copy_consumer n))) (quiet-call (database_of (history_in q p)) (parting (copy_consumer n)) refl)) holds) (λ _. holds)

  kept-remove : (d p table : ℕ) (name : List ℕ) (l : Leaf) → node (history_in past d) ≡ Some (of_leaf l) → is_among name (tables_of (of_leaf l)) ≡ true
      → place_of name (table_names (history_in past d)) ≡ Some table → IsSource past d p → MoveKept past p d (in_hand d name) (leaves_leaf l name (hands past d name))
  kept-remove d p table name l leaf among named s = by-before past (move_facts w p d (in_hand d name) (leaves_leaf l name (hands past d name))) so kept.0
    where
      lets : List NodeCall
      lets = lets_go_for (copy_in_hand past d name)

      parts : List NodeCall
      parts = parts_for (Some (of_leaf l)) (option_map LeafTable.state (table_of name l))

      h : History
      h = history_in past d

      q : Past
      q = after_calls past p (lets ++ parts)

      same : history_in q d ≡ h
      same = histories-elsewhere past p (lets ++ parts) d s.other

      now-is : history_in (called q d (removing name)) d ≡ marked h (given_up table name (copy_txid table (copies h)) ++ noded (leaf_removed name) ∷ tabled (read_only table false) ∷ [])
      now-is =
          history-called q d (removing name) ∙ ap (λ g. marked g (call_marks g (removing name))) same
          ∙ ap (marked h) (removing-marks h name table (ap (λ n. is_among name (leaf_tables n)) leaf ∙ among) named)

      so : AllLegal past → Keeps each_table past → MoveKept past p d (in_hand d name) (leaves_leaf l name (hands past d name))
      so legal k =
          let there : place_of name (table_names (history_in q d)) ≡ Some table = ap (λ g. place_of name (table_names g)) same ∙ named in
          move-kept past p d (in_hand d name) (leaves_leaf l name (hands past d name))
          (puts-down d name (called q d (removing name))
          (λ _. subst (λ g. Uncopied g name) (sym now-is) (uncopied-removed h (legal d) name table named (copy_txid table (copies h)) refl))
          (own-marks q d name table (call_marks (history_in q d) (removing name)) there (own-call (history_in q d) name table (removing name) there refl)
          (subst (Kept (other_than d name)) (sym (after-append past p lets parts))
          (kept-parts (after_calls past p lets) d p name (Some (of_leaf l)) (option_map LeafTable.state (table_of name l)) (kept-lets d p name (copy_in_hand past d name) legal k refl s)))))

  -- a copy that is given up
  kept-gives-up : (d p : ℕ) (name : List ℕ) (hand : Option CopyHand) → copy_in_hand past d name ≡ hand → IsSource past d p → AllLegal past → Keeps each_table past
      → Kept each_table (in_hand d name None ∷ called (after_calls past p (lets_go_for hand)) d (giving_up_copy name))
  kept-gives-up d p name None has s legal k =
      subst (λ q. Kept each_table (in_hand d name None ∷ q)) (sym (nothing-given_up past d name (idle-hand past d name k has))) (fits-step each_table past (in_hand d name None) has kept.0)
  kept-gives-up d p name (Some hand) has s legal k =
      let c : Copying past d name hand = k.copying d name hand refl has in
      let q : Past = called past p (letting_go hand.hold) in
      let there : place_of name (table_names (history_in q d)) ≡ Some c.table = ap (λ g. place_of name (table_names g)) (history-elsewhere past p (letting_go hand.hold) d s.other) ∙ c.here.named in
      puts-down d name (called q d (giving_up_copy name)) (λ _. uncopied-given_up past d p name (Some hand) has (legal d) s.other k)
      (own-marks q d name c.table (call_marks (history_in q d) (giving_up_copy name)) there (own-call (history_in q d) name c.table (giving_up_copy name) there refl)
      (kept-lets d p name (Some hand) legal k has s))

  kept-restart : (d p : ℕ) (name : List ℕ) → IsSource past d p → MoveKept past p d (in_hand d name) (restarting name (hands past d name))
  kept-restart d p name s =
      by-before past (move_facts w p d (in_hand d name) (restarting name (hands past d name)))
      (λ legal k. move-kept past p d (in_hand d name) (restarting name (hands past d name)) (kept-gives-up d p name (copy_in_hand past d name) refl s legal k)) kept.0

  -- the worker's hold ends
  parts-other : (n : Option Node) (o : Option TableState) → AreOther (parts_for n o)
  parts-other n None = tt
  parts-other n (Some state) = by_test (λ b. AreOther (if b then parting (copy_consumer n) ∷ [] else [])) (is_on_way state) (λ _. (tt, tt)) (λ _. tt)

  held-remove : (d p : ℕ) (name : List ℕ) (l : Leaf) → IsSource past d p → MoveHeld past p d (in_hand d name) (leaves_leaf l name (hands past d name))
  held-remove d p name l s =
      let lets : List NodeCall = lets_go_for (copy_in_hand past d name) in
      let parts : List NodeCall = parts_for (Some (of_leaf l)) (option_map LeafTable.state (table_of name l)) in
      move-held past p d (in_hand d name) (leaves_leaf l name (hands past d name))
      (subst (λ q. AllHeld (in_hand d name None ∷ called q d (removing name))) (sym (after-append past p lets parts))
      (down-held past d p name (copy_in_hand past d name) parts (removing name ∷ []) (parts-other (Some (of_leaf l)) (option_map LeafTable.state (table_of name l))) (tt, tt) refl s.from kept.1))

  held-restart : (d p : ℕ) (name : List ℕ) → IsSource past d p → MoveHeld past p d (in_hand d name) (restarting name (hands past d name))
  held-restart d p name s =
      move-held past p d (in_hand d name) (restarting name (hands past d name)) (down-held past d p name (copy_in_hand past d name) [] (giving_up_copy name ∷ []) tt (tt, tt) refl s.from kept.1)

  kept-removes : (d table : ℕ) (name : List ℕ) (n : Node) → (w.database d).node ≡ Some n → is_among name (tables_of n) ≡ true → place_of name (w.database d).part.tables ≡ Some table
      → KeptIfOk (removes_from w d table name n)
  kept-removes d table name (of_root r) stands among there =
      if-refused _ (option_map TableInUse (first_user w r.name name)) _ (λ _. kept-done d Done (unlists table name) (tt, tt))
  kept-removes d table name (of_leaf l) stands among there =
      ok-then _ (source w l name) _ (λ p is. let s : IsSource past d p = source-is past d p l name stands is in (kept-remove d p table name l stands among there s, held-remove d p name l s))

  kept-state : (name table : List ℕ) (n : Node) → KeptIfOk (shows_state name table n)
  kept-state name table (of_root r) = tt
  kept-state name table (of_leaf l) = if-found _ (table_of table l) (NotInSet table) _ (λ t _. kept)

  kept-restarts : (d : ℕ) (name : List ℕ) (n : Node) → KeptIfOk (restarts d name n)
  kept-restarts d name (of_root r) = tt
  kept-restarts d name (of_leaf l) = all-step past (batch_in_hand d None) tt kept

  -- a move of a leaf's worker
  kept-replay : (p d : ℕ) (c : Checked (Move BatchHand)) → BatchesIfOk c → KeptIfOk (moves w p d (batch_in_hand d) c)
  kept-replay p d (Ok move) quiet = quiet-move past p d (batch_in_hand d) move quiet tt kept
  kept-replay p d (Err refusal) quiet = tt

  kept-steps : (d : ℕ) (name : List ℕ) (n : Node) → KeptIfOk (leaf_steps w d name n)
  kept-steps d name (of_root r) = tt
  kept-steps d name (of_leaf l) =
      ok-then _ (providers_database w l) _ (λ p _. kept-replay p d (replay_move (w.database p) (w.database d) l (w.batches d)) (batches-replay (w.database p) (w.database d) l (w.batches d)))

  -- one of a table's worker: it copies, or goes through batches, or waits
  kept-copies : (p d : ℕ) (name : List ℕ) (c : Checked (Move CopyHand)) → IfOk c (λ move. MoveKept past p d (copy_handed d name) move) → IfOk c (λ move. MoveHeld past p d (copy_handed d name) move)
      → KeptIfOk (moves w p d (in_hand d name) (handing of_copy c))
  kept-copies p d name (Ok move) holds also = (holds, also)
  kept-copies p d name (Err refusal) holds also = tt

  kept-batches : (p d : ℕ) (name : List ℕ) (c : Checked (Move BatchHand)) → BatchesIfOk c → may_copy name (node (history_in past d)) ≡ false → KeptIfOk (moves w p d (in_hand d name) (handing of_batch c))
  kept-batches p d name (Ok move) quiet isnt =
      all-before past (move_facts w p d (λ batch. in_hand d name (option_map of_batch batch)) move)
      (λ legal k. quiet-move past p d (λ batch. in_hand d name (option_map of_batch batch)) move quiet
      (ap (λ f. copy_in (f d name)) (hands-calls (after_calls past p move.provider) d move.replica ∙ hands-calls past p move.provider) ∙ no-copy past d name k isnt ∙ sym (no-copy-in move.hand)) kept) kept
  kept-batches p d name (Err refusal) quiet isnt = tt

  kept-table : (p d : ℕ) (name : List ℕ) → IsAlike past d p name → KeptIfOk (moves w p d (in_hand d name) (copy_move (w.database p) (w.database d) name (w.hands d name)))
  kept-table p d name alike = of (table_at name (node (history_in past d))) refl
    where
      prints : AllKept (in_hand d name (hands past d name) ∷ past)
      prints = all-step past (in_hand d name (hands past d name)) refl kept

      copied-or : (t : LeafTable) (c : Checked (Move BatchHand)) → KeptIfOk (moves w p d (in_hand d name) (handing of_batch c)) → KeptIfOk (moves w p d (in_hand d name) (if_copied t (w.hands d name) c))
      copied-or t c so = of (is_some t.snapshot)
        where
          of : (b : Bool) → KeptIfOk (moves w p d (in_hand d name) (if b then handing of_batch c else only_prints (AwaitsTable t.name) (w.hands d name)))
          of true = so
          of false = prints

      in-state : (t : LeafTable) → table_at name (node (history_in past d)) ≡ Some t → (state : TableState) → t.state ≡ state
          → KeptIfOk (moves w p d (in_hand d name) (moves_in state (w.database p) (w.database d) t (w.hands d name)))
      in-state t there InCopy is =
          let may : may_copy name (node (history_in past d)) ≡ true = may-as name (node (history_in past d)) t there ∙ ap is_in_copy is in
          subst (λ x. KeptIfOk (moves w p d (in_hand d name) (handing of_copy (starts_or_continues (w.database p) (w.database d) x (copy_in_hand past d name) (copy_running (w.database d) x)))))
          (sym (table-named name (node (history_in past d)) t there))
          (kept-copies p d name (starts_or_continues (w.database p) (w.database d) name (copy_in_hand past d name) (copy_running (w.database d) name)) (copy-kept past d p name kept.0 alike may)
          (copy-held past d p name kept.0 kept.1 alike may))
      in-state t there CatchingUp is =
          copied-or t _
          (kept-batches p d name (goes_through_or (w.database p) (w.database d) t (batch_in (hands past d name)) (catches_up (w.database p) (w.database d) t))
          (batches-catches_up (w.database p) (w.database d) t (batch_in (hands past d name))) (may-as name (node (history_in past d)) t there ∙ ap is_in_copy is))
      in-state t there (DoSync tick) is =
          copied-or t _
          (kept-batches p d name (goes_through_or (w.database p) (w.database d) t (batch_in (hands past d name)) (hands_over (w.database p) (w.database d) tick t))
          (batches-hands_over (w.database p) (w.database d) tick t (batch_in (hands past d name))) (may-as name (node (history_in past d)) t there ∙ ap is_in_copy is))
      in-state t there Synced is = prints
      in-state t there state is = prints

      of : (o : Option LeafTable) → table_at name (node (history_in past d)) ≡ o → KeptIfOk (moves w p d (in_hand d name) (table_move (w.database p) (w.database d) name o (w.hands d name)))
      of None there = prints
      of (Some t) there = in-state t there t.state refl

  kept-form : (d : ℕ) (s : NodeStmt) → KeptIfOk (node_form w d s)
  kept-form d (CreateRoot name queue) =
      if-root AllKept past d name queue (λ _ t there. all-steps past (map (within d) (root_marks t name queue w.now) ++ node_made d ∷ []) (refl, (refl, (refl, (refl, (there, tt))))) kept)
  kept-form d (CreateLeaf name provider) = kept-create_leaf d name provider
  kept-form d (AddTable name table_name) =
      if-found _ (node_called w name) (NoNode name) _ (λ n found.
      if-found _ (place_of table_name (w.database n.database).part.tables) (NoTable table_name) _ (λ table there.
      if-test _ (is_among table_name (tables_of n.node)) (AlreadyInSet table_name) _ (λ _. kept-adds n.database table table_name n.node)))
  kept-form d (RemoveTable name table_name) =
      if-found _ (node_called w name) (NoNode name) _ (λ n found.
      if-test _ (not (is_among table_name (tables_of n.node))) (NotInSet table_name) _ (λ among.
      if-found _ (place_of table_name (w.database n.database).part.tables) (NoTable table_name) _ (λ table there.
      kept-removes n.database table table_name n.node (called-there w name n found) (not-false (is_among table_name (tables_of n.node)) among) there)))
  kept-form d (ShowState name table) = if-found _ (node_called w name) (NoNode name) _ (λ n _. kept-state name table n.node)
  kept-form d (CopyStep name table) =
      if-found _ (node_called w name) (NoNode name) _ (λ n found.
      ok-then _ (leaf_table name table n.node) _ (λ l leaf.
      ok-then _ (source_alike w n.database l table) _ (λ p alike.
      let both : IsAlike past n.database p table = alike-is past n.database p l table (called-there w name n found ∙ ap Some (leaf-is name table n.node l leaf)) alike in
      kept-table p n.database table both)))
  kept-form d (Restart name) = if-found _ (node_called w name) (NoNode name) _ (λ n _. kept-restarts n.database name n.node)
  kept-form d (RestartTable name table) =
      if-found _ (node_called w name) (NoNode name) _ (λ n found.
      ok-then _ (leaf_table name table n.node) _ (λ l leaf.
      ok-then _ (source w l table) _ (λ p is.
      let s : IsSource past n.database p = source-is past n.database p l table (called-there w name n found ∙ ap Some (leaf-is name table n.node l leaf)) is in
      (kept-restart n.database p table s, held-restart n.database p table s))))
  kept-form d (LondisteStep name) = if-found _ (node_called w name) (NoNode name) _ (λ n _. kept-steps n.database name n.node)

-- ---- any call

kept-does : (past : Past) (d : ℕ) (call : DatabaseCall) → is_served call ≡ false → AllKept past → AllKept (on_top past (map (within d) (marks_in past d call)))
kept-does past d call own kept =
    all-steps past (map (within d) (marks_in past d call))
    (fit-marks past d (marks_in past d call) (each-map is_sessions keeps_copies sessions-quiet (marks_in past d call) (sessions-does (history_in past d) call own))) kept

kept-none : Kept each_table []
kept-none legal = record {
  all_noded = λ d there. absurd (cc there);
  all_copied = λ d later p name under tick is. absurd (nothing later p (noded (copied name under tick)) is);
  copying = λ d name hand _ has. absurd (cc has);
  apart = λ d name e other one two p _ _ _ has. absurd (cc has);
  running = λ d name table _ c. absurd (cc c.runs);
}
  where
    nothing : (later : List Mark) (p : History) (mark : Mark) → [] ≡ later ++ mark ∷ p → ⊥
    nothing [] p mark is = absurd (cc is)
    nothing (x ∷ later) p mark is = absurd (cc is)

all-past : (calls : List Call) → AllKept (past_of calls)
all-past =
    after-calls AllKept (record {
      does = kept-does;
      nodes = λ past d s kept. kept-form past kept d s;
      aside = λ past fact beside kept. all-step past fact (fit-aside past fact beside) kept;
    }) (kept-none, λ legal. record { all_noded = λ d there. absurd (cc there); holders = λ r number is. absurd (cc is) })

pub kept-past : (calls : List Call) → Kept each_table (past_of calls)
kept-past calls = (all-past calls).0

pub held-past : (calls : List Call) → AllHeld (past_of calls)
held-past calls = (all-past calls).1

-- ---- the law

-- the leaf of a database, and its provider, of which this is the database
pub record HasSource (past : Past) (d p : ℕ) : Type 0 where
  pub leaf : Leaf
  pub is_leaf : node (history_in past d) ≡ Some (of_leaf leaf)
  pub provider : Located
  pub found : node_called (world_of past) leaf.provider ≡ Some provider
  pub is : provider.database ≡ p

pub has-source : (past : Past) (d p : ℕ) → source_of past d ≡ Some p → HasSource past d p
has-source past d p from = of (node (history_in past d)) refl from
  where
    at : (l : Leaf) → node (history_in past d) ≡ Some (of_leaf l) → (o : Option Located) → node_called (world_of past) l.provider ≡ o → option_map Located.database o ≡ Some p → HasSource past d p
    at l leaf None found e = absurd (cc e)
    at l leaf (Some n) found e = record { leaf = l; is_leaf = leaf; provider = n; found = found; is = cc e }

    of : (n : Option Node) → node (history_in past d) ≡ n → option_and_then (λ provider. database_among (names_in past) provider (nodes past)) (provider_of (node (history_in past d))) ≡ Some p → HasSource past d p
    of None is e = absurd (cc (sym e ∙ ap (λ n. option_and_then (λ provider. database_among (names_in past) provider (nodes past)) (provider_of n)) is))
    of (Some (of_root r)) is e = absurd (cc (sym e ∙ ap (λ n. option_and_then (λ provider. database_among (names_in past) provider (nodes past)) (provider_of n)) is))
    of (Some (of_leaf l)) is e =
        at l is (node_called (world_of past) l.provider) refl
        (called-database past l.provider ∙ sym (ap (λ n. option_and_then (λ provider. database_among (names_in past) provider (nodes past)) (provider_of n)) is) ∙ e)

pub copied_tables_have_providers_rows : CopiedTablesHaveProvidersRows
copied_tables_have_providers_rows calls in_form database later p name under tick is =
    let k : Keeps each_table (past_of calls) = kept-past calls (legal_past calls) in
    let c : CopiedFrom (past_of calls) database p name under tick = k.all_copied database later p name under tick is in
    let h : HasCopied p name = copies_leave_their_rows p name under tick (world_place calls database later (noded (copied name under tick) ∷ p) in_form is) in
    let one : ended (of_copy h.table) h.t true ∷ h.below ≡ ended (of_copy c.table) c.t true ∷ c.below = sym h.last ∙ c.last in
    let table_is : h.table ≡ c.table = cc one in
    let t_is : h.t ≡ c.t = cc one in
    let f : HasSource (past_of calls) database c.provider = has-source (past_of calls) database c.provider c.from in
    record {
      leaf = f.leaf;
      is_leaf = f.is_leaf;
      provider = f.provider;
      found = f.found;
      table = c.table;
      named = h.named ∙ ap Some table_is;
      t = c.t;
      tick = tick;
      below = c.below;
      copy_ended = ap (λ q. noded (copied name under tick) ∷ q) c.last;
      hold = c.hold;
      at_once = c.at_once;
      before = c.before;
      copy_began = subst (λ q. CopyBegan (past_of calls) database q c.table c.t c.hold c.at_once c.before) (sym f.is) c.copy_began;
      taken = ap (λ q. snapshot (history_in c.before q)) f.is ∙ c.taken;
      from_newest = ap (λ q. newest_of (database_of (history_in c.before q))) f.is ∙ c.from_newest;
      source = c.source;
      source_named = ap (λ q. place_of name (table_names (history_in c.before q))) f.is ∙ c.source_named;
      same = ap (λ n. rows n p) (sym table_is) ∙ h.whole ∙ ap (λ n. put_all (writes_of n h.t p) []) table_is ∙ ap (λ n. put_all (writes_of c.table n p) []) t_is ∙ ap (λ q. put_all (writes_of c.table c.t q) []) c.last
          ∙ c.same ∙ ap (λ q. rows c.source (history_in c.before q)) (sym f.is);
    }
