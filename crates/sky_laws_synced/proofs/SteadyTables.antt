-- No table of a leaf is said to catch up but by the end of its copy: no call of a worker moves it there.
use Rattle.std.proofs.Common.{◌≡◌, ℕ, ◌==◌, List, [], ◌∷◌, ◌++◌, map, Bool, true, false, not, ◌||◌, Option, Some, Ok, Err, IfOk, is_some, option_map, refl, subst, if◌then◌else◌, sym, ◌∙◌}
use Rattle.sky_names.specs.Places.{place_of}
use Rattle.londiste_state.specs.declared.state.TableState.{TableState}
use Rattle.londiste_state.specs.declared.state.TableState.TheVariants.{CatchingUp, Synced}
use Rattle.londiste_state.specs.Nodes.{Node, of_root, of_leaf, LeafTable, is_among, table_of, tables_of}
use Rattle.sky_model.specs.declared.stmt.NodeStmt.{NodeStmt}
use Rattle.sky_model.specs.declared.stmt.NodeStmt.TheVariants.{CreateRoot, CreateLeaf, AddTable, RemoveTable, TableState as ShowState, CopyStep, Restart, RestartTable, LondisteStep}
use Rattle.sky_model.specs.declared.reply.Reply.{Reply}
use Rattle.sky_model.specs.declared.reply.Reply.TheVariants.{Done, Null}
use Rattle.sky_model.specs.declared.reply.Refusal.TheVariants.{AlreadyInSet, NodeExists, NoNode, NoTable, NotInSet, NotProvider, SchemaDiffers, TableInUse}
use Rattle.sky_model.specs.History.{Mark, noded, leaf_made, state_set, History, Fact, within, node_made, in_hand, batch_in_hand, Past}
use Rattle.sky_model.specs.Hands.{copy_in}
use Rattle.sky_model.specs.Copies.{copy_txid}
use Rattle.sky_model.specs.State.{Database}
use Rattle.sky_model.specs.Outcome.{Outcome, Checked, answers, marks_of}
use Rattle.sky_model.specs.StepQueue.{newest_id}
use Rattle.sky_model.specs.StepNode.{NodeCall, joining, moving, if_there, set_queue, joins, lists, adds, unlists, table_number, may_serve, call_form, node_does, makes_root}
use Rattle.sky_model.specs.WorkerMoves.{Move}
use Rattle.sky_model.specs.CopyMoves.{copy_move, lets_go_for}
use Rattle.sky_model.specs.ReplayMoves.{replay_move}
use Rattle.sky_model.specs.NodesOfWorld.{WorldOutcome, node_called, done_in, leaf_of, create_leaf, provides, are_columns, columns_called, adds_to, first_user, shows_state, root_of}
use Rattle.sky_model.specs.WorkersOfWorld.{call_facts, calls_facts, move_facts, moves, source, source_alike, leaf_table as leafs_table, restarts, restarting, provider_of, leaf_steps, leaves_leaf, removes_from, node_form}
use Rattle.sky_model.specs.World.{World, world_of, after_facts, history_in, on_top}
use Rattle.sky_model.specs.Calls.{Call, past_of}
use Rattle.sky_histories.proofs.CopyCalls.{gives-there}
use Rattle.sky_histories.proofs.StatementMarks.{EachMark, each-rest, each-given, when-true, Gives, AnyReply, after, either, each-map, checked}
use Rattle.sky_model.proofs.Cases.{by_test, ok-then}
use Rattle.sky_laws_replicas.proofs.SessionsMarks.{is_sessions, sessions-does}
use Rattle.sky_laws_replicas.proofs.EachCall.{is_beside, marks_in, after-calls}
use Rattle.sky_model.specs.CallPermits.{CallMarkKinds, may_be_left, kinds_of_call}
use Rattle.sky_laws_replicas.proofs.CallMarks.{gives-call, each-does, given_up-then}
use Rattle.sky_laws_replicas.proofs.WorkersCalls.{is_workers, AllCalls, calls-append, Makes, WorkersIfOk, workers-replay, workers-move, workers-lets, workers-parts}
use Rattle.sky_laws_replicas.proofs.UnlessRefused.{if-test, if-refused, if-found}

-- whether a mark isn't one by which a table is said to catch up
abbrev pub is_steady : Mark → Bool
is_steady (noded (state_set name CatchingUp)) = false
is_steady mark = true

abbrev Steady : Checked Outcome → Type 0
Steady c = Gives AnyReply is_steady c

-- ---- calls

steady-if : (k : CallMarkKinds) → k.moves ≡ false → (mark : Mark) → may_be_left k mark ≡ true → is_steady mark ≡ true
steady-if k still (noded (state_set name state)) e = absurd (cc (sym still ∙ e))
steady-if k still mark e = refl

steady-state : (name : List ℕ) (state : TableState) → is_workers (moving name state) ≡ true → EachMark is_steady (noded (state_set name state) ∷ [])
steady-state name CatchingUp e = absurd (cc e)
steady-state name Synced e = tt
steady-state name state e = tt

steady-does : (d : Database) (call : NodeCall) → is_workers call ≡ true → EachMark is_steady (marks_of (node_does d call))
steady-does d (moving name state) e =
    each-given AnyReply is_steady (node_does d (moving name state)) (either AnyReply is_steady (may_serve (moving name state) d.node) (call_form d (moving name state)) (answers Null)
    (gives-there is_steady (table_number d name) _ (λ table. (tt, given_up-then is_steady (λ n t. refl) (λ n. refl) table name (copy_txid table d.copies) (noded (state_set name state) ∷ []) (steady-state name state e)))) (tt, tt))
steady-does d call e = each-does is_steady call (steady-if (kinds_of_call call) refl) d

-- ---- facts

-- each mark among some facts is such
abbrev pub EachFact : List Fact → Type 0
EachFact [] = Unit {0}
EachFact (within d mark ∷ facts) = (is_steady mark ≡ true) × EachFact facts
EachFact (fact ∷ facts) = EachFact facts

facts-append : (xs ys : List Fact) → EachFact xs → EachFact ys → EachFact (xs ++ ys)
facts-append [] ys all also = also
facts-append (within d mark ∷ xs) ys all also = (all.0, facts-append xs ys all.1 also)
facts-append (_ ∷ xs) ys all also = facts-append xs ys all also

facts-marks : (d : ℕ) (marks : List Mark) → EachMark is_steady marks → EachFact (map (within d) marks)
facts-marks d [] each = tt
facts-marks d (mark ∷ marks) each = (when-true (EachMark is_steady marks) (is_steady mark) each, facts-marks d marks (each-rest is_steady mark marks each))

facts-calls : (w : World) (d : ℕ) (calls : List NodeCall) → AllCalls is_workers calls → EachFact (calls_facts w d calls)
facts-calls w d [] all = tt
facts-calls w d (call ∷ calls) all =
    facts-append (call_facts w d call) (calls_facts (after_facts w (call_facts w d call)) d calls) (facts-marks d (marks_of (node_does (w.database d) call)) (steady-does (w.database d) call all.0))
    (facts-calls (after_facts w (call_facts w d call)) d calls all.1)

facts-move : {H : Type 0} (w : World) (p d : ℕ) (handed : Option H → Fact) (move : Move H) → EachFact (handed move.hand ∷ []) → Makes is_workers move → EachFact (move_facts w p d handed move)
facts-move w p d handed move hand s =
    let there : List Fact = calls_facts w p move.provider in
    facts-append there (calls_facts (after_facts w there) d move.replica ++ handed move.hand ∷ []) (facts-calls w p move.provider s.provider)
    (facts-append (calls_facts (after_facts w there) d move.replica) (handed move.hand ∷ []) (facts-calls (after_facts w there) d move.replica s.replica) hand)

-- ---- statements on nodes

abbrev FactsIfOk : Checked WorldOutcome → Type 0
FactsIfOk c = IfOk c (λ o. EachFact o.facts)

facts-done : (d : ℕ) (reply : Reply) (c : Checked Outcome) → Steady c → FactsIfOk (done_in d reply c)
facts-done d reply (Ok o) given = facts-marks d o.marks given.1
facts-done d reply (Err refusal) given = tt

facts-moves : {H : Type 0} (w : World) (p d : ℕ) (handed : Option H → Fact) (c : Checked (Move H)) → ((hand : Option H) → EachFact (handed hand ∷ [])) → WorkersIfOk c → FactsIfOk (moves w p d handed c)
facts-moves w p d handed (Ok move) hand s = facts-move w p d handed move (hand move.hand) s
facts-moves w p d handed (Err refusal) hand s = tt

module _ (w : World) where
  facts-root : (d : ℕ) (c : Checked Outcome) → Steady c → FactsIfOk (root_of d c)
  facts-root d (Err refusal) given = tt
  facts-root d (Ok o) given = facts-append (map (within d) o.marks) (node_made d ∷ []) (facts-marks d o.marks given.1) tt

  facts-leaf : (d p : ℕ) (name provider : List ℕ) (tick : ℕ) (c : Checked Outcome) → Steady c → FactsIfOk (leaf_of d p name provider tick c)
  facts-leaf d p name provider tick (Err refusal) given = tt
  facts-leaf d p name provider tick (Ok o) given = facts-append (map (within p) o.marks) (within d (noded (leaf_made name provider tick)) ∷ node_made d ∷ []) (facts-marks p o.marks given.1) (refl, tt)

  facts-create : (d : ℕ) (name provider : List ℕ) → FactsIfOk (create_leaf w d name provider)
  facts-create d name provider =
      if-test _ (is_some (node_called w name) || is_some (w.database d).node) (NodeExists name) _ (λ _.
      if-found _ (node_called w provider) (NoNode provider) _ (λ p _.
      if-found _ (set_queue (w.database p.database)) (NotProvider provider) _ (λ queue is.
      facts-leaf d p.database name provider (newest_id ((w.database p.database).queue queue)) (joins (w.database p.database) queue name)
      (subst (λ o. Steady (if_there o (λ q. joins (w.database p.database) q name))) is (gives-call is_steady (joining name) (steady-if (kinds_of_call (joining name)) refl) (w.database p.database))))))

  facts-adds : (d table : ℕ) (name : List ℕ) (n : Node) → FactsIfOk (adds_to w d table name n)
  facts-adds d table name (of_root r) = if-found _ (set_queue (w.database d)) (NotProvider r.name) _ (λ queue _. facts-done d Done (lists (w.database d) queue table name) (search (after)))
  facts-adds d table name (of_leaf l) =
      if-found _ (provides name (node_called w l.provider)) (NotInSet name) _ (λ p _.
      if-test _ (not (are_columns ((w.database d).part.columns table) (columns_called name (w.database p)))) (SchemaDiffers name) _ (λ _. facts-done d Done (adds (w.database d) table name) (search (after))))

  facts-removes : (d table : ℕ) (name : List ℕ) (n : Node) → FactsIfOk (removes_from w d table name n)
  facts-removes d table name (of_root r) = if-refused _ (option_map TableInUse (first_user w r.name name)) _ (λ _. facts-done d Done (unlists table name) (tt, tt))
  facts-removes d table name (of_leaf l) =
      ok-then _ (source w l name) _ (λ p _.
      facts-moves w p d (in_hand d name) (Ok (leaves_leaf l name (w.hands d name))) (λ hand. tt)
      (record { provider = calls-append is_workers (lets_go_for (copy_in (w.hands d name))) _ (workers-lets (copy_in (w.hands d name))) (workers-parts (Some (of_leaf l)) (option_map LeafTable.state (table_of name l))); replica = (refl, tt) }))

  facts-state : (name table : List ℕ) (n : Node) → FactsIfOk (shows_state name table n)
  facts-state name table (of_root r) = tt
  facts-state name table (of_leaf l) = if-found _ (table_of table l) (NotInSet table) _ (λ t _. tt)

  facts-restarts : (d : ℕ) (name : List ℕ) (n : Node) → FactsIfOk (restarts d name n)
  facts-restarts d name (of_root r) = tt
  facts-restarts d name (of_leaf l) = tt

  facts-steps : (d : ℕ) (name : List ℕ) (n : Node) → FactsIfOk (leaf_steps w d name n)
  facts-steps d name (of_root r) = tt
  facts-steps d name (of_leaf l) =
      ok-then _ (provider_of w l) _ (λ p _.
      facts-moves w p d (batch_in_hand d) (replay_move (w.database p) (w.database d) l (w.batches d)) (λ hand. tt) (workers-replay (w.database p) (w.database d) l (w.batches d)))

  facts-form : (d : ℕ) (s : NodeStmt) → FactsIfOk (node_form w d s)
  facts-form d (CreateRoot name queue) =
      if-test _ (is_some (node_called w name) || is_some (w.database d).node) (NodeExists name) _ (λ _. facts-root d (makes_root (w.database d) w.now name queue) (search (after, checked)))
  facts-form d (CreateLeaf name provider) = facts-create d name provider
  facts-form d (AddTable name table_name) =
      if-found _ (node_called w name) (NoNode name) _ (λ n _.
      if-found _ (place_of table_name (w.database n.database).part.tables) (NoTable table_name) _ (λ table _.
      if-test _ (is_among table_name (tables_of n.node)) (AlreadyInSet table_name) _ (λ _. facts-adds n.database table table_name n.node)))
  facts-form d (RemoveTable name table_name) =
      if-found _ (node_called w name) (NoNode name) _ (λ n _.
      if-test _ (not (is_among table_name (tables_of n.node))) (NotInSet table_name) _ (λ _.
      if-found _ (place_of table_name (w.database n.database).part.tables) (NoTable table_name) _ (λ table _. facts-removes n.database table table_name n.node)))
  facts-form d (ShowState name table) = if-found _ (node_called w name) (NoNode name) _ (λ n _. facts-state name table n.node)
  facts-form d (CopyStep name table) =
      if-found _ (node_called w name) (NoNode name) _ (λ n _.
      ok-then _ (leafs_table name table n.node) _ (λ l _.
      ok-then _ (source_alike w n.database l table) _ (λ p _.
      facts-moves w p n.database (in_hand n.database table) (copy_move (w.database p) (w.database n.database) table (w.hands n.database table)) (λ hand. tt)
      (workers-move (w.database p) (w.database n.database) table (w.hands n.database table)))))
  facts-form d (Restart name) = if-found _ (node_called w name) (NoNode name) _ (λ n _. facts-restarts n.database name n.node)
  facts-form d (RestartTable name table) =
      if-found _ (node_called w name) (NoNode name) _ (λ n _.
      ok-then _ (leafs_table name table n.node) _ (λ l _.
      ok-then _ (source w l table) _ (λ p _.
      facts-moves w p n.database (in_hand n.database table) (Ok (restarting table (w.hands n.database table))) (λ hand. tt)
      (record { provider = workers-lets (copy_in (w.hands n.database table)); replica = (refl, tt) }))))
  facts-form d (LondisteStep name) = if-found _ (node_called w name) (NoNode name) _ (λ n _. facts-steps n.database name n.node)

-- ---- all calls

-- each mark of a history is such
abbrev pub AllSteady : History → Type 0
AllSteady [] = Unit {0}
AllSteady (mark ∷ h) = (is_steady mark ≡ true) × AllSteady h

pub steady-below : (later : List Mark) (p : History) → AllSteady (later ++ p) → AllSteady p
steady-below [] p all = all
steady-below (mark ∷ later) p all = steady-below later p all.1

abbrev SteadyPast : Past → Type 0
SteadyPast past = (d : ℕ) → AllSteady (history_in past d)

steady-within : (past : Past) (e : ℕ) (mark : Mark) → is_steady mark ≡ true → SteadyPast past → SteadyPast (within e mark ∷ past)
steady-within past e mark is all d = by_test (λ b. AllSteady (if b then mark ∷ history_in past d else history_in past d)) (e == d) (λ _. (is, all d)) (λ _. all d)

steady-facts : (past : Past) (facts : List Fact) → EachFact facts → SteadyPast past → SteadyPast (on_top past facts)
steady-facts past [] each all = all
steady-facts past (within d mark ∷ facts) each all = steady-facts (within d mark ∷ past) facts each.1 (steady-within past d mark each.0 all)
steady-facts past (fact ∷ facts) each all = steady-facts (fact ∷ past) facts each all

steady-beside : (past : Past) (fact : Fact) → is_beside fact ≡ true → SteadyPast past → SteadyPast (fact ∷ past)
steady-beside past (within d mark) is all = absurd (cc is)
steady-beside past fact is all = all

sessions-steady : (mark : Mark) → is_sessions mark ≡ true → is_steady mark ≡ true
sessions-steady (noded (state_set name state)) is = absurd (cc is)
sessions-steady mark is = refl

steady-outcome : (past : Past) (c : Checked WorldOutcome) → FactsIfOk c → SteadyPast past → IfOk c (λ o. SteadyPast (on_top past o.facts))
steady-outcome past (Ok o) each all = steady-facts past o.facts each all
steady-outcome past (Err refusal) each all = tt

pub steady-past : (calls : List Call) (d : ℕ) → AllSteady (history_in (past_of calls) d)
steady-past =
    after-calls SteadyPast (record {
      does = λ past d call own all. steady-facts past (map (within d) (marks_in past d call)) (facts-marks d (marks_in past d call) (each-map is_sessions is_steady sessions-steady (marks_in past d call) (sessions-does (history_in past d) call own))) all;
      nodes = λ past d s all. steady-outcome past (node_form (world_of past) d s) (facts-form (world_of past) d s) all;
      aside = steady-beside;
    }) (λ d. tt)
