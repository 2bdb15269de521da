-- What each call of the world keeps.
use Rattle.std.proofs.Common.{◌≡◌, ℕ, ◌==◌, List, [], ◌∷◌, ◌++◌, map, find, true, false, not, ◌||◌, Option, Some, None, Ok, Err, IfOk, All, is_some, option_map, refl, sym, ap, subst, ◌∙◌, if◌then◌else◌}
use Rattle.sky_names.specs.Places.{place_of}
use Rattle.londiste_state.specs.declared.state.TableState.{TableState}
use Rattle.londiste_state.specs.Nodes.{Node, of_root, of_leaf, Leaf, LeafTable, node_name, is_among, table_of, tables_of}
use Rattle.sky_model.specs.declared.stmt.NodeStmt.{NodeStmt}
use Rattle.sky_model.specs.declared.stmt.NodeStmt.TheVariants.{CreateRoot, CreateLeaf, AddTable, RemoveTable, TableState as ShowState, CopyStep, Restart, RestartTable, LondisteStep}
use Rattle.sky_model.specs.declared.reply.Reply.{Reply}
use Rattle.sky_model.specs.declared.reply.Reply.TheVariants.{Done}
use Rattle.sky_model.specs.declared.reply.Refusal.TheVariants.{AlreadyInSet, NodeExists, NoNode, NoTable, NotInSet, NotProvider, SchemaDiffers, TableBusy, TableInUse}
use Rattle.sky_model.specs.Hands.{CopyHand, BatchHand, copy_in}
use Rattle.sky_model.specs.History.{noded, leaf_made, leaf_added, tabled, read_only, appeared, Fact, within, node_made, in_hand, batch_in_hand, Past}
use Rattle.sky_model.specs.Nodes.{node, is_root, is_leaf, set_tables}
use Rattle.sky_model.specs.ShownRows.{least_writer}
use Rattle.sky_model.specs.State.{database_of}
use Rattle.sky_model.specs.Outcome.{Outcome, Checked, ◌>>=◌, ◌>>◌, refused_if, refused_by, found_or, does_marks, marks_of}
use Rattle.sky_model.specs.StepQueue.{newest_id}
use Rattle.sky_model.specs.StepNode.{joining, parting, removing, giving_up_copy, if_there, set_queue, joins, lists, adds, unlists}
use Rattle.sky_model.specs.WorkerMoves.{Move}
use Rattle.sky_model.specs.ReplayMoves.{is_on_way, replay_move}
use Rattle.sky_model.specs.CopyMoves.{copy_consumer, copy_move, lets_go_for}
use Rattle.sky_model.specs.NodesOfWorld.{WorldOutcome, Located, node_called, done_in, leaf_of, create_leaf, provides, are_columns, columns_called, adds_to, uses, name_in, first_user, shows_state}
use Rattle.sky_model.specs.WorkersOfWorld.{move_facts, moves, source, source_alike, leaf_table as leafs_table, provider_of as providers_database, restarts, restarting, leaf_steps, parts_for, leaves_leaf, removes_from, node_form}
use Rattle.sky_model.specs.World.{World, world_of, history_in, nodes, on_top}
use Rattle.sky_model.specs.Calls.{Call, past_of}
use Rattle.sky_model.specs.Steps.{IsCallInForm}
use Rattle.sky_model.specs.HistoryPlaces.{IsPlace}
use Rattle.sky_histories.proofs.Legal.{fine_mark}
use Rattle.sky_histories.proofs.SnapshotLaws.{legal_place}
use Rattle.sky_histories.proofs.NodeDeeds.{called-there}
use Rattle.sky_laws.proofs.NodeLaws.{sets_have_queues}
use Rattle.sky_histories.proofs.PastHistories.{on_top-append}
use Rattle.sky_histories.proofs.Histories.{histories_are_made_by_own_calls, world_place, legal_past}
use Rattle.sky_histories.proofs.Good.{same-session}
use Rattle.sky_model.proofs.Cases.{by_test, ok-then}
use Rattle.sky_histories.proofs.StatementMarks.{each-map}
use Rattle.sky_laws_changes.specs.Listing.{IsListed}
use Rattle.sky_laws_replicas.proofs.NodeNames.{source_of}
use Rattle.sky_laws_replicas.proofs.Keeping.{source-within}
use Rattle.sky_laws_replicas.proofs.Sources.{IsAlike, alike-is}
use Rattle.sky_laws_replicas.proofs.KeptCalls.{leaf-is, copied_tables_have_providers_rows}
use Rattle.sky_laws_replicas.proofs.CallPasts.{after_calls, on-move}
use Rattle.sky_laws_replicas.proofs.ProvidedTables.{TablesOffered, suits-step as provided-step}
use Rattle.sky_laws_replicas.proofs.ProvidedCalls.{kept-provided, from-found, found-database, unused}
use Rattle.sky_laws_replicas.proofs.SessionsMarks.{is_sessions, sessions-does}
use Rattle.sky_laws_synced.proofs.Going.{AllPlaces, apart-root, IsOffered as IsListedFor, Goes, KeptGoes, suits-step, suits-steps}
use Rattle.sky_laws_synced.proofs.Showing.{IsBetween}
use Rattle.sky_laws_synced.proofs.PlainCalls.{Plain, ArePlain, plain-append, kept-mark, kept-marks, kept-calls, sessions-plain, plain-lists, plain-does, is_plain}
use Rattle.sky_laws_synced.proofs.FollowingAt.{AllFollow, follow-appeared}
use Rattle.sky_laws_synced.proofs.CopyEnds.{AtEnd}
use Rattle.sky_laws_synced.proofs.GoingMoves.{AtStart, kept-copy_move, kept-replay}
use Rattle.sky_laws_replicas.proofs.EachCall.{is_beside, marks_in, by-form, after-call}
use Rattle.sky_laws_replicas.proofs.UnlessRefused.{if-test, if-refused, if-found, root_marks, if-root}

plain-lets : (hand : Option CopyHand) → ArePlain (lets_go_for hand)
plain-lets None = tt
plain-lets (Some hand) = (refl, tt)

plain-parts : (n : Option Node) (o : Option TableState) → ArePlain (parts_for n o)
plain-parts n None = tt
plain-parts n (Some state) = by_test (λ b. ArePlain (if b then parting (copy_consumer n) ∷ [] else [])) (is_on_way state) (λ _. (refl, tt)) (λ _. tt)

-- ---- statements on nodes

module _ (past : Past) (start : AtStart past) (kept : KeptGoes past) where
  abbrev w : World
  w = world_of past

  abbrev KeptIfOk : Checked WorldOutcome → Type 0
  KeptIfOk c = IfOk c (λ o. AtEnd (on_top past o.facts) → KeptGoes (on_top past o.facts))

  kept-done : (d : ℕ) (reply : Reply) (c : Checked Outcome) → Plain c → KeptIfOk (done_in d reply c)
  kept-done d reply (Ok o) given = λ _. kept-marks past d o.marks given.1 kept
  kept-done d reply (Err refusal) given = tt

  -- a leaf is made
  kept-leaf : (d p : ℕ) (name provider : List ℕ) (tick : ℕ) (c : Checked Outcome) → Plain c → KeptIfOk (leaf_of d p name provider tick c)
  kept-leaf d p name provider tick (Err refusal) given = tt
  kept-leaf d p name provider tick (Ok o) given = λ _.
      let q : Past = on_top past (map (within p) o.marks) in
      subst KeptGoes (sym (on_top-append past (map (within p) o.marks) (within d (noded (leaf_made name provider tick)) ∷ node_made d ∷ [])))
      (suits-step (within d (noded (leaf_made name provider tick)) ∷ q) (node_made d) (ap (λ b. is_some (node (if b then noded (leaf_made name provider tick) ∷ history_in q d else history_in q d))) (same-session d))
      (kept-mark q d (noded (leaf_made name provider tick)) refl (kept-marks past p o.marks given.1 kept)))

  plain-joins : (p queue : ℕ) (name : List ℕ) → set_queue (w.database p) ≡ Some queue → Plain (joins (w.database p) queue name)
  plain-joins p queue name is = subst (λ o. Plain (if_there o (λ q. joins (w.database p) q name))) is (plain-does (w.database p) (joining name) refl)

  kept-create_leaf : (d : ℕ) (name provider : List ℕ) → KeptIfOk (create_leaf w d name provider)
  kept-create_leaf d name provider =
      if-test _ (is_some (node_called w name) || is_some (w.database d).node) (NodeExists name) _ (λ _.
      if-found _ (node_called w provider) (NoNode provider) _ (λ p found.
      if-found _ (set_queue (w.database p.database)) (NotProvider provider) _ (λ queue is.
      kept-leaf d p.database name provider (newest_id ((w.database p.database).queue queue)) (joins (w.database p.database) queue name) (plain-joins p.database queue name is))))

  -- a table joins a node
  kept-added : (d table : ℕ) (name : List ℕ) (o : Option ℕ) → (AllPlaces (within d (noded (leaf_added name)) ∷ past) → Goes past → IsListedFor (within d (noded (leaf_added name)) ∷ past) d name)
      → KeptIfOk (done_in d Done (refused_by (option_map TableBusy o) >> does_marks Done (noded (leaf_added name) ∷ tabled (read_only table true) ∷ [])))
  kept-added d table name (Some t) offers = tt
  kept-added d table name None offers = λ _.
      kept-mark (within d (noded (leaf_added name)) ∷ past) d (tabled (read_only table true)) refl (suits-step past (within d (noded (leaf_added name))) offers kept)

  offered-for : (d : ℕ) (name : List ℕ) (l : Leaf) (m : Located) → node (history_in past d) ≡ Some (of_leaf l) → node_called w l.provider ≡ Some m → is_among name (tables_of m.node) ≡ true
      → AllPlaces (within d (noded (leaf_added name)) ∷ past) → Goes past → IsListedFor (within d (noded (leaf_added name)) ∷ past) d name
  offered-for d name l m leaf found has all g = at (set_queue (database_of (history_in past m.database))) refl (sets_have_queues (history_in past m.database) (start.places m.database) root)
    where
      now : Past
      now = within d (noded (leaf_added name)) ∷ past

      from : source_of past d ≡ Some m.database
      from = from-found past d m.database l leaf (found-database past l.provider m found)

      c : TablesOffered past d
      c = start.provided.leaves d (ap is_leaf leaf)

      there : node (history_in past m.database) ≡ Some m.node
      there = called-there w l.provider m found

      same : c.p ≡ m.database
      same = let both : Some c.p ≡ Some m.database = sym c.from ∙ from in cc both

      root : is_root (node (history_in past m.database)) ≡ true
      root = ap (λ x. is_root (node (history_in past x))) (sym same) ∙ c.root

      in-set : (n : Node) → is_root (Some n) ≡ true → is_among name (tables_of n) ≡ true → is_among name (set_tables (Some n)) ≡ true
      in-set (of_root r) is among = among
      in-set (of_leaf leaf) is among = absurd (cc is)

      differ : (d == m.database) ≡ false
      differ = apart-root past d m.database root (ap is_leaf leaf)

      elsewhere : history_in now m.database ≡ history_in past m.database
      elsewhere = ap (λ b. if b then noded (leaf_added name) ∷ history_in past m.database else history_in past m.database) differ

      own : IsPlace (noded (leaf_added name) ∷ history_in past d)
      own = subst (λ b. IsPlace (if b then noded (leaf_added name) ∷ history_in past d else history_in past d)) (same-session d) (all d)

      at : (o : Option ℕ) → set_queue (database_of (history_in past m.database)) ≡ o → is_some o ≡ true → IsListedFor now d name
      at None is e = absurd (cc e)
      at (Some queue) is e = record {
        p = m.database;
        from = source-within past d (noded (leaf_added name)) d m.database g.base.all_noded (fine_mark (legal_place (noded (leaf_added name) ∷ history_in past d) own)) from;
        queue = queue;
        listed = subst (λ k. IsListed k queue name) (sym elsewhere)
            (record { set = is; among = ap (λ n. is_among name (set_tables n)) there ∙ in-set m.node (ap is_root (sym there) ∙ root) has });
      }

  kept-adds : (d table : ℕ) (name : List ℕ) (n : Node) → (w.database d).node ≡ Some n → KeptIfOk (adds_to w d table name n)
  kept-adds d table name (of_root r) stands =
      if-found _ (set_queue (w.database d)) (NotProvider r.name) _ (λ queue _. kept-done d Done (lists (w.database d) queue table name) (plain-lists (w.database d) queue table name))
  kept-adds d table name (of_leaf l) stands = at (node_called w l.provider) refl
    where
      at : (o : Option Located) → node_called w l.provider ≡ o → KeptIfOk (found_or (provides name o) (NotInSet name) >>= (λ p.
          refused_if (not (are_columns ((w.database d).part.columns table) (columns_called name (w.database p)))) (SchemaDiffers name) >> done_in d Done (adds (w.database d) table name)))
      at None found = tt
      at (Some m) found =
          by_test (λ b. is_among name (tables_of m.node) ≡ b → KeptIfOk (found_or (if b then Some m.database else None) (NotInSet name) >>= (λ p.
          refused_if (not (are_columns ((w.database d).part.columns table) (columns_called name (w.database p)))) (SchemaDiffers name) >> done_in d Done (adds (w.database d) table name))))
          (is_among name (tables_of m.node))
          (λ _ has.
          if-test _ (not (are_columns ((w.database d).part.columns table) (columns_called name (w.database m.database)))) (SchemaDiffers name) _ (λ _.
          kept-added d table name (least_writer (w.database d).part table) (offered-for d name l m stands found has))) (λ _ _. tt) refl

  -- a move of a worker
  kept-move : {H : Type 0} (p d : ℕ) (handed : Option H → Fact) (move : Move H)
      → (AtEnd (handed move.hand ∷ after_calls (after_calls past p move.provider) d move.replica) → KeptGoes (handed move.hand ∷ after_calls (after_calls past p move.provider) d move.replica))
      → AtEnd (on_top past (move_facts w p d handed move)) → KeptGoes (on_top past (move_facts w p d handed move))
  kept-move p d handed move holds at_end = subst KeptGoes (sym (on-move past p d handed move)) (holds (subst AtEnd (on-move past p d handed move) at_end))

  -- a table leaves a node
  kept-removes : (d table : ℕ) (name : List ℕ) (n : Node) → (w.database d).node ≡ Some n → KeptIfOk (removes_from w d table name n)
  kept-removes d table name (of_root r) stands =
      if-refused _ (option_map TableInUse (first_user w r.name name)) _ (λ free _.
      suits-steps past (map (within d) (marks_of (unlists table name)))
      (λ _ _. unused past d name r.name start.provided (ap (option_map node_name) stands) (none (name_in w) (find (λ e. uses r.name name (node (history_in past e))) (nodes past)) free), (λ _ _. tt, tt)) kept)
    where
      none : (f : ℕ → List ℕ) (o : Option ℕ) → option_map TableInUse (option_map f o) ≡ None → o ≡ None
      none f None e = refl
      none f (Some e) some = absurd (cc some)
  kept-removes d table name (of_leaf l) stands =
      ok-then _ (source w l name) _ (λ p _.
      kept-move p d (in_hand d name) (leaves_leaf l name (w.hands d name)) (λ _.
      suits-step _ (in_hand d name None) tt
      (kept-calls _ d (removing name ∷ []) (refl, tt)
      (kept-calls past p (lets_go_for (copy_in (w.hands d name)) ++ parts_for (Some (of_leaf l)) (option_map LeafTable.state (table_of name l)))
      (plain-append (lets_go_for (copy_in (w.hands d name))) (parts_for (Some (of_leaf l)) (option_map LeafTable.state (table_of name l))) (plain-lets (copy_in (w.hands d name)))
      (plain-parts (Some (of_leaf l)) (option_map LeafTable.state (table_of name l)))) kept))))

  kept-state : (name table : List ℕ) (n : Node) → KeptIfOk (shows_state name table n)
  kept-state name table (of_root r) = tt
  kept-state name table (of_leaf l) = if-found _ (table_of table l) (NotInSet table) _ (λ t _ _. kept)

  kept-restarts : (d : ℕ) (name : List ℕ) (n : Node) → KeptIfOk (restarts d name n)
  kept-restarts d name (of_root r) = tt
  kept-restarts d name (of_leaf l) = λ _. suits-step past (batch_in_hand d None) (λ _ _ _ _ _ _. refl) kept

  kept-moves : {H : Type 0} (p d : ℕ) (handed : Option H → Fact) (c : Checked (Move H))
      → IfOk c (λ move. AtEnd (handed move.hand ∷ after_calls (after_calls past p move.provider) d move.replica) → KeptGoes (handed move.hand ∷ after_calls (after_calls past p move.provider) d move.replica))
      → KeptIfOk (moves w p d handed c)
  kept-moves p d handed (Ok move) holds = kept-move p d handed move holds
  kept-moves p d handed (Err refusal) holds = tt

  -- whatever is known then
  at-least : {H : Type 0} (P Q : Move H → Type 0) (c : Checked (Move H)) → ((move : Move H) → P move → Q move) → IfOk c P → IfOk c Q
  at-least P Q (Ok move) gives holds = gives move holds
  at-least P Q (Err refusal) gives holds = tt

  providers : (d p : ℕ) (l : Leaf) → node (history_in past d) ≡ Some (of_leaf l) → providers_database w l ≡ Ok p → source_of past d ≡ Some p
  providers d p l leaf is = of (node_called w l.provider) refl is
    where
      at : (n : Located) → node_called w l.provider ≡ Some n → (o : Option ℕ) → (found_or o (NotProvider l.provider) >>= (λ queue. Ok n.database)) ≡ Ok p → source_of past d ≡ Some p
      at n found None e = absurd (cc e)
      at n found (Some queue) e = let same : n.database ≡ p = cc e in from-found past d n.database l leaf (found-database past l.provider n found) ∙ ap Some same

      of : (o : Option Located) → node_called w l.provider ≡ o → (found_or o (NoNode l.provider) >>= (λ n. found_or (set_queue (w.database n.database)) (NotProvider l.provider) >>= (λ queue. Ok n.database))) ≡ Ok p
          → source_of past d ≡ Some p
      of None found e = absurd (cc e)
      of (Some n) found e = at n found (set_queue (w.database n.database)) e

  kept-steps : (d : ℕ) (name : List ℕ) (n : Node) → (w.database d).node ≡ Some n → KeptIfOk (leaf_steps w d name n)
  kept-steps d name (of_root r) stands = tt
  kept-steps d name (of_leaf l) stands =
      ok-then _ (providers_database w l) _ (λ p is.
      kept-moves p d (batch_in_hand d) (replay_move (w.database p) (w.database d) l (w.batches d))
      (at-least (λ (move : Move BatchHand). KeptGoes (batch_in_hand d move.hand ∷ after_calls (after_calls past p move.provider) d move.replica))
      (λ (move : Move BatchHand). AtEnd (batch_in_hand d move.hand ∷ after_calls (after_calls past p move.provider) d move.replica)
      → KeptGoes (batch_in_hand d move.hand ∷ after_calls (after_calls past p move.provider) d move.replica)) (replay_move (w.database p) (w.database d) l (w.batches d)) (λ move holds _. holds)
      (kept-replay past d p start kept (providers d p l stands is) (ap is_leaf stands) l stands)))

  kept-form : (d : ℕ) (s : NodeStmt) → KeptIfOk (node_form w d s)
  kept-form d (CreateRoot name queue) =
      if-root (λ p. AtEnd p → KeptGoes p) past d name queue (λ _ t there _. suits-step _ (node_made d) there (kept-marks past d (root_marks t name queue w.now) tt kept))
  kept-form d (CreateLeaf name provider) = kept-create_leaf d name provider
  kept-form d (AddTable name table_name) =
      if-found _ (node_called w name) (NoNode name) _ (λ n found.
      if-found _ (place_of table_name (w.database n.database).part.tables) (NoTable table_name) _ (λ table there.
      if-test _ (is_among table_name (tables_of n.node)) (AlreadyInSet table_name) _ (λ _.
      kept-adds n.database table table_name n.node (called-there w name n found))))
  kept-form d (RemoveTable name table_name) =
      if-found _ (node_called w name) (NoNode name) _ (λ n found.
      if-test _ (not (is_among table_name (tables_of n.node))) (NotInSet table_name) _ (λ _.
      if-found _ (place_of table_name (w.database n.database).part.tables) (NoTable table_name) _ (λ table _.
      kept-removes n.database table table_name n.node (called-there w name n found))))
  kept-form d (ShowState name table) = if-found _ (node_called w name) (NoNode name) _ (λ n _. kept-state name table n.node)
  kept-form d (CopyStep name table) =
      if-found _ (node_called w name) (NoNode name) _ (λ n found.
      ok-then _ (leafs_table name table n.node) _ (λ l is_table.
      ok-then _ (source_alike w n.database l table) _ (λ p is.
      let stands : node (history_in past n.database) ≡ Some (of_leaf l) = called-there w name n found ∙ ap Some (leaf-is name table n.node l is_table) in
      let alike : IsAlike past n.database p table = alike-is past n.database p l table stands is in
      kept-moves p n.database (in_hand n.database table) (copy_move (w.database p) (w.database n.database) table (w.hands n.database table))
      (kept-copy_move past n.database p start kept alike.source.from (ap is_leaf stands) table))))
  kept-form d (Restart name) = if-found _ (node_called w name) (NoNode name) _ (λ n _. kept-restarts n.database name n.node)
  kept-form d (RestartTable name table) =
      if-found _ (node_called w name) (NoNode name) _ (λ n _.
      ok-then _ (leafs_table name table n.node) _ (λ l _.
      ok-then _ (source w l table) _ (λ p _.
      kept-move p n.database (in_hand n.database table) (restarting table (w.hands n.database table)) (λ _.
      suits-step _ (in_hand n.database table None) tt
      (kept-calls _ n.database (giving_up_copy table ∷ []) (refl, tt) (kept-calls past p (lets_go_for (copy_in (w.hands n.database table))) (plain-lets (copy_in (w.hands n.database table))) kept))))))
  kept-form d (LondisteStep name) = if-found _ (node_called w name) (NoNode name) _ (λ n found. kept-steps n.database name n.node (called-there w name n found))

-- ---- a call

kept-aside : (past : Past) (fact : Fact) → is_beside fact ≡ true → KeptGoes past → KeptGoes (fact ∷ past)
kept-aside past (within d mark) is kept = absurd (cc is)
kept-aside past (node_made d) is kept = absurd (cc is)
kept-aside past (in_hand d table hand) is kept = absurd (cc is)
kept-aside past (batch_in_hand d batch) is kept = absurd (cc is)
kept-aside past fact is kept = suits-step past fact tt kept

start-appeared : (past : Past) (name : List ℕ) → AtStart past → AtStart (appeared name ∷ past)
start-appeared past name a = record {
  between = a.between;
  places = a.places;
  provided = provided-step past (appeared name) tt (λ _. a.provided) (λ d. legal_place (history_in past d) (a.places d));
  follow = follow-appeared past name a.follow;
}

pub between-past : (calls : List Call) (d : ℕ) → IsBetween (history_in (past_of calls) d)
between-past calls d = let made = histories_are_made_by_own_calls calls d in record { calls = made.own_calls; make = made.make }

pub places-past : (calls : List Call) → All IsCallInForm calls → AllPlaces (past_of calls)
places-past calls in_form d = world_place calls d [] (history_in (past_of calls) d) in_form refl

-- what holds after some calls, if their workers follow, holds after one more
pub goes-next : (call : Call) (calls : List Call) → All IsCallInForm (call ∷ calls) → All IsCallInForm calls → AllFollow (past_of calls) → Goes (past_of calls) → Goes (past_of (call ∷ calls))
goes-next call calls in_form before follow g =
    after-call AtStart AtEnd KeptGoes call calls (record {
      does = λ past d deed own _ kept. kept-marks past d (marks_in past d deed) (each-map is_sessions is_plain sessions-plain (marks_in past d deed) (sessions-does (history_in past d) deed own)) kept;
      nodes = λ past who s home_is _ start refused kept. by-form AtEnd KeptGoes past who s home_is (λ d. kept-form past start kept d s) refused kept;
      aside = kept-aside;
      appears = start-appeared;
    })
    (record { between = between-past calls; places = places-past calls before; provided = kept-provided calls (legal_past calls); follow = follow }) (λ _. g)
    (record {
      between = between-past (call ∷ calls);
      provided = kept-provided (call ∷ calls) (legal_past (call ∷ calls));
      copied_rows = λ database later p name under tick is. copied_tables_have_providers_rows (call ∷ calls) in_form database later p name under tick is;
    }) (places-past (call ∷ calls) in_form)

-- and nothing is there before all calls
pub goes-start : Goes []
goes-start = record {
  base = record { all_noded = λ d there. absurd (cc there); offered = λ d name is. absurd (cc is); begun = λ d table t runs. absurd (cc runs) };
  shown = λ d name t there along. absurd (cc there);
  handed = λ d name t tick there state. absurd (cc there);
  reached = λ d name t there along. absurd (cc there);
  batches_applied = λ d. tt;
}
