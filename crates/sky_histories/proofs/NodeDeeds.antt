-- What a statement on nodes does in the world: calls for nodes in databases, one after another.
use Rattle.std.proofs.Common.{◌≡◌, ℕ, ℤ, ◌==◌, List, [], ◌∷◌, ◌++◌, Bool, true, false, not, ◌||◌, map, Option, Some, None, Ok, Err, IfOk, is_some, is_none, option_map, bytes_eq, refl, sym, ◌∙◌, ap, subst, append_assoc, if◌then◌else◌}
use Rattle.std.proofs.lemmas.Bool.{not-false, or_parts}
use Rattle.sky_names.specs.Places.{place_of}
use Rattle.londiste_state.specs.Nodes.{Node, of_root, of_leaf, Root, Leaf, node_name, table_of, tables_of, is_among}
use Rattle.sky_model.specs.Nodes.{node}
use Rattle.sky_model.specs.declared.stmt.NodeStmt.{NodeStmt}
use Rattle.sky_model.specs.declared.stmt.NodeStmt.TheVariants.{CreateRoot, CreateLeaf, AddTable, RemoveTable, TableState, CopyStep, Restart, RestartTable, LondisteStep}
use Rattle.sky_model.specs.declared.reply.Reply.{Reply}
use Rattle.sky_model.specs.declared.reply.Reply.TheVariants.{Done, Null}
use Rattle.sky_model.specs.declared.reply.Refusal.{Refusal}
use Rattle.sky_model.specs.declared.reply.Refusal.TheVariants.{AlreadyInSet, NodeExists, NoNode, NoTable, NotInSet, NotProvider, SchemaDiffers, TableInUse}
use Rattle.sky_model.specs.History.{Mark, Fact, within, noded, leaf_made, node_made, in_hand, batch_in_hand, Past}
use Rattle.sky_model.specs.State.{Database, database_of}
use Rattle.sky_model.specs.Hands.{BatchHand, Hand}
use Rattle.sky_model.specs.World.{World, world_of, history_in, after_facts, on_top}
use Rattle.sky_model.specs.Outcome.{Outcome, Checked, aborts, ◌>>=◌, ◌>>◌, refused_if, refused_by, found_or, answers, does_marks, marks_of}
use Rattle.sky_model.specs.Reader.{part_by_history, by_past, within_database, answers_with}
use Rattle.sky_model.specs.Settling.{behind_marks}
use Rattle.sky_model.specs.StepQueue.{newest_id}
use Rattle.sky_model.specs.StepNode.{makes_root, making_root, set_queue, set_queue_of, joins, lists, unlists, adds, NodeCall, joining, making_leaf, adding, listing, unlisting, if_there, table_number, may_serve, call_form, node_does, removing}
use Rattle.sky_model.specs.NodesOfWorld.{WorldOutcome, Located, if_named, node_among, node_called, done_in, root_of, create_root, leaf_of, create_leaf, provides, are_columns, columns_called, adds_to, first_user, shows_state}
use Rattle.sky_model.specs.WorkerMoves.{Move}
use Rattle.sky_model.specs.CopyMoves.{copy_move}
use Rattle.sky_model.specs.ReplayMoves.{replay_move}
use Rattle.sky_model.specs.WorkersOfWorld.{calls_facts, move_facts, moves, source, source_alike, leaf_table, restarts, restarting, provider_of, leaf_steps, leaves_leaf, removes_from, node_form}
use Rattle.sky_model.specs.Calls.{allowed_outside, fails_if, refused_in, if_allowed, world_does, node_stmt_does, switches_daemon}
use Rattle.sky_histories.proofs.LawfulRows.{nothing}
use Rattle.sky_model.proofs.Cases.{by_test, by_same}
use Rattle.sky_histories.proofs.Marks.{world_of-facts}
use Rattle.sky_histories.proofs.PastHistories.{on_top-append, history-marks}

-- what a call for a node leaves in a database
abbrev call_facts : Past → ℕ → NodeCall → List Fact
call_facts past d call = map (within d) (marks_of (node_does (database_of (history_in past d)) call))

-- facts that calls for nodes leave, one after another, and databases that get their nodes, and what workers have in hand
data Serves : Past → List Fact → Type 0 where
  none : (past : Past) → Serves past []
  last : (past : Past) (d : ℕ) (call : NodeCall) → Serves past (call_facts past d call)
  first : (past : Past) (d : ℕ) (call : NodeCall) (rest : List Fact) → Serves (on_top past (call_facts past d call)) rest → Serves past (call_facts past d call ++ rest)
  gets : (past : Past) (d : ℕ) (rest : List Fact) → Serves (node_made d ∷ past) rest → Serves past (node_made d ∷ rest)
  holds : (past : Past) (d : ℕ) (table : List ℕ) (hand : Option Hand) (rest : List Fact) → Serves (in_hand d table hand ∷ past) rest → Serves past (in_hand d table hand ∷ rest)
  takes : (past : Past) (d : ℕ) (batch : Option BatchHand) (rest : List Fact) → Serves (batch_in_hand d batch ∷ past) rest → Serves past (batch_in_hand d batch ∷ rest)

-- what each of these keeps, they keep
module _ (Q : Past → Type 0) (made : (past : Past) (d : ℕ) → Q past → Q (node_made d ∷ past))
    (handed : (past : Past) (d : ℕ) (table : List ℕ) (hand : Option Hand) → Q past → Q (in_hand d table hand ∷ past))
    (taken : (past : Past) (d : ℕ) (batch : Option BatchHand) → Q past → Q (batch_in_hand d batch ∷ past))
    (called : (past : Past) (d : ℕ) (call : NodeCall) → Q past → Q (on_top past (call_facts past d call))) where
  after-serves : (past : Past) (facts : List Fact) → Serves past facts → Q past → Q (on_top past facts)
  after-serves past _ (none _) q = q
  after-serves past _ (last _ d call) q = called past d call q
  after-serves past _ (first _ d call rest also) q =
      subst Q (sym (on_top-append past (call_facts past d call) rest)) (after-serves (on_top past (call_facts past d call)) rest also (called past d call q))
  after-serves past _ (gets _ d rest also) q = after-serves (node_made d ∷ past) rest also (made past d q)
  after-serves past _ (holds _ d table hand rest also) q = after-serves (in_hand d table hand ∷ past) rest also (handed past d table hand q)
  after-serves past _ (takes _ d batch rest also) q = after-serves (batch_in_hand d batch ∷ past) rest also (taken past d batch q)

-- ---- the node of a name

among-there : (nodes : ℕ → Option Node) (name : List ℕ) (ds : List ℕ) (n : Located) → node_among nodes name ds ≡ Some n → nodes n.database ≡ Some n.node
among-there nodes name [] n is = absurd (cc)
among-there nodes name (d ∷ ds) n is = of (nodes d) refl (among-there nodes name ds n) is
  where
    of : (o : Option Node) → nodes d ≡ o → (node_among nodes name ds ≡ Some n → nodes n.database ≡ Some n.node) → if_named name d o (node_among nodes name ds) ≡ Some n
        → nodes n.database ≡ Some n.node
    of None there later e = later e
    of (Some node) there later e =
        by_test (λ b. (if b then Some (record { database = d; node = node }) else node_among nodes name ds) ≡ Some n → nodes n.database ≡ Some n.node) (bytes_eq name (node_name node))
        (λ _ e. let one : record { database = d; node = node } ≡ n = cc in subst (λ (m : Located). nodes m.database ≡ Some m.node) one there)
        (λ _ e. later e) e

-- is the one that its database has
pub called-there : (w : World) (name : List ℕ) (n : Located) → node_called w name ≡ Some n → (w.database n.database).node ≡ Some n.node
called-there w name n is = among-there (λ d. (w.database d).node) name w.nodes n is

-- what a call does that is one for the database's node
pub is-served : (d : Database) (call : NodeCall) → may_serve call d.node ≡ true → node_does d call ≡ call_form d call
is-served d call may = ap (λ b. if b then call_form d call else answers Null) may

-- a table that isn't in a node may join it, and one that is may leave it
pub may-list : (n : Option Node) (r : Root) (table : List ℕ) → n ≡ Some (of_root r) → is_among table (tables_of (of_root r)) ≡ false → may_serve (listing table) n ≡ true
may-list n r table there new = ap (may_serve (listing table)) there ∙ ap not new

pub may-add : (n : Option Node) (l : Leaf) (table : List ℕ) → n ≡ Some (of_leaf l) → is_among table (tables_of (of_leaf l)) ≡ false → may_serve (adding table) n ≡ true
may-add n l table there new = ap (may_serve (adding table)) there ∙ ap not new

pub may-unlist : (n : Option Node) (r : Root) (table : List ℕ) → n ≡ Some (of_root r) → is_among table (tables_of (of_root r)) ≡ true → may_serve (unlisting table) n ≡ true
may-unlist n r table there among = ap (may_serve (unlisting table)) there ∙ among

pub may-remove : (n : Option Node) (l : Leaf) (table : List ℕ) → n ≡ Some (of_leaf l) → is_among table (tables_of (of_leaf l)) ≡ true → may_serve (removing table) n ≡ true
may-remove n l table there among = ap (may_serve (removing table)) there ∙ among

-- a database without a node is none of a set's queue
apart-bare : (past : Past) (d p queue : ℕ) → node (history_in past d) ≡ None → set_queue (database_of (history_in past p)) ≡ Some queue → (p == d) ≡ false
apart-bare past d p queue bare set =
    by_same (λ b. b ≡ false) p d
    (λ same. absurd (cc (sym set ∙ ap (set_queue_of (database_of (history_in past p))) (ap (λ n. node (history_in past n)) same ∙ bare)))) (λ _. refl)

-- ---- the statements

module _ (past : Past) where
  abbrev w : World
  w = world_of past

  abbrev ServesIfOk : Checked WorldOutcome → Type 0
  ServesIfOk c = IfOk c (λ o. Serves past o.facts)

  if-test : (b : Bool) (refusal : Refusal) (c : Checked WorldOutcome) → (b ≡ false → ServesIfOk c) → ServesIfOk (refused_if b refusal >> c)
  if-test true refusal c serves = tt
  if-test false refusal c serves = serves refl

  if-refused : (o : Option Refusal) (c : Checked WorldOutcome) → ServesIfOk c → ServesIfOk (refused_by o >> c)
  if-refused None c serves = serves
  if-refused (Some refusal) c serves = tt

  if-found : {A : Type 0} (o : Option A) (refusal : Refusal) (next : A → Checked WorldOutcome) → ((a : A) → o ≡ Some a → ServesIfOk (next a)) → ServesIfOk (found_or o refusal >>= next)
  if-found None refusal next serves = tt
  if-found (Some a) refusal next serves = serves a refl

  if-checked : {A : Type 0} (c : Checked A) (next : A → Checked WorldOutcome) → ((a : A) → ServesIfOk (next a)) → ServesIfOk (c >>= next)
  if-checked (Ok a) next serves = serves a
  if-checked (Err refusal) next serves = tt

  -- what a call does
  serves-does : (d : ℕ) (reply : Reply) (call : NodeCall) → ServesIfOk (done_in d reply (node_does (database_of (history_in past d)) call))
  serves-does d reply call = of (node_does (database_of (history_in past d)) call) refl
    where
      of : (x : Checked Outcome) → node_does (database_of (history_in past d)) call ≡ x → ServesIfOk (done_in d reply x)
      of (Ok outcome) is = subst (λ x. Serves past (map (within d) (marks_of x))) is (last past d call)
      of (Err refusal) is = tt

  -- what is done in a database is what a call does there, if it is one for the database's node
  serves-done : (d : ℕ) (reply : Reply) (c : Checked Outcome) (call : NodeCall) → may_serve call (node (history_in past d)) ≡ true → c ≡ call_form (database_of (history_in past d)) call
      → ServesIfOk (done_in d reply c)
  serves-done d reply c call may same = subst (λ x. ServesIfOk (done_in d reply x)) (is-served (database_of (history_in past d)) call may ∙ sym same) (serves-does d reply call)

  -- a database without a node gets a leaf
  serves-made : (q : Past) (d : ℕ) (name provider : List ℕ) (tick : ℕ) → node (history_in q d) ≡ None → Serves q (within d (noded (leaf_made name provider tick)) ∷ node_made d ∷ [])
  serves-made q d name provider tick bare =
      subst (λ marks. Serves q (map (within d) marks ++ node_made d ∷ []))
      (ap (λ n. marks_of (if is_none n then does_marks Done (noded (leaf_made name provider tick) ∷ []) else answers Null)) bare)
      (first q d (making_leaf name provider tick) (node_made d ∷ []) (gets _ d [] (none _)))

  -- or a root
  serves-root : (d : ℕ) (name queue : List ℕ) (now : ℤ) (c : Checked Outcome) → c ≡ node_does (database_of (history_in past d)) (making_root name queue now) → ServesIfOk (root_of d c)
  serves-root d name queue now (Err refusal) same = tt
  serves-root d name queue now (Ok making) same =
      subst (λ x. Serves past (map (within d) (marks_of x) ++ node_made d ∷ [])) (sym same) (first past d (making_root name queue now) (node_made d ∷ []) (gets _ d [] (none _)))

  serves-create_root : (d : ℕ) (name queue : List ℕ) → ServesIfOk (create_root w d name queue)
  serves-create_root d name queue =
      if-test (is_some (node_called w name) || is_some (w.database d).node) (NodeExists name) _ (λ new.
      let bare : node (history_in past d) ≡ None = nothing (node (history_in past d)) (or_parts (is_some (node_called w name)) (is_some (w.database d).node) new).1 in
      serves-root d name queue w.now (makes_root (w.database d) w.now name queue)
      (sym (ap (λ n. if is_none n then makes_root (w.database d) w.now name queue else answers Null) bare)))

  serves-leaf : (d p : ℕ) (name provider : List ℕ) (tick queue : ℕ) (c : Checked Outcome) → c ≡ node_does (database_of (history_in past p)) (joining name) → node (history_in past d) ≡ None
      → (p == d) ≡ false → ServesIfOk (leaf_of d p name provider tick c)
  serves-leaf d p name provider tick queue (Err refusal) same bare other = tt
  serves-leaf d p name provider tick queue (Ok joined) same bare other =
      let marks : List Mark = marks_of (node_does (database_of (history_in past p)) (joining name)) in
      subst (λ x. Serves past (map (within p) (marks_of x) ++ within d (noded (leaf_made name provider tick)) ∷ node_made d ∷ [])) (sym same)
      (first past p (joining name) (within d (noded (leaf_made name provider tick)) ∷ node_made d ∷ [])
      (serves-made (on_top past (call_facts past p (joining name))) d name provider tick
      (ap node (history-marks past p marks d ∙ ap (λ b. if b then behind_marks part_by_history (history_in past d) marks else history_in past d) other) ∙ bare)))

  serves-create_leaf : (d : ℕ) (name provider : List ℕ) → ServesIfOk (create_leaf w d name provider)
  serves-create_leaf d name provider =
      if-test (is_some (node_called w name) || is_some (w.database d).node) (NodeExists name) _ (λ new.
      if-found (node_called w provider) (NoNode provider) _ (λ p _.
      if-found (set_queue (w.database p.database)) (NotProvider provider) _ (λ queue is.
      let bare : node (history_in past d) ≡ None = nothing (node (history_in past d)) (or_parts (is_some (node_called w name)) (is_some (w.database d).node) new).1 in
      serves-leaf d p.database name provider (newest_id ((w.database p.database).queue queue)) queue (joins (w.database p.database) queue name)
      (sym (ap (λ o. if_there o (λ q. joins (w.database p.database) q name)) is)) bare (apart-bare past d p.database queue bare is))))

  -- ---- moves of workers

  serves-calls : (q : Past) (d : ℕ) (calls : List NodeCall) (rest : List Fact) → Serves (on_top q (calls_facts (world_of q) d calls)) rest → Serves q (calls_facts (world_of q) d calls ++ rest)
  serves-calls q d [] rest also = also
  serves-calls q d (call ∷ calls) rest also =
      subst (λ x. Serves q ((front ++ calls_facts x d calls) ++ rest)) (world_of-facts q front)
      (subst (Serves q) (sym (append_assoc front back rest))
      (first q d call (back ++ rest) (serves-calls (on_top q front) d calls rest
      (subst (λ p. Serves p rest) (on_top-append q front back)
      (subst (λ x. Serves (on_top q (front ++ calls_facts x d calls)) rest) (sym (world_of-facts q front)) also)))))
    where
      front : List Fact
      front = call_facts q d call

      back : List Fact
      back = calls_facts (world_of (on_top q front)) d calls

  serves-move : {H : Type 0} (q : Past) (p d : ℕ) (handed : Option H → Fact) (move : Move H) → ((r : Past) → Serves r (handed move.hand ∷ [])) → Serves q (move_facts (world_of q) p d handed move)
  serves-move q p d handed move held =
      serves-calls q p move.provider (calls_facts (after_facts (world_of q) there) d move.replica ++ handed move.hand ∷ [])
      (subst (λ x. Serves (on_top q there) (calls_facts x d move.replica ++ handed move.hand ∷ [])) (world_of-facts q there)
      (serves-calls (on_top q there) d move.replica (handed move.hand ∷ []) (held (on_top (on_top q there) (calls_facts (world_of (on_top q there)) d move.replica)))))
    where
      there : List Fact
      there = calls_facts (world_of q) p move.provider

  serves-moves : {H : Type 0} (p d : ℕ) (handed : Option H → Fact) (c : Checked (Move H)) → ((r : Past) (hand : Option H) → Serves r (handed hand ∷ [])) → ServesIfOk (moves w p d handed c)
  serves-moves p d handed (Ok move) held = serves-move past p d handed move (λ r. held r move.hand)
  serves-moves p d handed (Err refusal) held = tt

  -- what a table's worker has in hand, or a leaf's, comes last
  in-hand : (d : ℕ) (table : List ℕ) (r : Past) (hand : Option Hand) → Serves r (in_hand d table hand ∷ [])
  in-hand d table r hand = holds r d table hand [] (none _)

  batch-in-hand : (d : ℕ) (r : Past) (batch : Option BatchHand) → Serves r (batch_in_hand d batch ∷ [])
  batch-in-hand d r batch = takes r d batch [] (none _)

  serves-restarts : (d : ℕ) (name : List ℕ) (n : Node) → ServesIfOk (restarts d name n)
  serves-restarts d name (of_root r) = tt
  serves-restarts d name (of_leaf l) = batch-in-hand d past None

  serves-steps : (d : ℕ) (name : List ℕ) (n : Node) → ServesIfOk (leaf_steps w d name n)
  serves-steps d name (of_root r) = tt
  serves-steps d name (of_leaf l) =
      if-checked (provider_of w l) _ (λ p. serves-moves p d (batch_in_hand d) (replay_move (w.database p) (w.database d) l (w.batches d)) (batch-in-hand d))

  -- ---- each of them

  serves-adds : (d table : ℕ) (name : List ℕ) (n : Node) → (w.database d).node ≡ Some n → is_among name (tables_of n) ≡ false → place_of name (w.database d).part.tables ≡ Some table
      → ServesIfOk (adds_to w d table name n)
  serves-adds d table name (of_root r) stands new there =
      if-found (set_queue (w.database d)) (NotProvider r.name) _ (λ queue is.
      serves-done d Done (lists (w.database d) queue table name) (listing name) (may-list (node (history_in past d)) r name stands new)
      (sym (ap (λ o. if_there o (λ q. if_there (table_number (w.database d) name) (λ t. lists (w.database d) q t name))) is
      ∙ ap (λ o. if_there o (λ t. lists (w.database d) queue t name)) there)))
  serves-adds d table name (of_leaf l) stands new there =
      if-found (provides name (node_called w l.provider)) (NotInSet name) _ (λ p _.
      if-test (not (are_columns ((w.database d).part.columns table) (columns_called name (w.database p)))) (SchemaDiffers name) _ (λ _.
      serves-done d Done (adds (w.database d) table name) (adding name) (may-add (node (history_in past d)) l name stands new)
      (sym (ap (λ o. if_there o (λ t. adds (w.database d) t name)) there))))

  serves-removes : (d table : ℕ) (name : List ℕ) (n : Node) → (w.database d).node ≡ Some n → is_among name (tables_of n) ≡ true → place_of name (w.database d).part.tables ≡ Some table
      → ServesIfOk (removes_from w d table name n)
  serves-removes d table name (of_root r) stands among there =
      if-refused (option_map TableInUse (first_user w r.name name)) _
      (serves-done d Done (unlists table name) (unlisting name) (may-unlist (node (history_in past d)) r name stands among) (sym (ap (λ o. if_there o (λ t. unlists t name)) there)))
  serves-removes d table name (of_leaf l) stands among there = if-checked (source w l name) _ (λ p. serves-move past p d (in_hand d name) (leaves_leaf l name (w.hands d name)) (λ r. in-hand d name r None))

  serves-state : (name table : List ℕ) (n : Node) → ServesIfOk (shows_state name table n)
  serves-state name table (of_root r) = tt
  serves-state name table (of_leaf l) = if-found (table_of table l) (NotInSet table) _ (λ t _. none past)

  serves-form : (d : ℕ) (s : NodeStmt) → ServesIfOk (node_form w d s)
  serves-form d (CreateRoot name queue) = serves-create_root d name queue
  serves-form d (CreateLeaf name provider) = serves-create_leaf d name provider
  serves-form d (AddTable name table_name) =
      if-found (node_called w name) (NoNode name) _ (λ n found.
      if-found (place_of table_name (w.database n.database).part.tables) (NoTable table_name) _ (λ table there.
      if-test (is_among table_name (tables_of n.node)) (AlreadyInSet table_name) _ (λ new.
      serves-adds n.database table table_name n.node (called-there w name n found) new there)))
  serves-form d (RemoveTable name table_name) =
      if-found (node_called w name) (NoNode name) _ (λ n found.
      if-test (not (is_among table_name (tables_of n.node))) (NotInSet table_name) _ (λ among.
      if-found (place_of table_name (w.database n.database).part.tables) (NoTable table_name) _ (λ table there.
      serves-removes n.database table table_name n.node (called-there w name n found) (not-false (is_among table_name (tables_of n.node)) among) there)))
  serves-form d (TableState name table) = if-found (node_called w name) (NoNode name) _ (λ n _. serves-state name table n.node)
  serves-form d (CopyStep name table) =
      if-found (node_called w name) (NoNode name) _ (λ n _.
      if-checked (leaf_table name table n.node) _ (λ l.
      if-checked (source_alike w n.database l table) _ (λ p.
      serves-moves p n.database (in_hand n.database table) (copy_move (w.database p) (w.database n.database) table (w.hands n.database table)) (in-hand n.database table))))
  serves-form d (Restart name) = if-found (node_called w name) (NoNode name) _ (λ n _. serves-restarts n.database name n.node)
  serves-form d (RestartTable name table) =
      if-found (node_called w name) (NoNode name) _ (λ n _.
      if-checked (leaf_table name table n.node) _ (λ l.
      if-checked (source w l table) _ (λ p.
      serves-move past p n.database (in_hand n.database table) (restarting table (w.hands n.database table)) (λ r. in-hand n.database table r None))))
  serves-form d (LondisteStep name) = if-found (node_called w name) (NoNode name) _ (λ n _. serves-steps n.database name n.node)

-- what each of these keeps, a statement on nodes keeps, if its refusal in its session's database does
pub after-node_does : (Q : Past → Type 0) → ((past : Past) (d : ℕ) → Q past → Q (node_made d ∷ past))
    → ((past : Past) (d : ℕ) (table : List ℕ) (hand : Option Hand) → Q past → Q (in_hand d table hand ∷ past))
    → ((past : Past) (d : ℕ) (batch : Option BatchHand) → Q past → Q (batch_in_hand d batch ∷ past))
    → ((past : Past) (d : ℕ) (call : NodeCall) → Q past → Q (on_top past (map (within d) (marks_of (node_does (database_of (history_in past d)) call)))))
    → (past : Past) (who : ℕ) (s : NodeStmt) (home : Option ℕ)
    → ((d : ℕ) (refusal : Refusal) → Q (on_top past (refused_in by_past past who d refusal).facts))
    → Q past → Q (on_top past (node_stmt_does by_past past who s home).facts)
after-node_does Q made handed taken called past who s None refused q = q
after-node_does Q made handed taken called past who s (Some d) refused q = of (allowed_outside ((world_of past).database d) who)
  where
    does : (c : Checked WorldOutcome) → IfOk c (λ o. Serves past o.facts) → Q (on_top past (world_does who c).facts)
    does (Ok o) serves = after-serves Q made handed taken called past o.facts serves q
    does (Err refusal) serves = q

    of : (may : Checked (Unit {0})) → Q (on_top past (if_allowed by_past past who d may (world_does who (node_form (world_of past) d s))).facts)
    of (Ok _) = does (node_form (world_of past) d s) (serves-form past d s)
    of (Err refusal) = refused d refusal

-- what a session's failure in a database keeps, a refusal there keeps
pub after-refused : (Q : Past → Type 0) (past : Past) (who d : ℕ) (refusal : Refusal) → Q past
    → Q (on_top past (map (within d) (fails_if (within_database by_past d) past (world_of past).now who true).marks)) → Q (on_top past (refused_in by_past past who d refusal).facts)
after-refused Q past who d refusal q failed =
    subst Q (sym (on_top-append past (map (within d) (fails_if (within_database by_past d) past (world_of past).now who (aborts refusal)).marks) [])) (of (aborts refusal))
  where
    of : (b : Bool) → Q (on_top past (map (within d) (fails_if (within_database by_past d) past (world_of past).now who b).marks))
    of true = failed
    of false = q

-- what switching a daemon keeps, and a refusal, the statement on the daemon keeps
pub after-switches : (Q : Past → Type 0) (past : Past) (who : ℕ) (facts : ℕ → List Fact) (home : Option ℕ)
    → ((d : ℕ) → Q (on_top past (facts d))) → ((d : ℕ) (refusal : Refusal) → Q (on_top past (refused_in by_past past who d refusal).facts))
    → Q past → Q (on_top past (switches_daemon by_past past who facts home).facts)
after-switches Q past who facts None switched refused q = q
after-switches Q past who facts (Some d) switched refused q = of (allowed_outside ((world_of past).database d) who)
  where
    of : (may : Checked (Unit {0})) → Q (on_top past (if_allowed by_past past who d may (answers_with who Done (facts d))).facts)
    of (Ok _) = switched d
    of (Err refusal) = refused d refusal
