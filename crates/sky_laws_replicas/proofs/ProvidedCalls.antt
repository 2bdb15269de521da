-- The tables of leaves are in the sets of their providers, with the same columns, whatever is called.
use Rattle.std.proofs.Common.{◌≡◌, ℕ, ◌==◌, List, [], ◌∷◌, ◌++◌, map, find, Bool, true, false, not, ◌&&◌, ◌||◌, Option, Some, None, Ok, Err, IfOk, is_some, option_map, bytes_eq, refl, sym, ap, subst, ◌∙◌, if◌then◌else◌, arith}
use Rattle.std.specs.Option.{option_and_then}
use Rattle.std.proofs.lemmas.Bool.{not-false, false_from_ne_true, eqb-true}
use Rattle.sky_names.specs.Places.{place_of}
use Rattle.sky_names.proofs.PlaceLemmas.{bytes_eq_refl}
use Rattle.sky_txid.specs.Ids.{contains}
use Rattle.londiste_state.specs.Nodes.{Node, of_root, of_leaf, Leaf, LeafTable, node_name, is_among, table_of, tables_of}
use Rattle.sky_model.specs.declared.stmt.NodeStmt.{NodeStmt}
use Rattle.sky_model.specs.declared.stmt.NodeStmt.TheVariants.{CreateRoot, CreateLeaf, AddTable, RemoveTable, TableState as ShowState, CopyStep, Restart, RestartTable, LondisteStep}
use Rattle.sky_model.specs.declared.reply.Reply.{Reply}
use Rattle.sky_model.specs.declared.reply.Reply.TheVariants.{Done}
use Rattle.sky_model.specs.declared.reply.Refusal.TheVariants.{AlreadyInSet, NodeExists, NoNode, NoTable, NotInSet, NotProvider, SchemaDiffers, TableBusy, TableInUse}
use Rattle.sky_model.specs.History.{Mark, noded, leaf_made, leaf_added, set_removed, tabled, read_only, Fact, within, node_made, in_hand, batch_in_hand, Past}
use Rattle.sky_model.specs.Hands.{copy_in}
use Rattle.sky_model.specs.Rows.{table_names, columns_of}
use Rattle.sky_model.specs.Nodes.{node, is_root, is_leaf, set_tables, leaf_tables}
use Rattle.sky_model.specs.ShownRows.{least_writer}
use Rattle.sky_model.specs.State.{Database, database_of}
use Rattle.sky_model.specs.Outcome.{Outcome, Checked, ◌>>=◌, ◌>>◌, refused_if, refused_by, found_or, does_marks, marks_of}
use Rattle.sky_model.specs.StepQueue.{newest_id}
use Rattle.sky_model.specs.StepNode.{NodeCall, joining, making_leaf, adding, unlisting, if_there, set_queue, joins, lists, adds, unlists}
use Rattle.sky_model.specs.WorkerMoves.{Move}
use Rattle.sky_model.specs.CopyMoves.{copy_move, lets_go_for}
use Rattle.sky_model.specs.ReplayMoves.{replay_move}
use Rattle.sky_model.specs.NodesOfWorld.{WorldOutcome, Located, node_called, done_in, leaf_of, create_leaf, provides, are_columns, columns_called, adds_to, uses, name_in, first_user, shows_state}
use Rattle.sky_model.specs.WorkersOfWorld.{move_facts, moves, source, source_alike, leaf_table, restarts, restarting, provider_of as providers_database, leaf_steps, parts_for, leaves_leaf, removes_from, node_form}
use Rattle.sky_model.specs.World.{World, world_of, history_in, nodes, on_top}
use Rattle.sky_model.specs.Calls.{Call, past_of}
use Rattle.sky_histories.proofs.Histories.{AllLegal}
use Rattle.sky_histories.proofs.NodeDeeds.{called-there}
use Rattle.sky_histories.proofs.StatementMarks.{EachMark, each-rest, when-true, Gives, AnyReply, after, each-map}
use Rattle.sky_histories.proofs.Good.{same-session}
use Rattle.sky_model.proofs.Cases.{by_test, ok-then}
use Rattle.sky_laws_replicas.proofs.NodeNames.{provider_of, database_among, names_in, source_of, called-database, among-there, among-named}
use Rattle.sky_laws_replicas.proofs.Keeping.{Noded, fine-within, noded-within}
use Rattle.sky_laws_replicas.proofs.Others.{legal-under}
use Rattle.sky_laws_replicas.proofs.CallPasts.{call_marks, called, after_calls, on-move}
use Rattle.sky_laws_replicas.proofs.FittingRows.{same-columns}
use Rattle.sky_laws_replicas.proofs.Sources.{root-has}
use Rattle.sky_laws_replicas.proofs.SessionsMarks.{is_sessions, sessions-does}
use Rattle.sky_laws_replicas.proofs.EachCall.{is_beside, marks_in, after-calls as each-call}
use Rattle.sky_laws_replicas.proofs.UnlessRefused.{if-test, if-refused, if-found, root_marks, if-root}
use Rattle.sky_model.specs.CallPermits.{CallMarkKinds, may_be_left, kinds_of_call}
use Rattle.sky_laws_replicas.proofs.CallMarks.{gives-call, each-does}
use Rattle.sky_laws_replicas.proofs.WorkersCalls.{is_workers, AllCalls, calls-append, Makes, WorkersIfOk, workers-replay, workers-move, workers-lets, workers-parts}
use Rattle.sky_laws_replicas.proofs.ProvidedTables.{IsOffered, TablesOffered, AllProvided, IsRootCalled, IsUnused, called-within, MarkSuits, KeptProvided, FactSuits, FactsSuit, suits-step, suits-steps}

-- ---- marks by which no leaf is made, no table joins one, and none leaves a set

abbrev is_settled : Mark → Bool
is_settled (noded (leaf_made name provider tick)) = false
is_settled (noded (leaf_added name)) = false
is_settled (noded (set_removed name)) = false
is_settled mark = true

settled-suits : (past : Past) (e : ℕ) (mark : Mark) → is_settled mark ≡ true → MarkSuits past e mark
settled-suits past e (noded (leaf_made name provider tick)) is = absurd (cc is)
settled-suits past e (noded (leaf_added name)) is = absurd (cc is)
settled-suits past e (noded (set_removed name)) is = absurd (cc is)
settled-suits past e mark is = tt

sessions-too : (mark : Mark) → is_sessions mark ≡ true → is_settled mark ≡ true
sessions-too (noded mark) is = absurd (cc is)
sessions-too mark is = refl

suit-marks : (past : Past) (e : ℕ) (marks : List Mark) → EachMark is_settled marks → FactsSuit past (map (within e) marks)
suit-marks past e [] each = tt
suit-marks past e (mark ∷ marks) each =
    (λ _ _. settled-suits past e mark (when-true (EachMark is_settled marks) (is_settled mark) each), suit-marks (within e mark ∷ past) e marks (each-rest is_settled mark marks each))

suit-append : (past : Past) (xs ys : List Fact) → FactsSuit past xs → FactsSuit (on_top past xs) ys → FactsSuit past (xs ++ ys)
suit-append past [] ys suit also = also
suit-append past (x ∷ xs) ys suit also = (suit.0, suit-append (x ∷ past) xs ys suit.1 also)

kept-marks : (past : Past) (e : ℕ) (marks : List Mark) → EachMark is_settled marks → KeptProvided past → KeptProvided (on_top past (map (within e) marks))
kept-marks past e marks each kept = suits-steps past (map (within e) marks) (suit-marks past e marks each) kept

-- ---- calls that leave such marks

abbrev Settled : Checked Outcome → Type 0
Settled c = Gives AnyReply is_settled c

-- kinds of such marks
abbrev are_settled : CallMarkKinds → Bool
are_settled k = not (k.makes_leaf || k.adds || k.unlists)

settled-if : (k : CallMarkKinds) → are_settled k ≡ true → (mark : Mark) → may_be_left k mark ≡ true → is_settled mark ≡ true
settled-if k settled (noded (leaf_made name provider tick)) e = absurd (grind (arith, settled, e))
settled-if k settled (noded (leaf_added name)) e = absurd (grind (arith, settled, e))
settled-if k settled (noded (set_removed name)) e = absurd (grind (arith, settled, e))
settled-if k settled mark e = refl

-- calls of workers leave such marks
workers-settled : (call : NodeCall) → is_workers call ≡ true → are_settled (kinds_of_call call) ≡ true
workers-settled (making_leaf name provider tick) e = absurd (cc e)
workers-settled (adding name) e = absurd (cc e)
workers-settled (unlisting name) e = absurd (cc e)
workers-settled call e = refl

kept-calls : (past : Past) (d : ℕ) (calls : List NodeCall) → AllCalls is_workers calls → KeptProvided past → KeptProvided (after_calls past d calls)
kept-calls past d [] all kept = kept
kept-calls past d (call ∷ calls) all kept =
    kept-calls (called past d call) d calls all.1
    (kept-marks past d (call_marks (history_in past d) call) (each-does is_settled call (settled-if (kinds_of_call call) (workers-settled call all.0)) (database_of (history_in past d))) kept)

-- ---- statements on nodes

-- a database of a leaf's provider
pub from-found : (past : Past) (d p : ℕ) (l : Leaf) → node (history_in past d) ≡ Some (of_leaf l) → database_among (names_in past) l.provider (nodes past) ≡ Some p → source_of past d ≡ Some p
from-found past d p l leaf found = ap (λ n. option_and_then (λ x. database_among (names_in past) x (nodes past)) (provider_of n)) leaf ∙ found

pub found-database : (past : Past) (name : List ℕ) (n : Located) → node_called (world_of past) name ≡ Some n → database_among (names_in past) name (nodes past) ≡ Some n.database
found-database past name n found = sym (called-database past name) ∙ ap (option_map Located.database) found

-- a table that a leaf's provider has, with these columns
offered : (past : Past) (d table q : ℕ) (name : List ℕ) (l : Leaf) (m : Located) → AllProvided past → contains d (nodes past) ≡ true → node (history_in past d) ≡ Some (of_leaf l)
    → place_of name (table_names (history_in past d)) ≡ Some table → node_called (world_of past) l.provider ≡ Some m → is_among name (tables_of m.node) ≡ true
    → are_columns (columns_of table (history_in past d)) (columns_called name (database_of (history_in past m.database))) ≡ true → source_of past d ≡ Some q → IsOffered past d q name
offered past d table q name l m a is_listed leaf here found has alike from = subst (λ k. IsOffered past d k name) one (of (place_of name (table_names (history_in past m.database))) refl alike)
  where
    source_is : source_of past d ≡ Some m.database
    source_is = from-found past d m.database l leaf (found-database past l.provider m found)

    one : m.database ≡ q
    one = cc (sym source_is ∙ from)

    there : node (history_in past m.database) ≡ Some m.node
    there = called-there (world_of past) l.provider m found

    c : TablesOffered past d
    c = a.leaves d (ap is_leaf leaf)

    root : is_root (Some m.node) ≡ true
    root =
        let same : c.p ≡ m.database = cc (sym c.from ∙ source_is) in
        ap is_root (sym there) ∙ ap (λ k. is_root (node (history_in past k))) (sym same) ∙ c.root

    in-set : (n : Node) → is_root (Some n) ≡ true → is_among name (tables_of n) ≡ true → is_among name (set_tables (Some n)) ≡ true
    in-set (of_root r) is among = among
    in-set (of_leaf leaf) is among = absurd (cc is)

    of : (o : Option ℕ) → place_of name (table_names (history_in past m.database)) ≡ o → are_columns (columns_of table (history_in past d)) (option_map (λ t. columns_of t (history_in past m.database)) o) ≡ true
        → IsOffered past d m.database name
    of None none same = absurd (cc same)
    of (Some number) is same = record {
      listed = is_listed;
      among = ap (λ n. is_among name (set_tables n)) there ∙ in-set m.node root has;
      source = number;
      there = is;
      table = table;
      here = here;
      columns = same-columns (columns_of table (history_in past d)) (columns_of number (history_in past m.database)) same;
    }

-- a database that no leaf uses is found by none of a list
none-found : (p : ℕ → Bool) (ds : List ℕ) (d : ℕ) → find p ds ≡ None → contains d ds ≡ true → p d ≡ false
none-found p [] d none is = absurd (cc is)
none-found p (e ∷ ds) d none is =
    by_test (λ b. p e ≡ b → (if b then Some e else find p ds) ≡ None → p d ≡ false) (p e) (λ _ _ some. absurd (cc some))
    (λ _ isnt rest. of isnt (d == e) refl (none-found p ds d rest) is) refl none
  where
    of : p e ≡ false → (b : Bool) → (d == e) ≡ b → (contains d ds ≡ true → p d ≡ false) → (b || contains d ds) ≡ true → p d ≡ false
    of isnt true same later e = ap p (eqb-true d _ same) ∙ isnt
    of isnt false same later e = later e

pub unused : (past : Past) (d : ℕ) (name : List ℕ) (root : List ℕ) → AllProvided past → names_in past d ≡ Some root → find (λ e. uses root name (node (history_in past e))) (nodes past) ≡ None → IsUnused past d name
unused past d name root a named none e from = of (node (history_in past e)) refl
  where
    of : (n : Option Node) → node (history_in past e) ≡ n → is_among name (leaf_tables (node (history_in past e))) ≡ false
    of None is = ap (λ n. is_among name (leaf_tables n)) is
    of (Some (of_root r)) is = ap (λ n. is_among name (leaf_tables n)) is
    of (Some (of_leaf l)) is = false_from_ne_true (is_among name (leaf_tables (node (history_in past e)))) (λ among.
        let c : TablesOffered past e = a.leaves e (ap is_leaf is) in
        let o : IsOffered past e c.p name = c.tables name among in
        let found : database_among (names_in past) l.provider (nodes past) ≡ Some d = sym (ap (λ n. option_and_then (λ x. database_among (names_in past) x (nodes past)) (provider_of n)) is) ∙ from in
        let same : root ≡ l.provider = cc (sym named ∙ among-named (names_in past) l.provider (nodes past) d found) in
        let is_user : uses root name (node (history_in past e)) ≡ true =
        ap (uses root name) is ∙ ap (λ x. bytes_eq x l.provider && is_among name (tables_of (of_leaf l))) same ∙ ap (λ b. b && is_among name (tables_of (of_leaf l))) (bytes_eq_refl l.provider)
        ∙ sym (ap (λ n. is_among name (leaf_tables n)) is) ∙ among in
        absurd (cc (sym is_user ∙ none-found (λ k. uses root name (node (history_in past k))) (nodes past) e none o.listed)))

-- a provider stays one
root-marks : (past : Past) (e : ℕ) (marks : List Mark) (name : List ℕ) → AllLegal (on_top past (map (within e) marks)) → Noded past → IsRootCalled past name → IsRootCalled (on_top past (map (within e) marks)) name
root-marks past e [] name legal all r = r
root-marks past e (mark ∷ marks) name legal all r =
    let fine = fine-within past e mark (legal-under (within e mark ∷ past) (map (within e) marks) legal) in
    root-marks (within e mark ∷ past) e marks name legal (noded-within past e mark fine all) (called-within past e mark name all fine r)

module _ (past : Past) (kept : KeptProvided past) where
  abbrev w : World
  w = world_of past

  abbrev KeptIfOk : Checked WorldOutcome → Type 0
  KeptIfOk c = IfOk c (λ o. KeptProvided (on_top past o.facts))

  kept-done : (d : ℕ) (reply : Reply) (c : Checked Outcome) → Settled c → KeptIfOk (done_in d reply c)
  kept-done d reply (Ok o) given = kept-marks past d o.marks given.1 kept
  kept-done d reply (Err refusal) given = tt

  kept-leaf : (d p : ℕ) (name provider : List ℕ) (tick : ℕ) (c : Checked Outcome) → Settled c → (Noded past → IsRootCalled past provider) → KeptIfOk (leaf_of d p name provider tick c)
  kept-leaf d p name provider tick (Err refusal) given root = tt
  kept-leaf d p name provider tick (Ok o) given root =
      let q : Past = on_top past (map (within p) o.marks) in
      suits-steps past (map (within p) o.marks ++ within d (noded (leaf_made name provider tick)) ∷ node_made d ∷ [])
      (suit-append past (map (within p) o.marks) (within d (noded (leaf_made name provider tick)) ∷ node_made d ∷ []) (suit-marks past p o.marks given.1) (
        λ legal _. let before = (kept (legal-under past (map (within p) o.marks) legal)).all_noded in root-marks past p o.marks provider legal before (root before),
        (ap (λ b. is_some (node (if b then noded (leaf_made name provider tick) ∷ history_in q d else history_in q d))) (same-session d), tt),
      )) kept

  kept-create_leaf : (d : ℕ) (name provider : List ℕ) → KeptIfOk (create_leaf w d name provider)
  kept-create_leaf d name provider =
      if-test _ (is_some (node_called w name) || is_some (w.database d).node) (NodeExists name) _ (λ _.
      if-found _ (node_called w provider) (NoNode provider) _ (λ p found.
      if-found _ (set_queue (w.database p.database)) (NotProvider provider) _ (λ queue is.
      kept-leaf d p.database name provider (newest_id ((w.database p.database).queue queue)) (joins (w.database p.database) queue name)
      (subst (λ o. Settled (if_there o (λ q. joins (w.database p.database) q name))) is (gives-call is_settled (joining name) (settled-if (kinds_of_call (joining name)) refl) (w.database p.database)))
      (λ _. record { p = p.database; found = found-database past provider p found; root = root-has (w.database p.database) (w.database p.database).node queue is }))))

  settled-lists : (d : Database) (queue table : ℕ) (name : List ℕ) → Settled (lists d queue table name)
  settled-lists d queue table name = search (after)

  -- the marks of a table that joins a leaf
  kept-added : (d table : ℕ) (name : List ℕ) (o : Option ℕ) → (AllProvided past → (q : ℕ) → source_of past d ≡ Some q → IsOffered past d q name)
      → KeptIfOk (done_in d Done (refused_by (option_map TableBusy o) >> does_marks Done (noded (leaf_added name) ∷ tabled (read_only table true) ∷ [])))
  kept-added d table name (Some t) offers = tt
  kept-added d table name None offers = suits-steps past (within d (noded (leaf_added name)) ∷ within d (tabled (read_only table true)) ∷ []) (λ _ a. offers a, (λ _ _. tt, tt)) kept

  kept-adds : (d table : ℕ) (name : List ℕ) (n : Node) → contains d (nodes past) ≡ true → (w.database d).node ≡ Some n → place_of name (w.database d).part.tables ≡ Some table → KeptIfOk (adds_to w d table name n)
  kept-adds d table name (of_root r) is_listed stands there =
      if-found _ (set_queue (w.database d)) (NotProvider r.name) _ (λ queue _. kept-done d Done (lists (w.database d) queue table name) (settled-lists (w.database d) queue table name))
  kept-adds d table name (of_leaf l) is_listed stands there = at (node_called w l.provider) refl
    where
      at : (o : Option Located) → node_called w l.provider ≡ o → KeptIfOk (found_or (provides name o) (NotInSet name) >>= (λ p.
          refused_if (not (are_columns ((w.database d).part.columns table) (columns_called name (w.database p)))) (SchemaDiffers name) >> done_in d Done (adds (w.database d) table name)))
      at None found = tt
      at (Some m) found =
          by_test (λ b. is_among name (tables_of m.node) ≡ b → KeptIfOk (found_or (if b then Some m.database else None) (NotInSet name) >>= (λ p.
          refused_if (not (are_columns ((w.database d).part.columns table) (columns_called name (w.database p)))) (SchemaDiffers name) >> done_in d Done (adds (w.database d) table name))))
          (is_among name (tables_of m.node))
          (λ _ has.
          if-test _ (not (are_columns ((w.database d).part.columns table) (columns_called name (w.database m.database)))) (SchemaDiffers name) _ (λ alike.
          kept-added d table name (least_writer (w.database d).part table) (λ a q from.
          offered past d table q name l m a is_listed stands there found has (not-false (are_columns ((w.database d).part.columns table) (columns_called name (w.database m.database))) alike) from)))
          (λ _ _. tt) refl

  kept-move : {H : Type 0} (p d : ℕ) (handed : Option H → Fact) (move : Move H) → Makes is_workers move → ((q : Past) → FactSuits q (handed move.hand)) → KeptProvided (on_top past (move_facts w p d handed move))
  kept-move p d handed move all suits =
      let after : Past = after_calls (after_calls past p move.provider) d move.replica in
      subst KeptProvided (sym (on-move past p d handed move))
      (suits-step after (handed move.hand) (suits after) (kept-calls (after_calls past p move.provider) d move.replica all.replica (kept-calls past p move.provider all.provider kept)))

  kept-removes : (d table : ℕ) (name : List ℕ) (n : Node) → (w.database d).node ≡ Some n → KeptIfOk (removes_from w d table name n)
  kept-removes d table name (of_root r) stands =
      if-refused _ (option_map TableInUse (first_user w r.name name)) _ (λ free.
      suits-steps past (map (within d) (marks_of (unlists table name)))
      (λ _ a. unused past d name r.name a (ap (option_map node_name) stands) (none (name_in w) (find (λ e. uses r.name name (node (history_in past e))) (nodes past)) free), (λ _ _. tt, tt)) kept)
    where
      none : (f : ℕ → List ℕ) (o : Option ℕ) → option_map TableInUse (option_map f o) ≡ None → o ≡ None
      none f None e = refl
      none f (Some e) some = absurd (cc some)
  kept-removes d table name (of_leaf l) stands = ok-then _ (source w l name) _ (λ p _.
      kept-move p d (in_hand d name) (leaves_leaf l name (w.hands d name)) (record {
        provider = calls-append is_workers (lets_go_for (copy_in (w.hands d name))) (parts_for (Some (of_leaf l)) (option_map LeafTable.state (table_of name l))) (workers-lets (copy_in (w.hands d name)))
            (workers-parts (Some (of_leaf l)) (option_map LeafTable.state (table_of name l)));
        replica = (refl, tt);
      }) (λ q. tt))

  kept-state : (name table : List ℕ) (n : Node) → KeptIfOk (shows_state name table n)
  kept-state name table (of_root r) = tt
  kept-state name table (of_leaf l) = if-found _ (table_of table l) (NotInSet table) _ (λ t _. kept)

  kept-restarts : (d : ℕ) (name : List ℕ) (n : Node) → KeptIfOk (restarts d name n)
  kept-restarts d name (of_root r) = tt
  kept-restarts d name (of_leaf l) = suits-step past (batch_in_hand d None) tt kept

  kept-moves : {H : Type 0} (p d : ℕ) (handed : Option H → Fact) (c : Checked (Move H)) → WorkersIfOk c → ((q : Past) (hand : Option H) → FactSuits q (handed hand)) → KeptIfOk (moves w p d handed c)
  kept-moves p d handed (Ok move) all suits = kept-move p d handed move all (λ q. suits q move.hand)
  kept-moves p d handed (Err refusal) all suits = tt

  kept-steps : (d : ℕ) (name : List ℕ) (n : Node) → KeptIfOk (leaf_steps w d name n)
  kept-steps d name (of_root r) = tt
  kept-steps d name (of_leaf l) =
      ok-then _ (providers_database w l) _ (λ p _.
      kept-moves p d (batch_in_hand d) (replay_move (w.database p) (w.database d) l (w.batches d)) (workers-replay (w.database p) (w.database d) l (w.batches d)) (λ q batch. tt))

  kept-form : (d : ℕ) (s : NodeStmt) → KeptIfOk (node_form w d s)
  kept-form d (CreateRoot name queue) =
      if-root KeptProvided past d name queue (λ _ t there. suits-step _ (node_made d) there (kept-marks past d (root_marks t name queue w.now) tt kept))
  kept-form d (CreateLeaf name provider) = kept-create_leaf d name provider
  kept-form d (AddTable name table_name) =
      if-found _ (node_called w name) (NoNode name) _ (λ n found.
      if-found _ (place_of table_name (w.database n.database).part.tables) (NoTable table_name) _ (λ table there.
      if-test _ (is_among table_name (tables_of n.node)) (AlreadyInSet table_name) _ (λ _.
      kept-adds n.database table table_name n.node (among-there (names_in past) name (nodes past) n.database (found-database past name n found)) (called-there w name n found) there)))
  kept-form d (RemoveTable name table_name) =
      if-found _ (node_called w name) (NoNode name) _ (λ n found.
      if-test _ (not (is_among table_name (tables_of n.node))) (NotInSet table_name) _ (λ _.
      if-found _ (place_of table_name (w.database n.database).part.tables) (NoTable table_name) _ (λ table _.
      kept-removes n.database table table_name n.node (called-there w name n found))))
  kept-form d (ShowState name table) = if-found _ (node_called w name) (NoNode name) _ (λ n _. kept-state name table n.node)
  kept-form d (CopyStep name table) =
      if-found _ (node_called w name) (NoNode name) _ (λ n _.
      ok-then _ (leaf_table name table n.node) _ (λ l _.
      ok-then _ (source_alike w n.database l table) _ (λ p _.
      kept-moves p n.database (in_hand n.database table) (copy_move (w.database p) (w.database n.database) table (w.hands n.database table))
      (workers-move (w.database p) (w.database n.database) table (w.hands n.database table)) (λ q hand. tt))))
  kept-form d (Restart name) = if-found _ (node_called w name) (NoNode name) _ (λ n _. kept-restarts n.database name n.node)
  kept-form d (RestartTable name table) =
      if-found _ (node_called w name) (NoNode name) _ (λ n _.
      ok-then _ (leaf_table name table n.node) _ (λ l _.
      ok-then _ (source w l table) _ (λ p _.
      kept-move p n.database (in_hand n.database table) (restarting table (w.hands n.database table)) (record { provider = workers-lets (copy_in (w.hands n.database table)); replica = (refl, tt) }) (λ q. tt))))
  kept-form d (LondisteStep name) = if-found _ (node_called w name) (NoNode name) _ (λ n _. kept-steps n.database name n.node)

-- ---- after all calls

kept-aside : (past : Past) (fact : Fact) → is_beside fact ≡ true → KeptProvided past → KeptProvided (fact ∷ past)
kept-aside past (within d mark) is kept = absurd (cc is)
kept-aside past (node_made d) is kept = absurd (cc is)
kept-aside past (in_hand d table hand) is kept = absurd (cc is)
kept-aside past fact is kept = suits-step past fact tt kept

pub kept-provided : (calls : List Call) → KeptProvided (past_of calls)
kept-provided =
    each-call KeptProvided (record {
      does = λ past d call own kept. kept-marks past d (marks_in past d call) (each-map is_sessions is_settled sessions-too (marks_in past d call) (sessions-does (history_in past d) call own)) kept;
      nodes = λ past d s kept. kept-form past kept d s;
      aside = kept-aside;
    }) (λ legal. record { all_noded = λ d there. absurd (cc there); leaves = λ d leaf. absurd (cc leaf) })
