-- Each call of the world leaves the consumers of all leaves' workers where they follow.
use Rattle.std.proofs.Common.{◌≡◌, ℕ, ◌==◌, nat_le, List, [], ◌∷◌, ◌++◌, map, length, Bool, true, false, not, ◌||◌, All, Option, Some, None, Ok, Err, IfOk, is_some, option_map, refl, sym, ap, subst, ◌∙◌}
use Rattle.std.specs.List.{list_any, list_all}
use Rattle.std.proofs.lemmas.Bool.{and_parts, or_parts, not-false}
use Rattle.std.proofs.lemmas.List.Elements.{All-head, All-tail}
use Rattle.std.proofs.lemmas.Result.{IfOk-weaker}
use Rattle.sky_names.specs.Places.{place_of}
use Rattle.londiste_state.specs.Nodes.{Node, of_root, of_leaf, Root, Leaf, is_among, table_of, tables_of}
use Rattle.sky_model.specs.declared.stmt.NodeStmt.{NodeStmt}
use Rattle.sky_model.specs.declared.stmt.NodeStmt.TheVariants.{CreateRoot, CreateLeaf, AddTable, RemoveTable, TableState as ShowState, CopyStep, Restart, RestartTable, LondisteStep}
use Rattle.sky_model.specs.declared.reply.Reply.TheVariants.{Done}
use Rattle.sky_model.specs.declared.reply.Limit.TheVariants.{Triggers}
use Rattle.sky_model.specs.declared.reply.Refusal.TheVariants.{AlreadyInSet, NodeExists, NoNode, NoTable, NotInSet, NotProvider, SchemaDiffers, TableBusy, TableInUse, TooMany}
use Rattle.sky_model.specs.Kinds.{is_name, is_identifier, begins_name, continues_name}
use Rattle.sky_model.specs.InForm.{IsInForm, IsNodeInForm}
use Rattle.sky_model.specs.Steps.{IsCallInForm}
use Rattle.sky_model.specs.History.{queued, traced, noded, set_added, tabled, read_only, leaf_added, leaf_made, within, node_made, Past}
use Rattle.sky_model.specs.Nodes.{node}
use Rattle.sky_model.specs.Triggers.{triggers_of}
use Rattle.sky_model.specs.ShownRows.{least_writer}
use Rattle.sky_model.specs.Outcome.{Outcome, Checked, ◌>>◌, refused_if, refused_by, does_marks}
use Rattle.sky_model.specs.StepQueue.{newest_id}
use Rattle.sky_model.specs.StepConsumer.{has_dot}
use Rattle.sky_model.specs.StepNode.{set_queue, set_trigger, joins, lists, adds}
use Rattle.sky_model.specs.NodesOfWorld.{WorldOutcome, Located, node_called, done_in, leaf_of, provides, are_columns, columns_called, adds_to, first_user, shows_state}
use Rattle.sky_model.specs.WorkersOfWorld.{removes_from, node_form}
use Rattle.sky_model.specs.World.{World, world_of, history_in, on_top}
use Rattle.sky_model.specs.Calls.{Call, past_of}
use Rattle.sky_histories.proofs.Histories.{histories_are_made_by_own_calls}
use Rattle.sky_histories.proofs.NodeDeeds.{called-there}
use Rattle.sky_histories.proofs.NodeReadings.{set-number}
use Rattle.sky_model.proofs.Cases.{by_same}
use Rattle.sky_histories.proofs.InCopyTables.{found}
use Rattle.sky_histories.proofs.LawfulRows.{nothing}
use Rattle.sky_laws_replicas.proofs.NodeNames.{called-database}
use Rattle.sky_laws_synced.proofs.LeafNodes.{IsOfCalls, is-among}
use Rattle.sky_laws_synced.proofs.FollowPasts.{KeptFollow, follow-marked, follow-marks, follow-made, follow-aside}
use Rattle.sky_laws_synced.proofs.FollowStatements.{kept-steps, kept-copies, kept-restarts, kept-restart_table, kept-leaves}
use Rattle.sky_laws_synced.proofs.FollowTables.{follow-listed, follow-unlisted, follow-added, follow-leaf}
use Rattle.sky_laws_synced.proofs.ConsumersMarks.{spares-does}
use Rattle.sky_laws_replicas.proofs.SessionsMarks.{sessions-does}
use Rattle.sky_laws_replicas.proofs.EachCall.{marks_in, by-form, after-call}
use Rattle.sky_laws_replicas.proofs.UnlessRefused.{if-test, if-refused, if-found, root_marks, if-root}

-- ---- names

-- a name has no dot
continued : (b : ℕ) → continues_name b ≡ true → (b == 46) ≡ false
continued b e = by_same (λ x. x ≡ false) b 46 (λ same. absurd (cc (sym e ∙ ap continues_name same))) (λ _. refl)

begun : (b : ℕ) → begins_name b ≡ true → (b == 46) ≡ false
begun b e = by_same (λ x. x ≡ false) b 46 (λ same. absurd (cc (sym e ∙ ap begins_name same))) (λ _. refl)

rest-undotted : (bs : List ℕ) → list_all continues_name bs ≡ true → list_any (λ b. b == 46) bs ≡ false
rest-undotted [] e = refl
rest-undotted (b ∷ bs) e =
    let parts = and_parts (continues_name b) (list_all continues_name bs) e in
    λ i. continued b parts.0 i || rest-undotted bs parts.1 i

name-undotted : (name : List ℕ) → is_name name ≡ true → has_dot name ≡ false
name-undotted [] e = refl
name-undotted (b ∷ bs) e =
    let both = and_parts (nat_le (length (b ∷ bs)) 63) (is_identifier (b ∷ bs)) e in
    let parts = and_parts (begins_name b) (list_all continues_name bs) both.1 in
    λ i. begun b parts.0 i || rest-undotted bs parts.1 i

-- ---- statements on nodes

-- each database's history is that of calls
abbrev pub AllMade : Past → Type 0
AllMade past = (d : ℕ) → IsOfCalls (history_in past d)

module _ (past : Past) (kept : KeptFollow past) (made : AllMade past) where
  abbrev w : World
  w = world_of past

  abbrev KeptIfOk : Checked WorldOutcome → Type 0
  KeptIfOk c = IfOk c (λ o. KeptFollow (on_top past o.facts))

  kept-leaf : (d p queue : ℕ) (name provider : List ℕ) (c : Checked Outcome) → joins (w.database p) queue name ≡ c → ((out : Outcome) → joins (w.database p) queue name ≡ Ok out
      → KeptFollow (on_top past (map (within p) out.marks ++ within d (noded (leaf_made name provider (newest_id ((w.database p).queue queue)))) ∷ node_made d ∷ [])))
      → KeptIfOk (leaf_of d p name provider (newest_id ((w.database p).queue queue)) c)
  kept-leaf d p queue name provider (Ok out) is holds = holds out is
  kept-leaf d p queue name provider (Err refusal) is holds = tt

  kept-create_leaf : (d : ℕ) (name provider : List ℕ) → is_name name ≡ true → KeptIfOk (node_form w d (CreateLeaf name provider))
  kept-create_leaf d name provider named =
      if-test _ (is_some (node_called w name) || is_some (w.database d).node) (NodeExists name) _ (λ new.
      if-found _ (node_called w provider) (NoNode provider) _ (λ p found.
      if-found _ (set_queue (w.database p.database)) (NotProvider provider) _ (λ queue is.
      kept-leaf d p.database queue name provider (joins (w.database p.database) queue name) refl (λ out ok.
      follow-leaf past d p.database queue name provider out (nothing (node (history_in past d)) (or_parts (is_some (node_called w name)) (is_some (w.database d).node) new).1)
      (sym (called-database past provider) ∙ ap (option_map Located.database) found) (sym (set-number (w.database p.database)) ∙ is) ok (name-undotted name named) kept))))

  kept-lists : (d queue table : ℕ) (r : Root) (name : List ℕ) → node (history_in past d) ≡ Some (of_root r) → KeptIfOk (done_in d Done (lists (w.database d) queue table name))
  kept-lists d queue table r name root = of (nat_le 8 (length (triggers_of table (w.database d).triggers))) (least_writer (w.database d).part table)
    where
      of : (full : Bool) (o : Option ℕ)
          → KeptIfOk (done_in d Done (refused_if full (TooMany Triggers) >> (refused_by (option_map TableBusy o) >> does_marks Done (noded (set_added name) ∷ queued (traced table None (set_trigger queue)) ∷ []))))
      of true o = tt
      of false (Some t) = tt
      of false None = follow-listed past d r name table (set_trigger queue) root kept

  kept-joins : (d table : ℕ) (l : Leaf) (name : List ℕ) → node (history_in past d) ≡ Some (of_leaf l) → is_among name (tables_of (of_leaf l)) ≡ false → KeptIfOk (done_in d Done (adds (w.database d) table name))
  kept-joins d table l name leaf new = of (least_writer (w.database d).part table)
    where
      of : (o : Option ℕ) → KeptIfOk (done_in d Done (refused_by (option_map TableBusy o) >> does_marks Done (noded (leaf_added name) ∷ tabled (read_only table true) ∷ [])))
      of (Some t) = tt
      of None = follow-added past d l name table leaf (nothing (found name l.tables) (sym (is-among name l.tables) ∙ new)) kept

  kept-adds : (d table : ℕ) (name : List ℕ) (n : Node) → node (history_in past d) ≡ Some n → is_among name (tables_of n) ≡ false → KeptIfOk (adds_to w d table name n)
  kept-adds d table name (of_root r) there new = if-found _ (set_queue (w.database d)) (NotProvider r.name) _ (λ queue _. kept-lists d queue table r name there)
  kept-adds d table name (of_leaf l) there new =
      if-found _ (provides name (node_called w l.provider)) (NotInSet name) _ (λ p _.
      if-test _ (not (are_columns ((w.database d).part.columns table) (columns_called name (w.database p)))) (SchemaDiffers name) _ (λ _. kept-joins d table l name there new))

  kept-removes : (d table : ℕ) (name : List ℕ) (n : Node) → node (history_in past d) ≡ Some n → is_among name (tables_of n) ≡ true → KeptIfOk (removes_from w d table name n)
  kept-removes d table name (of_root r) there among =
      if-refused _ (option_map TableInUse (first_user w r.name name)) _ (λ _. follow-unlisted past d r name table there kept)
  kept-removes d table name (of_leaf l) there among = kept-leaves past kept made d l name there among

  kept-state : (name table : List ℕ) (n : Node) → KeptIfOk (shows_state name table n)
  kept-state name table (of_root r) = tt
  kept-state name table (of_leaf l) = if-found _ (table_of table l) (NotInSet table) _ (λ t _. kept)

  kept-form : (d : ℕ) (s : NodeStmt) → IsNodeInForm s → KeptIfOk (node_form w d s)
  kept-form d (CreateRoot name queue) form =
      if-root KeptFollow past d name queue (λ _ t there.
      follow-made _ d there (follow-marked past d (root_marks t name queue w.now) (λ q c set nodes. tt) (λ l is. absurd (cc is)) (λ is. absurd (cc is)) kept))
  kept-form d (CreateLeaf name provider) form = kept-create_leaf d name provider form.0
  kept-form d (AddTable name table_name) form =
      if-found _ (node_called w name) (NoNode name) _ (λ n is.
      if-found _ (place_of table_name (w.database n.database).part.tables) (NoTable table_name) _ (λ table there.
      if-test _ (is_among table_name (tables_of n.node)) (AlreadyInSet table_name) _ (λ new. kept-adds n.database table table_name n.node (called-there w name n is) new)))
  kept-form d (RemoveTable name table_name) form =
      if-found _ (node_called w name) (NoNode name) _ (λ n is.
      if-test _ (not (is_among table_name (tables_of n.node))) (NotInSet table_name) _ (λ among.
      if-found _ (place_of table_name (w.database n.database).part.tables) (NoTable table_name) _ (λ table there.
      kept-removes n.database table table_name n.node (called-there w name n is) (not-false (is_among table_name (tables_of n.node)) among))))
  kept-form d (ShowState name table) form = if-found _ (node_called w name) (NoNode name) _ (λ n _. kept-state name table n.node)
  kept-form d (CopyStep name table) form = if-found _ (node_called w name) (NoNode name) _ (λ n is. kept-copies past kept made n.database name table n.node (called-there w name n is))
  kept-form d (Restart name) form = if-found _ (node_called w name) (NoNode name) _ (λ n is. kept-restarts past kept made n.database name n.node (called-there w name n is))
  kept-form d (RestartTable name table) form = if-found _ (node_called w name) (NoNode name) _ (λ n is. kept-restart_table past kept made n.database name table n.node (called-there w name n is))
  kept-form d (LondisteStep name) form = if-found _ (node_called w name) (NoNode name) _ (λ n is. kept-steps past kept made n.database name n.node (called-there w name n is))

-- ---- all calls

follow-none : KeptFollow []
follow-none legal = record {
  all_noded = λ d there. absurd (cc there);
  leaves = λ d l is. absurd (cc is);
  apart = λ d e p l m is _ _ _ _. absurd (cc is);
  bare = λ d _. refl;
  empty = λ d name _. refl;
}

made-past : (calls : List Call) → AllMade (past_of calls)
made-past calls d = let m = histories_are_made_by_own_calls calls d in record { calls = m.own_calls; is = m.make }

pub follow-calls : (calls : List Call) → All IsCallInForm calls → KeptFollow (past_of calls)
follow-calls [] in_form = follow-none
follow-calls (call ∷ calls) in_form =
    after-call AllMade (λ _. Unit {0}) KeptFollow call calls (record {
      does = λ past d deed own _ kept. follow-marks past d (marks_in past d deed) (spares-does (history_in past d) deed own) (sessions-does (history_in past d) deed own) kept;
      nodes = λ past who s home_is this made refused kept.
          by-form (λ _. Unit {0}) KeptFollow past who s home_is
          (λ d. IfOk-weaker (node_form (world_of past) d s) _ _ (λ o follows _. follows) (kept-form past kept made d s (subst IsInForm this (All-head IsCallInForm call calls in_form).1))) refused kept;
      aside = follow-aside;
      appears = λ past name made d. made d;
    }) (made-past calls) (follow-calls calls (All-tail IsCallInForm call calls in_form)) tt
