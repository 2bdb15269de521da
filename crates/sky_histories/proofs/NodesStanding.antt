-- After calls each table of a set has the set's trigger, and the tables of a leaf are read-only; no other table has one, or is.
use Rattle.std.proofs.Common.{◌≡◌, ℕ, ℤ, Bool, true, false, not, ◌||◌, ◌&&◌, ◌==◌, nat_le, List, [], ◌∷◌, ◌++◌, Option, Some, None, Ok, Err, is_none, is_some, option_map, filter, length, refl, sym, ◌∙◌, ap, arith, if◌then◌else◌}
use Rattle.std.proofs.lemmas.Bool.{and_parts}
use Rattle.std.proofs.lemmas.Bool.Decides.{nat_tests}
use Rattle.londiste_state.specs.declared.state.TableState.{TableState}
use Rattle.londiste_state.specs.Nodes.{Node, of_root, of_leaf, is_among}
use Rattle.sky_keys.specs.Waits.{is_waiting}
use Rattle.sky_names.specs.Places.{place_of}
use Rattle.sky_model.specs.declared.stmt.DbStmt.{DbStmt}
use Rattle.sky_model.specs.declared.reply.Limit.TheVariants.{Triggers}
use Rattle.sky_model.specs.declared.reply.Refusal.TheVariants.{TableBusy, TooMany}
use Rattle.sky_model.specs.declared.reply.Reply.TheVariants.{Done, Null}
use Rattle.sky_model.specs.History.{Mark, QueueMark, NodeMark, sight_taken, tabled, read_only, queued, traced, untraced, noded, root_made, set_added, set_removed, leaf_made, leaf_added, leaf_removed, state_set, History, of_copy, ended, restarted}
use Rattle.sky_model.specs.Sessions.{Session, has_open, block, own_txid, session}
use Rattle.sky_model.specs.Rows.{table_names, is_read_only}
use Rattle.sky_model.specs.Locks.{waiting}
use Rattle.sky_model.specs.Queues.{queues_made, queues}
use Rattle.sky_model.specs.Triggers.{TableTrigger, is_sets, but_sets, triggers, triggers_of}
use Rattle.sky_model.specs.Nodes.{after_node, node, is_root, is_leaf, set_tables, leaf_tables}
use Rattle.sky_model.specs.State.{Database, part_of, database_of}
use Rattle.sky_model.specs.ShownRows.{least_writer}
use Rattle.sky_model.specs.Outcome.{Checked, Outcome, ◌>>◌, refused_if, refused_by, answers, does_marks, marks_of}
use Rattle.sky_model.specs.Allowed.{where_of, allowed}
use Rattle.sky_model.specs.Made.{takes_sight}
use Rattle.sky_model.specs.Printed.{ReplyHasMoments}
use Rattle.sky_model.specs.StepNode.{set_queue, set_trigger, lists, adds, moves_table, NodeCall, makes_root, making_root, making_leaf, adding, removing, moving, listing, unlisting, if_there, may_serve, call_form, node_does, beginning_copy, copying_rows, ending_copy, giving_up_copy, applying, holding, letting_go}
use Rattle.sky_model.specs.Reader.{Shown, shown_in, database_by_history, within_part}
use Rattle.sky_model.specs.Settling.{Turn, turn_of, behind_marks, marked, settling, with_settling}
use Rattle.sky_model.specs.Calls.{form, making, statement}
use Rattle.sky_model.specs.Permits.{MarkKinds, of_any, of_resumed, may_leave, permit_of}
use Rattle.sky_model.specs.SessionMarks.{look_of, entry_place, enters, failing}
use Rattle.sky_model.specs.DatabaseCalls.{DatabaseCall, stepped, entered, failed, worked, served, database_does}
use Rattle.sky_model.specs.LawsOfNodes.{is_at, is_one_of, triggers_into}
use Rattle.sky_histories.proofs.Legal.{queue_of_set, NodeFits, Fine, makes_table, makes, drops, traces, untraces, guards, nodes, Chain, done, more, Legal, next}
use Rattle.sky_histories.proofs.NodeReadings.{set-number, IsSameNode, same-node, HasSameTables, same-tables, set-listed, set-unlisted, leaf-added, leaf-removed, leaf-other, set-other}
use Rattle.sky_histories.proofs.SetQueues.{set-made, set-dropped}
use Rattle.sky_histories.proofs.NodeTables.{one-push, one-less, one-apart, one-kept, has-queue, HaveTables, have-tables}
use Rattle.sky_histories.proofs.NodeCalls.{is_for_consumers, gives-consumers}
use Rattle.sky_histories.proofs.StatementMarks.{when-true, EachMark, each-map, each-append, each-rest, each-given, Gives, AnyReply, gives-map, gives-tells, is_common, is_told, gives-form, each-failure, given-runs, settling-gives, after, checked}
use Rattle.sky_histories.proofs.DaemonTurns.{each-daemon_does}
use Rattle.sky_model.proofs.Cases.{by_test, by_same}
use Rattle.sky_model.specs.Copies.{copies, copy_txid}
use Rattle.sky_model.specs.StepCopy.{given_up}
use Rattle.sky_model.specs.StepApply.{applies_batch}
use Rattle.sky_histories.proofs.CopyCalls.{is_for_copies, is_copies, gives-copies}
use Rattle.sky_histories.proofs.ApplyCalls.{is_for_applying, gives-applies}

-- the triggers without a name that a table has, by the database's node
abbrev sets_on : History → ℕ → List TableTrigger
sets_on h n = if is_one_of (table_names h) (set_tables (node h)) n then triggers_into n (queue_of_set (queues h) (node h)) else []

-- it is a leaf's database in which tables become read-only, or may be written again
abbrev pub OnLeaves : History → Type 0
OnLeaves [] = Unit {0}
OnLeaves (tabled (read_only table on) ∷ h) = (is_leaf (node h) ≡ true) × OnLeaves h
OnLeaves (_ ∷ h) = OnLeaves h

pub record NodeStands (h : History) : Type 0 where
  pub tracing : (n : ℕ) → filter (is_sets n) (triggers h) ≡ sets_on h n
  pub guarding : (n : ℕ) → is_read_only n h ≡ is_one_of (table_names h) (leaf_tables (node h)) n
  pub on_leaves : OnLeaves h

-- ---- a mark that comes alone

-- whether a mark isn't one of the two by which a table joins a set or a leaf, or leaves it
abbrev pub is_single : Mark → Bool
is_single (noded (set_added table)) = false
is_single (noded (set_removed table)) = false
is_single (noded (leaf_added table)) = false
is_single (noded (leaf_removed table)) = false
is_single (queued (traced table name trigger)) = is_some name
is_single (queued (untraced table)) = false
is_single (tabled (read_only table on)) = false
is_single _ = true

-- a list with one more
filter-skips : {A : Type 0} (p : A → Bool) (xs : List A) (x : A) → p x ≡ false → filter p (xs ++ x ∷ []) ≡ filter p xs
filter-skips p [] x isnt = ap (λ b. if b then x ∷ [] else []) isnt
filter-skips p (y ∷ ys) x isnt =
    by_test (λ b. (if b then y ∷ filter p (ys ++ x ∷ []) else filter p (ys ++ x ∷ [])) ≡ (if b then y ∷ filter p ys else filter p ys)) (p y)
    (λ _. ap (λ zs. y ∷ zs) (filter-skips p ys x isnt)) (λ _. filter-skips p ys x isnt)

filter-takes : {A : Type 0} (p : A → Bool) (xs : List A) (x : A) → p x ≡ true → filter p (xs ++ x ∷ []) ≡ filter p xs ++ x ∷ []
filter-takes p [] x is = ap (λ b. if b then x ∷ [] else []) is
filter-takes p (y ∷ ys) x is =
    by_test (λ b. (if b then y ∷ filter p (ys ++ x ∷ []) else filter p (ys ++ x ∷ [])) ≡ (if b then y ∷ filter p ys else filter p ys) ++ x ∷ []) (p y)
    (λ _. ap (λ zs. y ∷ zs) (filter-takes p ys x is)) (λ _. filter-takes p ys x is)

stands-noded : (h : History) → (mark : NodeMark) → NodeFits h mark → is_single (noded mark) ≡ true → NodeStands h → NodeStands (noded mark ∷ h)
stands-noded h (root_made name queue) fits e s = record {
  tracing = λ n. s.tracing n ∙ ap (λ m. if is_one_of (table_names h) (set_tables m) n then triggers_into n (queue_of_set (queues h) m) else []) fits.0;
  guarding = λ n. s.guarding n ∙ ap (λ m. is_one_of (table_names h) (leaf_tables m) n) fits.0;
  on_leaves = s.on_leaves;
}
stands-noded h (leaf_made name provider tick) fits e s = record {
  tracing = λ n. s.tracing n ∙ ap (λ m. if is_one_of (table_names h) (set_tables m) n then triggers_into n (queue_of_set (queues h) m) else []) fits.0;
  guarding = λ n. s.guarding n ∙ ap (λ m. is_one_of (table_names h) (leaf_tables m) n) fits.0;
  on_leaves = s.on_leaves;
}
stands-noded h (set_added table) fits e s = absurd (cc)
stands-noded h (set_removed table) fits e s = absurd (cc)
stands-noded h (leaf_added table) fits e s = absurd (cc)
stands-noded h (leaf_removed table) fits e s = absurd (cc)
stands-noded h mark fits e s =
    let same : IsSameNode (node h) (after_node mark (node h)) = same-node mark refl (node h) in
    let tables : HasSameTables (node h) (after_node mark (node h)) = same-tables mark refl (node h) in
    record {
      tracing = λ n. s.tracing n ∙ sym (λ i. if is_one_of (table_names h) (tables.set i) n then triggers_into n (same.set (queues h) i) else []);
      guarding = λ n. s.guarding n ∙ sym (ap (λ names. is_one_of (table_names h) names n) tables.leaf);
      on_leaves = s.on_leaves;
    }

stands-mark : (h : History) → Legal h → (mark : Mark) → Fine h mark → is_single mark ≡ true → NodeStands h → NodeStands (mark ∷ h)
stands-mark h l _ (nodes mark fits) e s = stands-noded h mark fits e s
stands-mark h l _ (makes name t time new) e s = record {
  tracing = λ n. s.tracing n
      ∙ sym (ap (λ o. if is_one_of (table_names h) (set_tables (node h)) n then triggers_into n o else []) (set-made (queues h) (record { number = queues_made h; name = name }) (node h) (has-queue h l)));
  guarding = s.guarding;
  on_leaves = s.on_leaves;
}
stands-mark h l _ (drops p none untold idle aside) e s = record {
  tracing = λ n. s.tracing n
      ∙ sym (ap (λ o. if is_one_of (table_names h) (set_tables (node h)) n then triggers_into n o else []) (set-dropped (queues h) p (node h) (has-queue h l) aside));
  guarding = s.guarding;
  on_leaves = s.on_leaves;
}
stands-mark h l _ (traces table None trigger below is may) e s = absurd (cc)
stands-mark h l _ (traces table (Some name) trigger below is may) e s = record {
  tracing = λ n. filter-skips (is_sets n) (triggers h) (record { table = table; name = Some name; trigger = trigger }) (named (table == n)) ∙ s.tracing n;
  guarding = s.guarding;
  on_leaves = s.on_leaves;
}
  where
    named : (b : Bool) → (b && false) ≡ false
    named true = refl
    named false = refl
stands-mark h l _ (untraces table last) e s = absurd (cc)
stands-mark h l _ (guards table on may) e s = absurd (cc)
stands-mark h l _ (makes_table name columns new) e s =
    let have : HaveTables (table_names h) (node h) = have-tables h l in
    record {
      tracing = λ n. s.tracing n
          ∙ sym (ap (λ b. if b then triggers_into n (queue_of_set (queues h) (node h)) else []) (one-kept (table_names h) (set_tables (node h)) name have.set n));
      guarding = λ n. s.guarding n ∙ sym (one-kept (table_names h) (leaf_tables (node h)) name have.leaf n);
      on_leaves = s.on_leaves;
    }
stands-mark h l _ _ e s = record { tracing = s.tracing; guarding = s.guarding; on_leaves = s.on_leaves }

stands-marks : (h : History) (marks : List Mark) → Legal h → Chain h marks → EachMark is_single marks → NodeStands h → NodeStands (marked h marks)
stands-marks h [] l done all s = s
stands-marks h (mark ∷ marks) l (more fine chain) all s =
    stands-marks (mark ∷ h) marks (next l fine) chain (each-rest is_single mark marks all)
    (stands-mark h l mark fine (when-true (EachMark is_single marks) (is_single mark) all) s)

-- ---- the two marks of a table that joins or leaves

module _ (h : History) (s : NodeStands h) (name : List ℕ) (table : ℕ) (there : place_of name (table_names h) ≡ Some table) where
  -- without those of a set on a table, none of it is left, and all of the others are
  cut-own : (n : ℕ) (ts : List TableTrigger) → filter (is_sets n) (but_sets n ts) ≡ []
  cut-own n [] = refl
  cut-own n (t ∷ ts) =
      by_test (λ b. is_sets n t ≡ b → filter (is_sets n) (if not b then t ∷ but_sets n ts else but_sets n ts) ≡ []) (is_sets n t) (λ _ _. cut-own n ts)
      (λ _ isnt. ap (λ b. if b then t ∷ filter (is_sets n) (but_sets n ts) else filter (is_sets n) (but_sets n ts)) isnt ∙ cut-own n ts) refl

  cut-other : (m n : ℕ) → (m == n) ≡ false → (ts : List TableTrigger) → filter (is_sets n) (but_sets m ts) ≡ filter (is_sets n) ts
  cut-other m n other [] = refl
  cut-other m n other (t ∷ ts) =
      by_test (λ b. is_sets m t ≡ b → filter (is_sets n) (if not b then t ∷ but_sets m ts else but_sets m ts) ≡ filter (is_sets n) (t ∷ ts)) (is_sets m t)
      (λ _ is.
      let apart : is_sets n t ≡ false = not_both t is in
      cut-other m n other ts ∙ sym (ap (λ b. if b then t ∷ filter (is_sets n) ts else filter (is_sets n) ts) apart))
      (λ _ isnt. ap (λ zs. if is_sets n t then t ∷ zs else zs) (cut-other m n other ts)) refl
    where
      not_both : (t : TableTrigger) → is_sets m t ≡ true → is_sets n t ≡ false
      not_both t is =
          let at : (t.table == m) ≡ true = (and_parts (t.table == m) (is_none t.name) is).0 in
          let apart : (t.table == n) ≡ false = grind (arith, nat_tests) in
          ap (λ b. b && is_none t.name) apart

  pub stands-listed : (q : ℕ) → may_serve (listing name) (node h) ≡ true → queue_of_set (queues h) (node h) ≡ Some q → NodeStands (queued (traced table None (set_trigger q)) ∷ noded (set_added name) ∷ h)
  stands-listed q may set = record {
    tracing = λ n. by_same (λ b. (table == n) ≡ b → filter (is_sets n) (triggers h ++ own ∷ []) ≡ (if is_one_of (table_names h) (set_tables (node h)) n || b then triggers_into n (Some q) else [])) table n
        (λ same is. joins n same is) (λ other _. others n other) refl ∙ sym (now n);
    guarding = λ n. s.guarding n ∙ sym (ap (λ names. is_one_of (table_names h) names n) (leaf-other _ (node h)));
    on_leaves = s.on_leaves;
  }
    where
      own : TableTrigger
      own = record { table = table; name = None; trigger = set_trigger q }

      parts : (is_root (node h) ≡ true) × (not (is_among name (set_tables (node h))) ≡ true)
      parts = and_parts (is_root (node h)) (not (is_among name (set_tables (node h)))) may

      fresh : is_among name (set_tables (node h)) ≡ false
      fresh = of (is_among name (set_tables (node h))) parts.1
        where
          of : (b : Bool) → not b ≡ true → b ≡ false
          of true e = absurd (cc)
          of false e = refl

      was : (n : ℕ) → filter (is_sets n) (triggers h) ≡ (if is_one_of (table_names h) (set_tables (node h)) n then triggers_into n (Some q) else [])
      was n = s.tracing n ∙ ap (λ o. if is_one_of (table_names h) (set_tables (node h)) n then triggers_into n o else []) set

      now : (n : ℕ) → sets_on (queued (traced table None (set_trigger q)) ∷ noded (set_added name) ∷ h) n
          ≡ (if is_one_of (table_names h) (set_tables (node h)) n || (table == n) then triggers_into n (Some q) else [])
      now n = λ i.
          if (ap (λ names. is_one_of (table_names h) names n) (set-listed (node h) name parts.0) ∙ one-push (table_names h) (set_tables (node h)) name n
          ∙ ap (λ o. is_one_of (table_names h) (set_tables (node h)) n || is_at n o) there) i
          then triggers_into n (((same-node (set_added name) refl (node h)).set (queues h) ∙ set) i) else []

      -- it had no trigger of the set
      joins : (n : ℕ) → table ≡ n → (table == n) ≡ true → filter (is_sets n) (triggers h ++ own ∷ []) ≡ (if is_one_of (table_names h) (set_tables (node h)) n || true then triggers_into n (Some q) else [])
      joins n same is =
          let none : is_one_of (table_names h) (set_tables (node h)) n ≡ false = ap (is_one_of (table_names h) (set_tables (node h))) (sym same) ∙ one-apart (table_names h) (set_tables (node h)) name table there fresh in
          filter-takes (is_sets n) (triggers h) own (ap (λ b. b && true) is)
          ∙ ap (λ ts. ts ++ own ∷ []) (was n ∙ ap (λ b. if b then triggers_into n (Some q) else []) none)
          ∙ ap (λ k. record { table = k; name = None; trigger = set_trigger q } ∷ []) same
          ∙ sym (ap (λ b. if b || true then triggers_into n (Some q) else []) none)

      others : (n : ℕ) → (table == n) ≡ false → filter (is_sets n) (triggers h ++ own ∷ []) ≡ (if is_one_of (table_names h) (set_tables (node h)) n || false then triggers_into n (Some q) else [])
      others n other =
          filter-skips (is_sets n) (triggers h) own (ap (λ b. b && true) other) ∙ was n
          ∙ ap (λ b. if b then triggers_into n (Some q) else []) (bare (is_one_of (table_names h) (set_tables (node h)) n))
        where
          bare : (b : Bool) → b ≡ (b || false)
          bare true = refl
          bare false = refl

  pub stands-unlisted : NodeStands (queued (untraced table) ∷ noded (set_removed name) ∷ h)
  stands-unlisted = record {
    tracing = λ n. by_same (λ b. filter (is_sets n) (but_sets table (triggers h)) ≡ (if not b && is_one_of (table_names h) (set_tables (node h)) n then triggers_into n (queue_of_set (queues h) (node h)) else [])) table n
        (λ same. ap (λ k. filter (is_sets n) (but_sets k (triggers h))) same ∙ cut-own n (triggers h))
        (λ other. cut-other table n other (triggers h) ∙ s.tracing n) ∙ sym (now n);
    guarding = λ n. s.guarding n ∙ sym (ap (λ names. is_one_of (table_names h) names n) (leaf-other _ (node h)));
    on_leaves = s.on_leaves;
  }
    where
      now : (n : ℕ) → sets_on (queued (untraced table) ∷ noded (set_removed name) ∷ h) n
          ≡ (if not (table == n) && is_one_of (table_names h) (set_tables (node h)) n then triggers_into n (queue_of_set (queues h) (node h)) else [])
      now n = λ i.
          if (ap (λ names. is_one_of (table_names h) names n) (set-unlisted (node h) name) ∙ one-less (table_names h) (set_tables (node h)) name table there n) i
          then triggers_into n ((same-node (set_removed name) refl (node h)).set (queues h) i) else []

  -- what a leaf's marks leave of the triggers
  traced-still : (mark : NodeMark) (on : Bool) → IsSameNode (node h) (after_node mark (node h)) → set_tables (after_node mark (node h)) ≡ set_tables (node h)
      → (n : ℕ) → filter (is_sets n) (triggers h) ≡ sets_on (tabled (read_only table on) ∷ noded mark ∷ h) n
  traced-still mark on same tables n = s.tracing n ∙ sym (λ i. if is_one_of (table_names h) (tables i) n then triggers_into n (same.set (queues h) i) else [])

  pub stands-added : may_serve (adding name) (node h) ≡ true → NodeStands (tabled (read_only table true) ∷ noded (leaf_added name) ∷ h)
  stands-added may = record {
    tracing = traced-still (leaf_added name) true (same-node (leaf_added name) refl (node h)) (set-other _ (node h));
    guarding = λ n. grown n
        ∙ sym (ap (λ names. is_one_of (table_names h) names n) (leaf-added (node h) name (and_parts (is_leaf (node h)) (not (is_among name (leaf_tables (node h)))) may).0)
        ∙ one-push (table_names h) (leaf_tables (node h)) name n ∙ ap (λ o. is_one_of (table_names h) (leaf_tables (node h)) n || is_at n o) there);
    on_leaves = ((same-node (leaf_added name) refl (node h)).leaf ∙ (and_parts (is_leaf (node h)) (not (is_among name (leaf_tables (node h)))) may).0, s.on_leaves);
  }
    where
      grown : (n : ℕ) → (if table == n then true else is_read_only n h) ≡ (is_one_of (table_names h) (leaf_tables (node h)) n || (table == n))
      grown n = grind (arith, s.guarding n)

  pub stands-removed : may_serve (removing name) (node h) ≡ true → NodeStands (tabled (read_only table false) ∷ noded (leaf_removed name) ∷ h)
  stands-removed may = record {
    tracing = traced-still (leaf_removed name) false (same-node (leaf_removed name) refl (node h)) (set-other _ (node h));
    guarding = λ n. shrunk n
        ∙ sym (ap (λ names. is_one_of (table_names h) names n) (leaf-removed (node h) name) ∙ one-less (table_names h) (leaf_tables (node h)) name table there n);
    on_leaves = ((same-node (leaf_removed name) refl (node h)).leaf ∙ a-leaf (node h) may, s.on_leaves);
  }
    where
      a-leaf : (n : Option Node) → is_among name (leaf_tables n) ≡ true → is_leaf n ≡ true
      a-leaf None e = absurd (cc)
      a-leaf (Some (of_root r)) e = absurd (cc)
      a-leaf (Some (of_leaf l)) e = refl

      shrunk : (n : ℕ) → (if table == n then false else is_read_only n h) ≡ (not (table == n) && is_one_of (table_names h) (leaf_tables (node h)) n)
      shrunk n = grind (arith, s.guarding n)

-- ---- what a call for a node does

stands-lists : (h : History) → NodeStands h → (name : List ℕ) (q table : ℕ) → may_serve (listing name) (node h) ≡ true → set_queue (database_of h) ≡ Some q → place_of name (table_names h) ≡ Some table
    → NodeStands (marked h (marks_of (lists (database_of h) q table name)))
stands-lists h s name q table may set there = of (nat_le 8 (length (triggers_of table (triggers h)))) (least_writer (part_of h) table)
  where
    of : (full : Bool) (busy : Option ℕ)
        → NodeStands (marked h (marks_of (refused_if full (TooMany Triggers) >> (refused_by (option_map TableBusy busy) >> does_marks Done (noded (set_added name) ∷ queued (traced table None (set_trigger q)) ∷ [])))))
    of true busy = s
    of false (Some t) = s
    of false None = stands-listed h s name table there q may (sym (set-number (database_of h)) ∙ set)

stands-adds : (h : History) → NodeStands h → (name : List ℕ) (table : ℕ) → may_serve (adding name) (node h) ≡ true → place_of name (table_names h) ≡ Some table
    → NodeStands (marked h (marks_of (adds (database_of h) table name)))
stands-adds h s name table may there = of (least_writer (part_of h) table)
  where
    of : (busy : Option ℕ) → NodeStands (marked h (marks_of (refused_by (option_map TableBusy busy) >> does_marks Done (noded (leaf_added name) ∷ tabled (read_only table true) ∷ []))))
    of (Some t) = s
    of None = stands-added h s name table there may

-- what is done with something
stands-there : {A : Type 0} (h : History) → NodeStands h → (o : Option A) (f : A → Checked Outcome) → ((a : A) → o ≡ Some a → NodeStands (marked h (marks_of (f a)))) → NodeStands (marked h (marks_of (if_there o f)))
stands-there h s None f stands = s
stands-there h s (Some a) f stands = stands a refl

single-consumers : (mark : Mark) → is_for_consumers mark ≡ true → is_single mark ≡ true
single-consumers (queued (traced table name trigger)) e = absurd (cc)
single-consumers (queued (untraced table)) e = absurd (cc)
single-consumers (tabled (read_only table on)) e = absurd (cc)
single-consumers (noded (set_added table)) e = absurd (cc)
single-consumers (noded (set_removed table)) e = absurd (cc)
single-consumers (noded (leaf_added table)) e = absurd (cc)
single-consumers (noded (leaf_removed table)) e = absurd (cc)
single-consumers _ e = refl

single-copies : (mark : Mark) → is_for_copies mark ≡ true → is_single mark ≡ true
single-copies (queued mark) e = absurd (cc)
single-copies (tabled (read_only table on)) e = absurd (cc)
single-copies (noded (set_added table)) e = absurd (cc)
single-copies (noded (set_removed table)) e = absurd (cc)
single-copies (noded (leaf_added table)) e = absurd (cc)
single-copies (noded (leaf_removed table)) e = absurd (cc)
single-copies _ e = refl

stands-copies : (h : History) → Legal h → NodeStands h → (call : NodeCall) → is_copies call ≡ true → Chain h (marks_of (call_form (database_of h) call)) → NodeStands (marked h (marks_of (call_form (database_of h) call)))
stands-copies h l s call copy chain =
    stands-marks h (marks_of (call_form (database_of h) call)) l chain
    (each-map is_for_copies is_single single-copies (marks_of (call_form (database_of h) call)) (each-given AnyReply is_for_copies (call_form (database_of h) call) (gives-copies (database_of h) call copy))) s

single-applying : (mark : Mark) → is_for_applying mark ≡ true → is_single mark ≡ true
single-applying (queued mark) e = absurd (cc)
single-applying (tabled (read_only table on)) e = absurd (cc)
single-applying (noded (set_added table)) e = absurd (cc)
single-applying (noded (set_removed table)) e = absurd (cc)
single-applying (noded (leaf_added table)) e = absurd (cc)
single-applying (noded (leaf_removed table)) e = absurd (cc)
single-applying _ e = refl

-- a table leaves a leaf, once its copy is given up
stands-removes : (h : History) → NodeStands h → (name : List ℕ) (table : ℕ) → place_of name (table_names h) ≡ Some table → may_serve (removing name) (node h) ≡ true
    → (o : Option ℕ) → NodeStands (marked h (given_up table name o ++ noded (leaf_removed name) ∷ tabled (read_only table false) ∷ []))
stands-removes h s name table there may None = stands-removed h s name table there may
stands-removes h s name table there may (Some t) =
    stands-removed (noded (restarted name) ∷ ended (of_copy table) t false ∷ h) (record { tracing = s.tracing; guarding = s.guarding; on_leaves = s.on_leaves }) name table there may

-- it goes into a state
stands-moves : (h : History) → Legal h → NodeStands h → (name : List ℕ) (table : ℕ) (state : TableState) (o : Option ℕ) → Chain h (given_up table name o ++ noded (state_set name state) ∷ [])
    → NodeStands (marked h (given_up table name o ++ noded (state_set name state) ∷ []))
stands-moves h l s name table state None chain = stands-marks h _ l chain tt s
stands-moves h l s name table state (Some t) chain = stands-marks h _ l chain tt s

stands-form : (h : History) → Legal h → NodeStands h → (call : NodeCall) → may_serve call (node h) ≡ true → Chain h (marks_of (call_form (database_of h) call))
    → NodeStands (marked h (marks_of (call_form (database_of h) call)))
stands-form h l s (making_root name queue now) may chain =
    stands-marks h _ l chain (each-given AnyReply is_single (makes_root (database_of h) now name queue) (search (after, checked))) s
stands-form h l s (making_leaf name provider tick) may chain = stands-marks h _ l chain tt s
stands-form h l s (moving name state) may chain = stands-moving (place_of name (table_names h)) chain
  where
    stands-moving : (o : Option ℕ) → Chain h (marks_of (if_there o (λ table. moves_table (database_of h) table name state))) → NodeStands (marked h (marks_of (if_there o (λ table. moves_table (database_of h) table name state))))
    stands-moving None chain = s
    stands-moving (Some table) chain = stands-moves h l s name table state (copy_txid table (copies h)) chain
stands-form h l s (adding name) may chain = stands-there h s (place_of name (table_names h)) _ (λ table there. stands-adds h s name table may there)
stands-form h l s (removing name) may chain = stands-there h s (place_of name (table_names h)) _ (λ table there. stands-removes h s name table there may (copy_txid table (copies h)))
stands-form h l s (beginning_copy name) may chain = stands-copies h l s (beginning_copy name) refl chain
stands-form h l s (copying_rows name rows) may chain = stands-copies h l s (copying_rows name rows) refl chain
stands-form h l s (ending_copy name snapshot tick) may chain = stands-copies h l s (ending_copy name snapshot tick) refl chain
stands-form h l s (giving_up_copy name) may chain = stands-copies h l s (giving_up_copy name) refl chain
stands-form h l s (applying events pick tick) may chain =
    stands-marks h (marks_of (applies_batch (database_of h) pick tick events)) l chain
    (each-map is_for_applying is_single single-applying (marks_of (applies_batch (database_of h) pick tick events))
    (each-given AnyReply is_for_applying (applies_batch (database_of h) pick tick events) (gives-applies (database_of h) pick tick events))) s
stands-form h l s holding may chain = stands-copies h l s holding refl chain
stands-form h l s (letting_go hold) may chain = stands-copies h l s (letting_go hold) refl chain
stands-form h l s (listing name) may chain =
    stands-there h s (set_queue (database_of h)) _ (λ q set. stands-there h s (place_of name (table_names h)) _ (λ table there. stands-lists h s name q table may set there))
stands-form h l s (unlisting name) may chain = stands-there h s (place_of name (table_names h)) _ (λ table there. stands-unlisted h s name table there)
stands-form h l s call may chain =
    stands-marks h (marks_of (call_form (database_of h) call)) l chain
    (each-map is_for_consumers is_single single-consumers (marks_of (call_form (database_of h) call)) (each-given AnyReply is_for_consumers (call_form (database_of h) call) (gives-consumers (database_of h) call refl))) s

stands-node : (h : History) → Legal h → NodeStands h → (call : NodeCall) → Chain h (marks_of (node_does (database_of h) call)) → NodeStands (marked h (marks_of (node_does (database_of h) call)))
stands-node h l s call chain =
    by_test (λ b. Chain h (marks_of (if b then call_form (database_of h) call else answers Null)) → NodeStands (marked h (marks_of (if b then call_form (database_of h) call else answers Null)))) (may_serve call (node h))
    (λ may chain. stands-form h l s call may chain) (λ _ _. s) chain

-- ---- other calls

single-if : (k : MarkKinds) (s : Session) (who : ℕ) (mark : Mark) → may_leave k s who mark ≡ true → is_single mark ≡ true
single-if k s who (queued (traced table name trigger)) e = (and_parts (is_some name) k.traces e).0
single-if k s who (queued (untraced table)) e = e
single-if k s who (tabled (read_only table on)) e = e
single-if k s who (noded (set_added table)) e = e
single-if k s who (noded (set_removed table)) e = e
single-if k s who (noded (leaf_added table)) e = e
single-if k s who (noded (leaf_removed table)) e = e
single-if k s who _ e = refl

single-queues : (mark : QueueMark) → is_common mark ≡ true → is_single (queued mark) ≡ true
single-queues (traced table name trigger) e = e
single-queues (untraced table) e = e
single-queues _ e = refl

single-told : (mark : QueueMark) → is_told mark ≡ true → is_single (queued mark) ≡ true
single-told (traced table name trigger) e = absurd (cc)
single-told (untraced table) e = absurd (cc)
single-told _ e = refl

single-form : (d : Database) (shown : Shown) (now : ℤ) (who : ℕ) (stmt : DbStmt) → Gives AnyReply is_single (form d shown now who stmt)
single-form d shown now who stmt =
    let k : MarkKinds = (permit_of stmt).kinds in
    gives-map AnyReply AnyReply (may_leave k (d.part.session who) who) is_single (λ reply any. any) (single-if k (d.part.session who) who) _ (gives-form who d shown now stmt)

single-statement : (h : History) (now : ℤ) (who : ℕ) (stmt : DbStmt) → EachMark is_single (statement database_by_history h now who stmt).marks
single-statement h now who stmt =
    (given-runs AnyReply is_single (λ _. tt) (single-if of_any) (making database_by_history now who stmt) (where_of stmt) who h
    (allowed (is_waiting who (waiting h)) (has_open who h) (block who h) (where_of stmt))
    (single-form (database_of h) (shown_in h) now who stmt) (single-form (database_of (sight_taken who ∷ h)) (shown_in (sight_taken who ∷ h)) now who stmt)).1

single-settling : (h : History) (now : ℤ) → EachMark is_single (settling (within_part database_by_history now) h).marks
single-settling h now =
    (settling-gives is_single (λ who. refl) (single-if of_resumed) (within_part database_by_history now)
    (record { tells = λ g c gives. gives-tells is_single single-told ReplyHasMoments (database_of g) now c gives }) h).marks

single-turn : (h : History) (now : ℤ) (turn : Turn) → EachMark is_single turn.marks → EachMark is_single (with_settling (within_part database_by_history now) h turn).marks
single-turn h now turn each =
    let there : History = behind_marks (within_part database_by_history now) h turn.marks in
    each-append is_single turn.marks (settling (within_part database_by_history now) there).marks each (single-settling there now)

single-enters : (who : ℕ) (sight : Bool) (may : Checked (Unit {0})) → EachMark is_single (enters who (look_of who sight) may).marks
single-enters who true (Ok _) = tt
single-enters who false (Ok _) = tt
single-enters who sight (Err refusal) = tt

-- so it is after a call
pub stands-does : (h : History) → Legal h → NodeStands h → (call : DatabaseCall) → Chain h (database_does database_by_history h call).marks → NodeStands (marked h (database_does database_by_history h call).marks)
stands-does h l s (stepped who stmt now) chain =
    stands-marks h _ l chain (single-turn h now (turn_of who (statement database_by_history h now who stmt)) (single-statement h now who stmt)) s
stands-does h l s (entered who alone) chain =
    stands-marks h _ l chain (single-enters who (takes_sight (entry_place alone) (session h who).sight) (allowed (is_waiting who (waiting h)) (has_open who h) (block who h) (entry_place alone))) s
stands-does h l s (worked part now) chain =
    stands-marks h _ l chain (each-daemon_does is_single now single-queues (λ r. refl) (λ t. refl) (λ t. refl) database_by_history h part) s
stands-does h l s (served call) chain = stands-node h l s call chain
stands-does h l s (failed who now) chain =
    stands-marks h _ l chain (single-turn h now (failing (part_of h) who) (each-failure AnyReply is_single (λ _. tt) (single-if of_any) who (own_txid who h) (block who h))) s

pub stands-start : NodeStands []
stands-start = record { tracing = λ n. refl; guarding = λ n. refl; on_leaves = tt }
