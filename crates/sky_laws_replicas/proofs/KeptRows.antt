-- A table that was copied keeps its rows until it leaves its leaf, or a batch writes it.
use Rattle.std.proofs.Common.{arith, ◌≡◌, ℕ, ◌==◌, List, [], ◌∷◌, ◌++◌, Bool, true, false, not, ◌&&◌, ◌||◌, Option, Some, None, is_some, append_assoc, refl, sym, ap, subst, ◌∙◌, if◌then◌else◌}
use Rattle.std.specs.List.{list_any}
use Rattle.std.proofs.lemmas.Bool.Decides.{nat_tests}
use Rattle.std.proofs.lemmas.Bool.{false_from_ne_true, or_parts}
use Rattle.std.proofs.lemmas.List.Folds.{list_any-append}
use Rattle.sky_val.specs.declared.val.Val.{Val}
use Rattle.sky_val.specs.Entries.{at}
use Rattle.sky_val.proofs.EntryLemmas.{same_entries}
use Rattle.sky_names.specs.Places.{place_of}
use Rattle.sky_txid.specs.Snapshot.{SnapshotView}
use Rattle.sky_model.specs.History.{Mark, Whose, of_session, of_worker, of_copy, ended, tabled, wrote, noded, leaf_removed, copied, History}
use Rattle.sky_model.specs.Transactions.{next_txid, has_ended}
use Rattle.sky_model.specs.Copies.{Copy, copies, is_copied, is_copied_by, without_copy}
use Rattle.sky_model.specs.Rows.{table_names, is_read_only, committed, writes as writes_of, rows, has_written}
use Rattle.sky_model.specs.Nodes.{node, is_leaf, after_node}
use Rattle.sky_model.specs.StepNode.{may_copy}
use Rattle.londiste_state.specs.Nodes.{Node, of_root, of_leaf}
use Rattle.sky_model.specs.Calls.{past_of}
use Rattle.sky_histories.proofs.Legal.{Fine, makes_table, writes, copies_row, applies_row, begins_copy, ends, ends_work, ends_copy, guards, nodes, without_node, at_joining, at_leaving, Legal, legal-below_mark, fine_mark}
use Rattle.sky_histories.proofs.Snapshots.{ender-unended}
use Rattle.sky_histories.proofs.SnapshotLaws.{legal-below}
use Rattle.sky_histories.proofs.Guarded.{copied-by, copies-guarded, gone}
use Rattle.sky_histories.proofs.Holders.{copy-alone, alone}
use Rattle.sky_histories.proofs.RowWrites.{over, last_of, at-put_all, has_written-last_of, in_turn-push, in_turn-same}
use Rattle.sky_histories.proofs.KeyVersions.{same-writes}
use Rattle.sky_histories.proofs.NodeTables.{one-place}
use Rattle.sky_histories.proofs.Histories.{legal_past}
use Rattle.sky_model.proofs.Cases.{by_test, by_same}
use Rattle.sky_laws_replicas.specs.LawsOfReplicas.{HasProvidersRows, CopiedTablesHaveProvidersRows, takes_out, applies_to, ReplicasKeepProvidersRows}
use Rattle.sky_laws_replicas.proofs.Copying.{place-stays}
use Rattle.sky_laws_replicas.proofs.HeldRows.{rows-in-order}
use Rattle.sky_laws_replicas.proofs.StaysInCopy.{has_copy, copy-stays, has-copied, copied-no-more, not-left}
use Rattle.sky_laws_replicas.proofs.CopiesBegin.{MarkInCopy, AllInCopy, in-copy-below, in-copy-past}

-- the table of a name has been copied, and no transaction that runs has written it
record Rests (h : History) (name : List ℕ) (table : ℕ) : Type 0 where
  has : has_copy name (node h) ≡ true
  named : place_of name (table_names h) ≡ Some table
  guarded : is_read_only table h ≡ true
  none : is_copied table (copies h) ≡ false
  unwritten : (u : ℕ) (key : List Val) → has_ended h u ≡ false → has_written key (writes_of table u h) ≡ false

-- it is a leaf's
copy-leaf : (name : List ℕ) (n : Option Node) → has_copy name n ≡ true → is_leaf n ≡ true
copy-leaf name None e = absurd (cc e)
copy-leaf name (Some (of_root r)) e = absurd (cc e)
copy-leaf name (Some (of_leaf l)) e = refl

pub uncopied-push : (table : ℕ) (cs : List Copy) (c : Copy) → (c.table == table) ≡ false → is_copied table cs ≡ false → is_copied table (cs ++ c ∷ []) ≡ false
uncopied-push table cs c other none = list_any-append (λ (x : Copy). x.table == table) cs (c ∷ []) ∙ grind (arith, none, other)

uncopied-less : (table t : ℕ) (cs : List Copy) → is_copied table cs ≡ false → is_copied table (without_copy t cs) ≡ false
uncopied-less table t [] none = refl
uncopied-less table t (c ∷ cs) none =
    let parts = or_parts (c.table == table) (is_copied table cs) none in
    by_test (λ b. is_copied table (if b then c ∷ without_copy t cs else without_copy t cs) ≡ false) (not (c.txid == t))
    (λ _. ap (λ b. b || is_copied table (without_copy t cs)) parts.0 ∙ uncopied-less table t cs parts.1) (λ _. uncopied-less table t cs parts.1)

-- a write of another table
unwritten-other : (h : History) (name : List ℕ) (table : ℕ) (whose : Whose) (t n : ℕ) (at_key : List Val) (old new : Option (List Val)) → (n == table) ≡ false → Rests h name table
    → Rests (tabled (wrote whose t n at_key old new) ∷ h) name table
unwritten-other h name table whose t n at_key old new other r = record {
  has = r.has;
  named = r.named;
  guarded = r.guarded;
  none = r.none;
  unwritten = λ u key unended. ap (λ b. has_written key (if b && t == u then writes_of table u h ++ record { key = at_key; row = new } ∷ [] else writes_of table u h)) other ∙ r.unwritten u key unended;
}

-- transactions end
rests-ended : (h : History) (name : List ℕ) (table : ℕ) (whose : Whose) (t : ℕ) (c : Bool) → is_copied table (copies (ended whose t c ∷ h)) ≡ false → Rests h name table → Rests (ended whose t c ∷ h) name table
rests-ended h name table whose t c none r = record {
  has = r.has;
  named = r.named;
  guarded = r.guarded;
  none = none;
  unwritten = λ u key unended. r.unwritten u key (or_parts (u == t) (has_ended h u) unended).1;
}

rests-step : (h : History) (mark : Mark) → Fine h mark → MarkInCopy h mark → (name : List ℕ) (table : ℕ) → takes_out name mark ≡ false → applies_to table mark ≡ false → Rests h name table → Rests (mark ∷ h) name table
rests-step h _ (nodes mark fits) in_copy name table stays apart r =
    record { has = copy-stays h mark name fits stays r.has; named = r.named; guarded = r.guarded; none = r.none; unwritten = r.unwritten }
rests-step h _ (makes_table last columns new) in_copy name table stays apart r =
    record { has = r.has; named = place-stays name (table_names h) last table r.named; guarded = r.guarded; none = r.none; unwritten = r.unwritten }
rests-step h _ (begins_copy n may) in_copy name table stays apart r = record {
  has = r.has;
  named = r.named;
  guarded = r.guarded;
  none = uncopied-push table (copies h) (record { table = n; txid = next_txid h })
      (by_same (λ b. b ≡ false) n table
      (λ same.
      let one : name ≡ in_copy.name = one-place name in_copy.name (table_names h) table r.named (in_copy.there ∙ ap Some same) in
      absurd (cc (sym (copied-no-more name (node h) r.has) ∙ ap (λ x. may_copy x (node h)) one ∙ in_copy.may))) (λ _. refl)) r.none;
  unwritten = r.unwritten;
}
rests-step h _ (writes who t n key old new mine free stands) in_copy name table stays apart r =
    unwritten-other h name table (of_session who) t n key old new
    (by_same (λ b. b ≡ false) n table
    (λ same. absurd (cc (sym (stands.writable (copy-leaf name (node h) r.has)) ∙ ap (λ k. is_read_only k h) same ∙ r.guarded))) (λ _. refl)) r
rests-step h _ (copies_row n t key old new may) in_copy name table stays apart r =
    unwritten-other h name table (of_copy n) t n key old new
    (by_same (λ b. b ≡ false) n table
    (λ same. absurd (cc (sym r.none ∙ ap (λ k. is_copied k (copies h)) (sym same) ∙ copied-by n t (copies h) may.runs))) (λ _. refl)) r
rests-step h _ (applies_row n t key old new is) in_copy name table stays apart r = unwritten-other h name table of_worker t n key old new apart r
rests-step h _ (ends who t c mine) in_copy name table stays apart r = rests-ended h name table _ t c r.none r
rests-step h _ (ends_work t c work) in_copy name table stays apart r = rests-ended h name table _ t c r.none r
rests-step h _ (ends_copy n t c may) in_copy name table stays apart r = rests-ended h name table (of_copy n) t c (uncopied-less table t (copies h) r.none) r
rests-step h _ (guards _ _ (without_node n on bare)) in_copy name table stays apart r = absurd (cc (sym r.has ∙ ap (has_copy name) bare))
rests-step h _ (guards _ _ (at_joining n last unused)) in_copy name table stays apart r = record {
  has = r.has;
  named = r.named;
  guarded = by_test (λ b. (if b then true else is_read_only table h) ≡ true) (n == table) (λ _. refl) (λ _. r.guarded);
  none = r.none;
  unwritten = r.unwritten;
}
rests-step h _ (guards _ _ (at_leaving n last uncopied unwritten)) in_copy name table stays apart r = record {
  has = r.has;
  named = r.named;
  guarded = by_same (λ b. (if b then false else is_read_only table h) ≡ true) n table
      (λ same.
      let one : last.name ≡ name = one-place last.name name (table_names last.below) table (last.there ∙ ap Some same) (sym (ap (λ g. place_of name (table_names g)) last.last) ∙ r.named) in
      absurd (cc (sym (not-left name (node last.below)) ∙ ap (λ x. has_copy name (after_node (leaf_removed x) (node last.below))) (sym one) ∙ sym (ap (λ g. has_copy name (node g)) last.last) ∙ r.has)))
      (λ _. r.guarded);
  none = r.none;
  unwritten = r.unwritten;
}
rests-step h _ _ in_copy name table stays apart r = record { has = r.has; named = r.named; guarded = r.guarded; none = r.none; unwritten = r.unwritten }

-- ---- its rows

-- the commit of a transaction that hasn't written it
rows-ended : (h : History) (table u : ℕ) (whose : Whose) → ((key : List Val) → has_written key (writes_of table u h) ≡ false) → rows table (ended whose u true ∷ h) ≡ rows table h
rows-ended h table u whose quiet =
    same_entries (rows table (ended whose u true ∷ h)) (rows table h) (rows-in-order table (ended whose u true ∷ h)) (rows-in-order table h) (λ key.
    ap (at key) (in_turn-push (λ v. writes_of table v h) (committed h) u []) ∙ at-put_all key (writes_of table u h) (rows table h)
    ∙ of key (last_of key (writes_of table u h)) (sym (has_written-last_of key (writes_of table u h)) ∙ quiet key))
  where
    of : (key : List Val) (o : Option (Option (List Val))) → is_some o ≡ false → over o (at key (rows table h)) ≡ at key (rows table h)
    of key None none = refl
    of key (Some left) none = absurd (cc none)

rows-step : (h : History) → Legal h → (mark : Mark) → Fine h mark → (name : List ℕ) (table : ℕ) → Rests h name table → rows table (mark ∷ h) ≡ rows table h
rows-step h l (tabled (wrote whose u n key old new)) fine name table r =
    in_turn-same (λ v. writes_of table v (tabled (wrote whose u n key old new) ∷ h)) (λ v. writes_of table v h) (committed h) [] (same-writes h l whose u n key old new (alone h l fine) table)
rows-step h l (ended whose u true) fine name table r = rows-ended h table u whose (λ key. r.unwritten u key (ender-unended h l whose u true fine))
rows-step h l mark fine name table r = refl

-- a table that rests has the rows that it had
record StillRests (g p : History) (name : List ℕ) (table : ℕ) : Type 0 where
  rests : Rests g name table
  rows_are : rows table g ≡ rows table p

still-rests : (later : List Mark) (p : History) → Legal (later ++ p) → AllInCopy (later ++ p) → (name : List ℕ) (table : ℕ) → list_any (takes_out name) later ≡ false → list_any (applies_to table) later ≡ false
    → Rests p name table → StillRests (later ++ p) p name table
still-rests [] p l all name table stays apart r = record { rests = r; rows_are = refl }
still-rests (mark ∷ later) p l all name table stays apart r =
    let parts = or_parts (takes_out name mark) (list_any (takes_out name) later) stays in
    let others = or_parts (applies_to table mark) (list_any (applies_to table) later) apart in
    let below : Legal (later ++ p) = legal-below_mark l in
    let s : StillRests (later ++ p) p name table = still-rests later p below all.1 name table parts.1 others.1 r in
    record { rests = rests-step (later ++ p) mark (fine_mark l) all.0 name table parts.0 others.0 s.rests; rows_are = rows-step (later ++ p) below mark (fine_mark l) name table s.rests ∙ s.rows_are }

-- ---- where it was copied

copy-ran : {h : History} {table t : ℕ} → Fine h (ended (of_copy table) t true) → is_copied_by table t (copies h) ≡ true
copy-ran (ends_copy table t c may) = may.runs

rests-copied : (h : History) (name : List ℕ) (under : SnapshotView) (tick table t : ℕ) → Legal (noded (copied name under tick) ∷ ended (of_copy table) t true ∷ h) → may_copy name (node h) ≡ true
    → place_of name (table_names h) ≡ Some table → Rests (noded (copied name under tick) ∷ ended (of_copy table) t true ∷ h) name table
rests-copied h name under tick table t l may named =
    let below : Legal h = legal-below_mark (legal-below_mark l) in
    let runs : is_copied_by table t (copies h) ≡ true = copy-ran (fine_mark (legal-below_mark l)) in
    record {
      has = has-copied name under tick (node h) may;
      named = named;
      guarded = (copies-guarded h below table (copied-by table t (copies h) runs)).guarded;
      none = gone h below table t runs;
      unwritten = λ u key unended.
          let parts = or_parts (u == t) (has_ended h u) unended in
          false_from_ne_true (has_written key (writes_of table u h)) (copy-alone h below t table key runs u parts.1 (grind (arith, nat_tests, parts.0)));
    }

pub replicas_keep_providers_rows : CopiedTablesHaveProvidersRows → ReplicasKeepProvidersRows
replicas_keep_providers_rows copies_have calls in_form database above later p name under tick is stays =
    let place : History = noded (copied name under tick) ∷ p in
    let legal : Legal (later ++ place) = legal-below above (later ++ place) (subst Legal is (legal_past calls database)) in
    let all : AllInCopy (later ++ place) = in-copy-below above (later ++ place) (subst AllInCopy is (in-copy-past calls database)) in
    let c : HasProvidersRows (past_of calls) database place name under = copies_have calls in_form database (above ++ later) p name under tick (is ∙ sym (append_assoc above later place)) in
    let same : p ≡ ended (of_copy c.table) c.t true ∷ c.below = cc c.copy_ended in
    let here : noded (copied name under tick) ∷ p ≡ noded (copied name under tick) ∷ ended (of_copy c.table) c.t true ∷ c.below = ap (λ h. noded (copied name under tick) ∷ h) same in
    let copied_here : MarkInCopy p (noded (copied name under tick)) = (in-copy-below later place all).0 in
    let start : Rests place name c.table = subst (λ h. Rests h name c.table) (sym here)
    (rests-copied c.below name under tick c.table c.t (subst Legal here (legal-below later place legal)) (ap (λ h. may_copy name (node h)) (sym same) ∙ copied_here)
    (sym (ap (λ h. place_of name (table_names h)) here) ∙ c.named)) in
    record { copy = c; kept = λ none. (still-rests later place legal all name c.table stays none start).rows_are ∙ c.same }
