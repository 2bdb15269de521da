-- A table of a leaf that was copied: what sessions have written since, once it has left its leaf.
use Rattle.std.proofs.Common.{◌≡◌, ℕ, ◌==◌, List, [], ◌∷◌, ◌++◌, true, false, not, ◌&&◌, ◌||◌, Option, Some, None, is_some, bytes_eq, append-nil, inl, inr, refl, sym, ap, subst, ◌∙◌, if◌then◌else◌}
use Rattle.std.specs.List.{list_any}
use Rattle.std.proofs.lemmas.Bool.{or_parts}
use Rattle.sky_names.specs.Places.{place_of}
use Rattle.sky_names.proofs.PlaceLemmas.{same_name}
use Rattle.sky_txid.specs.Ids.{contains}
use Rattle.londiste_state.specs.declared.state.TableState.{TableState}
use Rattle.londiste_state.specs.declared.state.TableState.TheVariants.{Absent, InCopy, CatchingUp, WannaSync, DoSync, Synced}
use Rattle.londiste_state.specs.Moves.{is_allowed}
use Rattle.londiste_state.specs.Nodes.{Node, LeafTable, in_state, with_copy, with_tick}
use Rattle.sky_model.specs.History.{Mark, NodeMark, copy_of, of_worker, of_copy, ended, tabled, wrote, read_only, noded, leaf_removed, state_set, copied, applied, History}
use Rattle.sky_model.specs.Transactions.{running}
use Rattle.sky_model.specs.Rows.{table_names, writes as writes_of, rows, in_turn}
use Rattle.sky_model.specs.Nodes.{after_node, node, is_leaf}
use Rattle.sky_model.specs.ShownRows.{least_writer}
use Rattle.sky_model.specs.State.{part_of}
use Rattle.sky_model.specs.StepApply.{is_synced}
use Rattle.sky_model.specs.StepNode.{may_move}
use Rattle.sky_model.specs.World.{history_in}
use Rattle.sky_model.specs.Calls.{past_of}
use Rattle.sky_histories.proofs.Legal.{NodeFits, Fine, guards, without_node, at_leaving, Legal, legal-below_mark, fine_mark}
use Rattle.sky_histories.proofs.Snapshots.{sound, runs-unended}
use Rattle.sky_histories.proofs.SnapshotLaws.{legal-below}
use Rattle.sky_histories.proofs.WrittenTables.{some, is-written, unwritten-by}
use Rattle.sky_histories.proofs.NodeReadings.{leaf-stays}
use Rattle.sky_histories.proofs.NodeCalls.{leaf-has}
use Rattle.sky_histories.proofs.InCopyTables.{leaf_table, may-allowed, is_past_copy}
use Rattle.sky_histories.proofs.NodeTables.{one-place}
use Rattle.sky_histories.proofs.RowSights.{Since, here, later as since_later}
use Rattle.sky_histories.proofs.Histories.{legal_past}
use Rattle.sky_histories.proofs.Good.{same-session}
use Rattle.sky_model.proofs.Cases.{by_test, by_same}
use Rattle.sky_laws_changes.proofs.Places.{since-below, on-top}
use Rattle.sky_laws_changes.proofs.ListedTables.{place-kept, fits-of}
use Rattle.sky_laws_replicas.specs.LawsOfReplicas.{applies_to, copies_again, committed_by_sessions}
use Rattle.sky_laws_replicas.proofs.SessionsRows.{NoneWritten, sessions-rows}
use Rattle.sky_laws_synced.specs.LawsOfLeft.{with_sessions_writes, TablesShowSessionsWrites, UncopiedTablesShowSessionsWrites, left_at, LeftTablesKeepTheirRows}
use Rattle.sky_laws_synced.proofs.ChangedTables.{table-named, Was, just-gone, was-or-new}
use Rattle.sky_laws_synced.proofs.PickedTables.{may_pick, MarkPicked, AllPicked, picked-below, picked-past}
use Rattle.sky_laws_synced.proofs.SteadyTables.{is_steady, AllSteady, steady-below, steady-past}
use Rattle.sky_laws_synced.proofs.RestingTables.{Rests, rests-between, nothing}
use Rattle.sky_laws_synced.proofs.GoingCalls.{between-past}
use Rattle.sky_laws_synced.proofs.SyncedLaws.{either-along}

-- where no transaction that runs has written the table, a worker's hasn't
none-rests : (h : History) → Legal h → (n : ℕ) → Rests h n → NoneWritten h n
none-rests h l n r t works apart =
    nothing (writes_of n t h)
    (sym (ap (λ b. not b && some (writes_of n t h)) (runs-unended h (sound h l) t ((sound h l).works t works))) ∙ sym (is-written h l n t) ∙ r.unwritten t)

pub tables_show_sessions_writes : TablesShowSessionsWrites
tables_show_sessions_writes calls newer in_form d leaf provider name t is found there state x above later whole once none =
    sessions-rows later h legal x.table start once none ∙ ap (with_sessions_writes x.table later h) x.same
  where
    h : History
    h = history_in (past_of calls) d

    legal : Legal (later ++ h)
    legal = legal-below above (later ++ h) (subst Legal whole (legal_past (newer ++ calls) d))

    in_leaf : leaf_table name (node h) ≡ Some t
    in_leaf = ap (leaf_table name) is ∙ there

    start : NoneWritten h x.table
    start =
        none-rests h (legal-below later h legal) x.table
        (rests-between h (between-past calls d) name t in_leaf (either-along t.state state) x.table (ap (λ n. place_of n (table_names h)) (sym (table-named name (node h) t in_leaf)) ∙ x.named))

-- ---- once it has left its leaf

-- a table that was not copied since: it isn't in sync, and has no kept snapshot
abbrev Uncopied : List ℕ → Option Node → Type 0
Uncopied name n = (t : LeafTable) → leaf_table name n ≡ Some t → (is_past_copy t.state ≡ false) × (t.snapshot ≡ None)

-- it goes into no other state than that in which it is copied
still-before : (from to : TableState) → is_past_copy from ≡ false → is_allowed from to ≡ true → is_steady (noded (state_set [] to)) ≡ true → is_past_copy to ≡ false
still-before Absent InCopy before may steady = refl
still-before Absent Absent before may steady = refl
still-before Absent CatchingUp before may steady = absurd (cc may)
still-before Absent (WannaSync tick) before may steady = absurd (cc may)
still-before Absent (DoSync tick) before may steady = absurd (cc may)
still-before Absent Synced before may steady = absurd (cc may)
still-before InCopy CatchingUp before may steady = absurd (cc steady)
still-before InCopy Absent before may steady = refl
still-before InCopy InCopy before may steady = refl
still-before InCopy (WannaSync tick) before may steady = absurd (cc may)
still-before InCopy (DoSync tick) before may steady = absurd (cc may)
still-before InCopy Synced before may steady = absurd (cc may)
still-before CatchingUp to before may steady = absurd (cc before)
still-before (WannaSync tick) to before may steady = absurd (cc before)
still-before (DoSync tick) to before may steady = absurd (cc before)
still-before Synced to before may steady = absurd (cc before)

steady-named : (name other : List ℕ) (state : TableState) → is_steady (noded (state_set name state)) ≡ is_steady (noded (state_set other state))
steady-named name other Absent = refl
steady-named name other InCopy = refl
steady-named name other CatchingUp = refl
steady-named name other (WannaSync tick) = refl
steady-named name other (DoSync tick) = refl
steady-named name other Synced = refl

-- a copy of the table of a name doesn't end by a mark
abbrev EndsNoCopy : List ℕ → NodeMark → Type 0
EndsNoCopy name (copied other under tick) = bytes_eq other name ≡ false
EndsNoCopy name mark = Unit {0}

uncopied-step : (h : History) (mark : NodeMark) → NodeFits h mark → is_steady (noded mark) ≡ true → (name : List ℕ) → EndsNoCopy name mark → Uncopied name (node h) → Uncopied name (after_node mark (node h))
uncopied-step h mark fits steady name ends before u there = elim (was-or-new h mark fits name u there) [
  | inl w ↦ of mark fits steady ends w
  | inr new ↦ (ap (λ (t : LeafTable). is_past_copy t.state) new.is, ap LeafTable.snapshot new.is)
]
  where
    IsBefore : LeafTable → Type 0
    IsBefore t = (is_past_copy t.state ≡ false) × (t.snapshot ≡ None)

    of : (m : NodeMark) → NodeFits h m → is_steady (noded m) ≡ true → EndsNoCopy name m → Was (node h) m name u → IsBefore u
    of (state_set other state) fits steady ends w =
        let was_before : IsBefore w.t = before w.t w.there in
        by_test (λ b. bytes_eq other w.t.name ≡ b → u ≡ (if b then in_state state w.t else w.t) → IsBefore u) (bytes_eq other w.t.name)
        (λ _ its same.
        let one : other ≡ name = same_name other w.t.name its ∙ table-named name (node h) w.t w.there in
        let may : is_allowed w.t.state state ≡ true = may-allowed name state (node h) w.t w.there (ap (λ x. may_move x state (node h)) (sym one) ∙ fits.may) in
        (ap (λ (t : LeafTable). is_past_copy t.state) same ∙ still-before w.t.state state was_before.0 may (steady-named [] other state ∙ steady), ap LeafTable.snapshot same ∙ was_before.1))
        (λ _ _ same. subst IsBefore (sym same) was_before) refl w.is
    of (copied other under tick) fits steady ends w =
        by_test (λ b. bytes_eq other w.t.name ≡ b → u ≡ (if b then with_copy under tick w.t else w.t) → IsBefore u) (bytes_eq other w.t.name)
        (λ _ its _. absurd (cc (sym ends ∙ ap (bytes_eq other) (sym (table-named name (node h) w.t w.there)) ∙ its)))
        (λ _ _ same. subst IsBefore (sym same) (before w.t w.there)) refl w.is
    of (applied (copy_of other) tick) fits steady ends w =
        by_test (λ b. u ≡ (if b then with_tick tick w.t else w.t) → IsBefore u) (bytes_eq other w.t.name)
        (λ _ same. let was_before : IsBefore w.t = before w.t w.there in (ap (λ (t : LeafTable). is_past_copy t.state) same ∙ was_before.0, ap LeafTable.snapshot same ∙ was_before.1))
        (λ _ same. subst IsBefore (sym same) (before w.t w.there)) w.is
    of m fits steady ends w = subst IsBefore (sym w.is) (before w.t w.there)

-- ---- while no copy of it ends

-- from a place on at which it isn't copied, and that isn't the end of a copy's transaction, up to one at which the table of the name is this one
module _ (name : List ℕ) (table : ℕ) (from : History) (start : Uncopied name (node from)) (apart : (n t : ℕ) (g : History) → from ≡ ended (of_copy n) t true ∷ g → ⊥) (top : History)
    (named : place_of name (table_names top) ≡ Some table) where
  -- a copy ends right after its transaction has
  ends-none : (later : List Mark) → Since (later ++ from) top → list_any (copies_again table) later ≡ false → (mark : NodeMark) → NodeFits (later ++ from) mark → EndsNoCopy name mark
  ends-none later up none (copied other under tick) fits =
      by_test (λ b. bytes_eq other name ≡ b → b ≡ false) (bytes_eq other name) (λ _ its. absurd (last later none fits.last (same_name other name its))) (λ _ _. refl) refl
    where
      is_table : other ≡ name → table ≡ fits.table
      is_table its =
          let there : place_of name (table_names (later ++ from)) ≡ Some fits.table = ap (λ g. place_of name (table_names g)) fits.last ∙ ap (λ x. place_of x (table_names fits.below)) (sym its) ∙ fits.there in
          let both : Some table ≡ Some fits.table = sym named ∙ place-kept name fits.table up there in cc both

      last : (ms : List Mark) → list_any (copies_again table) ms ≡ false → ms ++ from ≡ ended (of_copy fits.table) fits.t true ∷ fits.below → other ≡ name → ⊥
      last [] free is its = apart fits.table fits.t fits.below is
      last (m ∷ ms) free is its =
          let end : m ≡ ended (of_copy fits.table) fits.t true = cc is in
          let again : copies_again table m ≡ true = ap (copies_again table) end ∙ ap (λ n. fits.table == n) (is_table its) ∙ same-session fits.table in
          cc (sym (or_parts (copies_again table m) (list_any (copies_again table) ms) free).0 ∙ again)
  ends-none later up none mark fits = tt

  uncopied-above : (later : List Mark) → Since (later ++ from) top → Legal (later ++ from) → AllSteady (later ++ from) → list_any (copies_again table) later ≡ false → Uncopied name (node (later ++ from))
  uncopied-above [] up l steady none = start
  uncopied-above (noded mark ∷ later) up l steady none =
      let fits : NodeFits (later ++ from) mark = fits-of (fine_mark l) in
      uncopied-step (later ++ from) mark fits steady.0 name (ends-none later (since-below up) none mark fits) (uncopied-above later (since-below up) (legal-below_mark l) steady.1 none)
  uncopied-above (mark ∷ later) up l steady none =
      uncopied-above later (since-below up) (legal-below_mark l) steady.1 (or_parts (copies_again table mark) (list_any (copies_again table) later) none).1

unpicked : (o : Option LeafTable) → ((t : LeafTable) → o ≡ Some t → (is_past_copy t.state ≡ false) × (t.snapshot ≡ None)) → may_pick o ≡ false
unpicked None before = refl
unpicked (Some t) before = ap (λ s. is_synced t.state || is_some s) (before t refl).1 ∙ of t.state (before t refl).0
  where
    of : (state : TableState) → is_past_copy state ≡ false → (is_synced state || false) ≡ false
    of Absent e = refl
    of InCopy e = refl
    of CatchingUp e = refl
    of (WannaSync tick) e = refl
    of (DoSync tick) e = refl
    of Synced e = absurd (cc e)

-- no batch writes a table that isn't copied
no-batch : (h : History) (table : ℕ) → ((name : List ℕ) → place_of name (table_names h) ≡ Some table → Uncopied name (node h)) → (mark : Mark) → MarkPicked h mark → applies_to table mark ≡ false
no-batch h table before (tabled (wrote of_worker t n key old new)) is =
    by_same (λ b. b ≡ false) n table
    (λ same. absurd (cc (sym (unpicked (leaf_table is.name (node h)) (before is.name (is.there ∙ ap Some same))) ∙ is.picked))) (λ _. refl)
no-batch h table before mark is = refl

-- from a place on at which it isn't
module _ (table : ℕ) (from : History) (apart : (n t : ℕ) (g : History) → from ≡ ended (of_copy n) t true ∷ g → ⊥)
    (start : (h : History) → Since from h → (name : List ℕ) → place_of name (table_names h) ≡ Some table → Uncopied name (node from)) where
  no-batches : (later : List Mark) → Legal (later ++ from) → AllSteady (later ++ from) → AllPicked (later ++ from) → list_any (copies_again table) later ≡ false → list_any (applies_to table) later ≡ false
  no-batches [] l steady picked none = refl
  no-batches (mark ∷ later) l steady picked none =
      let h : History = later ++ from in
      let rest : list_any (copies_again table) later ≡ false = (or_parts (copies_again table mark) (list_any (copies_again table) later) none).1 in
      let one : applies_to table mark ≡ false =
      no-batch h table (λ name named. uncopied-above name table from (start h (on-top later from) name named) apart h named later here (legal-below_mark l) steady.1 rest) mark picked.0 in
      let others : list_any (applies_to table) later ≡ false = no-batches later (legal-below_mark l) steady.1 picked.1 rest in
      λ i. one i || others i

-- so it is from where it has left its leaf
left-unbatched : (name : List ℕ) (table : ℕ) (p : History) → place_of name (table_names p) ≡ Some table → (later : List Mark) → Legal (later ++ left_at name table p) → AllSteady (later ++ left_at name table p)
    → AllPicked (later ++ left_at name table p) → list_any (copies_again table) later ≡ false → list_any (applies_to table) later ≡ false
left-unbatched name table p named = no-batches table (left_at name table p) (λ n t g is. cc is) (λ h up other there.
    let kept : place_of name (table_names h) ≡ Some table =
    place-kept name table up (place-kept {p = p} {h = left_at name table p} name table (since_later {mark = tabled (read_only table false)} (since_later {mark = noded (leaf_removed name)} here)) named) in
    let one : name ≡ other = one-place name other (table_names h) table kept there in
    λ t is. absurd (cc (sym is ∙ ap (λ x. leaf_table x (after_node (leaf_removed name) (node p))) (sym one) ∙ just-gone name (node p))))

-- and from the beginning
first-unbatched : (table : ℕ) (later : List Mark) → Legal (later ++ []) → AllSteady (later ++ []) → AllPicked (later ++ []) → list_any (copies_again table) later ≡ false → list_any (applies_to table) later ≡ false
first-unbatched table = no-batches table [] (λ n t g is. cc is) (λ h up name there t is. absurd (cc is))

-- ---- its rows

-- when it leaves, no transaction that runs has written it
left-unwritten : (name : List ℕ) (table : ℕ) (p : History) → Legal (left_at name table p) → least_writer (part_of (noded (leaf_removed name) ∷ p)) table ≡ None
left-unwritten name table p l = of (fine_mark l)
  where
    fits : NodeFits p (leaf_removed name)
    fits = fits-of (fine_mark (legal-below_mark l))

    of : Fine (noded (leaf_removed name) ∷ p) (tabled (read_only table false)) → least_writer (part_of (noded (leaf_removed name) ∷ p)) table ≡ None
    of (guards _ _ (without_node _ _ bare)) = absurd (cc (sym (leaf-stays p (leaf_removed name) fits (leaf-has (node p) name fits.may)) ∙ ap is_leaf bare))
    of (guards _ _ (at_leaving _ last uncopied unwritten)) = unwritten

none-left : (name : List ℕ) (table : ℕ) (p : History) → Legal (left_at name table p) → NoneWritten (left_at name table p) table
none-left name table p l t works apart =
    let h : History = noded (leaf_removed name) ∷ p in
    let below : Legal h = legal-below_mark l in
    let runs : contains t (running h) ≡ true = (sound h below).works t works in
    nothing (writes_of table t h)
    (sym (ap (λ b. not b && some (writes_of table t h)) (runs-unended h (sound h below) t runs)) ∙ sym (is-written h below table t) ∙ unwritten-by h below table (left-unwritten name table p l) t runs)

pub left_tables_keep_their_rows : LeftTablesKeepTheirRows
left_tables_keep_their_rows calls d above later p name table is named once = record {
  unbatched = none;
  kept = sessions-rows later (left_at name table p) legal table (none-left name table p (legal-below later (left_at name table p) legal)) once none;
}
  where
    legal : Legal (later ++ left_at name table p)
    legal = legal-below above (later ++ left_at name table p) (subst Legal is (legal_past calls d))

    none : list_any (applies_to table) later ≡ false
    none =
        left-unbatched name table p named later legal (steady-below above (later ++ left_at name table p) (subst AllSteady is (steady-past calls d)))
        (picked-below above (later ++ left_at name table p) (subst AllPicked is (picked-past calls d))) once

-- one of which no copy has ended
pub uncopied_tables_show_sessions_writes : UncopiedTablesShowSessionsWrites
uncopied_tables_show_sessions_writes calls d above h table whole once =
    subst (λ g. rows table g ≡ in_turn (λ t. writes_of table t g) (committed_by_sessions h) []) (append-nil h)
    (sessions-rows h [] legal table (λ t works apart. refl) once
    (first-unbatched table h legal (back AllSteady (steady-below above h (subst AllSteady whole (steady-past calls d)))) (back AllPicked (picked-below above h (subst AllPicked whole (picked-past calls d)))) once))
  where
    back : (P : History → Type 0) → P h → P (h ++ [])
    back P = subst P (sym (append-nil h))

    legal : Legal (h ++ [])
    legal = back Legal (legal-below above h (subst Legal whole (legal_past calls d)))
