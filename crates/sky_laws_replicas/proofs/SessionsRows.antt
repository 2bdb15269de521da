-- The rows of a table that was copied, until it is copied again or a batch writes it: only sessions write it.
use Rattle.std.proofs.Common.{arith, ◌≡◌, ℕ, ◌==◌, List, [], ◌∷◌, ◌++◌, true, false, not, ◌&&◌, ◌||◌, Some, append_assoc, refl, sym, ap, subst, ◌∙◌, if◌then◌else◌}
use Rattle.std.specs.List.{list_any}
use Rattle.std.specs.Cmp.{eq_by_cmp_equiv}
use Rattle.sky_val.specs.declared.val.Val.{Val}
use Rattle.sky_val.proofs.Orders.{key_cmp-IsTotalOrder}
use Rattle.std.proofs.lemmas.Bool.Decides.{nat_tests}
use Rattle.std.proofs.lemmas.Bool.{false_from_ne_true, or_parts}
use Rattle.sky_txid.specs.Ids.{contains}
use Rattle.sky_model.specs.History.{Mark, NodeMark, Whose, of_session, of_worker, of_copy, ended, tabled, wrote, noded, copied, History}
use Rattle.sky_model.specs.Transactions.{next_txid, workers}
use Rattle.sky_model.specs.Copies.{copies, is_copied_by}
use Rattle.sky_model.specs.Rows.{Write, committed, writes as writes_of, has_written, rows, in_turn, put_all}
use Rattle.sky_model.specs.Calls.{past_of}
use Rattle.sky_histories.proofs.Legal.{Fine, begins_work, ends_work, begins_copy, ends_copy, writes, copies_row, applies_row, Legal, legal-below_mark, fine_mark}
use Rattle.sky_histories.proofs.Snapshots.{contains-push, contains-filter, copys-of, sound, runs-unended}
use Rattle.sky_histories.proofs.SnapshotLaws.{legal-below}
use Rattle.sky_histories.proofs.Guarded.{copied_by-push, copied_by-without}
use Rattle.sky_histories.proofs.Holders.{copy-alone, alone}
use Rattle.sky_histories.proofs.RowKeys.{begun}
use Rattle.sky_histories.proofs.RowWrites.{in_turn-push, in_turn-same}
use Rattle.sky_histories.proofs.KeyVersions.{same-writes}
use Rattle.sky_histories.proofs.Histories.{legal_past}
use Rattle.sky_model.proofs.Cases.{by_test, by_same}
use Rattle.sky_laws_replicas.specs.LawsOfReplicas.{HasProvidersRows, applies_to, copies_again, committed_by_sessions, ReplicasShowSessionsWrites}
use Rattle.sky_laws_replicas.proofs.Copying.{one-table}
use Rattle.sky_laws_replicas.proofs.KeptCalls.{copied_tables_have_providers_rows}

-- ---- once a table has been copied, a transaction of a worker writes none of its rows but by another copy, unless it applies a batch

abbrev pub NoneWritten : History → ℕ → Type 0
NoneWritten h table = (t : ℕ) → contains t (workers h) ≡ true → is_copied_by table t (copies h) ≡ false → writes_of table t h ≡ []

none-step : (h : History) → Legal h → (mark : Mark) → Fine h mark → (table : ℕ) → applies_to table mark ≡ false → NoneWritten h table → NoneWritten (mark ∷ h) table
none-step h l _ begins_work table none ih t works apart =
    by_same (λ b. (contains t (workers h) || b) ≡ true → writes_of table t h ≡ []) t (next_txid h)
    (λ same _. begun h l table t (omega (arith, same))) (λ _ old. ih t (grind (arith, old)) apart) (sym (contains-push t (next_txid h) (workers h)) ∙ works)
none-step h l _ (begins_copy n may) table none ih t works apart =
    by_same (λ b. (contains t (workers h) || b) ≡ true → writes_of table t h ≡ []) t (next_txid h)
    (λ same _. begun h l table t (omega (arith, same)))
    (λ _ old. ih t (grind (arith, old))
    (or_parts (is_copied_by table t (copies h)) (n == table && next_txid h == t) (sym (copied_by-push table t (copies h) (record { table = n; txid = next_txid h })) ∙ apart)).0)
    (sym (contains-push t (next_txid h) (workers h)) ∙ works)
none-step h l _ (ends_work u c is) table none ih t works apart = ih t (grind (arith, contains-filter t u (workers h), works)) apart
none-step h l _ (ends_copy n u c is) table none ih t works apart =
    ih t (grind (arith, contains-filter t u (workers h), works)) (grind (arith, contains-filter t u (workers h), works, copied_by-without table u t (copies h), apart))
none-step h l _ (writes who u n key old new mine free stands) table none ih t works apart =
    ap (λ b. if b then writes_of table t h ++ record { key = key; row = new } ∷ [] else writes_of table t h) other ∙ ih t works apart
  where
    other : (n == table && u == t) ≡ false
    other = by_same (λ b. (n == table && b) ≡ false) u t (λ same. absurd (cc (sym works ∙ (sound h l).nobodys who t (mine ∙ ap Some same)))) (λ _. grind (arith))
none-step h l _ (copies_row n u key old new is) table none ih t works apart =
    ap (λ b. if b then writes_of table t h ++ record { key = key; row = new } ∷ [] else writes_of table t h) other ∙ ih t works apart
  where
    other : (n == table && u == t) ≡ false
    other = by_same (λ b. (b && u == t) ≡ false) n table
        (λ one. by_same (λ b. (true && b) ≡ false) u t
        (λ same. absurd (cc (sym is.runs ∙ (ap (λ k. is_copied_by k u (copies h)) one ∙ ap (λ v. is_copied_by table v (copies h)) same) ∙ apart))) (λ _. refl)) (λ _. refl)
none-step h l _ (applies_row n u key old new is) table none ih t works apart =
    ap (λ b. if b then writes_of table t h ++ record { key = key; row = new } ∷ [] else writes_of table t h) (ap (λ b. b && u == t) none) ∙ ih t works apart
none-step h l _ _ table none ih t works apart = ih t works apart

none-written : (later : List Mark) (p : History) → Legal (later ++ p) → (table : ℕ) → list_any (applies_to table) later ≡ false → NoneWritten p table → NoneWritten (later ++ p) table
none-written [] p l table none from = from
none-written (mark ∷ later) p l table none from =
    let parts = or_parts (applies_to table mark) (list_any (applies_to table) later) none in
    let below : Legal (later ++ p) = legal-below_mark l in
    none-step (later ++ p) below mark (fine_mark l) table parts.0 (none-written later p below table parts.1 from)

-- where its copy has ended, no other transaction that runs has written it
no-keys : (ws : List Write) → ((key : List Val) → has_written key ws ≡ true → ⊥) → ws ≡ []
no-keys [] none = refl
no-keys (w ∷ ws) none = absurd (none w.key (ap (λ b. b || has_written w.key ws) ((eq_by_cmp_equiv key_cmp-IsTotalOrder).refl w.key)))

copy-ran : {h : History} {table t : ℕ} → Fine h (ended (of_copy table) t true) → is_copied_by table t (copies h) ≡ true
copy-ran (ends_copy table t c may) = may.runs

none-copied : (h : History) (table t : ℕ) (mark : NodeMark) → Legal (noded mark ∷ ended (of_copy table) t true ∷ h) → NoneWritten (noded mark ∷ ended (of_copy table) t true ∷ h) table
none-copied h table t mark l u works apart = no-keys (writes_of table u h) (λ key. copy-alone h below t table key runs u (runs-unended h (sound h below) u ((sound h below).works u (grind (arith, is)))) (grind (arith, nat_tests, is)))
  where
    below : Legal h
    below = legal-below_mark (legal-below_mark l)

    runs : is_copied_by table t (copies h) ≡ true
    runs = copy-ran (fine_mark (legal-below_mark l))

    is : (contains u (workers h) && not (u == t)) ≡ true
    is = sym (contains-filter u t (workers h)) ∙ works

work-quiet : {t : ℕ} (h : History) (table : ℕ) → NoneWritten h table → Fine h (ended of_worker t true) → writes_of table t h ≡ []
work-quiet {t = t} h table none (ends_work _ _ is) =
    none t is.works (false_from_ne_true (is_copied_by table t (copies h)) (λ runs. absurd (cc (sym (copys-of table t (copies h) runs) ∙ is.apart))))

copy-quiet : {t n : ℕ} (h : History) → Legal h → (table : ℕ) → NoneWritten h table → Fine h (ended (of_copy n) t true) → (n == table) ≡ false → writes_of table t h ≡ []
copy-quiet {t = t} {n = n} h l table none (ends_copy _ _ _ is) apart =
    none t ((sound h l).copying t (copys-of n t (copies h) is.runs))
    (false_from_ne_true (is_copied_by table t (copies h)) (λ runs. let one : n ≡ table = one-table h l n table t is.runs runs in absurd (grind (arith, nat_tests, one, apart))))

-- ---- the rows above a place

sessions-committed : (later : List Mark) (p : History) (u : ℕ) → contains u (committed_by_sessions later) ≡ true → contains u (committed (later ++ p)) ≡ true
sessions-committed [] p u is = absurd (cc is)
sessions-committed (ended (of_session who) t true ∷ later) p u is =
    contains-push u t (committed (later ++ p))
    ∙ by_test (λ b. contains u (committed_by_sessions later) ≡ b → (b || u == t) ≡ true → (contains u (committed (later ++ p)) || u == t) ≡ true) (contains u (committed_by_sessions later))
    (λ _ there _. ap (λ b. b || u == t) (sessions-committed later p u there)) (λ _ _ last. grind (arith, last)) refl (sym (contains-push u t (committed_by_sessions later)) ∙ is)
sessions-committed (ended of_worker t true ∷ later) p u is = contains-push u t (committed (later ++ p)) ∙ ap (λ b. b || u == t) (sessions-committed later p u is)
sessions-committed (ended (of_copy n) t true ∷ later) p u is = contains-push u t (committed (later ++ p)) ∙ ap (λ b. b || u == t) (sessions-committed later p u is)
sessions-committed (_ ∷ later) p u is = sessions-committed later p u is

-- the commit of one that has written nothing there
unwritten-ended : (h : History) (table t : ℕ) (whose : Whose) → writes_of table t h ≡ [] → rows table (ended whose t true ∷ h) ≡ rows table h
unwritten-ended h table t whose none = in_turn-push (λ u. writes_of table u h) (committed h) t [] ∙ ap (λ ws. put_all ws (rows table h)) none

pub sessions-rows : (later : List Mark) (p : History) → Legal (later ++ p) → (table : ℕ) → NoneWritten p table → list_any (copies_again table) later ≡ false → list_any (applies_to table) later ≡ false
    → rows table (later ++ p) ≡ in_turn (λ t. writes_of table t (later ++ p)) (committed_by_sessions later) (rows table p)
sessions-rows [] p l table from once none = refl
sessions-rows (tabled (wrote whose u n key old new) ∷ later) p l table from once none =
    let h : History = later ++ p in
    let below : Legal h = legal-below_mark l in
    let same = same-writes h below whose u n key old new (alone h below (fine_mark l)) table in
    in_turn-same (λ v. writes_of table v (tabled (wrote whose u n key old new) ∷ h)) (λ v. writes_of table v h) (committed h) [] same
    ∙ sessions-rows later p below table from once (or_parts (applies_to table (tabled (wrote whose u n key old new))) (list_any (applies_to table) later) none).1
    ∙ sym (in_turn-same (λ v. writes_of table v (tabled (wrote whose u n key old new) ∷ h)) (λ v. writes_of table v h) (committed_by_sessions later) (rows table p) (λ v there. same v (sessions-committed later p v there)))
sessions-rows (ended (of_session who) u true ∷ later) p l table from once none =
    let h : History = later ++ p in
    in_turn-push (λ v. writes_of table v h) (committed h) u []
    ∙ ap (put_all (writes_of table u h)) (sessions-rows later p (legal-below_mark l) table from once none)
    ∙ sym (in_turn-push (λ v. writes_of table v h) (committed_by_sessions later) u (rows table p))
sessions-rows (ended of_worker u true ∷ later) p l table from once none =
    let below : Legal (later ++ p) = legal-below_mark l in
    unwritten-ended (later ++ p) table u of_worker (work-quiet (later ++ p) table (none-written later p below table none from) (fine_mark l)) ∙ sessions-rows later p below table from once none
sessions-rows (ended (of_copy n) u true ∷ later) p l table from once none =
    let below : Legal (later ++ p) = legal-below_mark l in
    let parts = or_parts (n == table) (list_any (copies_again table) later) once in
    unwritten-ended (later ++ p) table u (of_copy n) (copy-quiet (later ++ p) below table (none-written later p below table none from) (fine_mark l) parts.0)
    ∙ sessions-rows later p below table from parts.1 none
sessions-rows (_ ∷ later) p l table from once none = sessions-rows later p (legal-below_mark l) table from once none

pub replicas_show_sessions_writes : ReplicasShowSessionsWrites
replicas_show_sessions_writes calls in_form database above later p name under tick is =
    let place : History = noded (copied name under tick) ∷ p in
    let copy : HasProvidersRows (past_of calls) database place name under =
    copied_tables_have_providers_rows calls in_form database (above ++ later) p name under tick (is ∙ sym (append_assoc above later place)) in
    let legal : Legal (later ++ place) = legal-below above (later ++ place) (subst Legal is (legal_past calls database)) in
    let start : NoneWritten place copy.table =
    subst (λ h. NoneWritten h copy.table) (sym copy.copy_ended) (none-copied copy.below copy.table copy.t (copied name under copy.tick) (subst Legal copy.copy_ended (legal-below later place legal))) in
    record {
      copy = copy;
      written = λ once none.
          sessions-rows later place legal copy.table start once none ∙ ap (in_turn (λ t. writes_of copy.table t (later ++ place)) (committed_by_sessions later)) copy.same;
    }
