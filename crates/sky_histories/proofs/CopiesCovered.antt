-- A copy that runs has written the keys of all rows of its table, once it has deleted what was there.
use Rattle.std.proofs.Common.{◌≡◌, ℕ, Bool, true, false, not, ◌||◌, ◌&&◌, ◌==◌, List, [], ◌∷◌, Option, Some, None, is_some, refl, sym, ◌∙◌, ap, subst, arith}
use Rattle.std.proofs.lemmas.Bool.{and_parts, false_from_ne_true}
use Rattle.std.proofs.lemmas.Bool.Decides.{nat_tests}
use Rattle.sky_val.specs.declared.val.Val.{Val}
use Rattle.sky_val.specs.Entries.{Entries, at}
use Rattle.sky_model.specs.History.{Mark, Whose, of_copy, began, ended, tabled, wrote, History}
use Rattle.sky_model.specs.Copies.{copies, is_copied_by, is_copys}
use Rattle.sky_model.specs.Rows.{Write, committed, writes as writes_of, rows, has_written}
use Rattle.sky_model.specs.State.{part_of, after_part}
use Rattle.sky_model.specs.StepCopy.{rows_now, copy_write, copy_writes, deletions}
use Rattle.sky_model.specs.Settling.{marked}
use Rattle.sky_histories.proofs.Legal.{Covers, Fine, ends, ends_work, ends_copy, Chain, done, more, Legal, next}
use Rattle.sky_histories.proofs.Marks.{part_of-mark}
use Rattle.sky_histories.proofs.Snapshots.{copys-of, ender-unended}
use Rattle.sky_histories.proofs.Guarded.{copied_by-push, copied_by-without}
use Rattle.sky_histories.proofs.Holders.{has_written-push, not-copys, copy-alone, alone}
use Rattle.sky_histories.proofs.RowWrites.{over, last_of, at-put_all, has_written-last_of, in_turn-push, in_turn-same}
use Rattle.sky_histories.proofs.KeyVersions.{same-writes}
use Rattle.sky_histories.proofs.RowSights.{here, rows-under}
use Rattle.sky_histories.proofs.StatementMarks.{EachMark, each-rest, when-true}
use Rattle.sky_model.proofs.Cases.{by_test, by_same}

abbrev pub AllCovered : History → Type 0
AllCovered h = (table t : ℕ) → is_copied_by table t (copies h) ≡ true → Covers h table t

pub covered-start : AllCovered []
covered-start = λ table t is. absurd (cc)

-- ---- marks by which no copy begins

abbrev pub is_no_begin : Mark → Bool
is_no_begin (began (of_copy table) t) = false
is_no_begin _ = true

-- a write changes no committed row
pub rows-wrote : (h : History) → Legal h → (whose : Whose) (t n : ℕ) (key : List Val) (old new : Option (List Val)) → Fine h (tabled (wrote whose t n key old new)) → (table : ℕ)
    → rows table (tabled (wrote whose t n key old new) ∷ h) ≡ rows table h
rows-wrote h l whose t n key old new fine table =
    in_turn-same (λ u. writes_of table u (tabled (wrote whose t n key old new) ∷ h)) (λ u. writes_of table u h) (committed h) [] (same-writes h l whose t n key old new (alone h l fine) table)

-- a copy that still runs after a transaction has ended ran before, and it isn't its own
still-copied : (h : History) → Legal h → (whose : Whose) (u : ℕ) (c : Bool) → Fine h (ended whose u c) → (table t : ℕ) → is_copied_by table t (copies (ended whose u c ∷ h)) ≡ true
    → (is_copied_by table t (copies h) ≡ true) × ((t == u) ≡ false)
still-copied h l _ _ _ (ends who u c mine) table t is =
    (is, by_same (λ b. b ≡ false) t u (λ same. absurd (not-copys h l who table t (mine ∙ ap Some (sym same)) is)) (λ _. refl))
still-copied h l _ _ _ (ends_work u c work) table t is =
    (is, by_same (λ b. b ≡ false) t u (λ same. absurd (cc (sym (copys-of table t (copies h) is) ∙ ap (λ v. is_copys v (copies h)) same ∙ work.apart))) (λ _. refl))
still-copied h l _ _ _ (ends_copy n u c may) table t is =
    let parts = and_parts (is_copied_by table t (copies h)) (not (t == u)) (sym (copied_by-without table u t (copies h)) ∙ is) in (parts.0, of (t == u) parts.1)
  where
    of : (b : Bool) → not b ≡ true → b ≡ false
    of true e = absurd (cc)
    of false e = refl

-- the commit of one that hasn't written a key leaves its row
rows-ended : (h : History) (whose : Whose) (u table : ℕ) (key : List Val) → has_written key (writes_of table u h) ≡ false → at key (rows table (ended whose u true ∷ h)) ≡ at key (rows table h)
rows-ended h whose u table key unwritten =
    ap (at key) (in_turn-push (λ v. writes_of table v h) (committed h) u []) ∙ at-put_all key (writes_of table u h) (rows table h)
    ∙ of (last_of key (writes_of table u h)) (sym (has_written-last_of key (writes_of table u h)) ∙ unwritten)
  where
    of : (o : Option (Option (List Val))) → is_some o ≡ false → over o (at key (rows table h)) ≡ at key (rows table h)
    of None none = refl
    of (Some left) none = absurd (cc)

covered-mark : (h : History) → Legal h → (mark : Mark) → Fine h mark → is_no_begin mark ≡ true → AllCovered h → AllCovered (mark ∷ h)
covered-mark h l (tabled (wrote whose u n k old new)) fine plain ih = λ table t is key there.
    let before : has_written key (writes_of table t h) ≡ true = ih table t is key (ap (λ rs. is_some (at key rs)) (sym (rows-wrote h l whose u n k old new fine table)) ∙ there) in
    grind (arith, has_written-push key (writes_of table t h) (record { key = k; row = new }), before)
covered-mark h l (ended whose u true) fine plain ih = λ table t is key there.
    let still = still-copied h l whose u true fine table t is in
    let unended = ender-unended h l whose u true fine in
    let unwritten = false_from_ne_true (has_written key (writes_of table u h)) (copy-alone h l t table key still.0 u unended still.1) in
    ih table t still.0 key (ap is_some (sym (rows-ended h whose u table key unwritten)) ∙ there)
covered-mark h l (ended whose u false) fine plain ih = λ table t is key there. ih table t (still-copied h l whose u false fine table t is).0 key there
covered-mark h l (began (of_copy n) u) fine plain ih = absurd (cc)
covered-mark h l _ fine plain ih = λ table t is key there. ih table t is key there

pub covered-marks : (h : History) (marks : List Mark) → Legal h → Chain h marks → EachMark is_no_begin marks → AllCovered h → AllCovered (marked h marks)
covered-marks h [] l done each covered = covered
covered-marks h (mark ∷ marks) l (more fine chain) each covered =
    covered-marks (mark ∷ h) marks (next l fine) chain (each-rest is_no_begin mark marks each) (covered-mark h l mark fine (when-true (EachMark is_no_begin marks) (is_no_begin mark) each) covered)

-- ---- the beginning of a copy

-- so it is but for what a copy is still to write
abbrev CoveredBut : History → (n t : ℕ) → List Write → Type 0
CoveredBut h n t ws = (table u : ℕ) → is_copied_by table u (copies h) ≡ true → (key : List Val) → is_some (at key (rows table h)) ≡ true
    → (has_written key (writes_of table u h) || (n == table && t == u && has_written key ws)) ≡ true

covered-writes : (h : History) → Legal h → (n t : ℕ) (ws : List Write) → Chain h (copy_writes (part_of h) n t ws) → CoveredBut h n t ws → AllCovered (marked h (copy_writes (part_of h) n t ws))
covered-writes h l n t [] chain but = λ table u is key there. let all = but table u is key there in grind (arith, all)
covered-writes h l n t (w ∷ ws) (more fine chain) but =
    subst (λ d. AllCovered (marked (mark ∷ h) (copy_writes d n t ws))) (part_of-mark h mark)
    (covered-writes (mark ∷ h) (next l fine) n t ws (subst (λ d. Chain (mark ∷ h) (copy_writes d n t ws)) (sym (part_of-mark h mark)) chain) rest)
  where
    mark : Mark
    mark = copy_write (part_of h) n t w

    rest : CoveredBut (mark ∷ h) n t ws
    rest table u is key there =
        let all = but table u is key (ap (λ rs. is_some (at key rs)) (sym (rows-wrote h l (of_copy n) t n w.key _ w.row fine table)) ∙ there) in
        grind (arith, has_written-push key (writes_of table u h) (record { key = w.key; row = w.row }), all)

deleted : (key : List Val) (rs : Entries (List Val)) → has_written key (deletions rs) ≡ is_some (at key rs)
deleted key [] = refl
deleted key (e ∷ rs) = grind (arith, deleted key rs)

pub covered-begins : (h : History) → Legal h → AllCovered h → (n t : ℕ) → Chain h (began (of_copy n) t ∷ copy_writes (after_part (part_of h) (began (of_copy n) t)) n t (deletions (rows_now (part_of h) n)))
    → AllCovered (marked h (began (of_copy n) t ∷ copy_writes (after_part (part_of h) (began (of_copy n) t)) n t (deletions (rows_now (part_of h) n))))
covered-begins h l covered n t (more fine chain) =
    subst (λ d. AllCovered (marked g (copy_writes d n t ws))) (part_of-mark h (began (of_copy n) t))
    (covered-writes g (next l fine) n t ws (subst (λ d. Chain g (copy_writes d n t ws)) (sym (part_of-mark h (began (of_copy n) t))) chain) but)
  where
    g : History
    g = began (of_copy n) t ∷ h

    ws : List Write
    ws = deletions (rows_now (part_of h) n)

    but : CoveredBut g n t ws
    but table u is key there =
        by_test (λ b. (n == table && t == u) ≡ b → (has_written key (writes_of table u h) || (n == table && t == u && has_written key ws)) ≡ true) (n == table && t == u)
        (λ _ own. let all : has_written key ws ≡ true = deleted key (rows_now (part_of h) n) ∙ ap (λ rs. is_some (at key rs)) (rows-under h h here l n) ∙ mine own in grind (arith, own, all))
        (λ _ other. let old : has_written key (writes_of table u h) ≡ true = covered table u (was other) key there in grind (arith, old)) refl
      where
        mine : (n == table && t == u) ≡ true → is_some (at key (rows n h)) ≡ true
        mine own = let same : n ≡ table = grind (arith, nat_tests, own) in ap (λ k. is_some (at key (rows k h))) same ∙ there

        was : (n == table && t == u) ≡ false → is_copied_by table u (copies h) ≡ true
        was other = grind (arith, copied_by-push table u (copies h) (record { table = n; txid = t }), is, other)
