-- While a copy of a table runs, the table is a leaf's and read-only, and no other copy of it runs; and no session's running transaction has written it.
use Rattle.std.proofs.Common.{◌≡◌, inl, inr, ℕ, ◌<◌, true, false, not, ◌||◌, ◌&&◌, ◌==◌, List, [], ◌∷◌, ◌++◌, Some, None, sym, ◌∙◌, ap, subst, refl, arith, if◌then◌else◌}
use Rattle.std.proofs.lemmas.Bool.{and_parts, eqb-true, false_from_ne_true}
use Rattle.std.proofs.lemmas.Bool.Decides.{nat_tests}
use Rattle.sky_txid.specs.Ids.{contains}
use Rattle.sky_model.specs.History.{Mark, of_session, of_worker, of_copy, began, ended, tabled, wrote, History}
use Rattle.sky_model.specs.Transactions.{next_txid, running, workers}
use Rattle.sky_model.specs.Copies.{Copy, without_copy, copies, is_copied, is_copied_by, is_copys, copy_txid}
use Rattle.sky_model.specs.Sessions.{own_txid}
use Rattle.sky_model.specs.Rows.{wrote_in, is_read_only}
use Rattle.sky_model.specs.Nodes.{node, is_leaf}
use Rattle.sky_histories.proofs.Legal.{brief, IsWork, without_node, at_joining, at_leaving, Fine, begins, ends, begins_work, ends_work, begins_copy, ends_copy, writes, copies_row, applies_row, guards, nodes, Legal, start, next}
use Rattle.sky_histories.proofs.Snapshots.{sound, runs-below, contains-push, contains-filter, copys-push, copys-without, copy-runs, copys-of, just_begun}
use Rattle.sky_histories.proofs.NodeReadings.{leaf-before, leaf-stays}
use Rattle.sky_histories.proofs.WrittenTables.{unwritten-by}
use Rattle.sky_model.proofs.Cases.{by_test, by_same}

-- ---- copies more or fewer

pub copied-push : (table : ℕ) (cs : List Copy) (c : Copy) → is_copied table (cs ++ c ∷ []) ≡ (is_copied table cs || c.table == table)
copied-push table [] c = grind arith
copied-push table (x ∷ cs) c = grind (arith, copied-push table cs c)

pub copied-less : (table t : ℕ) (cs : List Copy) → is_copied table (without_copy t cs) ≡ true → is_copied table cs ≡ true
copied-less table t [] is = is
copied-less table t (x ∷ cs) is = grind (arith, copied-less table t cs)

pub copied_by-push : (table t : ℕ) (cs : List Copy) (c : Copy) → is_copied_by table t (cs ++ c ∷ []) ≡ (is_copied_by table t cs || (c.table == table && c.txid == t))
copied_by-push table t [] c = grind arith
copied_by-push table t (x ∷ cs) c = grind (arith, copied_by-push table t cs c)

pub copied_by-without : (table t u : ℕ) (cs : List Copy) → is_copied_by table u (without_copy t cs) ≡ (is_copied_by table u cs && not (u == t))
copied_by-without table t u [] = refl
copied_by-without table t u (x ∷ cs) = grind (arith, nat_tests, copied_by-without table t u cs)

pub copied-by : (table t : ℕ) (cs : List Copy) → is_copied_by table t cs ≡ true → is_copied table cs ≡ true
copied-by table t [] is = is
copied-by table t (x ∷ cs) is = grind (arith, copied-by table t cs)

-- ---- the table of a copy that runs

-- a table is a leaf's, and read-only
pub record IsGuarded (h : History) (table : ℕ) : Type 0 where
  pub leaf : is_leaf (node h) ≡ true
  pub guarded : is_read_only table h ≡ true

abbrev CopiesGuarded : History → Type 0
CopiesGuarded h = (table : ℕ) → is_copied table (copies h) ≡ true → IsGuarded h table

guarded-step : (h : History) (mark : Mark) → Fine h mark → CopiesGuarded h → CopiesGuarded (mark ∷ h)
guarded-step h _ (begins_copy n may) ih = λ table is.
    by_same (λ _. IsGuarded (began (of_copy n) (next_txid h) ∷ h) table) n table
    (λ same. record { leaf = may.leaf; guarded = ap (λ k. is_read_only k h) (sym same) ∙ may.guarded })
    (λ other. let g = ih table (grind (arith, nat_tests, copied-push table (copies h) (record { table = n; txid = next_txid h }))) in record { leaf = g.leaf; guarded = g.guarded })
guarded-step h _ (ends_copy n t c is) ih = λ table there. let g = ih table (copied-less table t (copies h) there) in record { leaf = g.leaf; guarded = g.guarded }
guarded-step h _ (nodes mark fits) ih = λ table is. let g = ih table is in record { leaf = leaf-stays h mark fits g.leaf; guarded = g.guarded }
guarded-step h _ (guards _ _ (without_node n on bare)) ih = λ table is. let g = ih table is in absurd (cc (sym g.leaf ∙ ap is_leaf bare))
guarded-step h _ (guards _ _ (at_joining n last unused)) ih = λ table is.
    let g = ih table is in record { leaf = g.leaf; guarded = by_test (λ b. (if b then true else is_read_only table h) ≡ true) (n == table) (λ _. refl) (λ _. g.guarded) }
guarded-step h _ (guards _ _ (at_leaving n last uncopied unwritten)) ih = λ table is.
    let g = ih table is in record {
      leaf = g.leaf;
      guarded = by_same (λ b. (if b then false else is_read_only table h) ≡ true) n table (λ same. absurd (cc (sym is ∙ ap (λ k. is_copied k (copies h)) (sym same) ∙ uncopied))) (λ _. g.guarded);
    }
guarded-step h _ _ ih = λ table is. let g = ih table is in record { leaf = g.leaf; guarded = g.guarded }

pub copies-guarded : (h : History) → Legal h → CopiesGuarded h
copies-guarded [] start = λ table is. absurd (cc)
copies-guarded _ (next {h = h} {mark = mark} l fine) = guarded-step h mark fine (copies-guarded h l)

-- no other copy of it runs
abbrev OneCopy : History → Type 0
OneCopy h = (table t u : ℕ) → is_copied_by table t (copies h) ≡ true → is_copied_by table u (copies h) ≡ true → t ≡ u

one-step : (h : History) (mark : Mark) → Fine h mark → OneCopy h → OneCopy (mark ∷ h)
one-step h _ (begins_copy n may) ih = λ table t u is also.
    let c : Copy = record { table = n; txid = next_txid h } in
    grind (arith, nat_tests, copied_by-push table t (copies h) c, copied_by-push table u (copies h) c, ih table t u, copied-by table t (copies h), copied-by table u (copies h), may.alone)
one-step h _ (ends_copy n v c is) ih = λ table t u is also. grind (arith, copied_by-without table v t (copies h), copied_by-without table v u (copies h), ih table t u)
one-step h _ _ ih = ih

pub one-copy : (h : History) → Legal h → OneCopy h
one-copy [] start = λ table t u is also. absurd (cc)
one-copy _ (next {h = h} {mark = mark} l fine) = one-step h mark fine (one-copy h l)

-- ---- what the running transactions of sessions have written

-- who has written has an id that was given
writers-begun : (h : History) → Legal h → (table t : ℕ) → wrote_in table t h ≡ true → t < next_txid h
writers-begun [] start table t wrote_it = absurd (cc)
writers-begun (began whose u ∷ h) (next l fine) table t wrote_it = omega (arith, writers-begun h l table t wrote_it)
writers-begun (ended whose u c ∷ h) (next l fine) table t wrote_it = writers-begun h l table t (and_parts (not (u == t)) (wrote_in table t h) wrote_it).1
writers-begun _ (next {h = h} l (writes who u n key old new mine free stands)) table t wrote_it =
    by_test (λ b. (b || wrote_in table t h) ≡ true → t < next_txid h) (n == table && u == t)
    (λ is _. subst (λ k. k < next_txid h) (eqb-true u t (and_parts (n == table) (u == t) is).1) (runs-below h (sound h l) u ((sound h l).owns who u mine)))
    (λ _ e. writers-begun h l table t e) wrote_it
writers-begun _ (next {h = h} l (copies_row n u key old new copy)) table t wrote_it =
    by_test (λ b. (b || wrote_in table t h) ≡ true → t < next_txid h) (n == table && u == t)
    (λ is _. subst (λ k. k < next_txid h) (eqb-true u t (and_parts (n == table) (u == t) is).1) (runs-below h (sound h l) u (copy-runs h (sound h l) n u copy.runs)))
    (λ _ e. writers-begun h l table t e) wrote_it
writers-begun _ (next {h = h} l (applies_row n u key old new is)) table t wrote_it =
    by_test (λ b. (b || wrote_in table t h) ≡ true → t < next_txid h) (n == table && u == t)
    (λ own _. subst (λ k. k < next_txid h) (eqb-true u t (and_parts (n == table) (u == t) own).1) (runs-below h (sound h l) u ((sound h l).works u is.brief.work.works)))
    (λ _ e. writers-begun h l table t e) wrote_it
writers-begun (_ ∷ h) (next l fine) table t wrote_it = writers-begun h l table t wrote_it

-- on a leaf they have written no read-only table
abbrev pub Unguarded : History → Type 0
Unguarded h = (who t table : ℕ) → own_txid who h ≡ Some t → wrote_in table t h ≡ true → is_leaf (node h) ≡ true → is_read_only table h ≡ false

unguarded-step : (h : History) → Legal h → (mark : Mark) → Fine h mark → Unguarded h → Unguarded (mark ∷ h)
unguarded-step h l _ (begins v none) ih = λ who t table owns wrote_it leaf.
    by_test (λ b. (if b then Some (next_txid h) else own_txid who h) ≡ Some t → is_read_only table h ≡ false) (v == who)
    (λ _ new. (let same : next_txid h ≡ t = cc in absurd (omega (arith, same, writers-begun h l table t wrote_it)))) (λ _ owned. ih who t table owned wrote_it leaf) owns
unguarded-step h l _ (ends v u c mine) ih = λ who t table owns wrote_it leaf.
    by_test (λ b. (if b then None else own_txid who h) ≡ Some t → is_read_only table h ≡ false) (v == who) (λ _ none. absurd (cc))
    (λ _ owned. ih who t table owned (and_parts (not (u == t)) (wrote_in table t h) wrote_it).1 leaf) owns
unguarded-step h l _ (ends_work u c is) ih = λ who t table owns wrote_it leaf. ih who t table owns (and_parts (not (u == t)) (wrote_in table t h) wrote_it).1 leaf
unguarded-step h l _ (ends_copy n u c is) ih = λ who t table owns wrote_it leaf. ih who t table owns (and_parts (not (u == t)) (wrote_in table t h) wrote_it).1 leaf
unguarded-step h l _ (writes v u n key old new mine free stands) ih = λ who t table owns wrote_it leaf.
    by_test (λ b. (b || wrote_in table t h) ≡ true → is_read_only table h ≡ false) (n == table && u == t)
    (λ is _. ap (λ k. is_read_only k h) (sym (eqb-true n table (and_parts (n == table) (u == t) is).0)) ∙ stands.writable leaf)
    (λ _ e. ih who t table owns e leaf) wrote_it
-- a copy's transaction is no session's
unguarded-step h l _ (copies_row n u key old new is) ih = λ who t table owns wrote_it leaf.
    by_same (λ b. ((n == table && b) || wrote_in table t h) ≡ true → is_read_only table h ≡ false) u t
    (λ same _. absurd (cc (sym ((sound h l).copying u (copys-of n u (copies h) is.runs)) ∙ (sound h l).nobodys who u (owns ∙ ap Some (sym same)))))
    (λ _ e. ih who t table owns (grind (arith, e)) leaf) wrote_it
-- nor is a worker's
unguarded-step h l _ (applies_row n u key old new is) ih = λ who t table owns wrote_it leaf.
    by_same (λ b. ((n == table && b) || wrote_in table t h) ≡ true → is_read_only table h ≡ false) u t
    (λ same _. absurd (cc (sym is.brief.work.works ∙ (sound h l).nobodys who u (owns ∙ ap Some (sym same)))))
    (λ _ e. ih who t table owns (grind (arith, e)) leaf) wrote_it
unguarded-step h l _ (nodes mark fits) ih = λ who t table owns wrote_it leaf. elim (leaf-before h mark fits leaf) [
  | inl was ↦ ih who t table owns wrote_it was
  | inr free ↦ free table
]
unguarded-step h l _ (guards _ _ (without_node n on bare)) ih = λ who t table owns wrote_it leaf. absurd (cc (sym leaf ∙ ap is_leaf bare))
unguarded-step h l _ (guards _ _ (at_joining n last unused)) ih = λ who t table owns wrote_it leaf.
    by_same (λ b. (if b then true else is_read_only table h) ≡ false) n table
    (λ same. absurd (cc (sym wrote_it ∙ ap (λ k. wrote_in k t h) (sym same) ∙ unwritten-by h l n unused.unwritten t ((sound h l).owns who t owns))))
    (λ _. ih who t table owns wrote_it leaf)
unguarded-step h l _ (guards _ _ (at_leaving n last uncopied unwritten)) ih = λ who t table owns wrote_it leaf.
    by_test (λ b. (if b then false else is_read_only table h) ≡ false) (n == table) (λ _. refl) (λ _. ih who t table owns wrote_it leaf)
unguarded-step h l _ _ ih = ih

pub unguarded : (h : History) → Legal h → Unguarded h
unguarded [] start = λ who t table owns wrote_it leaf. refl
unguarded _ (next {h = h} {mark = mark} l fine) = unguarded-step h l mark fine (unguarded h l)

-- ---- what workers' transactions have written that end in the step in which they began

-- each of these is a worker's that runs, and no copy's
abbrev BriefWork : History → Type 0
BriefWork h = (t : ℕ) → contains t (brief h) ≡ true → IsWork h t

brief-step : (h : History) → Legal h → (mark : Mark) → Fine h mark → BriefWork h → BriefWork (mark ∷ h)
brief-step h l _ begins_work ih = λ t is.
    by_same (λ _. IsWork (began of_worker (next_txid h) ∷ h) t) (next_txid h) t
    (λ same. subst (IsWork (began of_worker (next_txid h) ∷ h)) same (just_begun h (sound h l)).work)
    (λ other.
    let w : IsWork h t = ih t (grind (arith, nat_tests, contains-push t (next_txid h) (brief h))) in
    record { works = grind (arith, contains-push t (next_txid h) (workers h), w.works); apart = w.apart })
brief-step h l _ (ends_work u c is) ih = λ t here.
    let parts = and_parts (contains t (brief h)) (not (t == u)) (sym (contains-filter t u (brief h)) ∙ here) in
    let w : IsWork h t = ih t parts.0 in
    record { works = grind (arith, contains-filter t u (workers h), w.works, parts.1); apart = w.apart }
brief-step h l _ (begins_copy n may) ih = λ t is.
    let w : IsWork h t = ih t is in
    let below : t < next_txid h = runs-below h (sound h l) t ((sound h l).works t w.works) in
    record {
      works = grind (arith, contains-push t (next_txid h) (workers h), w.works);
      apart = grind (arith, nat_tests, copys-push t (copies h) (record { table = n; txid = next_txid h }), w.apart, below);
    }
brief-step h l _ (ends_copy n u c is) ih = λ t here.
    let w : IsWork h t = ih t here in
    let other : (t == u) ≡ false = by_same (λ b. b ≡ false) t u (λ same. absurd (cc (sym (copys-of n u (copies h) is.runs) ∙ ap (λ v. is_copys v (copies h)) (sym same) ∙ w.apart))) (λ isnt. refl) in
    record { works = grind (arith, contains-filter t u (workers h), w.works, other); apart = grind (arith, copys-without u t (copies h), w.apart) }
brief-step h l _ _ ih = λ t is. let w : IsWork h t = ih t is in record { works = w.works; apart = w.apart }

pub brief-works : (h : History) → Legal h → BriefWork h
brief-works [] start = λ t is. absurd (cc)
brief-works _ (next {h = h} {mark = mark} l fine) = brief-step h l mark fine (brief-works h l)

-- a table is a leaf's, read-only, and not being copied
pub record IsUncopied (h : History) (table : ℕ) : Type 0 where
  pub guard : IsGuarded h table
  pub uncopied : is_copied table (copies h) ≡ false

-- so is one that they have written
abbrev BriefUncopied : History → Type 0
BriefUncopied h = (table t : ℕ) → contains t (brief h) ≡ true → wrote_in table t h ≡ true → IsUncopied h table

-- their transactions run
brief-runs : (h : History) → Legal h → (t : ℕ) → contains t (brief h) ≡ true → contains t (running h) ≡ true
brief-runs h l t is = (sound h l).works t (brief-works h l t is).works

uncopied-step : (h : History) → Legal h → (mark : Mark) → Fine h mark → BriefUncopied h → BriefUncopied (mark ∷ h)
uncopied-step h l _ begins_work ih = λ table t is wrote_it.
    let below : t < next_txid h = writers-begun h l table t wrote_it in
    let g : IsUncopied h table = ih table t (grind (arith, nat_tests, contains-push t (next_txid h) (brief h), below)) wrote_it in
    record { guard = record { leaf = g.guard.leaf; guarded = g.guard.guarded }; uncopied = g.uncopied }
uncopied-step h l _ (ends_work u c is) ih = λ table t here wrote_it.
    let parts = and_parts (contains t (brief h)) (not (t == u)) (sym (contains-filter t u (brief h)) ∙ here) in
    let g : IsUncopied h table = ih table t parts.0 (and_parts (not (u == t)) (wrote_in table t h) wrote_it).1 in
    record { guard = record { leaf = g.guard.leaf; guarded = g.guard.guarded }; uncopied = g.uncopied }
uncopied-step h l _ (ends who u c mine) ih = λ table t here wrote_it.
    let g : IsUncopied h table = ih table t here (and_parts (not (u == t)) (wrote_in table t h) wrote_it).1 in
    record { guard = record { leaf = g.guard.leaf; guarded = g.guard.guarded }; uncopied = g.uncopied }
uncopied-step h l _ (begins_copy n may) ih = λ table t is wrote_it.
    by_same (λ _. IsUncopied (began (of_copy n) (next_txid h) ∷ h) table) n table
    (λ same. absurd (cc (sym wrote_it ∙ ap (λ k. wrote_in k t h) (sym same) ∙ unwritten-by h l n may.unwritten t (brief-runs h l t is))))
    (λ other.
    let g : IsUncopied h table = ih table t is wrote_it in
    record {
      guard = record { leaf = g.guard.leaf; guarded = g.guard.guarded };
      uncopied = grind (arith, copied-push table (copies h) (record { table = n; txid = next_txid h }), g.uncopied, other);
    })
uncopied-step h l _ (ends_copy n u c is) ih = λ table t here wrote_it.
    let g : IsUncopied h table = ih table t here (and_parts (not (u == t)) (wrote_in table t h) wrote_it).1 in
    record {
      guard = record { leaf = g.guard.leaf; guarded = g.guard.guarded };
      uncopied = false_from_ne_true (is_copied table (without_copy u (copies h))) (λ there. cc (sym (copied-less table u (copies h) there) ∙ g.uncopied));
    }
uncopied-step h l _ (writes v u n key old new mine free stands) ih = λ table t here wrote_it.
    by_same (λ b. ((n == table && b) || wrote_in table t h) ≡ true → IsUncopied (tabled (wrote (of_session v) u n key old new) ∷ h) table) u t
    (λ same _. absurd (cc (sym (brief-works h l t here).works ∙ (sound h l).nobodys v t (mine ∙ ap Some same))))
    (λ _ e. let g : IsUncopied h table = ih table t here (grind (arith, e)) in record { guard = record { leaf = g.guard.leaf; guarded = g.guard.guarded }; uncopied = g.uncopied }) wrote_it
uncopied-step h l _ (copies_row n u key old new is) ih = λ table t here wrote_it.
    by_same (λ b. ((n == table && b) || wrote_in table t h) ≡ true → IsUncopied (tabled (wrote (of_copy n) u n key old new) ∷ h) table) u t
    (λ same _. absurd (cc (sym (copys-of n u (copies h) is.runs) ∙ ap (λ v. is_copys v (copies h)) same ∙ (brief-works h l t here).apart)))
    (λ _ e. let g : IsUncopied h table = ih table t here (grind (arith, e)) in record { guard = record { leaf = g.guard.leaf; guarded = g.guard.guarded }; uncopied = g.uncopied }) wrote_it
uncopied-step h l _ (applies_row n u key old new is) ih = λ table t here wrote_it.
    by_test (λ b. (b || wrote_in table t h) ≡ true → IsUncopied (tabled (wrote of_worker u n key old new) ∷ h) table) (n == table && u == t)
    (λ own _. let same : n ≡ table = eqb-true n table (and_parts (n == table) (u == t) own).0 in record {
      guard = record { leaf = is.leaf; guarded = ap (λ k. is_read_only k h) (sym same) ∙ is.guarded };
      uncopied = ap (λ k. is_copied k (copies h)) (sym same) ∙ is.uncopied;
    })
    (λ _ e. let g : IsUncopied h table = ih table t here e in record { guard = record { leaf = g.guard.leaf; guarded = g.guard.guarded }; uncopied = g.uncopied }) wrote_it
uncopied-step h l _ (nodes mark fits) ih = λ table t here wrote_it.
    let g : IsUncopied h table = ih table t here wrote_it in record { guard = record { leaf = leaf-stays h mark fits g.guard.leaf; guarded = g.guard.guarded }; uncopied = g.uncopied }
uncopied-step h l _ (guards _ _ (without_node n on bare)) ih = λ table t here wrote_it. let g : IsUncopied h table = ih table t here wrote_it in absurd (cc (sym g.guard.leaf ∙ ap is_leaf bare))
uncopied-step h l _ (guards _ _ (at_joining n last unused)) ih = λ table t here wrote_it.
    let g : IsUncopied h table = ih table t here wrote_it in record {
      guard = record { leaf = g.guard.leaf; guarded = by_test (λ b. (if b then true else is_read_only table h) ≡ true) (n == table) (λ _. refl) (λ _. g.guard.guarded) };
      uncopied = g.uncopied;
    }
uncopied-step h l _ (guards _ _ (at_leaving n last uncopied unwritten)) ih = λ table t here wrote_it.
    let g : IsUncopied h table = ih table t here wrote_it in record {
      guard = record {
        leaf = g.guard.leaf;
        guarded = by_same (λ b. (if b then false else is_read_only table h) ≡ true) n table
            (λ same. absurd (cc (sym wrote_it ∙ ap (λ k. wrote_in k t h) (sym same) ∙ unwritten-by h l n unwritten t (brief-runs h l t here)))) (λ _. g.guard.guarded);
      };
      uncopied = g.uncopied;
    }
uncopied-step h l _ _ ih = λ table t here wrote_it.
    let g : IsUncopied h table = ih table t here wrote_it in record { guard = record { leaf = g.guard.leaf; guarded = g.guard.guarded }; uncopied = g.uncopied }

pub brief-uncopied : (h : History) → Legal h → BriefUncopied h
brief-uncopied [] start = λ table t here wrote_it. absurd (cc)
brief-uncopied _ (next {h = h} {mark = mark} l fine) = uncopied-step h l mark fine (brief-uncopied h l)

-- ---- the copy of a table

-- the transaction by which a table is copied
record CopiedBy (table : ℕ) (cs : List Copy) : Type 0 where
  txid : ℕ
  is : is_copied_by table txid cs ≡ true

copied-some : (table : ℕ) (cs : List Copy) → is_copied table cs ≡ true → CopiedBy table cs
copied-some table [] is = absurd (cc)
copied-some table (x ∷ cs) is =
    by_test (λ b. (x.table == table) ≡ b → (b || is_copied table cs) ≡ true → CopiedBy table (x ∷ cs)) (x.table == table)
    (λ _ here _. record { txid = x.txid; is = grind (arith, nat_tests, here) })
    (λ _ _ there. let rest : CopiedBy table cs = copied-some table cs there in record { txid = rest.txid; is = grind (arith, rest.is) }) refl is

pub copy_txid-some : (table t : ℕ) (cs : List Copy) → copy_txid table cs ≡ Some t → is_copied_by table t cs ≡ true
copy_txid-some table t [] is = absurd (cc)
copy_txid-some table t (x ∷ cs) is = grind (arith, nat_tests, copy_txid-some table t cs)

pub copy_txid-none : (table : ℕ) (cs : List Copy) → copy_txid table cs ≡ None → is_copied table cs ≡ false
copy_txid-none table [] none = refl
copy_txid-none table (x ∷ cs) none = grind (arith, copy_txid-none table cs)

-- once it has ended, the table isn't copied
pub gone : (h : History) → Legal h → (table t : ℕ) → is_copied_by table t (copies h) ≡ true → is_copied table (without_copy t (copies h)) ≡ false
gone h l table t is = false_from_ne_true (is_copied table (without_copy t (copies h))) (λ there.
    let other : CopiedBy table (without_copy t (copies h)) = copied-some table (without_copy t (copies h)) there in
    let parts = and_parts (is_copied_by table other.txid (copies h)) (not (other.txid == t)) (sym (copied_by-without table t other.txid (copies h)) ∙ other.is) in
    let same : t ≡ other.txid = one-copy h l table t other.txid is parts.0 in
    grind (arith, nat_tests, parts.1, same))
