-- A table keeps its name and its columns; and once it is in a set, those that wrote it before have ended.
use Rattle.std.proofs.Common.{◌≡◌, ℕ, zero, suc, ◌+◌, ◌<◌, ◌≤◌, true, false, not, ◌&&◌, ◌||◌, ◌==◌, nat_lt, List, [], ◌∷◌, ◌++◌, Option, Some, None, slice_get, length, bytes_eq, refl, sym, ◌∙◌, ap, arith, if◌then◌else◌, length-append}
use Rattle.std.specs.Option.{option_or}
use Rattle.std.proofs.lemmas.Bool.{and_parts, or_right, eqb-true, true_from_ne_false}
use Rattle.std.proofs.lemmas.Bool.Decides.{nat_tests}
use Rattle.sky_txid.specs.Ids.{contains}
use Rattle.sky_names.specs.Places.{place_of}
use Rattle.sky_names.proofs.PlaceLemmas.{bytes_eq_refl, same_name, place_of-append}
use Rattle.londiste_state.specs.Nodes.{Node, is_among}
use Rattle.sky_model.specs.History.{Mark, NodeMark, tabled, table_made, wrote, noded, root_made, set_added, set_removed, leaf_made, History}
use Rattle.sky_model.specs.Transactions.{next_txid, running, has_ended}
use Rattle.sky_model.specs.Rows.{Write, table_names, columns_of, writes as writes_of}
use Rattle.sky_model.specs.Nodes.{after_node, node, is_root, set_tables}
use Rattle.sky_model.specs.LawsOfNodes.{is_at, is_one_of}
use Rattle.sky_model.specs.ShownRows.{least_writer}
use Rattle.sky_model.specs.State.{part_of}
use Rattle.sky_histories.proofs.Legal.{Fine, makes_table, NodeFits, nodes, Legal, start, next, legal-below_mark, fine_mark}
use Rattle.sky_histories.proofs.NodeReadings.{set-listed, set-unlisted}
use Rattle.sky_histories.proofs.NodeTables.{one-push, one-less, one-kept, have-tables}
use Rattle.sky_histories.proofs.Snapshots.{sound}
use Rattle.sky_histories.proofs.WrittenTables.{some, is-written, unwritten-by}
use Rattle.sky_histories.proofs.RowKeys.{begun}
use Rattle.sky_histories.proofs.RowSights.{Since, here, later, ended-behind}
use Rattle.sky_model.proofs.Cases.{by_test}
use Rattle.sky_laws_changes.proofs.WriteLists.{Written}
use Rattle.sky_laws_changes.proofs.TableWrites.{is_listed, written}
use Rattle.sky_laws_changes.proofs.SetTriggers.{set-same}

-- ---- names and columns

-- a name keeps its place
pub place-kept : {p h : History} (name : List ℕ) (n : ℕ) → Since p h → place_of name (table_names p) ≡ Some n → place_of name (table_names h) ≡ Some n
place-kept name n here is = is
place-kept name n (later {h = h} {mark = tabled (table_made made_name columns)} s) is =
    place_of-append name (table_names h) made_name ∙ ap (λ o. option_or o (if bytes_eq name made_name then Some (length (table_names h)) else None)) (place-kept name n s is)
place-kept name n (later s) is = place-kept name n s is

-- each table is at the place of its name
pub place-of-own : (h : History) → Legal h → (n : ℕ) (name : List ℕ) → slice_get (table_names h) n ≡ Some name → place_of name (table_names h) ≡ Some n
place-of-own _ start n name is = absurd (cc)
place-of-own _ (next {h = h} l (makes_table made_name columns new)) n name is =
    place_of-append name (table_names h) made_name
    ∙ either (table_names h) n is
    (λ old. ap (λ o. option_or o (if bytes_eq name made_name then Some (length (table_names h)) else None)) (place-of-own h l n name old))
    (λ at same.
    (λ i. option_or (place_of (sym same i) (table_names h)) (if bytes_eq (sym same i) made_name then Some (length (table_names h)) else None))
    ∙ (λ i. option_or (new i) (if bytes_eq_refl made_name i then Some (length (table_names h)) else None)) ∙ ap (λ k. Some k) (sym at))
  where
    P : Type 0
    P = option_or (place_of name (table_names h)) (if bytes_eq name made_name then Some (length (table_names h)) else None) ≡ Some n

    either : (names : List (List ℕ)) (k : ℕ) → slice_get (names ++ made_name ∷ []) k ≡ Some name → (slice_get names k ≡ Some name → P) → (k ≡ length names → made_name ≡ name → P) → P
    either [] zero e old last = last refl (cc)
    either [] (suc k) e old last = absurd (cc)
    either (x ∷ names) zero e old last = old e
    either (x ∷ names) (suc k) e old last = either names k e old (λ at. last (omega (arith, at)))
place-of-own _ (next {h = h} l _) n name is = place-of-own h l n name is

-- no table goes
pub names-grow : {p h : History} → Since p h → length (table_names p) ≤ length (table_names h)
names-grow here = omega arith
names-grow (later {h = h} {mark = tabled (table_made made_name columns)} s) =
    let grown = names-grow s in
    let more : length (table_names h ++ made_name ∷ []) ≡ length (table_names h) + 1 = length-append (table_names h) (made_name ∷ []) in
    omega (arith, grown, more)
names-grow (later s) = names-grow s

-- a table keeps its columns
pub columns-kept : {p h : History} (n : ℕ) → Since p h → n < length (table_names p) → columns_of n h ≡ columns_of n p
columns-kept n here within = refl
columns-kept n (later {h = h} {mark = tabled (table_made made_name columns)} s) within =
    let grown = names-grow s in
    let other : (length (table_names h) == n) ≡ false = grind (arith, nat_tests, grown) in
    ap (λ b. if b then columns else columns_of n h) other ∙ columns-kept n s within
columns-kept n (later s) within = columns-kept n s within

-- ---- a table of a set

pub among-one : (tables names : List (List ℕ)) (name : List ℕ) (n : ℕ) → place_of name tables ≡ Some n → is_among name names ≡ true → is_one_of tables names n ≡ true
among-one tables [] name n there e = absurd (cc)
among-one tables (x ∷ xs) name n there e =
    by_test (λ b. bytes_eq name x ≡ b → (b || is_among name xs) ≡ true → is_one_of tables (x ∷ xs) n ≡ true) (bytes_eq name x)
    (λ _ same _. let at : is_at n (place_of x tables) ≡ true = ap (is_at n) (ap (λ y. place_of y tables) (sym (same_name name x same)) ∙ there) ∙ grind (arith, nat_tests) in grind (arith, at))
    (λ _ _ rest. or_right (is_at n (place_of x tables)) (is_one_of tables xs n) (among-one tables xs name n there rest)) refl e

-- without a node no table is in a set, and none was
pub none-listed : (n : ℕ) (h : History) → node h ≡ None → is_listed n h ≡ false
none-listed n h bare = ap (λ m. is_one_of (table_names h) (set_tables m) n) bare

pub bare-below : (mark : Mark) (h : History) → node (mark ∷ h) ≡ None → node h ≡ None
bare-below (noded mark) h bare = of mark (node h) bare
  where
    of : (m : NodeMark) (o : Option Node) → after_node m o ≡ None → o ≡ None
    of m None e = refl
    of (root_made name queue) (Some x) e = absurd (cc)
    of (leaf_made name provider tick) (Some x) e = absurd (cc)
    of m (Some x) e = absurd (cc)
bare-below _ h bare = bare

-- ---- those that wrote it

-- of each write that was made while the table wasn't in the set, the transaction has ended
abbrev pub OthersEnded : History → List Written → Type 0
OthersEnded h [] = Unit {0}
OthersEnded h (w ∷ ws) = (w.listed ≡ false → has_ended h w.by ≡ true) × OthersEnded h ws

others-more : (mark : Mark) (h : History) (ws : List Written) → OthersEnded h ws → OthersEnded (mark ∷ h) ws
others-more mark h [] all = tt
others-more mark h (w ∷ ws) all = (λ e. ended-behind h mark w.by (all.0 e), others-more mark h ws all.1)

-- the writers of a table have written it
abbrev Wrote : ℕ → History → List Written → Type 0
Wrote n h [] = Unit {0}
Wrote n h (w ∷ ws) = (some (writes_of n w.by h) ≡ true) × Wrote n h ws

have-wrote : (n : ℕ) (h : History) → Wrote n h (written n h)
have-wrote n [] = tt
have-wrote n (tabled (wrote whose t m key old new) ∷ h) =
    by_test (λ b. (m == n) ≡ b → Wrote n (tabled (wrote whose t m key old new) ∷ h) (if b then record { by = t; key = key; old = old; new = new; listed = is_listed n h } ∷ written n h else written n h)) (m == n)
    (λ _ is. (now is, more (written n h) (have-wrote n h))) (λ _ _. more (written n h) (have-wrote n h)) refl
  where
    pushed : (ws : List Write) (w : Write) → some (ws ++ w ∷ []) ≡ true
    pushed [] w = refl
    pushed (x ∷ ws) w = refl

    now : (m == n) ≡ true → some (writes_of n t (tabled (wrote whose t m key old new) ∷ h)) ≡ true
    now is = grind (arith, nat_tests, is, pushed (writes_of n t h) (record { key = key; row = new }))

    one : (u : ℕ) → some (writes_of n u h) ≡ true → some (writes_of n u (tabled (wrote whose t m key old new) ∷ h)) ≡ true
    one u is = grind (arith, is, pushed (writes_of n u h) (record { key = key; row = new }))

    more : (ws : List Written) → Wrote n h ws → Wrote n (tabled (wrote whose t m key old new) ∷ h) ws
    more [] all = tt
    more (w ∷ ws) all = (one w.by all.0, more ws all.1)
have-wrote n (_ ∷ h) = have-wrote n h

-- if no running transaction has written a table, each that has written it has ended
all-ended : (n : ℕ) (h : History) → Legal h → least_writer (part_of h) n ≡ None → OthersEnded h (written n h)
all-ended n h l unused = of (written n h) (have-wrote n h)
  where
    unended : (t : ℕ) → has_ended h t ≡ false → some (writes_of n t h) ≡ true → ⊥
    unended t runs wrote_it =
        let begun_it : nat_lt t (next_txid h) ≡ true = true_from_ne_false (nat_lt t (next_txid h)) (λ late.
        absurd (cc (sym wrote_it ∙ ap some (begun h l n t (grind (arith, nat_tests, late)))))) in
        let is_running : contains t (running h) ≡ true = (sound h l).runs t ∙ (λ i. begun_it i && not (runs i)) in
        cc (sym (unwritten-by h l n unused t is_running) ∙ is-written h l n t ∙ (λ i. not (runs i) && wrote_it i))

    of : (ws : List Written) → Wrote n h ws → OthersEnded h ws
    of [] all = tt
    of (w ∷ ws) all = (λ _. true_from_ne_false (has_ended h w.by) (λ runs. unended w.by runs all.0), of ws all.1)

pub fits-of : {h : History} {m : NodeMark} → Fine h (noded m) → NodeFits h m
fits-of (nodes m fits) = fits

pub others-ended : (n : ℕ) (h : History) → Legal h → is_listed n h ≡ true → OthersEnded h (written n h)
others-ended n [] l is = tt
others-ended n (tabled (wrote whose t m key old new) ∷ h) l is =
    let rest : OthersEnded (tabled (wrote whose t m key old new) ∷ h) (written n h) = others-more (tabled (wrote whose t m key old new)) h (written n h) (others-ended n h (legal-below_mark l) is) in
    by_test (λ b. OthersEnded (tabled (wrote whose t m key old new) ∷ h) (if b then record { by = t; key = key; old = old; new = new; listed = is_listed n h } ∷ written n h else written n h)) (m == n)
    (λ _. (λ e. absurd (cc (sym e ∙ is)), rest)) (λ _. rest)
others-ended n (tabled (table_made name columns) ∷ h) l is =
    others-more (tabled (table_made name columns)) h (written n h)
    (others-ended n h (legal-below_mark l) (sym (one-kept (table_names h) (set_tables (node h)) name (have-tables h (legal-below_mark l)).set n) ∙ is))
others-ended n (noded mark ∷ h) l is = others-more (noded mark) h (written n h) (of mark (fits-of (fine_mark l)) is (others-ended n h (legal-below_mark l)))
  where
    below : Legal h
    below = legal-below_mark l

    of : (m : NodeMark) → NodeFits h m → is_listed n (noded m ∷ h) ≡ true → (is_listed n h ≡ true → OthersEnded h (written n h)) → OthersEnded h (written n h)
    of (root_made name queue) fits e ih = absurd (cc)
    of (leaf_made name provider tick) fits e ih = absurd (cc)
    of (set_added name) fits e ih =
        let root : is_root (node h) ≡ true = (and_parts (is_root (node h)) (not (is_among name (set_tables (node h)))) fits.may).0 in
        let either : (is_one_of (table_names h) (set_tables (node h)) n || is_at n (Some fits.table)) ≡ true
        = sym (ap (λ names. is_one_of (table_names h) names n) (set-listed (node h) name root) ∙ one-push (table_names h) (set_tables (node h)) name n
        ∙ ap (λ o. is_one_of (table_names h) (set_tables (node h)) n || is_at n o) fits.there) ∙ e in
        by_test (λ b. is_listed n h ≡ b → (b || is_at n (Some fits.table)) ≡ true → OthersEnded h (written n h)) (is_listed n h)
        (λ _ was _. ih was)
        (λ _ _ joins. all-ended n h below (ap (least_writer (part_of h)) (sym (eqb-true fits.table n joins)) ∙ fits.unused.unwritten)) refl either
    of (set_removed name) fits e ih =
        ih (and_parts (not (fits.table == n)) (is_one_of (table_names h) (set_tables (node h)) n)
        (sym (ap (λ names. is_one_of (table_names h) names n) (set-unlisted (node h) name) ∙ one-less (table_names h) (set_tables (node h)) name fits.table fits.there n) ∙ e)).1
    of m fits e ih = ih (sym (ap (λ names. is_one_of (table_names h) names n) (set-same m refl (node h))) ∙ e)
others-ended n (mark ∷ h) l is = others-more mark h (written n h) (others-ended n h (legal-below_mark l) is)
