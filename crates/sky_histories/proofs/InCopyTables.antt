-- The table of which a copy runs is in the state in which it is copied; and one that isn't copied yet, or is being copied, has no kept snapshot.
use Rattle.std.proofs.Common.{◌≡◌, ℕ, Bool, true, false, not, ◌||◌, List, [], ◌∷◌, ◌++◌, Option, Some, None, is_some, is_none, option_map, unwrap_or, bytes_eq, filter, find, refl, sym, ◌∙◌, ap, subst, arith, if◌then◌else◌}
use Rattle.std.specs.Option.{option_or}
use Rattle.std.proofs.lemmas.Bool.Decides.{nat_tests}
use Rattle.sky_names.specs.Places.{place_of}
use Rattle.sky_names.proofs.PlaceLemmas.{bytes_eq_sym, same_name}
use Rattle.sky_txid.specs.Snapshot.{SnapshotView}
use Rattle.londiste_state.specs.declared.state.TableState.{TableState}
use Rattle.londiste_state.specs.declared.state.TableState.TheVariants.{Absent, InCopy, CatchingUp, WannaSync, DoSync, Synced}
use Rattle.londiste_state.specs.Moves.{is_allowed}
use Rattle.londiste_state.specs.Nodes.{LeafTable, Root, Leaf, Node, of_root, of_leaf, table_of, new_table, changed_in, in_state, with_copy, with_tick}
use Rattle.sky_model.specs.History.{Mark, NodeMark, of_copy, began, ended, noded, root_made, set_added, set_removed, joined, parted, leaf_made, leaf_added, leaf_removed, state_set, copied, applied, restarted, of_synced, copy_of, hold_begun, hold_ended, History}
use Rattle.sky_model.specs.Transactions.{next_txid}
use Rattle.sky_model.specs.Copies.{copies, is_copied}
use Rattle.sky_model.specs.Rows.{table_names}
use Rattle.sky_model.specs.Nodes.{at_root, at_leaf, after_node, node}
use Rattle.sky_model.specs.StepNode.{may_move, is_in_copy, may_copy}
use Rattle.sky_histories.proofs.Legal.{JustCopied, NodeFits, Fine, begins_copy, ends_copy, makes_table, nodes, Legal, start, next}
use Rattle.sky_histories.proofs.NodeReadings.{keeps_tables}
use Rattle.sky_histories.proofs.NodeTables.{place-kept}
use Rattle.sky_histories.proofs.Guarded.{copied-push, copied-less, gone}
use Rattle.sky_model.proofs.Cases.{by_test, by_same}

-- ---- the table of a name

abbrev pub found : List ℕ → List LeafTable → Option LeafTable
found name ts = find (λ (t : LeafTable). bytes_eq name t.name) ts

abbrev pub less : List ℕ → List LeafTable → List LeafTable
less name ts = filter (λ (t : LeafTable). not (bytes_eq name t.name)) ts

pub found-named : (name : List ℕ) (ts : List LeafTable) (t : LeafTable) → found name ts ≡ Some t → bytes_eq name t.name ≡ true
found-named name [] t is = absurd (cc)
found-named name (x ∷ ts) t is =
    by_test (λ b. bytes_eq name x.name ≡ b → (if b then Some x else found name ts) ≡ Some t → bytes_eq name t.name ≡ true) (bytes_eq name x.name)
    (λ _ here is. let same : x ≡ t = cc in ap (λ (y : LeafTable). bytes_eq name y.name) (sym same) ∙ here) (λ _ _ is. found-named name ts t is) refl is

pub found-push : (name : List ℕ) (ts : List LeafTable) (t : LeafTable) → found name (ts ++ t ∷ []) ≡ option_or (found name ts) (if bytes_eq name t.name then Some t else None)
found-push name [] t = refl
found-push name (x ∷ ts) t =
    by_test (λ b. (if b then Some x else found name (ts ++ t ∷ [])) ≡ option_or (if b then Some x else found name ts) (if bytes_eq name t.name then Some t else None)) (bytes_eq name x.name)
    (λ _. refl) (λ _. found-push name ts t)

-- two names that differ aren't both that of a table
pub apart : (name other x : List ℕ) → bytes_eq name other ≡ false → bytes_eq other x ≡ true → bytes_eq name x ≡ false
apart name other x differ is = ap (bytes_eq name) (sym (same_name other x is)) ∙ differ

pub found-less : (name other : List ℕ) (ts : List LeafTable) → bytes_eq name other ≡ false → found name (less other ts) ≡ found name ts
found-less name other [] differ = refl
found-less name other (x ∷ ts) differ =
    by_test (λ b. bytes_eq other x.name ≡ b → found name (if not b then x ∷ less other ts else less other ts) ≡ found name (x ∷ ts)) (bytes_eq other x.name)
    (λ _ its. found-less name other ts differ ∙ sym (ap (λ b. if b then Some x else found name ts) (apart name other x.name differ its)))
    (λ _ _. ap (λ o. if bytes_eq name x.name then Some x else o) (found-less name other ts differ)) refl

pub found-gone : (name : List ℕ) (ts : List LeafTable) → found name (less name ts) ≡ None
found-gone name [] = refl
found-gone name (x ∷ ts) =
    by_test (λ b. bytes_eq name x.name ≡ b → found name (if not b then x ∷ less name ts else less name ts) ≡ None) (bytes_eq name x.name) (λ _ _. found-gone name ts)
    (λ _ its. ap (λ b. if b then Some x else found name (less name ts)) its ∙ found-gone name ts) refl

pub found-changed : (name other : List ℕ) (g : LeafTable → LeafTable) → ((t : LeafTable) → (g t).name ≡ t.name) → (ts : List LeafTable)
    → found name (changed_in other g ts) ≡ option_map (λ t. if bytes_eq other t.name then g t else t) (found name ts)
found-changed name other g names [] = refl
found-changed name other g names (x ∷ ts) =
    ap (λ y. if bytes_eq name y then Some (if bytes_eq other x.name then g x else x) else found name (changed_in other g ts)) (by_test (λ b. (if b then g x else x).name ≡ x.name) (bytes_eq other x.name) (λ _. names x) (λ _. refl))
    ∙ by_test (λ b. (if b then Some (if bytes_eq other x.name then g x else x) else found name (changed_in other g ts))
    ≡ option_map (λ t. if bytes_eq other t.name then g t else t) (if b then Some x else found name ts)) (bytes_eq name x.name) (λ _. refl) (λ _. found-changed name other g names ts)

-- the one that a leaf has
abbrev pub leaf_table : List ℕ → Option Node → Option LeafTable
leaf_table name (Some (of_leaf l)) = table_of name l
leaf_table name _ = None

-- what a mark by which no table joins or leaves makes of it
abbrev pub changed_by : NodeMark → LeafTable → LeafTable
changed_by (state_set other state) t = if bytes_eq other t.name then in_state state t else t
changed_by (copied other under tick) t = if bytes_eq other t.name then with_copy under tick t else t
changed_by (applied (copy_of other) tick) t = if bytes_eq other t.name then with_tick tick t else t
changed_by _ t = t

pub map-same : (o : Option LeafTable) → o ≡ option_map (λ t. t) o
map-same None = refl
map-same (Some t) = refl

pub table-root : (f : Root → Root) (name : List ℕ) (n : Option Node) → leaf_table name (option_map (at_root f) n) ≡ leaf_table name n
table-root f name None = refl
table-root f name (Some (of_root r)) = refl
table-root f name (Some (of_leaf l)) = refl

pub table-leaf : (f : Leaf → Leaf) (g : LeafTable → LeafTable) (name : List ℕ) → ((l : Leaf) → found name (f l).tables ≡ option_map g (found name l.tables)) → (n : Option Node)
    → leaf_table name (option_map (at_leaf f) n) ≡ option_map g (leaf_table name n)
table-leaf f g name by None = refl
table-leaf f g name by (Some (of_root r)) = refl
table-leaf f g name by (Some (of_leaf l)) = by l

table-changed : (mark : NodeMark) → keeps_tables mark ≡ true → (name : List ℕ) (n : Option Node) → leaf_table name (after_node mark n) ≡ option_map (changed_by mark) (leaf_table name n)
table-changed (joined consumer) e name n = table-root _ name n ∙ map-same (leaf_table name n)
table-changed (parted consumer) e name n = table-root _ name n ∙ map-same (leaf_table name n)
table-changed (state_set other state) e name n = table-leaf _ _ name (λ l. found-changed name other (in_state state) (λ t. refl) l.tables) n
table-changed (copied other under tick) e name n = table-leaf _ _ name (λ l. found-changed name other (with_copy under tick) (λ t. refl) l.tables) n
table-changed (applied of_synced tick) e name n = table-leaf _ _ name (λ l. map-same (found name l.tables)) n
table-changed (applied (copy_of other) tick) e name n = table-leaf _ _ name (λ l. found-changed name other (with_tick tick) (λ t. refl) l.tables) n
table-changed (restarted table) e name n = map-same (leaf_table name n)
table-changed (hold_begun hold) e name n = map-same (leaf_table name n)
table-changed (hold_ended hold) e name n = map-same (leaf_table name n)
table-changed _ e name n = absurd (cc)

-- it has the name
pub table-named : (name : List ℕ) (n : Option Node) (t : LeafTable) → leaf_table name n ≡ Some t → bytes_eq name t.name ≡ true
table-named name None t is = absurd (cc)
table-named name (Some (of_root r)) t is = absurd (cc)
table-named name (Some (of_leaf l)) t is = found-named name l.tables t is

table-added : (name other : List ℕ) (n : Option Node) (t : LeafTable) → leaf_table name n ≡ Some t → leaf_table name (after_node (leaf_added other) n) ≡ Some t
table-added name other None t is = absurd (cc)
table-added name other (Some (of_root r)) t is = absurd (cc)
table-added name other (Some (of_leaf l)) t is =
    found-push name l.tables (new_table other) ∙ ap (λ o. option_or o (if bytes_eq name other then Some (new_table other) else None)) is

table-less : (name other : List ℕ) (n : Option Node) → bytes_eq name other ≡ false → leaf_table name (after_node (leaf_removed other) n) ≡ leaf_table name n
table-less name other None differ = refl
table-less name other (Some (of_root r)) differ = refl
table-less name other (Some (of_leaf l)) differ = found-less name other l.tables differ

-- ---- the table of which a copy runs

-- the table of a number is one of the leaf, in the state in which it is copied
pub record IsInCopy (h : History) (table : ℕ) : Type 0 where
  pub name : List ℕ
  pub there : place_of name (table_names h) ≡ Some table
  pub t : LeafTable
  pub found : leaf_table name (node h) ≡ Some t
  pub state : is_in_copy t.state ≡ true

-- so it is found
in-copy-found : (h : History) (name : List ℕ) (table : ℕ) → place_of name (table_names h) ≡ Some table → may_copy name (node h) ≡ true → IsInCopy h table
in-copy-found h name table there may = by_node (node h) refl may
  where
    by_table : (o : Option LeafTable) → leaf_table name (node h) ≡ o → unwrap_or (option_map (λ (t : LeafTable). is_in_copy t.state) o) false ≡ true → IsInCopy h table
    by_table None is may = absurd (cc)
    by_table (Some t) is may = record { name = name; there = there; t = t; found = is; state = may }

    by_node : (n : Option Node) → node h ≡ n → may_copy name n ≡ true → IsInCopy h table
    by_node None is may = absurd (cc)
    by_node (Some (of_root r)) is may = absurd (cc)
    by_node (Some (of_leaf l)) is may = by_table (table_of name l) (ap (leaf_table name) is) may

abbrev CopiesInCopy : History → Type 0
CopiesInCopy h = (table : ℕ) → is_copied table (copies h) ≡ true → IsInCopy h table

-- a table of which a copy runs isn't that of a name of which none does
other-table : (h : History) (table n : ℕ) (c : IsInCopy h table) (other : List ℕ) → is_copied table (copies h) ≡ true → place_of other (table_names h) ≡ Some n → is_copied n (copies h) ≡ false
    → bytes_eq c.name other ≡ false
other-table h table n c other is there uncopied = by_test (λ b. bytes_eq c.name other ≡ b → b ≡ false) (bytes_eq c.name other)
    (λ _ same.
    let one : Some table ≡ Some n = sym c.there ∙ ap (λ x. place_of x (table_names h)) (same_name c.name other same) ∙ there in
    let eq : table ≡ n = cc in
    absurd (cc (sym is ∙ ap (λ k. is_copied k (copies h)) eq ∙ uncopied))) (λ _ _. refl) refl

just-uncopied : (h : History) → Legal h → (name : List ℕ) (just : JustCopied h name) → is_copied just.table (copies h) ≡ false
just-uncopied h l name just = ap (λ g. is_copied just.table (copies g)) just.last ∙ of (subst Legal just.last l)
  where
    of : Legal (ended (of_copy just.table) just.t true ∷ just.below) → is_copied just.table (copies (ended (of_copy just.table) just.t true ∷ just.below)) ≡ false
    of (next below (ends_copy _ _ _ may)) = gone just.below below just.table just.t may.runs

just-there : (h : History) (name : List ℕ) (just : JustCopied h name) → place_of name (table_names h) ≡ Some just.table
just-there h name just = ap (λ g. place_of name (table_names g)) just.last ∙ just.there

module _ (h : History) (table : ℕ) (c : IsInCopy h table) where
  -- a mark by which no table joins or leaves
  kept-changed : (mark : NodeMark) → keeps_tables mark ≡ true → is_in_copy (changed_by mark c.t).state ≡ true → IsInCopy (noded mark ∷ h) table
  kept-changed mark keeps state = record {
    name = c.name;
    there = c.there;
    t = changed_by mark c.t;
    found = table-changed mark keeps c.name (node h) ∙ ap (option_map (changed_by mark)) c.found;
    state = state;
  }

  -- another mark, by which this one stays as it is
  kept-found : (mark : NodeMark) → leaf_table c.name (after_node mark (node h)) ≡ Some c.t → IsInCopy (noded mark ∷ h) table
  kept-found mark is = record { name = c.name; there = c.there; t = c.t; found = is; state = c.state }

  -- a change of another table
  kept-other : (other : List ℕ) (g : LeafTable → LeafTable) → bytes_eq c.name other ≡ false → is_in_copy (if bytes_eq other c.t.name then g c.t else c.t).state ≡ true
  kept-other other g differ =
      ap (λ b. is_in_copy (if b then g c.t else c.t).state) (ap (bytes_eq other) (sym (same_name c.name c.t.name (table-named c.name (node h) c.t c.found))) ∙ bytes_eq_sym other c.name ∙ differ) ∙ c.state

  -- there is a leaf
  kept-leaf : node h ≡ None → ⊥
  kept-leaf bare = cc (sym c.found ∙ ap (leaf_table c.name) bare)

  in-copy-noded : Legal h → (mark : NodeMark) → NodeFits h mark → is_copied table (copies h) ≡ true → IsInCopy (noded mark ∷ h) table
  in-copy-noded l (root_made name queue) fits is = absurd (kept-leaf fits.0)
  in-copy-noded l (leaf_made name provider tick) fits is = absurd (kept-leaf fits.0)
  in-copy-noded l (set_added other) fits is = kept-found (set_added other) (table-root _ c.name (node h) ∙ c.found)
  in-copy-noded l (set_removed other) fits is = kept-found (set_removed other) (table-root _ c.name (node h) ∙ c.found)
  in-copy-noded l (leaf_added other) fits is = kept-found (leaf_added other) (table-added c.name other (node h) c.t c.found)
  in-copy-noded l (leaf_removed other) fits is = kept-found (leaf_removed other) (table-less c.name other (node h) (other-table h table fits.table c other is fits.there fits.uncopied) ∙ c.found)
  in-copy-noded l (state_set other state) fits is =
      kept-changed (state_set other state) refl (kept-other other (in_state state) (other-table h table fits.table c other is fits.there fits.uncopied))
  in-copy-noded l (copied other under tick) fits is =
      kept-changed (copied other under tick) refl (kept-other other (with_copy under tick) (other-table h table fits.table c other is (just-there h other fits) (just-uncopied h l other fits)))
  in-copy-noded l (applied (copy_of other) tick) fits is =
      kept-changed (applied (copy_of other) tick) refl (by_test (λ b. is_in_copy (if b then with_tick tick c.t else c.t).state ≡ true) (bytes_eq other c.t.name) (λ _. c.state) (λ _. c.state))
  in-copy-noded l (applied of_synced tick) fits is = kept-changed (applied of_synced tick) refl c.state
  in-copy-noded l (joined consumer) fits is = kept-changed (joined consumer) refl c.state
  in-copy-noded l (parted consumer) fits is = kept-changed (parted consumer) refl c.state
  in-copy-noded l (restarted other) fits is = kept-changed (restarted other) refl c.state
  in-copy-noded l (hold_begun hold) fits is = kept-changed (hold_begun hold) refl c.state
  in-copy-noded l (hold_ended hold) fits is = kept-changed (hold_ended hold) refl c.state

in-copy-step : (h : History) → Legal h → (mark : Mark) → Fine h mark → CopiesInCopy h → CopiesInCopy (mark ∷ h)
in-copy-step h l _ (begins_copy n may) ih = λ table is.
    by_same (λ _. IsInCopy (began (of_copy n) (next_txid h) ∷ h) table) n table
    (λ same. let c = in-copy-found h may.name table (may.there ∙ ap Some same) may.may in record { name = c.name; there = c.there; t = c.t; found = c.found; state = c.state })
    (λ other.
    let c = ih table (grind (arith, nat_tests, copied-push table (copies h) (record { table = n; txid = next_txid h }))) in
    record { name = c.name; there = c.there; t = c.t; found = c.found; state = c.state })
in-copy-step h l _ (ends_copy n t committed may) ih = λ table is.
    let c = ih table (copied-less table t (copies h) is) in record { name = c.name; there = c.there; t = c.t; found = c.found; state = c.state }
in-copy-step h l _ (makes_table name columns new) ih = λ table is.
    let c = ih table is in
    record { name = c.name; there = place-kept c.name (table_names h) name (ap is_some c.there) ∙ c.there; t = c.t; found = c.found; state = c.state }
in-copy-step h l _ (nodes mark fits) ih = λ table is. in-copy-noded h table (ih table is) l mark fits is
in-copy-step h l _ _ ih = λ table is. let c = ih table is in record { name = c.name; there = c.there; t = c.t; found = c.found; state = c.state }

pub copies-in-copy : (h : History) → Legal h → CopiesInCopy h
copies-in-copy [] start = λ table is. absurd (cc)
copies-in-copy _ (next {h = h} {mark = mark} l fine) = in-copy-step h l mark fine (copies-in-copy h l)

-- ---- kept snapshots

-- whether a state is one that a table has only once it has been copied
abbrev pub is_past_copy : TableState → Bool
is_past_copy Absent = false
is_past_copy InCopy = false
is_past_copy state = true

-- a table that hasn't been copied has no kept snapshot
abbrev IsFresh : LeafTable → Type 0
IsFresh t = (is_past_copy t.state || is_none t.snapshot) ≡ true

abbrev AllFresh : Option Node → Type 0
AllFresh n = (name : List ℕ) (t : LeafTable) → leaf_table name n ≡ Some t → IsFresh t

fresh-allowed : (from to : TableState) (kept : Option SnapshotView) → (is_past_copy from || is_none kept) ≡ true → is_allowed from to ≡ true → (is_past_copy to || is_none kept) ≡ true
fresh-allowed Absent InCopy kept fresh may = fresh
fresh-allowed from CatchingUp kept fresh may = refl
fresh-allowed from (WannaSync tick) kept fresh may = refl
fresh-allowed from (DoSync tick) kept fresh may = refl
fresh-allowed from Synced kept fresh may = refl
fresh-allowed Absent Absent kept fresh may = absurd (cc)
fresh-allowed InCopy _ kept fresh may = absurd (cc)
fresh-allowed CatchingUp _ kept fresh may = absurd (cc)
fresh-allowed (WannaSync tick) _ kept fresh may = absurd (cc)
fresh-allowed (DoSync tick) _ kept fresh may = absurd (cc)
fresh-allowed Synced _ kept fresh may = absurd (cc)

pub may-allowed : (name : List ℕ) (state : TableState) (n : Option Node) (t : LeafTable) → leaf_table name n ≡ Some t → may_move name state n ≡ true → is_allowed t.state state ≡ true
may-allowed name state None t is may = absurd (cc)
may-allowed name state (Some (of_root r)) t is may = absurd (cc)
may-allowed name state (Some (of_leaf l)) t is may = ap (λ o. unwrap_or (option_map (λ (x : LeafTable). is_allowed x.state state) o) false) (sym is) ∙ may

fresh-changed : (h : History) (mark : NodeMark) → NodeFits h mark → keeps_tables mark ≡ true → (name : List ℕ) (t : LeafTable) → leaf_table name (node h) ≡ Some t → IsFresh t → IsFresh (changed_by mark t)
fresh-changed h (state_set other state) fits e name t is fresh =
    by_test (λ b. bytes_eq other t.name ≡ b → IsFresh (if b then in_state state t else t)) (bytes_eq other t.name)
    (λ _ its.
    let same : other ≡ name = same_name other t.name its ∙ sym (same_name name t.name (table-named name (node h) t is)) in
    fresh-allowed t.state state t.snapshot fresh (may-allowed name state (node h) t is (ap (λ x. may_move x state (node h)) (sym same) ∙ fits.may)))
    (λ _ _. fresh) refl
fresh-changed h (copied other under tick) fits e name t is fresh = by_test (λ b. IsFresh (if b then with_copy under tick t else t)) (bytes_eq other t.name) (λ _. refl) (λ _. fresh)
fresh-changed h (applied (copy_of other) tick) fits e name t is fresh = by_test (λ b. IsFresh (if b then with_tick tick t else t)) (bytes_eq other t.name) (λ _. fresh) (λ _. fresh)
fresh-changed h (applied of_synced tick) fits e name t is fresh = fresh
fresh-changed h (joined consumer) fits e name t is fresh = fresh
fresh-changed h (parted consumer) fits e name t is fresh = fresh
fresh-changed h (restarted other) fits e name t is fresh = fresh
fresh-changed h (hold_begun hold) fits e name t is fresh = fresh
fresh-changed h (hold_ended hold) fits e name t is fresh = fresh
fresh-changed h _ fits e name t is fresh = absurd (cc)

fresh-still : (h : History) (mark : NodeMark) → NodeFits h mark → keeps_tables mark ≡ true → AllFresh (node h) → AllFresh (after_node mark (node h))
fresh-still h mark fits keeps ih name t is = by (leaf_table name (node h)) refl (sym (table-changed mark keeps name (node h)) ∙ is)
  where
    by : (o : Option LeafTable) → leaf_table name (node h) ≡ o → option_map (changed_by mark) o ≡ Some t → IsFresh t
    by None was now = absurd (cc)
    by (Some x) was now = let same : changed_by mark x ≡ t = cc in subst IsFresh same (fresh-changed h mark fits keeps name x was (ih name x was))

fresh-added : (other : List ℕ) (n : Option Node) → AllFresh n → AllFresh (after_node (leaf_added other) n)
fresh-added other None ih name t is = absurd (cc)
fresh-added other (Some (of_root r)) ih name t is = absurd (cc)
fresh-added other (Some (of_leaf l)) ih name t is = by (found name l.tables) refl (bytes_eq name other) (sym (found-push name l.tables (new_table other)) ∙ is)
  where
    by : (o : Option LeafTable) → found name l.tables ≡ o → (b : Bool) → option_or o (if b then Some (new_table other) else None) ≡ Some t → IsFresh t
    by None was true now = let same : new_table other ≡ t = cc in subst IsFresh same refl
    by None was false now = absurd (cc)
    by (Some x) was b now = ih name t (was ∙ now)

fresh-removed : (other : List ℕ) (n : Option Node) → AllFresh n → AllFresh (after_node (leaf_removed other) n)
fresh-removed other None ih name t is = absurd (cc)
fresh-removed other (Some (of_root r)) ih name t is = absurd (cc)
fresh-removed other (Some (of_leaf l)) ih name t is = by_test (λ b. bytes_eq name other ≡ b → IsFresh t) (bytes_eq name other)
    (λ _ same. absurd (cc (sym is ∙ ap (λ x. found name (less x l.tables)) (sym (same_name name other same)) ∙ found-gone name l.tables)))
    (λ _ differ. ih name t (sym (found-less name other l.tables differ) ∙ is)) refl

fresh-noded : (h : History) (mark : NodeMark) → NodeFits h mark → AllFresh (node h) → AllFresh (after_node mark (node h))
fresh-noded h (root_made name queue) fits ih = λ name t is. absurd (cc)
fresh-noded h (leaf_made name provider tick) fits ih = λ name t is. absurd (cc)
fresh-noded h (set_added other) fits ih = λ name t is. ih name t (sym (table-root _ name (node h)) ∙ is)
fresh-noded h (set_removed other) fits ih = λ name t is. ih name t (sym (table-root _ name (node h)) ∙ is)
fresh-noded h (leaf_added other) fits ih = fresh-added other (node h) ih
fresh-noded h (leaf_removed other) fits ih = fresh-removed other (node h) ih
fresh-noded h mark fits ih = fresh-still h mark fits refl ih

all-fresh : (h : History) → Legal h → AllFresh (node h)
all-fresh [] start = λ name t is. absurd (cc)
all-fresh _ (next {h = h} l (nodes mark fits)) = fresh-noded h mark fits (all-fresh h l)
all-fresh (_ ∷ h) (next l fine) = all-fresh h l

-- so the table of which a copy runs has none
pub in-copy-fresh : (h : History) → Legal h → (table : ℕ) (c : IsInCopy h table) → is_none c.t.snapshot ≡ true
in-copy-fresh h l table c = of c.t.state c.state (all-fresh h l c.name c.t c.found)
  where
    of : (state : TableState) → is_in_copy state ≡ true → (is_past_copy state || is_none c.t.snapshot) ≡ true → is_none c.t.snapshot ≡ true
    of InCopy e fresh = fresh
    of Absent e fresh = absurd (cc)
    of CatchingUp e fresh = absurd (cc)
    of (WannaSync tick) e fresh = absurd (cc)
    of (DoSync tick) e fresh = absurd (cc)
    of Synced e fresh = absurd (cc)
