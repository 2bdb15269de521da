-- No two tables of a leaf have one name, so a table that is found by its state may go where that state may.
use Rattle.std.proofs.Common.{◌≡◌, ℕ, Bool, true, false, not, ◌||◌, List, [], ◌∷◌, ◌++◌, map, Option, Some, None, option_map, unwrap_or, bytes_eq, find, refl, sym, ◌∙◌, ap, subst, arith, if◌then◌else◌}
use Rattle.std.specs.List.{list_any}
use Rattle.std.proofs.lemmas.Bool.{and_parts, or_parts}
use Rattle.std.proofs.lemmas.List.Folds.{list_any-append}
use Rattle.sky_names.proofs.PlaceLemmas.{bytes_eq_refl, bytes_eq_sym, same_name}
use Rattle.londiste_state.specs.declared.state.TableState.{TableState}
use Rattle.londiste_state.specs.declared.state.TableState.TheVariants.{Absent, InCopy, CatchingUp, WannaSync, DoSync, Synced}
use Rattle.londiste_state.specs.Moves.{is_allowed}
use Rattle.londiste_state.specs.Nodes.{LeafTable, Leaf, of_leaf, is_among, all_but, tables_of}
use Rattle.sky_model.specs.History.{NodeMark, root_made, set_added, set_removed, leaf_made, leaf_added, leaf_removed, History}
use Rattle.sky_model.specs.Nodes.{after_node, node, is_leaf, leaf_tables}
use Rattle.sky_model.specs.State.{Database}
use Rattle.sky_model.specs.StepNode.{moving, may_move, may_serve}
use Rattle.sky_model.specs.ReplayMoves.{first_in, is_absent, is_met, is_on_way, next_to_copy}
use Rattle.sky_model.specs.DatabaseSteps.{IsMade}
use Rattle.sky_model.specs.DatabaseCalls.{database_part}
use Rattle.sky_model.specs.Promises.{after_all}
use Rattle.sky_histories.proofs.Legal.{NodeFits, nodes, Legal, start, next}
use Rattle.sky_histories.proofs.Histories.{legal_calls}
use Rattle.sky_histories.proofs.NodeReadings.{same-tables, leaf-added, leaf-removed, leaf-other}
use Rattle.sky_model.proofs.Cases.{by_test}

-- ---- no name comes twice

abbrev Distinct : List (List ℕ) → Type 0
Distinct [] = Unit {0}
Distinct (name ∷ names) = (is_among name names ≡ false) × Distinct names

distinct-push : (names : List (List ℕ)) (name : List ℕ) → is_among name names ≡ false → Distinct names → Distinct (names ++ name ∷ [])
distinct-push [] name new are = (refl, tt)
distinct-push (x ∷ names) name new are =
    let parts = or_parts (bytes_eq name x) (is_among name names) new in
    let other : bytes_eq x name ≡ false = bytes_eq_sym x name ∙ parts.0 in
    (grind (arith, list_any-append (bytes_eq x) names (name ∷ []), are.0, other), distinct-push names name parts.1 are.1)

among-less : (x name : List ℕ) (names : List (List ℕ)) → is_among x names ≡ false → is_among x (all_but name names) ≡ false
among-less x name [] none = refl
among-less x name (y ∷ names) none =
    let parts = or_parts (bytes_eq x y) (is_among x names) none in
    by_test (λ b. is_among x (if not b then y ∷ all_but name names else all_but name names) ≡ false) (bytes_eq name y)
    (λ _. among-less x name names parts.1) (λ _. (λ i. parts.0 i || among-less x name names parts.1 i))

distinct-less : (name : List ℕ) (names : List (List ℕ)) → Distinct names → Distinct (all_but name names)
distinct-less name [] are = tt
distinct-less name (x ∷ names) are =
    by_test (λ b. Distinct (if not b then x ∷ all_but name names else all_but name names)) (bytes_eq name x)
    (λ _. distinct-less name names are.1) (λ _. (among-less x name names are.0, distinct-less name names are.1))

distinct-noded : (h : History) (mark : NodeMark) → NodeFits h mark → Distinct (leaf_tables (node h)) → Distinct (leaf_tables (after_node mark (node h)))
distinct-noded h (root_made name queue) fits are = tt
distinct-noded h (leaf_made name provider tick) fits are = tt
distinct-noded h (set_added table) fits are = subst Distinct (sym (leaf-other _ (node h))) are
distinct-noded h (set_removed table) fits are = subst Distinct (sym (leaf-other _ (node h))) are
distinct-noded h (leaf_added table) fits are =
    let parts = and_parts (is_leaf (node h)) (not (is_among table (leaf_tables (node h)))) fits.may in
    subst Distinct (sym (leaf-added (node h) table parts.0)) (distinct-push (leaf_tables (node h)) table (grind (arith, parts.1)) are)
distinct-noded h (leaf_removed table) fits are = subst Distinct (sym (leaf-removed (node h) table)) (distinct-less table (leaf_tables (node h)) are)
distinct-noded h mark fits are = subst Distinct (sym (same-tables mark refl (node h)).leaf) are

distinct-names : (h : History) → Legal h → Distinct (leaf_tables (node h))
distinct-names [] start = tt
distinct-names _ (next {h = h} l (nodes mark fits)) = distinct-noded h mark fits (distinct-names h l)
distinct-names (_ ∷ h) (next l fine) = distinct-names h l

-- ---- a table that is found by its state is the one of its name

among-found : (name : List ℕ) (ts : List LeafTable) (t : LeafTable) → find (λ (x : LeafTable). bytes_eq name x.name) ts ≡ Some t → is_among name (map LeafTable.name ts) ≡ true
among-found name [] t is = absurd (cc)
among-found name (x ∷ ts) t is =
    by_test (λ b. (if b then Some x else find (λ (y : LeafTable). bytes_eq name y.name) ts) ≡ Some t → (b || is_among name (map LeafTable.name ts)) ≡ true) (bytes_eq name x.name)
    (λ _ _. refl) (λ _ found. among-found name ts t found) is

-- one that is found by its state is among the leaf's
first-among : (is : TableState → Bool) (name : List ℕ) (ts : List LeafTable) → option_map LeafTable.name (find (λ (t : LeafTable). is t.state) ts) ≡ Some name → is_among name (map LeafTable.name ts) ≡ true
first-among is name [] found = absurd (cc)
first-among is name (t ∷ ts) found =
    by_test (λ b. option_map LeafTable.name (if b then Some t else find (λ (x : LeafTable). is x.state) ts) ≡ Some name → (bytes_eq name t.name || is_among name (map LeafTable.name ts)) ≡ true) (is t.state)
    (λ _ here. let same : t.name ≡ name = cc in
    ap (λ n. bytes_eq name n || is_among name (map LeafTable.name ts)) same ∙ ap (λ b. b || is_among name (map LeafTable.name ts)) (bytes_eq_refl name))
    (λ _ later. let rest = first-among is name ts later in grind (arith, rest)) found

record IsFound (is : TableState → Bool) (ts : List LeafTable) (t : LeafTable) : Type 0 where
  pub named : find (λ (x : LeafTable). bytes_eq t.name x.name) ts ≡ Some t
  pub state : is t.state ≡ true

found-itself : (is : TableState → Bool) (ts : List LeafTable) (t : LeafTable) → Distinct (map LeafTable.name ts) → find (λ (x : LeafTable). is x.state) ts ≡ Some t → IsFound is ts t
found-itself is [] t are found = absurd (cc)
found-itself is (x ∷ ts) t are found =
    by_test (λ b. is x.state ≡ b → (if b then Some x else find (λ (y : LeafTable). is y.state) ts) ≡ Some t → IsFound is (x ∷ ts) t) (is x.state)
    (λ _ its here. let same : x ≡ t = cc in subst (IsFound is (x ∷ ts)) same (record {
      named = ap (λ b. if b then Some x else find (λ (y : LeafTable). bytes_eq x.name y.name) ts) (bytes_eq_refl x.name);
      state = its;
    }))
    (λ _ _ later. let rest = found-itself is ts t are.1 later in record {
      named = ap (λ b. if b then Some x else find (λ (y : LeafTable). bytes_eq t.name y.name) ts) (apart t.name rest.named) ∙ rest.named;
      state = rest.state;
    }) refl found
  where
    apart : (name : List ℕ) → find (λ (y : LeafTable). bytes_eq name y.name) ts ≡ Some t → bytes_eq name x.name ≡ false
    apart name named =
        by_test (λ b. bytes_eq name x.name ≡ b → b ≡ false) (bytes_eq name x.name)
        (λ _ same. absurd (cc (sym (among-found name ts t named) ∙ ap (λ n. is_among n (map LeafTable.name ts)) (same_name name x.name same) ∙ are.0))) (λ _ _. refl) refl

-- ---- so it may go into a state

module _ (r : Database) (made : IsMade r) (l : Leaf) (leaf : r.node ≡ Some (of_leaf l)) where
  distinct-tables : Distinct (tables_of (of_leaf l))
  distinct-tables = subst Distinct (ap leaf_tables (sym (ap Database.node made.shown) ∙ leaf)) (distinct-names (after_all database_part made.calls) (legal_calls made.calls))

  may-go : (is : TableState → Bool) (to : TableState) → ((state : TableState) → is state ≡ true → is_allowed state to ≡ true) → (table : List ℕ) → first_in is l ≡ Some table → may_serve (moving table to) r.node ≡ true
  may-go is to allowed table first = ap (may_move table to) leaf ∙ by (find (λ (t : LeafTable). is t.state) l.tables) refl first
    where
      by : (o : Option LeafTable) → find (λ (t : LeafTable). is t.state) l.tables ≡ o → option_map LeafTable.name o ≡ Some table → may_move table to (Some (of_leaf l)) ≡ true
      by None found named = absurd (cc)
      by (Some t) found named =
          let same : t.name ≡ table = cc in
          let it = found-itself is l.tables t distinct-tables found in
          ap (λ name. may_move name to (Some (of_leaf l))) (sym same) ∙ ap (λ o. unwrap_or (option_map (λ (x : LeafTable). is_allowed x.state to) o) false) it.named ∙ allowed t.state it.state

  pub has-first : (is : TableState → Bool) (table : List ℕ) → first_in is l ≡ Some table → is_among table (leaf_tables r.node) ≡ true
  has-first is table first = ap (λ n. is_among table (leaf_tables n)) leaf ∙ first-among is table l.tables first

  -- a table that the leaf has come up to may be handed over
  pub may-hand_over : (table : List ℕ) → first_in (is_met l.tick) l ≡ Some table → may_serve (moving table (DoSync l.tick)) r.node ≡ true
  may-hand_over = may-go (is_met l.tick) (DoSync l.tick) allowed
    where
      allowed : (state : TableState) → is_met l.tick state ≡ true → is_allowed state (DoSync l.tick) ≡ true
      allowed (WannaSync bound) met = met
      allowed Absent met = absurd (cc)
      allowed InCopy met = absurd (cc)
      allowed CatchingUp met = absurd (cc)
      allowed (DoSync tick) met = absurd (cc)
      allowed Synced met = absurd (cc)

  -- and the next copy may begin
  first-absent : (table : List ℕ) → next_to_copy l ≡ Some table → first_in is_absent l ≡ Some table
  first-absent table is =
      by_test (λ b. (if b then None else first_in is_absent l) ≡ Some table → first_in is_absent l ≡ Some table) (list_any (λ (t : LeafTable). is_on_way t.state) l.tables) (λ _ none. absurd (cc)) (λ _ first. first) is

  pub has-next : (table : List ℕ) → next_to_copy l ≡ Some table → is_among table (leaf_tables r.node) ≡ true
  has-next table is = has-first is_absent table (first-absent table is)

  pub may-copy_next : (table : List ℕ) → next_to_copy l ≡ Some table → may_serve (moving table InCopy) r.node ≡ true
  may-copy_next table is = may-go is_absent InCopy allowed table (first-absent table is)
    where
      allowed : (state : TableState) → is_absent state ≡ true → is_allowed state InCopy ≡ true
      allowed Absent absent = refl
      allowed InCopy absent = absurd (cc)
      allowed CatchingUp absent = absurd (cc)
      allowed (WannaSync bound) absent = absurd (cc)
      allowed (DoSync tick) absent = absurd (cc)
      allowed Synced absent = absurd (cc)
