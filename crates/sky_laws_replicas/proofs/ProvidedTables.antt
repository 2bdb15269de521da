-- The tables of leaves are in the sets of their providers, with the same columns: what holds of them, fact by fact.
use Rattle.std.proofs.Common.{arith, ◌≡◌, ◌⊎◌, inl, inr, ℕ, ◌==◌, List, [], ◌∷◌, ◌++◌, length, Bool, true, false, not, ◌||◌, Option, Some, None, is_some, option_map, bytes_eq, refl, sym, ap, subst, ◌∙◌, if◌then◌else◌}
use Rattle.std.specs.Option.{option_and_then}
use Rattle.std.proofs.lemmas.Bool.{and_parts}
use Rattle.std.proofs.lemmas.List.Folds.{list_any-append}
use Rattle.sky_names.specs.Places.{place_of}
use Rattle.sky_names.proofs.PlaceLemmas.{same_name, place_of_within}
use Rattle.sky_txid.specs.Ids.{contains}
use Rattle.londiste_state.specs.Nodes.{Root, Node, of_root, of_leaf, node_name, is_among, all_but}
use Rattle.sky_model.specs.History.{Mark, NodeMark, tabled, table_made, noded, root_made, set_added, set_removed, leaf_made, leaf_added, leaf_removed, History, Fact, within, node_made, Past}
use Rattle.sky_model.specs.Rows.{table_names, columns_of}
use Rattle.sky_model.specs.Nodes.{at_root, after_node, node, is_root, is_leaf, set_tables, leaf_tables}
use Rattle.sky_model.specs.World.{history_in, nodes, on_top}
use Rattle.sky_histories.proofs.Legal.{NodeFits, Fine, nodes as fits_nodes}
use Rattle.sky_histories.proofs.Snapshots.{contains-push}
use Rattle.sky_histories.proofs.NodeReadings.{same-node, same-tables, leaf-added, leaf-removed, leaf-other, set-other}
use Rattle.sky_histories.proofs.Histories.{AllLegal}
use Rattle.sky_histories.proofs.Good.{same-session}
use Rattle.sky_model.proofs.Cases.{by_test, by_same}
use Rattle.sky_laws_replicas.proofs.NodeNames.{provider_of, database_among, names_in, source_of, named-stays, among-same}
use Rattle.sky_laws_replicas.proofs.Keeping.{legal-before, fine-within, Noded, in-history, noded-within, source-within, source-made}
use Rattle.sky_laws_replicas.proofs.Others.{number-within}

-- ---- names among others

pub among-push : (name other : List ℕ) (names : List (List ℕ)) → is_among name names ≡ true → is_among name (names ++ other ∷ []) ≡ true
among-push name other names is = list_any-append (bytes_eq name) names (other ∷ []) ∙ ap (λ b. b || (bytes_eq name other || false)) is

pub among-less : (name other : List ℕ) (names : List (List ℕ)) → bytes_eq other name ≡ false → is_among name names ≡ true → is_among name (all_but other names) ≡ true
among-less name other [] differ is = absurd (cc is)
among-less name other (x ∷ xs) differ is =
    by_test (λ b. bytes_eq name x ≡ b → (b || is_among name xs) ≡ true → is_among name (if not (bytes_eq other x) then x ∷ all_but other xs else all_but other xs) ≡ true) (bytes_eq name x)
    (λ _ same _.
    ap (λ b. is_among name (if not b then x ∷ all_but other xs else all_but other xs)) (ap (bytes_eq other) (sym (same_name name x same)) ∙ differ) ∙ ap (λ b. b || is_among name (all_but other xs)) same)
    (λ _ _ rest.
    let later : is_among name (all_but other xs) ≡ true = among-less name other xs differ rest in
    by_test (λ b. is_among name (if not b then x ∷ all_but other xs else all_but other xs) ≡ true) (bytes_eq other x) (λ _. later) (λ _. grind (arith, later))) refl is

pub among-all : (name other : List ℕ) (names : List (List ℕ)) → is_among name (all_but other names) ≡ true → is_among name names ≡ true
among-all name other [] is = is
among-all name other (x ∷ xs) is =
    by_test (λ b. is_among name (if b then x ∷ all_but other xs else all_but other xs) ≡ true → is_among name (x ∷ xs) ≡ true) (not (bytes_eq other x))
    (λ _ e. by_test (λ b. (b || is_among name (all_but other xs)) ≡ true → (b || is_among name xs) ≡ true) (bytes_eq name x) (λ _ _. refl) (λ _ rest. among-all name other xs rest) e)
    (λ _ rest. let later = among-all name other xs rest in grind (arith, later)) is

-- ---- what a mark leaves of a table's columns, of a root and its set, and of a leaf's tables

columns-stay : (name : List ℕ) (n : ℕ) (h : History) (mark : Mark) → place_of name (table_names h) ≡ Some n → columns_of n (mark ∷ h) ≡ columns_of n h
columns-stay name n h (tabled (table_made last columns)) is = let below = place_of_within name (table_names h) n is in
    by_same (λ b. (if b then columns else columns_of n h) ≡ columns_of n h) (length (table_names h)) n (λ same. absurd (omega (arith, below, same))) (λ _. refl)
columns-stay name n h mark is = refl

root-mark : (h : History) (mark : NodeMark) → NodeFits h mark → is_root (node h) ≡ true → is_root (after_node mark (node h)) ≡ true
root-mark h (root_made name queue) fits is = absurd (cc (sym is ∙ ap is_root fits.0))
root-mark h (leaf_made name provider tick) fits is = absurd (cc (sym is ∙ ap is_root fits.0))
root-mark h mark fits is = (same-node mark refl (node h)).root ∙ is

root-stays : (h : History) (mark : Mark) → Fine h mark → is_root (node h) ≡ true → is_root (node (mark ∷ h)) ≡ true
root-stays h _ (fits_nodes mark fits) is = root-mark h mark fits is
root-stays h _ _ is = is

-- whether the table of a name leaves its set by a mark
abbrev unlists : List ℕ → Mark → Bool
unlists name (noded (set_removed other)) = bytes_eq other name
unlists name mark = false

root-changed : (name : List ℕ) (f : Root → Root) (n : Option Node) → ((r : Root) → is_among name r.tables ≡ true → is_among name (f r).tables ≡ true) → is_among name (set_tables n) ≡ true
    → is_among name (set_tables (option_map (at_root f) n)) ≡ true
root-changed name f None keeps is = is
root-changed name f (Some (of_root r)) keeps is = keeps r is
root-changed name f (Some (of_leaf l)) keeps is = is

set-mark : (h : History) (mark : NodeMark) → NodeFits h mark → (name : List ℕ) → unlists name (noded mark) ≡ false → is_among name (set_tables (node h)) ≡ true → is_among name (set_tables (after_node mark (node h))) ≡ true
set-mark h (root_made other queue) fits name kept is = absurd (cc (sym is ∙ ap (λ n. is_among name (set_tables n)) fits.0))
set-mark h (leaf_made other provider tick) fits name kept is = absurd (cc (sym is ∙ ap (λ n. is_among name (set_tables n)) fits.0))
set-mark h (set_added other) fits name kept is = root-changed name _ (node h) (λ r among. among-push name other r.tables among) is
set-mark h (set_removed other) fits name kept is = root-changed name _ (node h) (λ r among. among-less name other r.tables kept among) is
set-mark h (leaf_added other) fits name kept is = ap (is_among name) (set-other _ (node h)) ∙ is
set-mark h (leaf_removed other) fits name kept is = ap (is_among name) (set-other _ (node h)) ∙ is
set-mark h mark fits name kept is = ap (is_among name) (same-tables mark refl (node h)).set ∙ is

set-stays : (h : History) (mark : Mark) → Fine h mark → (name : List ℕ) → unlists name mark ≡ false → is_among name (set_tables (node h)) ≡ true → is_among name (set_tables (node (mark ∷ h))) ≡ true
set-stays h _ (fits_nodes mark fits) name kept is = set-mark h mark fits name kept is
set-stays h _ _ name kept is = is

-- a table of a leaf was one, or has just joined
abbrev WasLeafs : History → Mark → List ℕ → Type 0
WasLeafs h mark name = (is_among name (leaf_tables (node h)) ≡ true) ⊎ (mark ≡ noded (leaf_added name))

was-mark : (h : History) (mark : NodeMark) → NodeFits h mark → (name : List ℕ) → is_among name (leaf_tables (after_node mark (node h))) ≡ true → WasLeafs h (noded mark) name
was-mark h (root_made other queue) fits name is = absurd (cc is)
was-mark h (leaf_made other provider tick) fits name is = absurd (cc is)
was-mark h (set_added other) fits name is = inl (sym (ap (is_among name) (leaf-other _ (node h))) ∙ is)
was-mark h (set_removed other) fits name is = inl (sym (ap (is_among name) (leaf-other _ (node h))) ∙ is)
was-mark h (leaf_removed other) fits name is = inl (among-all name other (leaf_tables (node h)) (sym (ap (is_among name) (leaf-removed (node h) other)) ∙ is))
was-mark h (leaf_added other) fits name is =
    by_test (λ b. bytes_eq name other ≡ b → (is_among name (leaf_tables (node h)) || (b || false)) ≡ true → WasLeafs h (noded (leaf_added other)) name) (bytes_eq name other)
    (λ _ same _. inr (ap (λ x. noded (leaf_added x)) (sym (same_name name other same)))) (λ _ _ old. inl (grind (arith, old))) refl
    (sym (ap (is_among name) (leaf-added (node h) other (and_parts (is_leaf (node h)) (not (is_among other (leaf_tables (node h)))) fits.may).0) ∙ list_any-append (bytes_eq name) (leaf_tables (node h)) (other ∷ [])) ∙ is)
was-mark h mark fits name is = inl (sym (ap (is_among name) (same-tables mark refl (node h)).leaf) ∙ is)

was-leafs : (h : History) (mark : Mark) → Fine h mark → (name : List ℕ) → is_among name (leaf_tables (node (mark ∷ h))) ≡ true → WasLeafs h mark name
was-leafs h _ (fits_nodes mark fits) name is = was-mark h mark fits name is
was-leafs h _ _ name is = inl is

-- a leaf has just been made
record IsLeafMade (mark : Mark) : Type 0 where
  name : List ℕ
  provider : List ℕ
  tick : ℕ
  is : mark ≡ noded (leaf_made name provider tick)

made-mark : (h : History) (mark : NodeMark) → is_leaf (node h) ≡ false → is_leaf (after_node mark (node h)) ≡ true → IsLeafMade (noded mark)
made-mark h (root_made name queue) none is = absurd (cc is)
made-mark h (leaf_made name provider tick) none is = record { name = name; provider = provider; tick = tick; is = refl }
made-mark h mark none is = absurd (cc (sym is ∙ (same-node mark refl (node h)).leaf ∙ none))

leaf-made : (h : History) (mark : Mark) → is_leaf (node h) ≡ false → is_leaf (node (mark ∷ h)) ≡ true → IsLeafMade mark
leaf-made h (noded mark) none is = made-mark h mark none is
leaf-made h _ none is = absurd (cc (sym is ∙ none))

-- ---- a leaf and its provider

-- a table of a leaf's database, of which the set of its provider's database has one of this name and these columns
pub record IsOffered (past : Past) (d p : ℕ) (name : List ℕ) : Type 0 where
  pub listed : contains d (nodes past) ≡ true
  pub among : is_among name (set_tables (node (history_in past p))) ≡ true
  pub source : ℕ
  pub there : place_of name (table_names (history_in past p)) ≡ Some source
  pub table : ℕ
  pub here : place_of name (table_names (history_in past d)) ≡ Some table
  pub columns : columns_of table (history_in past d) ≡ columns_of source (history_in past p)

-- a leaf's provider is a root, and offers the leaf's tables
pub record TablesOffered (past : Past) (d : ℕ) : Type 0 where
  pub p : ℕ
  pub from : source_of past d ≡ Some p
  pub root : is_root (node (history_in past p)) ≡ true
  pub tables : (name : List ℕ) → is_among name (leaf_tables (node (history_in past d))) ≡ true → IsOffered past d p name

pub record AllProvided (past : Past) : Type 0 where
  pub all_noded : Noded past
  pub leaves : (d : ℕ) → is_leaf (node (history_in past d)) ≡ true → TablesOffered past d

-- the root of a name
pub record IsRootCalled (past : Past) (name : List ℕ) : Type 0 where
  pub p : ℕ
  pub found : database_among (names_in past) name (nodes past) ≡ Some p
  pub root : is_root (node (history_in past p)) ≡ true

-- no leaf of a database's root has a table
abbrev pub IsUnused : Past → ℕ → List ℕ → Type 0
IsUnused past e name = (d : ℕ) → source_of past d ≡ Some e → is_among name (leaf_tables (node (history_in past d))) ≡ false

-- a mark leaves it so
abbrev pub MarkSuits : Past → ℕ → Mark → Type 0
MarkSuits past e (noded (leaf_made name provider tick)) = IsRootCalled past provider
MarkSuits past e (noded (leaf_added name)) = (p : ℕ) → source_of past e ≡ Some p → IsOffered past e p name
MarkSuits past e (noded (set_removed name)) = IsUnused past e name
MarkSuits past e mark = Unit {0}

-- ---- mark by mark

columns-within : (name : List ℕ) (n : ℕ) (past : Past) (e : ℕ) (mark : Mark) (d : ℕ) → place_of name (table_names (history_in past d)) ≡ Some n
    → columns_of n (history_in (within e mark ∷ past) d) ≡ columns_of n (history_in past d)
columns-within name n past e mark d is =
    by_same (λ b. columns_of n (if b then mark ∷ history_in past d else history_in past d) ≡ columns_of n (history_in past d)) e d (λ _. columns-stay name n (history_in past d) mark is) (λ _. refl)

root-within : (past : Past) (e : ℕ) (mark : Mark) (p : ℕ) → Fine (history_in past e) mark → is_root (node (history_in past p)) ≡ true → is_root (node (history_in (within e mark ∷ past) p)) ≡ true
root-within past e mark p fine is =
    in-history (λ h. is_root (node h) ≡ true) past e mark p (λ same root. root-stays (history_in past p) mark (subst (λ k. Fine (history_in past k) mark) same fine) root) is

offered-within : (past : Past) (e : ℕ) (mark : Mark) (d p : ℕ) (name : List ℕ) → Fine (history_in past e) mark → (e ≡ p → unlists name mark ≡ false) → IsOffered past d p name
    → IsOffered (within e mark ∷ past) d p name
offered-within past e mark d p name fine kept o = record {
  listed = o.listed;
  among = in-history (λ h. is_among name (set_tables (node h)) ≡ true) past e mark p
      (λ same is. set-stays (history_in past p) mark (subst (λ k. Fine (history_in past k) mark) same fine) name (kept same) is) o.among;
  source = o.source;
  there = number-within name o.source past e mark p o.there;
  table = o.table;
  here = number-within name o.table past e mark d o.here;
  columns = columns-within name o.table past e mark d o.here ∙ o.columns ∙ sym (columns-within name o.source past e mark p o.there);
}

-- the database of a name stays
pub found-within : (past : Past) (e : ℕ) (mark : Mark) (name : List ℕ) (p : ℕ) → Noded past → Fine (history_in past e) mark → database_among (names_in past) name (nodes past) ≡ Some p
    → database_among (names_in (within e mark ∷ past)) name (nodes past) ≡ Some p
found-within past e mark name p all fine is = among-same (names_in (within e mark ∷ past)) (names_in past) name (nodes past) same ∙ is
  where
    same : (x : ℕ) → contains x (nodes past) ≡ true → names_in (within e mark ∷ past) x ≡ names_in past x
    same x there = by (node (history_in past x)) refl (all x there)
      where
        by : (o : Option Node) → node (history_in past x) ≡ o → is_some o ≡ true → names_in (within e mark ∷ past) x ≡ names_in past x
        by None none some = absurd (cc some)
        by (Some n) found some =
            by_same (λ b. option_map node_name (node (if b then mark ∷ history_in past x else history_in past x)) ≡ option_map node_name (node (history_in past x))) e x
            (λ one. (named-stays (history_in past x) mark n found (subst (λ k. Fine (history_in past k) mark) one fine)).name ∙ sym (ap (option_map node_name) found)) (λ _. refl)

pub called-within : (past : Past) (e : ℕ) (mark : Mark) (name : List ℕ) → Noded past → Fine (history_in past e) mark → IsRootCalled past name → IsRootCalled (within e mark ∷ past) name
called-within past e mark name all fine r = record { p = r.p; found = found-within past e mark name r.p all fine r.found; root = root-within past e mark r.p fine r.root }

-- a table in use leaves no set
in-use : (past : Past) (e : ℕ) (mark : Mark) (d : ℕ) (name : List ℕ) → MarkSuits past e mark → source_of past d ≡ Some e → WasLeafs (history_in past d) mark name → unlists name mark ≡ false
in-use past e (noded (set_removed other)) d name suits from (inl was) =
    by_test (λ b. bytes_eq other name ≡ b → b ≡ false) (bytes_eq other name)
    (λ _ same. absurd (cc (sym (suits d from) ∙ ap (λ x. is_among x (leaf_tables (node (history_in past d)))) (same_name other name same) ∙ was))) (λ _ _. refl) refl
in-use past e (noded (set_removed other)) d name suits from (inr just) = absurd (cc just)
in-use past e mark d name suits from was = refl

-- a leaf that was one
kept-leaf : (past : Past) (e : ℕ) (mark : Mark) (d : ℕ) → AllProvided past → Fine (history_in past e) mark → MarkSuits past e mark → (c : TablesOffered past d)
    → ((name : List ℕ) → is_among name (leaf_tables (node (history_in (within e mark ∷ past) d))) ≡ true → IsOffered past d c.p name × WasLeafs (history_in past d) mark name)
    → TablesOffered (within e mark ∷ past) d
kept-leaf past e mark d a fine suits c tables = record {
  p = c.p;
  from = source-within past e mark d c.p a.all_noded fine c.from;
  root = root-within past e mark c.p fine c.root;
  tables = λ name is. let both = tables name is in
      offered-within past e mark d c.p name fine (λ same. in-use past e mark d name suits (c.from ∙ ap Some (sym same)) both.1) both.0;
}

-- a leaf that has just been made
new-leaf : (past : Past) (d : ℕ) (name provider : List ℕ) (tick : ℕ) → AllProvided past → Fine (history_in past d) (noded (leaf_made name provider tick)) → IsRootCalled past provider
    → TablesOffered (within d (noded (leaf_made name provider tick)) ∷ past) d
new-leaf past d name provider tick a fine r = record {
  p = r.p;
  from = ap (λ h. option_and_then (λ x. database_among (names_in now) x (nodes past)) (provider_of (node h))) here ∙ found-within past d mark provider r.p a.all_noded fine r.found;
  root = root-within past d mark r.p fine r.root;
  tables = λ other is. absurd (cc (sym is ∙ ap (λ h. is_among other (leaf_tables (node h))) here));
}
  where
    mark : Mark
    mark = noded (leaf_made name provider tick)

    now : Past
    now = within d mark ∷ past

    here : history_in now d ≡ mark ∷ history_in past d
    here = ap (λ b. if b then mark ∷ history_in past d else history_in past d) (same-session d)

at-mark : (past : Past) (d : ℕ) (mark : Mark) → AllProvided past → Fine (history_in past d) mark → MarkSuits past d mark → is_leaf (node (mark ∷ history_in past d)) ≡ true → TablesOffered (within d mark ∷ past) d
at-mark past d mark a fine suits leaf =
    by_test (λ b. is_leaf (node (history_in past d)) ≡ b → TablesOffered (within d mark ∷ past) d) (is_leaf (node (history_in past d))) (λ _ was. had (a.leaves d was))
    (λ _ none. new (leaf-made (history_in past d) mark none leaf)) refl
  where
    offered : (c : TablesOffered past d) (name : List ℕ) → WasLeafs (history_in past d) mark name → IsOffered past d c.p name
    offered c name (inl was) = c.tables name was
    offered c name (inr just) = subst (MarkSuits past d) just suits c.p c.from

    here : history_in (within d mark ∷ past) d ≡ mark ∷ history_in past d
    here = ap (λ b. if b then mark ∷ history_in past d else history_in past d) (same-session d)

    had : TablesOffered past d → TablesOffered (within d mark ∷ past) d
    had c = kept-leaf past d mark d a fine suits c (λ name is.
        let was : WasLeafs (history_in past d) mark name = was-leafs (history_in past d) mark fine name (sym (ap (λ h. is_among name (leaf_tables (node h))) here) ∙ is) in
        (offered c name was, was))

    new : IsLeafMade mark → TablesOffered (within d mark ∷ past) d
    new m = subst (λ x. TablesOffered (within d x ∷ past) d) (sym m.is)
        (new-leaf past d m.name m.provider m.tick a (subst (Fine (history_in past d)) m.is fine) (subst (MarkSuits past d) m.is suits))

elsewhere : (past : Past) (e : ℕ) (mark : Mark) (d : ℕ) → (e == d) ≡ false → AllProvided past → Fine (history_in past e) mark → MarkSuits past e mark → is_leaf (node (history_in past d)) ≡ true
    → TablesOffered (within e mark ∷ past) d
elsewhere past e mark d other a fine suits leaf = let c = a.leaves d leaf in kept-leaf past e mark d a fine suits c (λ name is.
    let was : is_among name (leaf_tables (node (history_in past d))) ≡ true =
    sym (ap (λ b. is_among name (leaf_tables (node (if b then mark ∷ history_in past d else history_in past d)))) other) ∙ is in
    (c.tables name was, inl was))

provided-within : (past : Past) (e : ℕ) (mark : Mark) → Fine (history_in past e) mark → MarkSuits past e mark → AllProvided past → AllProvided (within e mark ∷ past)
provided-within past e mark fine suits a = record {
  all_noded = noded-within past e mark fine a.all_noded;
  leaves = λ d leaf. by_same (λ b. (e == d) ≡ b → is_leaf (node (if b then mark ∷ history_in past d else history_in past d)) ≡ true → TablesOffered (within e mark ∷ past) d) e d (λ same _ is. here d same is)
      (λ _ other is. elsewhere past e mark d other a fine suits is) refl leaf;
}
  where
    here : (d : ℕ) → e ≡ d → is_leaf (node (mark ∷ history_in past d)) ≡ true → TablesOffered (within e mark ∷ past) d
    here d same is =
        subst (λ k. TablesOffered (within k mark ∷ past) d) (sym same)
        (at-mark past d mark a (subst (λ k. Fine (history_in past k) mark) same fine) (subst (λ k. MarkSuits past k mark) same suits) is)

-- ---- other facts

provided-made : (past : Past) (e : ℕ) → is_some (node (history_in past e)) ≡ true → AllProvided past → AllProvided (node_made e ∷ past)
provided-made past e has a = record {
  all_noded = λ d there. by_same (λ b. (contains d (nodes past) || b) ≡ true → is_some (node (history_in past d)) ≡ true) d e
      (λ same _. subst (λ k. is_some (node (history_in past k)) ≡ true) (sym same) has) (λ _ is. a.all_noded d (grind (arith, is))) (sym (contains-push d e (nodes past)) ∙ there);
  leaves = λ d leaf. let c = a.leaves d leaf in record {
    p = c.p;
    from = source-made past e d c.p c.from;
    root = c.root;
    tables = λ name is. let o = c.tables name is in record {
      listed = contains-push d e (nodes past) ∙ ap (λ b. b || d == e) o.listed;
      among = o.among;
      source = o.source;
      there = o.there;
      table = o.table;
      here = o.here;
      columns = o.columns;
    };
  };
}

-- facts that change no history, and make no node
abbrev pub is_bare : Fact → Bool
is_bare (within d mark) = false
is_bare (node_made d) = false
is_bare fact = true

provided-bare : (past : Past) (fact : Fact) → is_bare fact ≡ true → AllProvided past → AllProvided (fact ∷ past)
provided-bare past (within d mark) bare a = absurd (cc bare)
provided-bare past (node_made d) bare a = absurd (cc bare)
provided-bare past _ bare a = record {
  all_noded = a.all_noded;
  leaves = λ d leaf. let c = a.leaves d leaf in record {
    p = c.p;
    from = c.from;
    root = c.root;
    tables = λ name is. let o = c.tables name is in record { listed = o.listed; among = o.among; source = o.source; there = o.there; table = o.table; here = o.here; columns = o.columns };
  };
}

-- ---- facts one after another

-- as long as the histories are legal
abbrev pub KeptProvided : Past → Type 0
KeptProvided past = AllLegal past → AllProvided past

abbrev pub FactSuits : Past → Fact → Type 0
FactSuits past (within e mark) = AllLegal past → AllProvided past → MarkSuits past e mark
FactSuits past (node_made d) = is_some (node (history_in past d)) ≡ true
FactSuits past fact = Unit {0}

pub suits-step : (past : Past) (fact : Fact) → FactSuits past fact → KeptProvided past → KeptProvided (fact ∷ past)
suits-step past (within e mark) suits kept after =
    let legal : AllLegal past = legal-before past (within e mark) after in
    let a : AllProvided past = kept legal in
    provided-within past e mark (fine-within past e mark after) (suits legal a) a
suits-step past (node_made d) has kept after = provided-made past d has (kept (legal-before past (node_made d) after))
suits-step past fact suits kept after = provided-bare past fact refl (kept (legal-before past fact after))

abbrev pub FactsSuit : Past → List Fact → Type 0
FactsSuit past [] = Unit {0}
FactsSuit past (fact ∷ facts) = FactSuits past fact × FactsSuit (fact ∷ past) facts

pub suits-steps : (past : Past) (facts : List Fact) → FactsSuit past facts → KeptProvided past → KeptProvided (on_top past facts)
suits-steps past [] suit kept = kept
suits-steps past (fact ∷ facts) suit kept = suits-steps (fact ∷ past) facts suit.1 (suits-step past fact suit.0 kept)
