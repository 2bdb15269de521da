-- Which tables have the names of a node's, and that these are tables of its database; and the queue of its set.
use Rattle.std.proofs.Common.{◌≡◌, ℕ, Bool, true, false, not, ◌||◌, ◌&&◌, ◌==◌, List, [], ◌∷◌, ◌++◌, Option, Some, None, is_some, bytes_eq, length, refl, sym, ◌∙◌, ap, subst, arith, if◌then◌else◌}
use Rattle.std.specs.Option.{option_or}
use Rattle.std.proofs.lemmas.Bool.{and_parts, or_parts}
use Rattle.std.proofs.lemmas.Bool.Decides.{nat_tests}
use Rattle.std.proofs.lemmas.List.Elements.{All-nil, All-head, All-tail, All-push, All-weaker, All-filter}
use Rattle.std.proofs.lemmas.List.Folds.{list_any-append}
use Rattle.londiste_state.specs.Nodes.{Node, is_among, all_but}
use Rattle.sky_names.specs.Places.{place_of}
use Rattle.sky_names.proofs.PlaceLemmas.{bytes_eq_refl, same_name, slice_get-place_of, place_of-append}
use Rattle.sky_model.specs.History.{NodeMark, tabled, table_made, queued, made, root_made, set_added, set_removed, leaf_made, leaf_added, leaf_removed, History}
use Rattle.sky_model.specs.Rows.{table_names}
use Rattle.sky_model.specs.Queues.{queues_made, queues}
use Rattle.sky_model.specs.Nodes.{after_node, node, is_root, is_leaf, set_tables, leaf_tables}
use Rattle.sky_model.specs.LawsOfNodes.{AreTables, is_at, is_one_of}
use Rattle.sky_histories.proofs.Legal.{NodeFits, drops, nodes, Legal, start, next}
use Rattle.sky_histories.proofs.NodeReadings.{IsSameNode, same-node, HasSameTables, same-tables, set-listed, set-unlisted, leaf-added, leaf-removed, leaf-other, set-other}
use Rattle.sky_histories.proofs.SetQueues.{HasQueue, set-made, set-dropped}
use Rattle.sky_model.proofs.Cases.{by_test, by_same}

-- ---- the tables of names

-- one place has one name
pub one-place : (a b : List ℕ) (tables : List (List ℕ)) (place : ℕ) → place_of a tables ≡ Some place → place_of b tables ≡ Some place → a ≡ b
one-place a b tables place is also = let same : Some a ≡ Some b = sym (slice_get-place_of a tables place is) ∙ slice_get-place_of b tables place also in cc

-- a name that isn't this one isn't that of its table
apart-at : (name x : List ℕ) (tables : List (List ℕ)) (t : ℕ) → place_of name tables ≡ Some t → bytes_eq name x ≡ false → (n : ℕ) → (is_at n (place_of x tables) && (t == n)) ≡ false
apart-at name x tables t there other n = of (place_of x tables) refl
  where
    of : (o : Option ℕ) → place_of x tables ≡ o → (is_at n o && (t == n)) ≡ false
    of None is = refl
    of (Some m) is =
        by_same (λ b. (b && (t == n)) ≡ false) m n
        (λ same. by_same (λ b. b ≡ false) t n
        (λ also. absurd (cc (sym other ∙ ap (bytes_eq name) (sym (one-place name x tables t there (is ∙ ap (λ k. Some k) (same ∙ sym also)))) ∙ bytes_eq_refl name)))
        (λ _. refl)) (λ _. refl)

-- a name more
pub one-push : (tables names : List (List ℕ)) (name : List ℕ) (n : ℕ) → is_one_of tables (names ++ name ∷ []) n ≡ (is_one_of tables names n || is_at n (place_of name tables))
one-push tables names name n = grind (arith, list_any-append (λ x. is_at n (place_of x tables)) names (name ∷ []))

-- a name less
pub one-less : (tables names : List (List ℕ)) (name : List ℕ) (t : ℕ) → place_of name tables ≡ Some t → (n : ℕ) → is_one_of tables (all_but name names) n ≡ (not (t == n) && is_one_of tables names n)
one-less tables [] name t there n = grind arith
one-less tables (x ∷ xs) name t there n =
    by_test (λ b. bytes_eq name x ≡ b → is_one_of tables (if not b then x ∷ all_but name xs else all_but name xs) n ≡ (not (t == n) && (is_at n (place_of x tables) || is_one_of tables xs n))) (bytes_eq name x)
    (λ _ same.
    let at : is_at n (place_of x tables) ≡ (t == n) = ap (is_at n) (ap (λ y. place_of y tables) (sym (same_name name x same)) ∙ there) in
    one-less tables xs name t there n ∙ cut (t == n) (is_one_of tables xs n) ∙ ap (λ b. not (t == n) && (b || is_one_of tables xs n)) (sym at))
    (λ _ other.
    ap (λ b. is_at n (place_of x tables) || b) (one-less tables xs name t there n) ∙ kept (is_at n (place_of x tables)) (t == n) (is_one_of tables xs n) (apart-at name x tables t there other n)) refl
  where
    cut : (b c : Bool) → (not b && c) ≡ (not b && (b || c))
    cut true c = refl
    cut false c = refl

    kept : (a b c : Bool) → (a && b) ≡ false → (a || (not b && c)) ≡ (not b && (a || c))
    kept true true c e = absurd (cc)
    kept true false c e = refl
    kept false true c e = refl
    kept false false c e = refl

-- the table of a name that isn't among them has none of them
pub one-apart : (tables names : List (List ℕ)) (name : List ℕ) (t : ℕ) → place_of name tables ≡ Some t → is_among name names ≡ false → is_one_of tables names t ≡ false
one-apart tables [] name t there other = refl
one-apart tables (x ∷ xs) name t there other =
    let parts = or_parts (bytes_eq name x) (is_among name xs) other in
    (λ i. first (is_at t (place_of x tables)) (apart-at name x tables t there parts.0 t) i || one-apart tables xs name t there parts.1 i)
  where
    same : (t == t) ≡ true
    same = grind (arith, nat_tests)

    first : (a : Bool) → (a && (t == t)) ≡ false → a ≡ false
    first true e = absurd (cc (sym e ∙ same))
    first false e = refl

-- ---- a table more

pub place-kept : (name : List ℕ) (tables : List (List ℕ)) (last : List ℕ) → is_some (place_of name tables) ≡ true → place_of name (tables ++ last ∷ []) ≡ place_of name tables
place-kept name tables last is = place_of-append name tables last ∙ of (place_of name tables) (if bytes_eq name last then Some (length tables) else None) is
  where
    of : (o rest : Option ℕ) → is_some o ≡ true → option_or o rest ≡ o
    of None rest e = absurd (cc)
    of (Some t) rest e = refl

pub tables-kept : (tables names : List (List ℕ)) (last : List ℕ) → AreTables tables names → AreTables (tables ++ last ∷ []) names
tables-kept tables names last are =
    All-weaker (λ name. is_some (place_of name tables) ≡ true) (λ name. is_some (place_of name (tables ++ last ∷ [])) ≡ true) (λ name is. ap is_some (place-kept name tables last is) ∙ is) names are

pub one-kept : (tables names : List (List ℕ)) (last : List ℕ) → AreTables tables names → (n : ℕ) → is_one_of (tables ++ last ∷ []) names n ≡ is_one_of tables names n
one-kept tables [] last are n = refl
one-kept tables (x ∷ xs) last are n = λ i.
    is_at n (place-kept x tables last (All-head (λ name. is_some (place_of name tables) ≡ true) x xs are) i)
    || one-kept tables xs last (All-tail (λ name. is_some (place_of name tables) ≡ true) x xs are) n i

-- ---- at each place

-- a root's set has its queue
has-mark : (h : History) (mark : NodeMark) → NodeFits h mark → HasQueue (queues h) (node h) → HasQueue (queues h) (after_node mark (node h))
has-mark h (root_made name queue) fits has = λ _. fits.1
has-mark h (leaf_made name provider tick) fits has = λ e. absurd (cc)
has-mark h mark fits has =
    let same : IsSameNode (node h) (after_node mark (node h)) = same-node mark refl (node h) in
    λ root. ap is_some (same.set (queues h)) ∙ has (sym same.root ∙ root)

pub has-queue : (h : History) → Legal h → HasQueue (queues h) (node h)
has-queue [] start = λ e. absurd (cc)
has-queue _ (next {h = h} l (nodes mark fits)) = has-mark h mark fits (has-queue h l)
has-queue (queued (made name t time) ∷ h) (next l fine) =
    λ root. ap is_some (set-made (queues h) (record { number = queues_made h; name = name }) (node h) (has-queue h l)) ∙ has-queue h l root
has-queue _ (next {h = h} l (drops p none untold idle aside)) =
    λ root. ap is_some (set-dropped (queues h) p (node h) (has-queue h l) aside) ∙ has-queue h l root
has-queue (_ ∷ h) (next l fine) = has-queue h l

-- a node's tables are tables of its database
pub record HaveTables (tables : List (List ℕ)) (n : Option Node) : Type 0 where
  pub set : AreTables tables (set_tables n)
  pub leaf : AreTables tables (leaf_tables n)

abbrev IsTable : List (List ℕ) → List ℕ → Type 0
IsTable tables name = is_some (place_of name tables) ≡ true

have-mark : (h : History) (mark : NodeMark) → NodeFits h mark → HaveTables (table_names h) (node h) → HaveTables (table_names h) (after_node mark (node h))
have-mark h (root_made name queue) fits have = record { set = All-nil (IsTable (table_names h)); leaf = All-nil (IsTable (table_names h)) }
have-mark h (leaf_made name provider tick) fits have = record { set = All-nil (IsTable (table_names h)); leaf = All-nil (IsTable (table_names h)) }
have-mark h (set_added table) fits have = record {
  set = subst (AreTables (table_names h)) (sym (set-listed (node h) table (and_parts (is_root (node h)) (not (is_among table (set_tables (node h)))) fits.may).0))
      (All-push (IsTable (table_names h)) (set_tables (node h)) table have.set (ap is_some fits.there));
  leaf = subst (AreTables (table_names h)) (sym (leaf-other _ (node h))) have.leaf;
}
have-mark h (set_removed table) fits have = record {
  set = subst (AreTables (table_names h)) (sym (set-unlisted (node h) table)) (All-filter (λ other. not (bytes_eq table other)) (IsTable (table_names h)) (set_tables (node h)) have.set);
  leaf = subst (AreTables (table_names h)) (sym (leaf-other _ (node h))) have.leaf;
}
have-mark h (leaf_added table) fits have = record {
  set = subst (AreTables (table_names h)) (sym (set-other _ (node h))) have.set;
  leaf = subst (AreTables (table_names h)) (sym (leaf-added (node h) table (and_parts (is_leaf (node h)) (not (is_among table (leaf_tables (node h)))) fits.may).0))
      (All-push (IsTable (table_names h)) (leaf_tables (node h)) table have.leaf (ap is_some fits.there));
}
have-mark h (leaf_removed table) fits have = record {
  set = subst (AreTables (table_names h)) (sym (set-other _ (node h))) have.set;
  leaf = subst (AreTables (table_names h)) (sym (leaf-removed (node h) table)) (All-filter (λ other. not (bytes_eq table other)) (IsTable (table_names h)) (leaf_tables (node h)) have.leaf);
}
have-mark h mark fits have =
    let same : HasSameTables (node h) (after_node mark (node h)) = same-tables mark refl (node h) in
    record { set = subst (AreTables (table_names h)) (sym same.set) have.set; leaf = subst (AreTables (table_names h)) (sym same.leaf) have.leaf }

pub have-tables : (h : History) → Legal h → HaveTables (table_names h) (node h)
have-tables [] start = record { set = All-nil (IsTable []); leaf = All-nil (IsTable []) }
have-tables _ (next {h = h} l (nodes mark fits)) = have-mark h mark fits (have-tables h l)
have-tables (tabled (table_made name columns) ∷ h) (next l fine) =
    let have : HaveTables (table_names h) (node h) = have-tables h l in
    record { set = tables-kept (table_names h) (set_tables (node h)) name have.set; leaf = tables-kept (table_names h) (leaf_tables (node h)) name have.leaf }
have-tables (_ ∷ h) (next l fine) = let have : HaveTables (table_names h) (node h) = have-tables h l in record { set = have.set; leaf = have.leaf }
