-- Nodes keep their names, and leaves their providers; so a provider's name is that of one database.
use Rattle.std.proofs.Common.{◌≡◌, ℕ, List, [], ◌∷◌, ◌++◌, Bool, true, false, ◌==◌, ◌||◌, Option, Some, None, option_map, bytes_eq, refl, sym, ap, subst, arith, ◌∙◌, if◌then◌else◌}
use Rattle.std.specs.Option.{option_and_then}
use Rattle.londiste_state.specs.Nodes.{Node, of_root, of_leaf, node_name}
use Rattle.sky_names.proofs.PlaceLemmas.{same_name}
use Rattle.sky_txid.specs.Ids.{contains}
use Rattle.sky_model.specs.History.{Mark, NodeMark, root_made, leaf_made, applied, of_synced, copy_of, History, Past}
use Rattle.sky_model.specs.Nodes.{node, after_node}
use Rattle.sky_model.specs.World.{world_of, history_in, nodes}
use Rattle.sky_model.specs.NodesOfWorld.{Located, if_named, node_among, node_called}
use Rattle.sky_histories.proofs.Legal.{NodeFits, Fine, nodes as fits_nodes}
use Rattle.std.proofs.lemmas.Bool.Decides.{nat_tests}
use Rattle.sky_model.proofs.Cases.{by_test}

-- the name of a leaf's provider
abbrev pub provider_of : Option Node → Option (List ℕ)
provider_of (Some (of_leaf l)) = Some l.provider
provider_of n = None

-- a node with the name and the provider of another
pub record IsNamedAs (n : Node) (m : Option Node) : Type 0 where
  pub name : option_map node_name m ≡ Some (node_name n)
  pub provider : provider_of m ≡ provider_of (Some n)

named-after : (h : History) (mark : NodeMark) (n : Node) → node h ≡ Some n → NodeFits h mark → IsNamedAs n (after_node mark (Some n))
named-after h (root_made name queue) n is fits = absurd (cc (sym is ∙ fits.0))
named-after h (leaf_made name provider tick) n is fits = absurd (cc (sym is ∙ fits.0))
named-after h (applied of_synced tick) (of_leaf l) is fits = record { name = refl; provider = refl }
named-after h (applied (copy_of table) tick) (of_leaf l) is fits = record { name = refl; provider = refl }
named-after h _ (of_root r) is fits = record { name = refl; provider = refl }
named-after h _ (of_leaf l) is fits = record { name = refl; provider = refl }

pub named-stays : (h : History) (mark : Mark) (n : Node) → node h ≡ Some n → Fine h mark → IsNamedAs n (node (mark ∷ h))
named-stays h _ n is (fits_nodes mark fits) = subst (λ o. IsNamedAs n (after_node mark o)) (sym is) (named-after h mark n is fits)
named-stays h _ n is _ = record { name = ap (option_map node_name) is; provider = ap provider_of is }

-- ---- the database of a name

abbrev is_named : List ℕ → Option (List ℕ) → Bool
is_named name None = false
is_named name (Some other) = bytes_eq name other

-- the first of some databases whose node has a name
abbrev pub database_among : (ℕ → Option (List ℕ)) → List ℕ → List ℕ → Option ℕ
database_among names name [] = None
database_among names name (d ∷ ds) = if is_named name (names d) then Some d else database_among names name ds

-- the names of nodes
abbrev pub names_in : Past → ℕ → Option (List ℕ)
names_in past d = option_map node_name (node (history_in past d))

-- the database of the provider of a database's leaf
abbrev pub source_of : Past → ℕ → Option ℕ
source_of past d = option_and_then (λ provider. database_among (names_in past) provider (nodes past)) (provider_of (node (history_in past d)))

among-is : (found : ℕ → Option Node) (name : List ℕ) (ds : List ℕ) → option_map Located.database (node_among found name ds) ≡ database_among (λ d. option_map node_name (found d)) name ds
among-is found name [] = refl
among-is found name (d ∷ ds) = of (found d) (among-is found name ds)
  where
    of : (o : Option Node) → option_map Located.database (node_among found name ds) ≡ database_among (λ d. option_map node_name (found d)) name ds
        → option_map Located.database (if_named name d o (node_among found name ds))
        ≡ (if is_named name (option_map node_name o) then Some d else database_among (λ d. option_map node_name (found d)) name ds)
    of None ih = ih
    of (Some n) ih = by_test (λ b. option_map Located.database (if b then Some (record { database = d; node = n }) else node_among found name ds)
        ≡ (if b then Some d else database_among (λ d. option_map node_name (found d)) name ds)) (bytes_eq name (node_name n)) (λ _. refl) (λ _. ih)

pub called-database : (past : Past) (name : List ℕ) → option_map Located.database (node_called (world_of past) name) ≡ database_among (names_in past) name (nodes past)
called-database past name = among-is (λ d. node (history_in past d)) name (nodes past)

-- it is among them, and has the name
pub among-there : (names : ℕ → Option (List ℕ)) (name : List ℕ) (ds : List ℕ) (d : ℕ) → database_among names name ds ≡ Some d → contains d ds ≡ true
among-there names name [] d is = absurd (cc is)
among-there names name (e ∷ ds) d is =
    by_test (λ b. (if b then Some e else database_among names name ds) ≡ Some d → (d == e || contains d ds) ≡ true) (is_named name (names e))
    (λ _ here. let same : e ≡ d = cc here in grind (arith, nat_tests, same)) (λ _ there. let later = among-there names name ds d there in grind (arith, later)) is

pub among-named : (names : ℕ → Option (List ℕ)) (name : List ℕ) (ds : List ℕ) (d : ℕ) → database_among names name ds ≡ Some d → names d ≡ Some name
among-named names name [] d is = absurd (cc is)
among-named names name (e ∷ ds) d is =
    by_test (λ b. is_named name (names e) ≡ b → (if b then Some e else database_among names name ds) ≡ Some d → names d ≡ Some name) (is_named name (names e))
    (λ _ so here. let same : e ≡ d = cc here in ap names (sym same) ∙ of (names e) so) (λ _ _ there. among-named names name ds d there) refl is
  where
    of : (o : Option (List ℕ)) → is_named name o ≡ true → o ≡ Some name
    of None so = absurd (cc so)
    of (Some other) so = ap Some (sym (same_name name other so))

-- by names that are the same in these databases it is the same one
pub among-same : (f g : ℕ → Option (List ℕ)) (name : List ℕ) (ds : List ℕ) → ((d : ℕ) → contains d ds ≡ true → f d ≡ g d) → database_among f name ds ≡ database_among g name ds
among-same f g name [] same = refl
among-same f g name (d ∷ ds) same =
    ap (λ o. if is_named name o then Some d else database_among f name ds) (same d (grind (arith, nat_tests)))
    ∙ ap (λ o. if is_named name (g d) then Some d else o) (among-same f g name ds (λ e there. same e (grind (arith, there))))

-- one more doesn't come first
pub among-more : (f : ℕ → Option (List ℕ)) (name : List ℕ) (ds more : List ℕ) (d : ℕ) → database_among f name ds ≡ Some d → database_among f name (ds ++ more) ≡ Some d
among-more f name [] more d is = absurd (cc is)
among-more f name (e ∷ ds) more d is =
    by_test (λ b. (if b then Some e else database_among f name ds) ≡ Some d → (if b then Some e else database_among f name (ds ++ more)) ≡ Some d) (is_named name (f e))
    (λ _ here. here) (λ _ there. among-more f name ds more d there) is
