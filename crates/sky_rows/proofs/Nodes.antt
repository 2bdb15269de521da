-- Nodes that are at one place, and their versions.
use Rattle.std.proofs.Common.{arith, ◌≡◌, ◌≢◌, ℕ, zero, suc, ◌<◌, ◌+◌, false, cond, List, [], ◌∷◌, ◌++◌, length, set, Option, Some, None, refl, sym, subst, ap, ◌∙◌, append_assoc, length-append}
use Rattle.std.specs.Prelude.{◌==◌, IsSome}
use Rattle.std.proofs.lemmas.Bool.Decides.{nat_tests}
use Rattle.std.proofs.lemmas.Option.{same_Some}
use Rattle.sky_chain.specs.Chains.{ChainsView, list_of, last_of, Lacks, IsBetween, AreApart}
use Rattle.sky_keys.specs.declared.version.Version.{Version}
use Rattle.sky_rows.specs.Older.{node_at, and_version, versions_at_nodes, AreFilled}

-- ---- the version of a node once one was put at a node

pub node_at-same : (nodes : List (Option Version)) (x : ℕ) (o : Option Version) → x < length nodes → node_at (set nodes x o) x ≡ o
node_at-same [] x o h = absurd (omega (arith, h))
node_at-same (n ∷ nodes) zero o h = refl
node_at-same (n ∷ nodes) (suc x) o h = node_at-same nodes x o (omega (arith, h))

pub node_at-other : (nodes : List (Option Version)) (x y : ℕ) (o : Option Version) → y ≢ x → node_at (set nodes x o) y ≡ node_at nodes y
node_at-other [] x y o other = refl
node_at-other (n ∷ nodes) zero zero o other = absurd (other refl)
node_at-other (n ∷ nodes) zero (suc y) o other = refl
node_at-other (n ∷ nodes) (suc x) zero o other = refl
node_at-other (n ∷ nodes) (suc x) (suc y) o other = node_at-other nodes x y o (λ same. other (ap suc same))

pub node_at-grown : (nodes : List (Option Version)) (y : ℕ) → node_at (nodes ++ None ∷ []) y ≡ node_at nodes y
node_at-grown [] zero = refl
node_at-grown [] (suc y) = refl
node_at-grown (n ∷ nodes) zero = refl
node_at-grown (n ∷ nodes) (suc y) = node_at-grown nodes y

-- ---- the versions at some nodes

and_version-append : (o : Option Version) (vs ws : List Version) → and_version o (vs ++ ws) ≡ and_version o vs ++ ws
and_version-append None vs ws = refl
and_version-append (Some v) vs ws = refl

pub versions-append : (nodes : List (Option Version)) (xs ys : List ℕ) → versions_at_nodes nodes (xs ++ ys) ≡ versions_at_nodes nodes xs ++ versions_at_nodes nodes ys
versions-append nodes [] ys = refl
versions-append nodes (x ∷ xs) ys = ap (and_version (node_at nodes x)) (versions-append nodes xs ys) ∙ and_version-append (node_at nodes x) (versions_at_nodes nodes xs) (versions_at_nodes nodes ys)

pub versions-other : (nodes : List (Option Version)) (x : ℕ) (o : Option Version) (ys : List ℕ) → Lacks x ys → versions_at_nodes (set nodes x o) ys ≡ versions_at_nodes nodes ys
versions-other nodes x o [] lacks = refl
versions-other nodes x o (y ∷ ys) lacks = λ i. and_version (node_at-other nodes x y o (λ same. lacks.0 (sym same)) i) (versions-other nodes x o ys lacks.1 i)

pub versions-grown : (nodes : List (Option Version)) (ys : List ℕ) → versions_at_nodes (nodes ++ None ∷ []) ys ≡ versions_at_nodes nodes ys
versions-grown nodes [] = refl
versions-grown nodes (y ∷ ys) = λ i. and_version (node_at-grown nodes y i) (versions-grown nodes ys i)

-- the versions of nodes of which one is in the middle
pub versions-middle : (nodes : List (Option Version)) (xs : List ℕ) (x : ℕ) (ys : List ℕ) (v : Version) → node_at nodes x ≡ Some v
    → versions_at_nodes nodes (xs ++ x ∷ ys) ≡ versions_at_nodes nodes xs ++ v ∷ versions_at_nodes nodes ys
versions-middle nodes xs x ys v is = versions-append nodes xs (x ∷ ys) ∙ ap (λ o. versions_at_nodes nodes xs ++ and_version o (versions_at_nodes nodes ys)) is

-- ---- each of some nodes has a version

pub filled-append : (nodes : List (Option Version)) (xs ys : List ℕ) → AreFilled nodes xs → AreFilled nodes ys → AreFilled nodes (xs ++ ys)
filled-append nodes [] ys left right = right
filled-append nodes (x ∷ xs) ys left right = (left.0, filled-append nodes xs ys left.1 right)

pub filled-left : (nodes : List (Option Version)) (xs ys : List ℕ) → AreFilled nodes (xs ++ ys) → AreFilled nodes xs
filled-left nodes [] ys filled = tt
filled-left nodes (x ∷ xs) ys filled = (filled.0, filled-left nodes xs ys filled.1)

pub filled-right : (nodes : List (Option Version)) (xs ys : List ℕ) → AreFilled nodes (xs ++ ys) → AreFilled nodes ys
filled-right nodes [] ys filled = filled
filled-right nodes (x ∷ xs) ys filled = filled-right nodes xs ys filled.1

pub filled-other : (nodes : List (Option Version)) (x : ℕ) (o : Option Version) (ys : List ℕ) → Lacks x ys → AreFilled nodes ys → AreFilled (set nodes x o) ys
filled-other nodes x o [] lacks filled = tt
filled-other nodes x o (y ∷ ys) lacks filled = (subst IsSome (sym (node_at-other nodes x y o (λ same. lacks.0 (sym same)))) filled.0, filled-other nodes x o ys lacks.1 filled.1)

pub filled-grown : (nodes : List (Option Version)) (ys : List ℕ) → AreFilled nodes ys → AreFilled (nodes ++ None ∷ []) ys
filled-grown nodes [] filled = tt
filled-grown nodes (y ∷ ys) filled = (subst IsSome (sym (node_at-grown nodes y)) filled.0, filled-grown nodes ys filled.1)

-- if each node has a version, only no nodes have none
pub no_versions : (nodes : List (Option Version)) (xs : List ℕ) → AreFilled nodes xs → versions_at_nodes nodes xs ≡ [] → xs ≡ []
no_versions nodes [] filled none = refl
no_versions nodes (x ∷ xs) filled none = first_is (node_at nodes x) filled.0 none
  where
    first_is : (o : Option Version) → IsSome o → and_version o (versions_at_nodes nodes xs) ≡ [] → x ∷ xs ≡ []
    first_is None some none = absurd (cc some)
    first_is (Some v) some none = absurd (cc none)

-- ---- a node is at one place

lacks_unless : (x : ℕ) (xs : List ℕ) → ((head rest : List ℕ) → xs ≡ head ++ x ∷ rest → ⊥) → Lacks x xs
lacks_unless x [] never = tt
lacks_unless x (y ∷ ys) never = (λ same. never [] ys (ap (λ z. z ∷ ys) (sym same)), lacks_unless x ys (λ head rest is. never (y ∷ head) rest (ap (λ zs. y ∷ zs) is)))

longer : (xs : List ℕ) (x : ℕ) (ys : List ℕ) → xs ≡ xs ++ x ∷ ys → ⊥
longer xs x ys same =
    let lengths : length xs ≡ length xs + length (x ∷ ys) = ap length same ∙ length-append xs (x ∷ ys) in
    omega (arith, lengths)

pub apart_front : (chains : ChainsView) (list x : ℕ) (front back : List ℕ) → AreApart chains → IsBetween chains list front x back → Lacks x front
apart_front chains list x front back apart between = lacks_unless x front (λ head rest is.
    let again : IsBetween chains list head x (rest ++ x ∷ back) = between ∙ ap (λ xs. Some (xs ++ x ∷ back)) is ∙ ap Some (append_assoc head (x ∷ rest) (x ∷ back)) in
    longer head x rest (sym (apart.once x list list front back head (rest ++ x ∷ back) between again).1 ∙ is))

pub apart_back : (chains : ChainsView) (list x : ℕ) (front back : List ℕ) → AreApart chains → IsBetween chains list front x back → Lacks x back
apart_back chains list x front back apart between = lacks_unless x back (λ head rest is.
    let again : IsBetween chains list (front ++ x ∷ head) x rest = between ∙ ap (λ xs. Some (front ++ x ∷ xs)) is ∙ sym (ap Some (append_assoc front (x ∷ head) (x ∷ rest))) in
    longer front x head (apart.once x list list front back (front ++ x ∷ head) rest between again).1)

pub apart_other : (chains : ChainsView) (list x : ℕ) (front back : List ℕ) (other : ℕ) (xs : List ℕ) → AreApart chains → IsBetween chains list front x back → (other == list) ≡ false → list_of chains other ≡ Some xs → Lacks x xs
apart_other chains list x front back other xs apart between differs is = lacks_unless x xs (λ head rest split.
    let same = (apart.once x list other front back head rest between (is ∙ ap Some split)).0 in
    grind (arith, nat_tests, differs, same))

-- ---- the place of a node, by which code follows a list backwards

abbrev pub place : ℕ → List ℕ → ℕ
place x [] = 0
place x (y ∷ ys) = cond (x == y) 1 (suc (place x ys))

abbrev pub place_of : Option ℕ → List ℕ → ℕ
place_of None xs = 0
place_of (Some x) xs = place x xs

place-middle : (x : ℕ) (front back : List ℕ) → Lacks x front → place x (front ++ x ∷ back) ≡ suc (length front)
place-middle x [] back lacks = grind (arith, nat_tests)
place-middle x (y ∷ front) back lacks = grind (arith, nat_tests, lacks.0, place-middle x front back lacks.1)

pub last_split : (xs : List ℕ) (x : ℕ) → last_of xs ≡ Some x → (front : List ℕ) × (xs ≡ front ++ x ∷ [])
last_split [] x is = absurd (cc is)
last_split (y ∷ []) x is = ([], ap (λ z. z ∷ []) (same_Some _ _ is))
last_split (y ∷ z ∷ xs) x is = let rest = last_split (z ∷ xs) x is in (y ∷ rest.0, ap (λ zs. y ∷ zs) rest.1)

pub last_none : (xs : List ℕ) → last_of xs ≡ None → xs ≡ []
last_none [] is = refl
last_none (y ∷ []) is = absurd (cc is)
last_none (y ∷ z ∷ xs) is = absurd (cc (last_none (z ∷ xs) is))

-- the place of the last of the nodes in front says how many there are
pub place-front : (chains : ChainsView) (list : ℕ) (front back : List ℕ) → AreApart chains → list_of chains list ≡ Some (front ++ back) → place_of (last_of front) (front ++ back) ≡ length front
place-front chains list front back apart is = at_last (last_of front) refl
  where
    at_last : (o : Option ℕ) → last_of front ≡ o → place_of o (front ++ back) ≡ length front
    at_last None none = sym (ap length (last_none front none))
    at_last (Some x) last =
        let split = last_split front x last in
        let whole : front ++ back ≡ split.0 ++ x ∷ back = ap (λ xs. xs ++ back) split.1 ∙ append_assoc split.0 (x ∷ []) back in
        let size : length front ≡ length split.0 + 1 = ap length split.1 ∙ length-append split.0 (x ∷ []) in
        let here = place-middle x split.0 back (apart_front chains list x split.0 back apart (is ∙ ap Some whole)) in
        ap (place x) whole ∙ here ∙ omega (arith, size)
