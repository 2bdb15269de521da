-- What is kept when links and ends are written.
use Rattle.std.proofs.Common.{◌≡◌, ◌≢◌, ℕ, zero, suc, Bool, true, false, List, [], ◌∷◌, ◌++◌, length, set, Option, Some, None, slice_get, refl, sym, ap, ◌∙◌, arith}
use Rattle.std.specs.Prelude.{◌==◌, if◌then◌else◌}
use Rattle.std.proofs.lemmas.Bool.Decides.{nat_tests}
use Rattle.std.proofs.lemmas.Option.{same_Some}
use Rattle.sky_chain.specs.declared.links.Link.{Link}
use Rattle.sky_chain.specs.declared.links.Ends.{Ends}
use Rattle.sky_chain.specs.Chains.{Lacks}
use Rattle.sky_chain.specs.Links.{nowhere, freed, first_or, last_or, Links, Spares, Freed, Keeps, KeepsAt}
use Rattle.sky_chain.specs.Joins.{ends_joined}
use Rattle.sky_chain.proofs.Lists.{last_or-append, Lacks-left, Lacks-right, Lacks-last}
use Rattle.sky_chain.proofs.ChainLemmas.{IsForeign, Same, Chain-same}

-- ---- reads of a list after a write, and after more were added

pub slice_get-set_same : {X : Type 0} (xs : List X) (i : ℕ) (x y : X) → slice_get xs i ≡ Some y → slice_get (set xs i x) i ≡ Some x
slice_get-set_same [] i x y is = absurd (cc)
slice_get-set_same (z ∷ xs) zero x y is = refl
slice_get-set_same (z ∷ xs) (suc i) x y is = slice_get-set_same xs i x y is

pub slice_get-set_other : {X : Type 0} (xs : List X) (i j : ℕ) (x : X) → j ≢ i → slice_get (set xs i x) j ≡ slice_get xs j
slice_get-set_other [] i j x other = refl
slice_get-set_other (z ∷ xs) zero zero x other = absurd (other refl)
slice_get-set_other (z ∷ xs) zero (suc j) x other = refl
slice_get-set_other (z ∷ xs) (suc i) zero x other = refl
slice_get-set_other (z ∷ xs) (suc i) (suc j) x other = slice_get-set_other xs i j x (λ same. other (ap suc same))

pub slice_get-append : {X : Type 0} (xs ys : List X) (i : ℕ) (x : X) → slice_get xs i ≡ Some x → slice_get (xs ++ ys) i ≡ Some x
slice_get-append [] ys i x is = absurd (cc)
slice_get-append (z ∷ xs) ys zero x is = is
slice_get-append (z ∷ xs) ys (suc i) x is = slice_get-append xs ys i x is

pub slice_get-push : {X : Type 0} (xs : List X) (x : X) → slice_get (xs ++ x ∷ []) (length xs) ≡ Some x
slice_get-push [] x = refl
slice_get-push (z ∷ xs) x = slice_get-push xs x

-- ---- spare nodes

-- they stay if their links do
pub Spares-same : (old new : Links) (node : ℕ) (xs : List ℕ) → ((z : ℕ) (link : Link) → z ≢ node → old z ≡ Some link → link.list ≡ nowhere → new z ≡ old z) → Lacks node xs → Spares old xs → Spares new xs
Spares-same old new node [] same lacks spares = tt
Spares-same old new node (x ∷ xs) same lacks spares =
    (same x _ (λ is. lacks.0 (sym is)) spares.0 refl ∙ spares.0, spares.1, Spares-same old new node xs same lacks.1 spares.2)

pub spares_lack : (links : Links) (node : ℕ) (xs : List ℕ) → IsForeign links nowhere node → Spares links xs → Lacks node xs
spares_lack links node [] foreign spares = tt
spares_lack links node (x ∷ xs) foreign spares = (λ same. foreign _ (ap links same ∙ spares.0) refl, spares_lack links node xs foreign spares.2)

-- ---- freed numbers

pub Freed-same : (old new : ℕ → Option Ends) (list : ℕ) (xs : List ℕ) → ((z : ℕ) → z ≢ list → new z ≡ old z) → Lacks list xs → Freed old xs → Freed new xs
Freed-same old new list [] same lacks numbers = tt
Freed-same old new list (x ∷ xs) same lacks numbers =
    (same x (λ is. lacks.0 (sym is)) ∙ numbers.0, numbers.1, Freed-same old new list xs same lacks.1 numbers.2)

-- a list that is in use isn't freed
pub freed_lack : (ends : ℕ → Option Ends) (list : ℕ) (e : Ends) (xs : List ℕ) → ends list ≡ Some e → e.last ≢ freed → Freed ends xs → Lacks list xs
freed_lack ends list e [] is in_use numbers = tt
freed_lack ends list e (x ∷ xs) is in_use numbers =
    (λ same. in_use (ap (λ (k : Ends). k.last) (same_Some _ _ (sym is ∙ ap ends same ∙ numbers.0))), freed_lack ends list e xs is in_use numbers.2)

-- ---- lists

pub Keeps-same : (old new : Links) (list : ℕ) (e : Ends) (nodes : List ℕ) → Same old new list → Keeps old list e nodes → Keeps new list e nodes
Keeps-same old new list e nodes same keeps = record { first = keeps.first; last = keeps.last; chain = Chain-same old new list same nowhere nodes nowhere keeps.chain }

pub KeepsAt-same : (old new : Links) (list : ℕ) (o : Option Ends) (v : Option (List ℕ)) → ((e : Ends) → o ≡ Some e → Same old new list) → KeepsAt old list o v → KeepsAt new list o v
KeepsAt-same old new list None v same keeps = keeps
KeepsAt-same old new list (Some e) None same keeps = keeps
KeepsAt-same old new list (Some e) (Some nodes) same keeps = Keeps-same old new list e nodes (same e refl) keeps

-- one list's ends are written, and the others keep theirs
pub keeps_with : (links : Links) (ends : List Ends) (list : ℕ) (e old : Ends) (v : Option (List ℕ)) (lists : ℕ → Option (List ℕ)) → slice_get ends list ≡ Some old
    → KeepsAt links list (Some e) v → ((l : ℕ) → l ≢ list → KeepsAt links l (slice_get ends l) (lists l))
    → (l : ℕ) → KeepsAt links l (slice_get (set ends list e) l) (if l == list then v else lists l)
keeps_with links ends list e old v lists there here elsewhere l = at_list (l == list) (grind (arith, nat_tests)) (grind (arith, nat_tests))
  where
    at_list : (b : Bool) → (b ≡ true → l ≡ list) → (b ≡ false → l ≢ list) → KeepsAt links l (slice_get (set ends list e) l) (if b then v else lists l)
    at_list true same other = rw (same refl, slice_get-set_same ends list e old there) here
    at_list false same other = rw (slice_get-set_other ends list l e (other refl)) (elsewhere l (other refl))

-- the ends of a list after a node was inserted, or removed
pub first_inserted : (e : Ends) (xs ys : List ℕ) (node : ℕ) → node ≢ nowhere → Lacks nowhere (xs ++ ys) → e.first ≡ first_or (xs ++ ys) nowhere
    → (ends_joined (ends_joined e (last_or xs nowhere) node) node (first_or ys nowhere)).first ≡ first_or (xs ++ node ∷ ys) nowhere
first_inserted e [] ys node here lacks first = grind (arith, nat_tests, here)
first_inserted e (x ∷ xs) ys node here lacks first =
    let there : nowhere ≢ last_or xs x = Lacks-last nowhere xs x lacks.0 (Lacks-left nowhere xs ys lacks.1) in
    grind (arith, nat_tests, here, there, first)

pub last_inserted : (e : Ends) (xs ys : List ℕ) (node : ℕ) → node ≢ nowhere → Lacks nowhere (xs ++ ys) → e.last ≡ last_or (xs ++ ys) nowhere
    → (ends_joined (ends_joined e (last_or xs nowhere) node) node (first_or ys nowhere)).last ≡ last_or (xs ++ node ∷ ys) nowhere
last_inserted e xs [] node here lacks last = rw (last_or-append xs (node ∷ []) nowhere) (grind (arith, nat_tests, here))
last_inserted e xs (y ∷ ys) node here lacks last =
    let there : nowhere ≢ y = (Lacks-right nowhere xs (y ∷ ys) lacks).0 in
    let was : last_or (xs ++ y ∷ ys) nowhere ≡ last_or ys y = last_or-append xs (y ∷ ys) nowhere in
    let is : last_or (xs ++ node ∷ y ∷ ys) nowhere ≡ last_or ys y = last_or-append xs (node ∷ y ∷ ys) nowhere in
    grind (arith, nat_tests, here, there, last, was, is)

pub first_removed : (e : Ends) (xs ys : List ℕ) (node : ℕ) → Lacks nowhere (xs ++ node ∷ ys) → e.first ≡ first_or (xs ++ node ∷ ys) nowhere
    → (ends_joined e (last_or xs nowhere) (first_or ys nowhere)).first ≡ first_or (xs ++ ys) nowhere
first_removed e [] ys node lacks first = grind (arith, nat_tests)
first_removed e (x ∷ xs) ys node lacks first =
    let there : nowhere ≢ last_or xs x = Lacks-last nowhere xs x lacks.0 (Lacks-left nowhere xs (node ∷ ys) lacks.1) in
    grind (arith, nat_tests, there, first)

pub last_removed : (e : Ends) (xs ys : List ℕ) (node : ℕ) → Lacks nowhere (xs ++ node ∷ ys) → e.last ≡ last_or (xs ++ node ∷ ys) nowhere
    → (ends_joined e (last_or xs nowhere) (first_or ys nowhere)).last ≡ last_or (xs ++ ys) nowhere
last_removed e xs [] node lacks last = rw (last_or-append xs [] nowhere) (grind (arith, nat_tests))
last_removed e xs (y ∷ ys) node lacks last =
    let there : nowhere ≢ y = (Lacks-right nowhere xs (node ∷ y ∷ ys) lacks).1.0 in
    let was : last_or (xs ++ node ∷ y ∷ ys) nowhere ≡ last_or ys y = last_or-append xs (node ∷ y ∷ ys) nowhere in
    let is : last_or (xs ++ y ∷ ys) nowhere ≡ last_or ys y = last_or-append xs (y ∷ ys) nowhere in
    grind (arith, nat_tests, there, last, was, is)
