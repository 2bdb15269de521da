-- Lists of nodes: their ends, what they lack, and that none is in one twice.
use Rattle.std.proofs.Common.{◌≡◌, ◌≢◌, ℕ, List, [], ◌∷◌, ◌++◌, refl, sym}
use Rattle.std.specs.Prelude.{⊤}
use Rattle.sky_chain.specs.Chains.{Lacks}
use Rattle.sky_chain.specs.Links.{first_or, last_or}

-- no node is in a list twice
abbrev pub Distinct : List ℕ → Type 0
Distinct [] = ⊤
Distinct (x ∷ xs) = Lacks x xs × Distinct xs

pub first_or-append : (xs ys : List ℕ) (after : ℕ) → first_or (xs ++ ys) after ≡ first_or xs (first_or ys after)
first_or-append [] ys after = refl
first_or-append (x ∷ xs) ys after = refl

pub last_or-append : (xs ys : List ℕ) (before : ℕ) → last_or (xs ++ ys) before ≡ last_or ys (last_or xs before)
last_or-append [] ys before = refl
last_or-append (x ∷ xs) ys before = last_or-append xs ys x

-- what lacks a node
pub Lacks-left : (x : ℕ) (xs ys : List ℕ) → Lacks x (xs ++ ys) → Lacks x xs
Lacks-left x [] ys lacks = tt
Lacks-left x (z ∷ xs) ys lacks = (lacks.0, Lacks-left x xs ys lacks.1)

pub Lacks-right : (x : ℕ) (xs ys : List ℕ) → Lacks x (xs ++ ys) → Lacks x ys
Lacks-right x [] ys lacks = lacks
Lacks-right x (z ∷ xs) ys lacks = Lacks-right x xs ys lacks.1

pub Lacks-append : (x : ℕ) (xs ys : List ℕ) → Lacks x xs → Lacks x ys → Lacks x (xs ++ ys)
Lacks-append x [] ys left right = right
Lacks-append x (z ∷ xs) ys left right = (left.0, Lacks-append x xs ys left.1 right)

-- a node that a list lacks is neither its first nor its last
pub Lacks-first : (x : ℕ) (xs : List ℕ) (after : ℕ) → x ≢ after → Lacks x xs → x ≢ first_or xs after
Lacks-first x [] after other lacks = other
Lacks-first x (z ∷ xs) after other lacks = lacks.0

pub Lacks-last : (x : ℕ) (xs : List ℕ) (before : ℕ) → x ≢ before → Lacks x xs → x ≢ last_or xs before
Lacks-last x [] before other lacks = other
Lacks-last x (z ∷ xs) before other lacks = Lacks-last x xs z lacks.0 lacks.1

-- the parts of a list of distinct nodes
pub Distinct-left : (xs ys : List ℕ) → Distinct (xs ++ ys) → Distinct xs
Distinct-left [] ys distinct = tt
Distinct-left (x ∷ xs) ys distinct = (Lacks-left x xs ys distinct.0, Distinct-left xs ys distinct.1)

pub Distinct-right : (xs ys : List ℕ) → Distinct (xs ++ ys) → Distinct ys
Distinct-right [] ys distinct = distinct
Distinct-right (x ∷ xs) ys distinct = Distinct-right xs ys distinct.1

-- the last of the nodes before is none of those after
pub last_is_apart : (xs ys : List ℕ) (before : ℕ) → Lacks before ys → Distinct (xs ++ ys) → Lacks (last_or xs before) ys
last_is_apart [] ys before lacks distinct = lacks
last_is_apart (x ∷ xs) ys before lacks distinct = last_is_apart xs ys x (Lacks-right x xs ys distinct.0) distinct.1

-- the first of the nodes after is none of those before
pub first_is_apart : (xs ys : List ℕ) (after : ℕ) → Lacks after xs → Distinct (xs ++ ys) → Lacks (first_or ys after) xs
first_is_apart xs [] after lacks distinct = lacks
first_is_apart xs (y ∷ ys) after lacks distinct = head_is_apart xs distinct
  where
    head_is_apart : (xs : List ℕ) → Distinct (xs ++ y ∷ ys) → Lacks y xs
    head_is_apart [] distinct = tt
    head_is_apart (x ∷ xs) distinct =
        (λ same. (Lacks-right x xs (y ∷ ys) distinct.0).0 (sym same), head_is_apart xs distinct.1)

-- a node in the middle is nowhere else
pub middle_is_apart : (xs : List ℕ) (x : ℕ) (ys : List ℕ) → Distinct (xs ++ x ∷ ys) → Lacks x xs × Lacks x ys × Distinct (xs ++ ys)
middle_is_apart [] x ys distinct = (tt, distinct.0, distinct.1)
middle_is_apart (z ∷ xs) x ys distinct =
    let rest = middle_is_apart xs x ys distinct.1 in
    let apart = Lacks-right z xs (x ∷ ys) distinct.0 in
    ((λ same. apart.0 (sym same), rest.0), rest.1, (Lacks-append z xs ys (Lacks-left z xs (x ∷ ys) distinct.0) apart.1, rest.2))
