-- How chains are seen.
use Rattle.std.specs.Prelude.{◌≡◌, ◌≢◌, ℕ, ◌==◌, ◌<◌, if◌then◌else◌, List, [], ◌∷◌, ◌++◌, Option, None, Some, slice_index_or}
use Rattle.std.specs.Option.{unwrap_or}

-- the lists by number, none at a number that isn't in use; how many nodes are spare; and a number above those of all nodes
pub record ChainsView : Type 0 where
  pub lists : List (Option (List ℕ))
  pub spare : ℕ
  pub size : ℕ

-- the nodes of a list, if it exists
abbrev pub list_of : ChainsView → ℕ → Option (List ℕ)
list_of chains list = slice_index_or chains.lists list None

-- a list's nodes; none if it doesn't exist
abbrev pub nodes_of : ChainsView → ℕ → List ℕ
nodes_of chains list = unwrap_or (list_of chains list) []

-- the first and the last of some nodes
abbrev pub first_of : List ℕ → Option ℕ
first_of [] = None
first_of (x ∷ xs) = Some x

abbrev pub last_of : List ℕ → Option ℕ
last_of [] = None
last_of (x ∷ []) = Some x
last_of (x ∷ y ∷ ys) = last_of (y ∷ ys)

-- a node is none of these
abbrev pub Lacks : ℕ → List ℕ → Type 0
Lacks x [] = Unit {0}
Lacks x (y ∷ ys) = (x ≢ y) × Lacks x ys

-- a node is in a list, between these nodes before it and these after it
abbrev pub IsBetween : ChainsView → ℕ → List ℕ → ℕ → List ℕ → Type 0
IsBetween chains list front node back = list_of chains list ≡ Some (front ++ node ∷ back)

-- a node is in a list
abbrev pub IsLinked : ChainsView → ℕ → Type 0
IsLinked chains node = (list : ℕ) × (front : List ℕ) × (back : List ℕ) × IsBetween chains list front node back

-- a node is in no list
abbrev pub IsUnlinked : ChainsView → ℕ → Type 0
IsUnlinked chains node = (list : ℕ) → Lacks node (nodes_of chains list)

-- each node is at most at one place of one list, and below the size
pub record AreApart (chains : ChainsView) : Type 0 where
  pub once : (node one other : ℕ) (front back head rest : List ℕ) → IsBetween chains one front node back → IsBetween chains other head node rest → (one ≡ other) × (front ≡ head) × (back ≡ rest)
  pub below : (list node : ℕ) (front back : List ℕ) → IsBetween chains list front node back → node < chains.size

-- a list now has these nodes, or is gone, and the others have what they had
abbrev pub Changes : ChainsView → ℕ → Option (List ℕ) → ChainsView → Type 0
Changes old list nodes new = (l : ℕ) → list_of new l ≡ (if l == list then nodes else list_of old l)
