-- What the older versions of keys are seen as: lists of nodes, and the version of each node.
use Rattle.std.specs.Prelude.{◌≡◌, ℕ, Bool, true, ◌==◌, ◌≤◌, if◌then◌else◌, List, [], ◌∷◌, ◌++◌, length, Option, None, Some, IsSome, option_map, slice_index_or}
use Rattle.std.specs.Option.{unwrap_or}
use Rattle.sky_chain.specs.Chains.{ChainsView, list_of, IsBetween, IsUnlinked}
use Rattle.sky_keys.specs.declared.version.Version.{Version}
use Rattle.sky_keys.specs.Versions.{newest_by}

-- lists of nodes by number, and the version of each node
pub record OlderView : Type 0 where
  pub chains : ChainsView
  pub nodes : List (Option Version)

-- the version of a node, none beyond the last
abbrev pub node_at : List (Option Version) → ℕ → Option Version
node_at nodes node = slice_index_or nodes node None

-- a version, if there is one, in front of others
abbrev pub and_version : Option Version → List Version → List Version
and_version None vs = vs
and_version (Some v) vs = v ∷ vs

-- the versions of some nodes
abbrev pub versions_at_nodes : List (Option Version) → List ℕ → List Version
versions_at_nodes nodes [] = []
versions_at_nodes nodes (x ∷ xs) = and_version (node_at nodes x) (versions_at_nodes nodes xs)

-- the versions of a list, if it exists
abbrev pub list_in : OlderView → ℕ → Option (List Version)
list_in older list = option_map (versions_at_nodes older.nodes) (list_of older.chains list)

-- the same, none if it doesn't exist
abbrev pub older_in : OlderView → ℕ → List Version
older_in older list = unwrap_or (list_in older list) []

-- each of some nodes has a version
abbrev pub AreFilled : List (Option Version) → List ℕ → Type 0
AreFilled nodes [] = Unit {0}
AreFilled nodes (x ∷ xs) = IsSome (node_at nodes x) × AreFilled nodes xs

-- the nodes that are in a list have a version, and no others
pub record IsFilled (chains : ChainsView) (nodes : List (Option Version)) : Type 0 where
  pub wide : chains.size ≤ length nodes
  pub filled : (list : ℕ) (xs : List ℕ) → list_of chains list ≡ Some xs → AreFilled nodes xs
  pub unfilled : (node : ℕ) → IsUnlinked chains node → node_at nodes node ≡ None

-- the lists are what they were
abbrev pub Same : OlderView → OlderView → Type 0
Same old new = (l : ℕ) → list_in new l ≡ list_in old l

-- a list has these versions now, or is none, and the others have what they had
abbrev pub Changes : OlderView → ℕ → Option (List Version) → OlderView → Type 0
Changes old list vs new = (l : ℕ) → list_in new l ≡ (if l == list then vs else list_in old l)

-- a list can take one more version: it is the one that was given, or a new one
abbrev pub IsList : OlderView → Option ℕ → ℕ → OlderView → Type 0
IsList old None list new = (list_in old list ≡ None) × Changes old list (Some []) new
IsList old (Some given) list new = (list ≡ given) × Same old new

pub record HasRoomFor (old : OlderView) (given : Option ℕ) (new : OlderView) (list : ℕ) : Type 0 where
  pub is : IsList old given list new
  pub room : 1 ≤ new.chains.spare

-- the newest version of a list whose transaction passes a test is at this node
abbrev pub IsFound : (ℕ → Bool) → OlderView → ℕ → Option ℕ → Type 0
IsFound p older list None = newest_by p (older_in older list) ≡ None
IsFound p older list (Some node) = (front back : List ℕ) × (v : Version) × IsBetween older.chains list front node back × (node_at older.nodes node ≡ Some v) × (p v.txid ≡ true) × (newest_by p (versions_at_nodes older.nodes back) ≡ None)

-- a node is removed from its list
abbrev pub IsTakenOut : OlderView → ℕ → OlderView → Type 0
IsTakenOut old node new = (l : ℕ) (front back : List ℕ) → IsBetween old.chains l front node back → Changes old l (Some (versions_at_nodes old.nodes (front ++ back))) new
