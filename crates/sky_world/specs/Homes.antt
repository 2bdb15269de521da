-- The databases that sessions have open, and those that have a node.
use Rattle.std.specs.Prelude.{ℕ, ◌<◌, List, Option, IfSome, All}

-- the number of each is below a count
abbrev pub HomesWithin : ℕ → List (Option ℕ) → Type 0
HomesWithin count homes = All (λ home. IfSome home (λ d. d < count)) homes

abbrev pub NodesWithin : ℕ → List ℕ → Type 0
NodesWithin count nodes = All (λ d. d < count) nodes
