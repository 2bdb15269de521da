-- Texts that grow at their end.
use Rattle.std.specs.Prelude.{◌≡◌, ℕ, List, ◌++◌, length, drop}

-- the new bytes begin with the old ones
abbrev pub Keeps : List ℕ → List ℕ → Type 0
Keeps old new = new ≡ old ++ drop (length old) new
