-- The lines of a script.
use Rattle.std.specs.Prelude.{ℕ, ◌==◌, List, [], ◌∷◌, if◌then◌else◌}

-- the lines that end with a line feed, and what comes after the last of them
pub record Split : Type 0 where
  pub lines : List (List ℕ)
  pub rest : List ℕ

-- with a byte before the first line
abbrev pub with_byte : ℕ → List (List ℕ) → List ℕ → Split
with_byte b [] rest = record { lines = []; rest = b ∷ rest }
with_byte b (line ∷ lines) rest = record { lines = (b ∷ line) ∷ lines; rest = rest }

abbrev pub with_line : Split → Split
with_line s = record { lines = [] ∷ s.lines; rest = s.rest }

abbrev pub split : List ℕ → Split
split [] = record { lines = []; rest = [] }
split (b ∷ bs) = if b == 10 then with_line (split bs) else with_byte b (split bs).lines (split bs).rest
