-- The words of a line.
use Rattle.std.specs.Prelude.{ℕ, Bool, false, not, ◌&&◌, ◌==◌, if◌then◌else◌, List, [], ◌∷◌}

-- whether a byte separates words: a space, if no quote is open
abbrev pub is_parting : Bool → ℕ → Bool
is_parting quoted b = not quoted && b == 32

-- whether a quote is open after this byte
abbrev pub quoted_after : Bool → ℕ → Bool
quoted_after quoted b = if b == 39 then not quoted else quoted

-- pieces with one more byte before the first
abbrev pub with_first : ℕ → List (List ℕ) → List (List ℕ)
with_first b [] = (b ∷ []) ∷ []
with_first b (w ∷ ws) = (b ∷ w) ∷ ws

-- the pieces between the spaces that have an even number of quotes before them; `quoted` says that a quote is open
abbrev pub pieces : Bool → List ℕ → List (List ℕ)
pieces quoted [] = [] ∷ []
pieces quoted (b ∷ bs) = if is_parting quoted b then [] ∷ pieces false bs else with_first b (pieces (quoted_after quoted b) bs)

-- the words of a line that isn't empty: two spaces, or one at an end, make an empty word, which no kind has
abbrev pub words : List ℕ → List (List ℕ)
words line = pieces false line
