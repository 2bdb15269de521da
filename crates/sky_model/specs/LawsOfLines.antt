-- The laws on lines: the bad word of one, and what one says.
use Rattle.std.specs.Prelude.{◌≡◌, ℕ, ◌+◌, ◌<◌, ◌≤◌, List, [], ◌∷◌, length, take, Ok, Err}
use Rattle.sky_model.specs.declared.line.Line.{Line}
use Rattle.sky_model.specs.Words.{words}
use Rattle.sky_model.specs.Grammar.{line_of}
use Rattle.sky_model.specs.InForm.{IsLineInForm}

-- the words of a line; an empty line has none
abbrev pub words_of : List ℕ → List (List ℕ)
words_of [] = []
words_of (b ∷ bs) = words (b ∷ bs)

-- some line of the grammar begins with the first n words of this line
pub record BeginsALine (line : List ℕ) (n : ℕ) : Type 0 where
  pub other : List ℕ
  pub says : Line
  pub in_grammar : line_of other ≡ Ok says
  pub first_words : take n (words_of other) ≡ take n (words_of line)

-- k is the least number such that no line of the grammar begins with the line's first k words, or the number of words plus 1 if the line only ends
-- too early
pub record IsLeastBadWord (line : List ℕ) (k : ℕ) : Type 0 where
  pub before : (n : ℕ) → n < k → BeginsALine line n
  pub none : k ≤ length (words_of line) → BeginsALine line k → ⊥
  pub within : k ≤ length (words_of line) + 1

-- the number that the grammar gives for a line outside it is that one
abbrev pub BadWordIsLeast : Type 0
BadWordIsLeast = (line : List ℕ) (k : ℕ) → line_of line ≡ Err k → IsLeastBadWord line k

-- what a line of the grammar says is in form
abbrev pub LinesAreInForm : Type 0
LinesAreInForm = (line : List ℕ) (says : Line) → line_of line ≡ Ok says → IsLineInForm says
