-- What is left of a line while it is read.
use Rattle.std.specs.Prelude.{◌≡◌, ℕ, ◌+◌, ◌<◌, ◌≤◌, List, [], ◌∷◌, ◌++◌, Option, Some, None, length, take, drop, slice_index}
use Rattle.sky_model.specs.Words.{words}

-- the words that are left, and the number of the first of them
pub record Unread : Type 0 where
  pub number : ℕ
  pub left : List (List ℕ)

-- the words of the bytes that are left; none after the last word
abbrev pub words_in : Option (List ℕ) → List (List ℕ)
words_in None = []
words_in (Some bytes) = words bytes

-- at most how many words are left
abbrev pub most_in : Option (List ℕ) → ℕ
most_in None = 0
most_in (Some bytes) = length bytes + 1

-- a space at this place ends the first word of the bytes, or else the word extends to their end
pub record EndsWord (place : ℕ) (bytes : List ℕ) : Type 0 where
  pub within : place ≤ length bytes
  pub space : place < length bytes → slice_index bytes place ≡ 32
  pub parted : place < length bytes → words bytes ≡ take place bytes ∷ words (drop (place + 1) bytes)
  pub whole : place ≡ length bytes → words bytes ≡ bytes ∷ []

-- a text between quotes
abbrev pub in_quotes : List ℕ → List ℕ
in_quotes text = 39 ∷ (text ++ 39 ∷ [])
