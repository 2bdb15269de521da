-- Line feeds among bytes, and bytes that grow by what a source gives.
use Rattle.std.specs.Prelude.{◌≡◌, ℕ, ◌<◌, ◌==◌, ◌||◌, Bool, false, nat_lt, List, ◌++◌, length, take, slice_index, Option, None, Some}
use Rattle.std.specs.List.{list_any}
use Rattle.std.specs.Io.KnownBytes.{Consumes}
use Rattle.sky_model.specs.Transcript.{most_in_line}

-- whether there is a line feed among the bytes
abbrev pub has_feed : List ℕ → Bool
has_feed bytes = list_any (λ b. b == 10) bytes

-- whether the bytes settle their first line: it ends among them, or is too long already
abbrev pub is_settled : List ℕ → Bool
is_settled bytes = has_feed bytes || nat_lt most_in_line (length bytes)

-- the first line feed of the bytes is at this place
pub record FeedsAt (bytes : List ℕ) (at : ℕ) : Type 0 where
  pub within : at < length bytes
  pub feeds : slice_index bytes at ≡ 10
  pub unbroken : has_feed (take at bytes) ≡ false

-- this is the place of the first line feed, if there is one
abbrev pub IsFirstFeed : List ℕ → Option ℕ → Type 0
IsFirstFeed bytes None = has_feed bytes ≡ false
IsFirstFeed bytes (Some at) = FeedsAt bytes at

-- what a source gave was appended to the bytes
pub record Grows (old new : List ℕ) (before after : Option (List ℕ)) : Type 0 where
  pub got : List ℕ
  pub consumed : Consumes before after got
  pub new_is : new ≡ old ++ got
