-- A buffer with room for a piece of 65536 bytes after the longest line.
use Rattle.std.specs.Prelude.{◌≡◌, ℕ, ◌+◌, ◌≤◌, Bool, true, List, length, slice_range, Option}
use Rattle.std.specs.Str.{IsAscii}
use Rattle.sky_model.specs.Transcript.{most_in_line}
use Rattle.sky_lines.specs.Feeds.{IsFirstFeed}

-- the bytes that were read and not taken, and the line that was taken last
pub record Held : Type 0 where
  pub pending : List ℕ
  pub line : List ℕ

-- the bytes from start to end are in the room, and their first line feed is known; the line is in the room, too
pub record IsBuffer (bytes : List ℕ) (start end : ℕ) (feed : Option ℕ) (line_start line_end : ℕ) : Type 0 where
  pub room : length bytes ≡ most_in_line + 65536
  pub in_order : start ≤ end
  pub within : end ≤ length bytes
  pub known : IsFirstFeed (slice_range bytes start end) feed
  pub line_in_order : line_start ≤ line_end
  pub line_within : line_end ≤ length bytes

-- if the flag is set, the bytes that were not taken and the line are ASCII
abbrev pub KnowsAscii : Bool → (pending line : List ℕ) → Type 0
KnowsAscii ascii pending line = ascii ≡ true → IsAscii pending × IsAscii line
