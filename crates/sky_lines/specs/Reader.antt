-- What a reader of lines has, and what its answers say of the bytes that it got.
use Rattle.std.specs.Prelude.{◌≡◌, ℕ, ◌+◌, ◌<◌, ◌≤◌, ◌||◌, Bool, false, is_some, List, [], ◌∷◌, ◌++◌, length, Option, None, Some, ⊤}
use Rattle.sky_model.specs.Transcript.{most_in_line, most_in_script}
use Rattle.sky_lines.specs.Feeds.{has_feed, is_settled}
use Rattle.sky_lines.specs.declared.reader.LineFault.{LineFault}
use Rattle.sky_lines.specs.declared.reader.LineFault.TheVariants.{Read, TooLong, Truncated, ScriptTooLong, NoMemory}

-- the bytes that were read and are in no line yet, the line that was taken last, how many bytes the lines had, and the fault that was given
pub record Reader : Type 0 where
  pub pending : List ℕ
  pub line : List ℕ
  pub taken : ℕ
  pub fault : Option LineFault

-- whether the next answer needs no more bytes from the source
abbrev pub is_at_hand : Reader → Bool
is_at_hand reader = is_some reader.fault || is_settled reader.pending

-- the next line was taken from what was pending and what the source gave
pub record TakesLine (old new : Reader) (left : List ℕ) (after : Option (List ℕ)) (line : List ℕ) : Type 0 where
  pub got : List ℕ
  pub rest : List ℕ
  pub left_is : left ≡ got ++ rest
  pub after_is : after ≡ Some rest
  pub bytes_are : old.pending ++ got ≡ line ++ 10 ∷ new.pending
  pub unbroken : has_feed line ≡ false
  pub line_fits : length line ≤ most_in_line
  pub taken_is : new.taken ≡ old.taken + length line + 1
  pub script_fits : new.taken ≤ most_in_script
  pub old_sound : old.fault ≡ None
  pub new_sound : new.fault ≡ None

-- a line was counted with its line feed, and the script isn't too long with it
abbrev pub CountsLine : Reader → Reader → List ℕ → Type 0
CountsLine old new line = (new.taken ≡ old.taken + length line + 1) × (new.taken ≤ most_in_script)

-- a line was taken from what was pending
pub record TakesPending (old new : Reader) (line : List ℕ) : Type 0 where
  pub bytes_are : old.pending ≡ line ++ 10 ∷ new.pending
  pub unbroken : has_feed line ≡ false
  pub line_fits : length line ≤ most_in_line
  pub taken_is : new.taken ≡ old.taken + length line + 1
  pub script_fits : new.taken ≤ most_in_script
  pub fault_is : new.fault ≡ old.fault

-- no byte was left, and the reader stays as it was
pub record EndsLines (old new : Reader) (left : List ℕ) (after : Option (List ℕ)) : Type 0 where
  pub nothing_left : old.pending ++ left ≡ []
  pub after_is : after ≡ Some []
  pub nothing_pending : new.pending ≡ []
  pub taken_is : new.taken ≡ old.taken
  pub old_sound : old.fault ≡ None
  pub new_sound : new.fault ≡ None

-- the first line has more bytes than a line may have
pub record StartsTooLong (bytes : List ℕ) : Type 0 where
  pub line : List ℕ
  pub more : List ℕ
  pub bytes_are : bytes ≡ line ++ more
  pub unbroken : has_feed line ≡ false
  pub too_long : most_in_line < length line

-- there are bytes, and no line feed ends them
pub record IsTruncated (bytes : List ℕ) : Type 0 where
  pub some : 0 < length bytes
  pub unbroken : has_feed bytes ≡ false
  pub line_fits : length bytes ≤ most_in_line

-- the first line ends after more bytes than a script may have
pub record EndsTooLate (taken : ℕ) (bytes : List ℕ) : Type 0 where
  pub line : List ℕ
  pub more : List ℕ
  pub bytes_are : bytes ≡ line ++ 10 ∷ more
  pub unbroken : has_feed line ≡ false
  pub line_fits : length line ≤ most_in_line
  pub too_late : most_in_script < taken + length line + 1

-- the bytes after so many others start with what this fault names
abbrev pub StartsBad : LineFault → ℕ → List ℕ → Type 0
StartsBad Read taken bytes = ⊤
StartsBad TooLong taken bytes = StartsTooLong bytes
StartsBad Truncated taken bytes = IsTruncated bytes
StartsBad ScriptTooLong taken bytes = EndsTooLate taken bytes
StartsBad NoMemory taken bytes = ⊤

-- what the source gave before it failed is pending, and doesn't settle the first line
pub record Kept (old new : Reader) (left : List ℕ) (after : Option (List ℕ)) : Type 0 where
  pub got : List ℕ
  pub rest : List ℕ
  pub left_is : left ≡ got ++ rest
  pub after_is : after ≡ Some rest
  pub pending_is : new.pending ≡ old.pending ++ got
  pub unbroken : has_feed new.pending ≡ false
  pub line_fits : length new.pending ≤ most_in_line
  pub taken_is : new.taken ≡ old.taken
