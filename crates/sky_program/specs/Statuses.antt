-- What the program's statuses say.
use Rattle.std.specs.Prelude.{◌≡◌, ℕ, List, [], ◌++◌, ◌⊎◌, map, Bool, true, false, Option, Some, None, String, string_bytes}
use Rattle.std.specs.Io.KnownBytes.{Appends}
use Rattle.sky_io.specs.declared.sink.SinkFault.{SinkFault}
use Rattle.sky_io.specs.declared.sink.SinkFault.TheVariants as faults
use Rattle.sky_model.specs.declared.line.Cause.{Cause}
use Rattle.sky_model.specs.Transcript.{transcript, bad_line, bad_text, usage}
use Rattle.sky_loop.specs.Ends.{IsGoodSoFar}

-- the words, as bytes
abbrev pub texts : {A : Type 0} → List (String A) → List (List ℕ)
texts words = map string_bytes words

-- the possible statuses, if the words are known and if they aren't
abbrev pub Known : Bool → ℕ → Type 0
Known true status = (status ≡ 0) ⊎ (status ≡ 2) ⊎ (status ≡ 3) ⊎ (status ≡ 4) ⊎ (status ≡ 5)
Known false status = (status ≡ 64) ⊎ (status ≡ 4) ⊎ (status ≡ 5)

-- those that remain if the source and the sinks are reliable
abbrev pub KnownIfRelied : Bool → ℕ → Type 0
KnownIfRelied true status = (status ≡ 0) ⊎ (status ≡ 2) ⊎ (status ≡ 5)
KnownIfRelied false status = (status ≡ 64) ⊎ (status ≡ 5)

-- the source was read to its end, no line is bad, and the sink got what the script prints
pub record PrintsWhole (after held new_held : Option (List ℕ)) (bytes : List ℕ) : Type 0 where
  pub at_end : after ≡ Some []
  pub none_bad : bad_line bytes ≡ None
  pub printed : Appends held new_held (transcript bytes)

-- a line is bad, the sink got what the lines before the first bad one print, and the other sink got its number and cause
pub record TellsBadLine (held new_held err new_err : Option (List ℕ)) (bytes : List ℕ) : Type 0 where
  pub line : ℕ
  pub cause : Cause
  pub is_bad : bad_line bytes ≡ Some (line, cause)
  pub printed : Appends held new_held (transcript bytes)
  pub told : Appends err new_err (bad_text (line, cause))

-- the source gave some bytes, which are good so far, and has the others left, and the sink got what the complete lines among them print
pub record PrintsGiven (after held new_held : Option (List ℕ)) (bytes : List ℕ) : Type 0 where
  pub given : List ℕ
  pub left : List ℕ
  pub after_is : after ≡ Some left
  pub bytes_are : bytes ≡ given ++ left
  pub good : IsGoodSoFar given
  pub printed : Appends held new_held (transcript given)

-- the message about a script's first bad line, if there is one
abbrev pub bad_line_text : Option (ℕ × Cause) → List ℕ
bad_line_text None = []
bad_line_text (Some line) = bad_text line

-- the complaint, if the words are known and if they aren't
abbrev pub complaint : Bool → List ℕ → List ℕ
complaint true bytes = bad_line_text (bad_line bytes)
complaint false bytes = usage

-- the status of a script
abbrev pub script_status : Option (ℕ × Cause) → ℕ
script_status None = 0
script_status (Some line) = 2

-- the status if nothing fails
abbrev pub due_status : Bool → List ℕ → ℕ
due_status true bytes = script_status (bad_line bytes)
due_status false bytes = 64

-- the status of a sink's fault
abbrev pub fault_status : SinkFault → ℕ
fault_status faults.Failed = 4
fault_status faults.NoMemory = 5
