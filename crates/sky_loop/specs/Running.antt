-- How far a run has got.
use Rattle.std.specs.Prelude.{◌≡◌, ℕ, List, [], ◌∷◌, ◌++◌, Option, Some, All, if◌then◌else◌}
use Rattle.std.specs.Str.{is_utf8}
use Rattle.std.specs.Io.KnownBytes.{Appends}
use Rattle.sky_model.specs.declared.line.Cause.TheVariants.{NotUtf8}
use Rattle.sky_model.specs.declared.reply.Reply.{Reply}
use Rattle.sky_model.specs.Grammar.{line_of}
use Rattle.sky_model.specs.Printed.{printed}
use Rattle.sky_model.specs.Steps.{IsCallInForm, Steps}
use Rattle.sky_model.specs.Transcript.{Said, asks, idle, bad, said_by, transcript, transcript_from, bad_line, bad_line_from}
use Rattle.sky_model.specs.World.{World, world_of}
use Rattle.sky_model.specs.Calls.{Call, past_of}

-- The source had these bytes when the run began, and the sink held `first`. `taken` bytes were taken as lines and the next line is the nth; the
-- pending bytes were read and are in no line yet, and the gathered ones are still to be written. However the script continues after what was read, it
-- prints what was written and gathered, and then what it prints from the nth line on; and its first bad line is from there on.
pub record GoesOn (world : World) (n taken : ℕ) (pending gathered : List ℕ) (source first held : Option (List ℕ)) (bytes : List ℕ) : Type 0 where
  pub calls : List Call
  pub read : List ℕ
  pub left : List ℕ
  pub sent : List ℕ
  pub in_form : All IsCallInForm calls
  pub stands : world ≡ world_of (past_of calls)
  pub told : source ≡ Some left
  pub bytes_are : bytes ≡ read ++ left
  pub appends : Appends first held sent
  pub prints : (more : List ℕ) → transcript (read ++ more) ≡ (sent ++ gathered) ++ transcript_from (past_of calls) taken (pending ++ more)
  pub is_bad : (more : List ℕ) → bad_line (read ++ more) ≡ bad_line_from n taken (pending ++ more)

-- what a line says that isn't too long and doesn't end too late
abbrev pub said_in : List ℕ → Said
said_in line = if is_utf8 line then said_by (line_of line) else bad NotUtf8

-- a call in form was answered in a world, and its answers were appended to what was gathered
pub record Called (old new : World) (call : Call) (gathered more : List ℕ) : Type 0 where
  pub replies : List (ℕ × Reply)
  pub in_form : IsCallInForm call
  pub steps : Steps old new call replies
  pub prints : more ≡ gathered ++ printed (new.sessions ++ call.who ∷ []) replies

-- what a line says was answered in a world: its call; or nothing, and then nothing changes
abbrev pub Answers : Said → (old new : World) → (gathered more : List ℕ) → Type 0
Answers (asks call) old new gathered more = Called old new call gathered more
Answers idle old new gathered more = (new ≡ old) × (more ≡ gathered)
Answers (bad cause) old new gathered more = ⊥
