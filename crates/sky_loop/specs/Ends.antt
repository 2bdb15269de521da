-- What the end of a run says of its script.
use Rattle.std.specs.Prelude.{◌≡◌, ℕ, List, [], ◌++◌, Option, Some, None, ⊤}
use Rattle.std.specs.Io.KnownBytes.{Appends}
use Rattle.sky_model.specs.declared.line.Cause.{Cause}
use Rattle.sky_model.specs.declared.line.Cause.TheVariants as causes
use Rattle.sky_model.specs.Transcript.{Said, bad, transcript, bad_line}
use Rattle.sky_lines.specs.declared.reader.LineFault.{LineFault}
use Rattle.sky_lines.specs.declared.reader.LineFault.TheVariants as faults
use Rattle.sky_script.specs.declared.cause.LineCause.{LineCause}
use Rattle.sky_script.specs.declared.cause.LineCause.TheVariants as line_causes
use Rattle.sky_loop.specs.declared.end.End.{End}
use Rattle.sky_loop.specs.declared.end.End.TheVariants.{Whole, Bad, Read, Write, NoMemory}

-- the source was read to its end, no line is bad, and the text is all that the script prints
pub record IsWhole (after : Option (List ℕ)) (text bytes : List ℕ) : Type 0 where
  pub at_end : after ≡ Some []
  pub none_bad : bad_line bytes ≡ None
  pub printed : text ≡ transcript bytes

-- the first bad line is the nth, for this cause, and the text is all that the script prints
pub record StopsAt (n : ℕ) (cause : Cause) (text bytes : List ℕ) : Type 0 where
  pub is_bad : bad_line bytes ≡ Some (n, cause)
  pub printed : text ≡ transcript bytes

-- bytes are good so far: no line of theirs is bad, except perhaps a last one without a line feed
abbrev pub IsGoodSoFar : List ℕ → Type 0
IsGoodSoFar bytes = (n : ℕ) (cause : Cause) → bad_line bytes ≡ Some (n, cause) → cause ≡ causes.Truncated

-- the source gave some bytes, which are good so far, and has the others left, and the text is what the given ones print
pub record IsOfGiven (after : Option (List ℕ)) (text bytes : List ℕ) : Type 0 where
  pub given : List ℕ
  pub left : List ℕ
  pub after_is : after ≡ Some left
  pub bytes_are : bytes ≡ given ++ left
  pub good : IsGoodSoFar given
  pub printed : text ≡ transcript given

-- why a run ends: how the text relates to the script, and what the source has left
abbrev pub Why : End → Option (List ℕ) → List ℕ → List ℕ → Type 0
Why Whole after text bytes = IsWhole after text bytes
Why (Bad n cause) after text bytes = StopsAt n cause text bytes
Why Read after text bytes = IsOfGiven after text bytes
Why Write after text bytes = ⊤
Why NoMemory after text bytes = ⊤

-- the run ended: what the sink got since it held `first`, with what is gathered, begins what the script prints
pub record Ends (end : End) (after first held : Option (List ℕ)) (gathered bytes : List ℕ) : Type 0 where
  pub sent : List ℕ
  pub rest : List ℕ
  pub appends : Appends first held sent
  pub begins : (sent ++ gathered) ++ rest ≡ transcript bytes
  pub why : Why end after (sent ++ gathered) bytes

-- the nth line is bad by what it says, or memory ran out
abbrev pub IsBadLine : End → ℕ → Said → Type 0
IsBadLine (Bad k cause) n says = (k ≡ n) × (says ≡ bad cause)
IsBadLine NoMemory n says = ⊤
IsBadLine _ n says = ⊥

-- a sink accepted no more
abbrev pub IsCut : End → Type 0
IsCut Write = ⊤
IsCut NoMemory = ⊤
IsCut _ = ⊥

-- the end that a fault of the nth line makes
abbrev pub end_of : LineFault → ℕ → End
end_of faults.Read n = Read
end_of faults.TooLong n = Bad n causes.TooLong
end_of faults.Truncated n = Bad n causes.Truncated
end_of faults.ScriptTooLong n = Bad n causes.ScriptTooLong
end_of faults.NoMemory n = NoMemory

-- the end that the nth line makes if it wasn't parsed
abbrev pub end_by : LineCause → ℕ → End
end_by line_causes.NotUtf8 n = Bad n causes.NotUtf8
end_by (line_causes.BadWord k) n = Bad n (causes.BadWord k)
end_by line_causes.NoMemory n = NoMemory
