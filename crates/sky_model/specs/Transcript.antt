-- What a script prints, and where it is bad.
use Rattle.std.specs.Prelude.{ℕ, ◌+◌, ◌^◌, Bool, false, nat_lt, List, [], ◌∷◌, ◌++◌, length, Option, Some, None, option_map, Result, Ok, Err, bytes_eq, if◌then◌else◌, codes}
use Rattle.std.specs.Fmt.{decimal}
use Rattle.std.specs.Str.{is_utf8}
use Rattle.sky_model.specs.declared.line.Line.{Line}
use Rattle.sky_model.specs.declared.line.Line.TheVariants.{Blank, Run}
use Rattle.sky_model.specs.declared.line.Cause.{Cause}
use Rattle.sky_model.specs.declared.line.Cause.TheVariants.{TooLong, Truncated, ScriptTooLong, NotUtf8, BadWord}
use Rattle.sky_model.specs.Grammar.{line_of}
use Rattle.sky_model.specs.History.{Past}
use Rattle.sky_model.specs.Lines.{split}
use Rattle.sky_model.specs.Printed.{printed}
use Rattle.sky_model.specs.World.{session_names}
use Rattle.sky_model.specs.Calls.{Call, after, answers_of}

-- how many bytes a line may have before its line feed
abbrev pub most_in_line : ℕ
most_in_line = 65536

-- how many bytes a script may have
abbrev pub most_in_script : ℕ
most_in_script = 2 ^ 32

-- what a line says: a call, nothing, or why it is bad
pub data Said : Type 0 where
  asks : Call → Said
  idle : Said
  bad : Cause → Said

-- a line that the grammar reads
abbrev pub said_by : Result Line ℕ → Said
said_by (Ok Blank) = idle
said_by (Ok (Run who stmt)) = asks (record { who = who; stmt = stmt })
said_by (Err k) = bad (BadWord k)

-- a line that ends with its line feed, after so many bytes
abbrev pub said : ℕ → List ℕ → Said
said taken line =
    if nat_lt most_in_line (length line) then bad TooLong
    else if nat_lt most_in_script (taken + length line + 1) then bad ScriptTooLong
    else if is_utf8 line then said_by (line_of line)
    else bad NotUtf8

-- what a line asks for, and then the calls after it
abbrev pub with_said : Said → List Call → List Call
with_said (asks call) calls = call ∷ calls
with_said idle calls = calls
with_said (bad cause) calls = []

-- the calls of lines after so many bytes, up to the first bad one
abbrev pub calls_from : ℕ → List (List ℕ) → List Call
calls_from taken [] = []
calls_from taken (line ∷ lines) = with_said (said taken line) (calls_from (taken + length line + 1) lines)

-- why bytes without a line feed are bad
abbrev pub unended : List ℕ → Option Cause
unended [] = None
unended (b ∷ bs) = Some (if nat_lt most_in_line (length (b ∷ bs)) then TooLong else Truncated)

-- line n if it is bad, or else a later one
abbrev pub bad_or : ℕ → Said → Option (ℕ × Cause) → Option (ℕ × Cause)
bad_or n (bad cause) later = Some (n, cause)
bad_or n _ later = later

-- the first bad line from the nth on, after so many bytes, with its cause
abbrev pub bad_from : ℕ → ℕ → List (List ℕ) → List ℕ → Option (ℕ × Cause)
bad_from n taken [] rest = option_map (λ cause. (n, cause)) (unended rest)
bad_from n taken (line ∷ lines) rest = bad_or n (said taken line) (bad_from (n + 1) (taken + length line + 1) lines rest)

-- what a call prints
abbrev pub call_text : Past → Call → List ℕ
call_text past call = printed (session_names (after past call) ++ call.who ∷ []) (answers_of past call)

-- what calls print, one after another
abbrev pub text_from : Past → List Call → List ℕ
text_from past [] = []
text_from past (call ∷ calls) = call_text past call ++ text_from (after past call) calls

-- what bytes print after so many others
abbrev pub transcript_from : Past → ℕ → List ℕ → List ℕ
transcript_from past taken bytes = text_from past (calls_from taken (split bytes).lines)

-- the first bad line from the nth on
abbrev pub bad_line_from : ℕ → ℕ → List ℕ → Option (ℕ × Cause)
bad_line_from n taken bytes = bad_from n taken (split bytes).lines (split bytes).rest

-- what a script prints, up to its first bad line
abbrev pub transcript : List ℕ → List ℕ
transcript bytes = transcript_from [] 0 bytes

-- a script's first bad line, if there is one, with its cause
abbrev pub bad_line : List ℕ → Option (ℕ × Cause)
bad_line bytes = bad_line_from 1 0 bytes

abbrev pub cause_text : Cause → List ℕ
cause_text TooLong = codes "too long"
cause_text Truncated = codes "truncated"
cause_text ScriptTooLong = codes "script too long"
cause_text NotUtf8 = codes "not UTF-8"
cause_text (BadWord k) = codes "bad word " ++ decimal k

-- the message about a bad line
abbrev pub bad_text : ℕ × Cause → List ℕ
bad_text (n, cause) = codes "line " ++ decimal n ++ codes ": " ++ cause_text cause ++ 10 ∷ []

-- the message if the program's words aren't known
abbrev pub usage : List ℕ
usage = codes "usage: pgqrun run" ++ 10 ∷ []

-- the program's one word
abbrev pub is_run : List (List ℕ) → Bool
is_run [] = false
is_run (word ∷ []) = bytes_eq word (codes "run")
is_run (word ∷ other ∷ words) = false
