-- What a script that was run shows.
use Rattle.std.specs.Prelude.{◌≡◌, ℕ, List, [], ◌++◌, Some, None, true}
use Rattle.sky_model.specs.declared.line.Cause.{Cause}
use Rattle.sky_model.specs.Transcript.{transcript, bad_line, bad_text}
use Rattle.sky_program.specs.Statuses.{KnownIfRelied, complaint}

-- this much of the text was printed, and `rest` is missing
pub record IsBeginning (printed text : List ℕ) : Type 0 where
  pub rest : List ℕ
  pub whole : printed ++ rest ≡ text

-- the script has a bad line, and the number and the cause of the first were reported
pub record TellsBadLine (script err : List ℕ) : Type 0 where
  pub line : ℕ
  pub cause : Cause
  pub is_bad : bad_line script ≡ Some (line, cause)
  pub told : err ≡ bad_text (line, cause)

-- if nothing failed, out got the script's transcript, and err what is said of its first bad line, if there is one; at every status that there is, out
-- got a beginning of the transcript, and err one of what is to be said
pub record Shown (script : List ℕ) (status : ℕ) (out err : List ℕ) : Type 0 where
  pub known : KnownIfRelied true status
  pub whole : status ≡ 0 → (bad_line script ≡ None) × (out ≡ transcript script) × (err ≡ [])
  pub bad : status ≡ 2 → (out ≡ transcript script) × TellsBadLine script err
  pub begun : IsBeginning out (transcript script)
  pub said : IsBeginning err (complaint true script)
