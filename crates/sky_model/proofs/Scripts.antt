-- What a script prints and where it is bad, a line at a time.
use Rattle.std.proofs.Common.{◌≡◌, ℕ, ◌+◌, ◌<◌, ◌≤◌, List, [], ◌∷◌, ◌++◌, Some, option_map, length, ap, ◌∙◌, arith, if◌then◌else◌, length-append}
use Rattle.std.specs.Str.{is_utf8}
use Rattle.std.proofs.lemmas.Bool.Decides.{nat_tests}
use Rattle.sky_model.specs.declared.line.Cause.{Cause}
use Rattle.sky_model.specs.declared.line.Cause.TheVariants.{TooLong, Truncated, ScriptTooLong, NotUtf8}
use Rattle.sky_model.specs.Grammar.{line_of}
use Rattle.sky_model.specs.History.{Past}
use Rattle.sky_model.specs.Lines.{Split, split}
use Rattle.sky_model.specs.Calls.{Call, after}
use Rattle.sky_model.specs.Transcript.{most_in_line, most_in_script, Said, asks, idle, bad, said_by, said, with_said, calls_from, unended, bad_or, bad_from, call_text, text_from, transcript_from, bad_line_from}
use Rattle.sky_model.proofs.Splitting.{IsUnbroken, with_bytes, split-front, split-unbroken, split-line}

-- the bytes print nothing, and line n is bad at their start
pub record StopsHere (n taken : ℕ) (cause : Cause) (bytes : List ℕ) : Type 0 where
  pub says_nothing : (past : Past) → transcript_from past taken bytes ≡ []
  pub is_bad : bad_line_from n taken bytes ≡ Some (n, cause)

-- what a line and what follows it print
transcript_from-line : (past : Past) (taken : ℕ) (line more : List ℕ) (says : Said) → IsUnbroken line → said taken line ≡ says
    → transcript_from past taken (line ++ 10 ∷ more) ≡ text_from past (with_said says (calls_from (taken + length line + 1) (split more).lines))
transcript_from-line past taken line more says unbroken is =
    ap (λ (s : Split). text_from past (calls_from taken s.lines)) (split-line line more unbroken)
    ∙ ap (λ s. text_from past (with_said s (calls_from (taken + length line + 1) (split more).lines))) is

bad_line_from-line : (n taken : ℕ) (line more : List ℕ) (says : Said) → IsUnbroken line → said taken line ≡ says
    → bad_line_from n taken (line ++ 10 ∷ more) ≡ bad_or n says (bad_line_from (n + 1) (taken + length line + 1) more)
bad_line_from-line n taken line more says unbroken is =
    ap (λ (s : Split). bad_from n taken s.lines s.rest) (split-line line more unbroken)
    ∙ ap (λ s. bad_or n s (bad_line_from (n + 1) (taken + length line + 1) more)) is

-- a line that says a call prints that call, and then what follows prints
pub transcript_from-asks : (past : Past) (taken : ℕ) (line more : List ℕ) (call : Call) → IsUnbroken line → said taken line ≡ asks call
    → transcript_from past taken (line ++ 10 ∷ more) ≡ call_text past call ++ transcript_from (after past call) (taken + length line + 1) more
transcript_from-asks past taken line more call unbroken is = transcript_from-line past taken line more (asks call) unbroken is

-- one that says nothing prints nothing
pub transcript_from-idle : (past : Past) (taken : ℕ) (line more : List ℕ) → IsUnbroken line → said taken line ≡ idle
    → transcript_from past taken (line ++ 10 ∷ more) ≡ transcript_from past (taken + length line + 1) more
transcript_from-idle past taken line more unbroken is = transcript_from-line past taken line more idle unbroken is

-- neither is bad
pub bad_line_from-asks : (n taken : ℕ) (line more : List ℕ) (call : Call) → IsUnbroken line → said taken line ≡ asks call
    → bad_line_from n taken (line ++ 10 ∷ more) ≡ bad_line_from (n + 1) (taken + length line + 1) more
bad_line_from-asks n taken line more call unbroken is = bad_line_from-line n taken line more (asks call) unbroken is

pub bad_line_from-idle : (n taken : ℕ) (line more : List ℕ) → IsUnbroken line → said taken line ≡ idle
    → bad_line_from n taken (line ++ 10 ∷ more) ≡ bad_line_from (n + 1) (taken + length line + 1) more
bad_line_from-idle n taken line more unbroken is = bad_line_from-line n taken line more idle unbroken is

stops_at : (n taken : ℕ) (bytes line : List ℕ) (lines : List (List ℕ)) (rest : List ℕ) (cause : Cause) → split bytes ≡ record { lines = line ∷ lines; rest = rest } → said taken line ≡ bad cause
    → StopsHere n taken cause bytes
stops_at n taken bytes line lines rest cause splits is = record {
  says_nothing = λ past. ap (λ (s : Split). text_from past (calls_from taken s.lines)) splits ∙ ap (λ s. text_from past (with_said s (calls_from (taken + length line + 1) lines))) is;
  is_bad = ap (λ (s : Split). bad_from n taken s.lines s.rest) splits ∙ ap (λ s. bad_or n s (bad_from (n + 1) (taken + length line + 1) lines rest)) is;
}

-- a bad line is bad, and nothing is printed from there on
pub stops_at_line : (n taken : ℕ) (line more : List ℕ) (cause : Cause) → IsUnbroken line → said taken line ≡ bad cause → StopsHere n taken cause (line ++ 10 ∷ more)
stops_at_line n taken line more cause unbroken is = stops_at n taken (line ++ 10 ∷ more) line (split more).lines (split more).rest cause (split-line line more unbroken) is

-- bytes without a line feed print nothing
pub transcript_from-unbroken : (past : Past) (taken : ℕ) (bytes : List ℕ) → IsUnbroken bytes → transcript_from past taken bytes ≡ []
transcript_from-unbroken past taken bytes unbroken = ap (λ (s : Split). text_from past (calls_from taken s.lines)) (split-unbroken bytes unbroken)

unended-short : (rest : List ℕ) → 0 < length rest → length rest ≤ most_in_line → unended rest ≡ Some Truncated
unended-short [] some fits = absurd (omega arith)
unended-short (b ∷ rest) some fits = grind (arith, nat_tests)

unended-long : (rest : List ℕ) → most_in_line < length rest → unended rest ≡ Some TooLong
unended-long [] over = absurd (omega arith)
unended-long (b ∷ rest) over = grind (arith, nat_tests)

-- and are bad, if there are any
pub stops_unended : (n taken : ℕ) (bytes : List ℕ) → IsUnbroken bytes → 0 < length bytes → length bytes ≤ most_in_line → StopsHere n taken Truncated bytes
stops_unended n taken bytes unbroken some fits = record {
  says_nothing = λ past. transcript_from-unbroken past taken bytes unbroken;
  is_bad = ap (λ (s : Split). bad_from n taken s.lines s.rest) (split-unbroken bytes unbroken) ∙ ap (option_map (λ cause. (n, cause))) (unended-short bytes some fits);
}

-- a line with too many bytes
pub said-too_long : (taken : ℕ) (line : List ℕ) → most_in_line < length line → said taken line ≡ bad TooLong
said-too_long taken line over = grind (arith, nat_tests)

-- one that ends after too many
pub said-too_late : (taken : ℕ) (line : List ℕ) → length line ≤ most_in_line → most_in_script < taken + length line + 1 → said taken line ≡ bad ScriptTooLong
said-too_late taken line fits over = grind (arith, nat_tests)

-- one that fits says what its words say
pub said-fits : (taken : ℕ) (line : List ℕ) → length line ≤ most_in_line → taken + length line + 1 ≤ most_in_script → said taken line ≡ (if is_utf8 line then said_by (line_of line) else bad NotUtf8)
said-fits taken line fits in_time = grind (arith, nat_tests)

stops_long : (n taken : ℕ) (bytes front : List ℕ) (lines : List (List ℕ)) (rest : List ℕ) → split bytes ≡ with_bytes front lines rest → most_in_line < length front → StopsHere n taken TooLong bytes
stops_long n taken bytes front [] rest splits over = record {
  says_nothing = λ past. ap (λ (s : Split). text_from past (calls_from taken s.lines)) splits;
  is_bad = ap (λ (s : Split). bad_from n taken s.lines s.rest) splits
      ∙ ap (option_map (λ cause. (n, cause))) (unended-long (front ++ rest) (omega (arith, length-append front rest)));
}
stops_long n taken bytes front (line ∷ lines) rest splits over =
    stops_at n taken bytes (front ++ line) lines rest TooLong splits (said-too_long taken (front ++ line) (omega (arith, length-append front line)))

-- more bytes than a line may have, without a line feed, are bad whatever follows them
pub stops_too_long : (n taken : ℕ) (front more : List ℕ) → IsUnbroken front → most_in_line < length front → StopsHere n taken TooLong (front ++ more)
stops_too_long n taken front more unbroken over = stops_long n taken (front ++ more) front (split more).lines (split more).rest (split-front front more unbroken) over
