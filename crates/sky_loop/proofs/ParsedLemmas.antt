-- What a line says, by the result of parsing it.
use Rattle.std.proofs.Common.{◌≡◌, ℕ, List, Bool, true, false, Result, Ok, Err, refl, ap, ◌∙◌, if◌then◌else◌}
use Rattle.std.specs.Prelude.{OnOk, OnErr, IfErr}
use Rattle.std.specs.Str.{IsUtf8, is_utf8}
use Rattle.std.proofs.lemmas.Bool.{false_from_ne_true}
use Rattle.std.proofs.lemmas.Str.{IsUtf8-from_is_utf8, is_utf8-from_IsUtf8}
use Rattle.sky_model.specs.declared.line.Cause.TheVariants as causes
use Rattle.sky_model.specs.declared.line.Line.{Line}
use Rattle.sky_model.specs.declared.line.Line.TheVariants.{Run}
use Rattle.sky_model.specs.declared.stmt.Stmt.{Stmt}
use Rattle.sky_model.specs.Grammar.{line_of, run_of}
use Rattle.sky_model.specs.InForm.{IsLineInForm}
use Rattle.sky_model.specs.Transcript.{Said, bad, said_by}
use Rattle.sky_model.proofs.InFormLaw.{lines_are_in_form}
use Rattle.sky_script.specs.declared.cause.LineCause.{LineCause}
use Rattle.sky_script.specs.declared.cause.LineCause.TheVariants.{NotUtf8, BadWord, NoMemory}
use Rattle.sky_script.specs.Reading.{IsAnswer}
use Rattle.sky_loop.specs.Running.{said_in}
use Rattle.sky_loop.specs.Ends.{IsBadLine, end_by}

-- the result is what the nth line says, or out of memory
abbrev pub Tells : ℕ → Result Line LineCause → Said → Type 0
Tells n (Ok line) says = says ≡ said_by (Ok line)
Tells n (Err cause) says = IsBadLine (end_by cause n) n says

said_in-by : (line : List ℕ) (well : Bool) → is_utf8 line ≡ well → said_in line ≡ (if well then said_by (line_of line) else bad causes.NotUtf8)
said_in-by line well is = ap (λ t. if t then said_by (line_of line) else bad causes.NotUtf8) is

tells_well : (n : ℕ) (line : List ℕ) (r : Result Line LineCause) → is_utf8 line ≡ true → IsAnswer r (line_of line) → Tells n r (said_in line)
tells_well n line (Ok said) well is_answer = said_in-by line true well ∙ ap said_by is_answer
tells_well n line (Err NotUtf8) well is_answer = absurd is_answer
tells_well n line (Err (BadWord k)) well is_answer = (refl, said_in-by line true well ∙ ap said_by is_answer)
tells_well n line (Err NoMemory) well is_answer = tt

-- the result of parsing a line that is text is what it says
pub Tells-parsed : (n : ℕ) (line : List ℕ) (r : Result Line LineCause) → IsUtf8 line → IsAnswer r (line_of line) → Tells n r (said_in line)
Tells-parsed n line r text is_answer = tells_well n line r (is_utf8-from_IsUtf8 line text) is_answer

-- a line that is text says what the grammar reads
pub said_in-utf8 : (line : List ℕ) → IsUtf8 line → said_in line ≡ said_by (line_of line)
said_in-utf8 line text = said_in-by line true (is_utf8-from_IsUtf8 line text)

-- a cause that answers a statement answers its line
pub IsAnswer-run : (who : List ℕ) (cause : LineCause) (says : Result Stmt ℕ) → IsAnswer {A = Stmt} (Err cause) says → IsAnswer {A = Line} (Err cause) (run_of who says)
IsAnswer-run who NotUtf8 says is = absurd is
IsAnswer-run who (BadWord k) says is = rw is refl
IsAnswer-run who NoMemory says is = tt

-- a session's line is in form
pub run_in_form : (line who : List ℕ) (says : Result Stmt ℕ) → line_of line ≡ run_of who says → (stmt : Stmt) → says ≡ Ok stmt → IsLineInForm (Run who stmt)
run_in_form line who says is stmt so = lines_are_in_form line (Run who stmt) (is ∙ ap (run_of who) so)

-- a line that isn't text says so
pub said_in-not_utf8 : (line : List ℕ) → ¬ (IsUtf8 line) → said_in line ≡ bad causes.NotUtf8
said_in-not_utf8 line no_text = said_in-by line false (false_from_ne_true _ (λ is. no_text (IsUtf8-from_is_utf8 line is)))

-- two facts at `Ok`
pub OnOk-both : {T E P Q R : Type 0} (r : Result T E) → OnOk r P → OnOk r Q → (P → Q → R) → OnOk r R
OnOk-both (Ok v) p q both = both p q
OnOk-both (Err e) p q both = tt

-- and at `Err`
pub IfErr-both : {T E Q : Type 0} (r : Result T E) (P R : E → Type 0) → IfErr r P → OnErr r Q → ((e : E) → P e → Q → R e) → IfErr r R
IfErr-both (Ok v) P R p q both = tt
IfErr-both (Err e) P R p q both = both e p q
