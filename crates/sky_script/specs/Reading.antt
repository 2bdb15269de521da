-- How the readers of single words, of lists of words and of forms answer a row of the grammar.
use Rattle.std.specs.Prelude.{◌≡◌, ℕ, ◌-◌, ◌<◌, nat_lt, ◌==◌, ◌&&◌, List, [], ◌∷◌, length, filter, Option, Some, Result, Ok, Err}
use Rattle.sky_model.specs.declared.stmt.Extra.{Extra}
use Rattle.sky_model.specs.declared.stmt.Stmt.{Stmt}
use Rattle.sky_model.specs.declared.line.Fixed.{Fixed}
use Rattle.sky_model.specs.Kinds.{Kind, Of}
use Rattle.sky_model.specs.Grammar.{GrammarRow, one, last, some_last, some_until, inserted_event, extra_row, all_forms, named_form, reads_on, reads}
use Rattle.sky_script.specs.declared.cause.LineCause.{LineCause}
use Rattle.sky_script.specs.declared.cause.LineCause.TheVariants.{NotUtf8, BadWord, NoMemory}
use Rattle.sky_script.specs.Unread.{Unread}

-- a result is the one that a definition gives, or memory ran out
abbrev pub IsAnswer : {A : Type 0} → Result A LineCause → Result A ℕ → Type 0
IsAnswer (Ok v) r = r ≡ Ok v
IsAnswer (Err NotUtf8) r = ⊥
IsAnswer (Err (BadWord k)) r = r ≡ Err k
IsAnswer (Err NoMemory) r = Unit {0}

-- a result is what a row says of the words that are left
unfoldable pub Answers : Result Stmt LineCause → GrammarRow → Unread → Type 0
Answers r row at = IsAnswer r (reads (row ∷ []) at.number at.left)

-- the value v was read: what answers the rest of a row answers the row
pub record Goes (k : Kind) (v : Of k) (old new : Unread) : Type 0 where
  pub on : (r : Result Stmt LineCause) (f : Of k → GrammarRow) → Answers r (f v) new → Answers r (one k f) old
  pub fewer : length new.left < length old.left

-- no value was read: the cause answers each row that begins with the kind
pub record Stops (k : Kind) (cause : LineCause) (old : Unread) : Type 0 where
  pub bad : (f : Of k → GrammarRow) → Answers (Err cause) (one k f) old

-- a word of a kind was read, or the cause says why not
abbrev pub Reads : (k : Kind) → Result (Of k) LineCause → Unread → Unread → Type 0
Reads k (Ok v) old new = Goes k v old new
Reads k (Err cause) old new = Stops k cause old

-- a word of a kind was read, and the line's end, or the cause says why not
abbrev pub ReadsLast : (k : Kind) → Result (Of k) LineCause → Unread → Type 0
ReadsLast k (Ok v) old = (make : Of k → Stmt) → Answers (Ok (make v)) (last k make) old
ReadsLast k (Err cause) old = (make : Of k → Stmt) → Answers (Err cause) (last k make) old

-- the four further texts of an event were read, and the line's end, or the cause says why not
abbrev pub ReadsExtra : Result Extra LineCause → Unread → Type 0
ReadsExtra (Ok extra) old = (queue : List ℕ) (ev_type ev_data : Option (List ℕ)) → Answers (Ok (inserted_event queue ev_type ev_data (Some extra))) (extra_row queue ev_type ev_data) old
ReadsExtra (Err cause) old = (queue : List ℕ) (ev_type ev_data : Option (List ℕ)) → Answers (Err cause) (extra_row queue ev_type ev_data) old

-- these values were read, to the line's end
abbrev pub GoesLast : (k : Kind) → List (Of k) → Unread → Type 0
GoesLast k vs old = (make : List (Of k) → Stmt) → Answers (Ok (make vs)) (some_last k make) old

-- no such values were read: the cause answers each row that ends with them
abbrev pub StopsLast : Kind → LineCause → Unread → Type 0
StopsLast k cause old = (make : List (Of k) → Stmt) → Answers (Err cause) (some_last k make) old

-- these values were read, and a fixed word after them
abbrev pub GoesUntil : (end : Fixed) (k : Kind) → List (Of k) → Unread → Unread → Type 0
GoesUntil end k vs old new = (r : Result Stmt LineCause) (f : List (Of k) → GrammarRow) → Answers r (f vs) new → Answers r (some_until end k f) old

-- no such values were read: the cause answers each row that begins with them and the fixed word
abbrev pub StopsUntil : Fixed → Kind → LineCause → Unread → Type 0
StopsUntil end k cause old = (f : List (Of k) → GrammarRow) → Answers (Err cause) (some_until end k f) old

-- the forms whose first word has six bytes
abbrev pub of_six : List (List ℕ × GrammarRow)
of_six = filter (λ form. length form.0 == 6) all_forms

-- those whose first word has eleven
abbrev pub of_eleven : List (List ℕ × GrammarRow)
of_eleven = filter (λ form. length form.0 == 11) all_forms

-- those whose first word has twelve
abbrev pub of_twelve : List (List ℕ × GrammarRow)
of_twelve = filter (λ form. length form.0 == 12) all_forms

-- those whose first word has fewer than six
abbrev pub of_short : List (List ℕ × GrammarRow)
of_short = filter (λ form. nat_lt (length form.0) 6) all_forms

-- those whose first word has more than six and fewer than eleven
abbrev pub of_middle : List (List ℕ × GrammarRow)
of_middle = filter (λ form. nat_lt 6 (length form.0) && nat_lt (length form.0) 11) all_forms

-- those whose first word has more than twelve and fewer than eighteen
abbrev pub of_long : List (List ℕ × GrammarRow)
of_long = filter (λ form. nat_lt 12 (length form.0) && nat_lt (length form.0) 18) all_forms

-- those whose first word has more than seventeen
abbrev pub of_longest : List (List ℕ × GrammarRow)
of_longest = filter (λ form. nat_lt 17 (length form.0)) all_forms

-- a result is what these forms say of the words that are left, after this first word
unfoldable pub AnswersAmong : Result Stmt LineCause → (first : List ℕ) → List (List ℕ × GrammarRow) → Unread → Type 0
AnswersAmong r first forms at = IsAnswer r (reads_on (named_form first forms) (at.number - 1) (λ rows. reads rows at.number at.left))
