-- A line's statement is in form: the rows of all forms end with such statements, and so do the rows that are left after each word.
use Rattle.std.proofs.Common.{◌≡◌, ℕ, ◌+◌, ◌-◌, ◌==◌, true, false, cond, List, [], ◌∷◌, ◌++◌, length, take, drop, Option, Some, None, IfSome, Result, Ok, Err, IfOk, refl, ap, ◌∙◌, arith, codes, bytes_eq}
use Rattle.std.proofs.lemmas.Bool.{and_parts, cond_both}
use Rattle.std.proofs.lemmas.List.Elements.{All-nil, All-cons}
use Rattle.std.proofs.lemmas.Option.{IfSome_then}
use Rattle.std.proofs.lemmas.Result.{IfOk-at_ok, IfOk-weaker}
use Rattle.std.proofs.lemmas.Slice.Eq.{bytes_eq-Decides}
use Rattle.std.specs.List.{All, list_all}
use Rattle.sky_model.specs.declared.stmt.Stmt.{Stmt}
use Rattle.sky_model.specs.declared.line.Line.{Line}
use Rattle.sky_model.specs.declared.line.Line.TheVariants.{Blank}
use Rattle.sky_model.specs.declared.line.Fixed.{Fixed}
use Rattle.sky_model.specs.declared.line.Fixed.TheVariants as fixed
use Rattle.sky_model.specs.Words.{words}
use Rattle.sky_model.specs.Kinds.{Kind, Name, Column, Value, Set, Of, value, is_name}
use Rattle.sky_model.specs.Grammar.{GrammarRow, stop, literal, one, either, many, text_of, all_forms, named_form, when, next, all_next, or_else, ended, all_ended, or_bad, reads_on, reads, statement_of, session_of, session_line, run_of, line_of_words, line_of}
use Rattle.sky_model.specs.InForm.{IsOf, AreOf, IsInForm, IsLineInForm}
use Rattle.sky_model.specs.LawsOfLines.{LinesAreInForm}
use Rattle.sky_model.proofs.WholeWords.{whole, AllWhole, whole-last}
use Rattle.sky_model.proofs.Cases.{if_only}
use Rattle.sky_model.proofs.WordsInForm.{IsWhole, worth}

-- ---- rows that end with statements in form

-- whatever words of its kinds a row takes, its statement is in form
abbrev EndsInForm : GrammarRow → Type 0
EndsInForm (stop stmt) = IsInForm stmt
EndsInForm (literal fixed row) = EndsInForm row
EndsInForm (one k f) = (v : Of k) → IsOf k v → EndsInForm (f v)
EndsInForm (either a b) = EndsInForm a × EndsInForm b
EndsInForm (many k f) = (vs : List (Of k)) → All (IsOf k) vs → EndsInForm (f vs)

abbrev FormsEndInForm : List (List ℕ × GrammarRow) → Type 0
FormsEndInForm [] = Unit {0}
FormsEndInForm (form ∷ forms) = EndsInForm form.1 × FormsEndInForm forms

-- one word or more
some_of : (k : Kind) (v : Of k) (vs : List (Of k)) → IsOf k v → All (IsOf k) vs → AreOf k (v ∷ vs)
some_of k v vs first rest = (omega arith, All-cons (IsOf k) v vs first rest)

-- a form that ends so, before others
ends : {A B : Type 0} → A → B → A × B
ends form forms = (form, forms)

-- every form, in the order of the lists
forms_end : FormsEndInForm all_forms
forms_end =
    ends (λ name is. is)
    (ends tt
    (ends tt
    (ends (tt, tt)
    (ends tt
    (ends tt
    (ends tt
    (ends tt
    (ends (λ txid number snapshot raw. (number, raw))
    (ends (λ table dotted column is columns are. (dotted, some_of Column column columns is are))
    (ends (λ table dotted v is values are. (dotted, some_of Value v values is are))
    (ends (λ table dotted v is key are s this sets those. (dotted, some_of Value v key is are, some_of Set s sets this those))
    (ends (λ table dotted v is key are. (dotted, some_of Value v key is are))
    (ends (λ table dotted v is key are. (dotted, some_of Value v key is are))
    (ends (λ table dotted. dotted)
    (ends (λ queue is. is)
    (ends (λ queue is. is)
    (ends (λ queue is param first value second. (is, first, second))
    (ends (λ queue is. is)
    (ends (λ queue is ev_type first ev_data second. ((is, first, second, tt), λ extra1 a extra2 b extra3 c extra4 d. (is, first, second, (a, b, c, d))))
    (ends (λ name is table dotted queue to. (
      ((is, dotted, to, All-nil (IsOf Name)), λ columns are. (is, dotted, to, are.1)),
      ((is, dotted, to, All-nil (IsOf Name)), λ columns are. (is, dotted, to, are.1)),
    ))
    (ends (λ queue is. is)
    (ends (λ queue is. is)
    (ends (λ queue is consumer dotted. (is, dotted))
    (ends (λ queue is consumer dotted tick number. (is, dotted, number))
    (ends (λ queue is consumer dotted. (is, dotted))
    (ends (λ queue is consumer dotted. (is, dotted))
    (ends (λ batch number. number)
    (ends (λ batch number. number)
    (ends (λ batch number event also seconds few. (number, also, few))
    (ends (λ batch number. number)
    (ends tt
    (ends (λ queue is. is)
    (ends tt
    (ends (λ queue is consumer dotted. (is, dotted))
    (ends (λ name is queue also. (is, also))
    (ends (λ name is provider also. (is, also))
    (ends (λ name is table dotted. (is, dotted))
    (ends (λ name is table dotted. (is, dotted))
    (ends (λ name is table dotted. (is, dotted))
    (ends (λ name is table dotted. (is, dotted))
    (ends (λ name is. (is, λ table dotted. (is, dotted)))
    (ends (λ name is. is)
    (ends (λ time is. is)
    (ends (tt, tt)
    tt))))))))))))))))))))))))))))))))))))))))))))

-- ---- after a word

-- these rows end so, and the word that they are left after is whole
abbrev EndBehind : List ℕ → List GrammarRow → Type 0
EndBehind w [] = Unit {0}
EndBehind w (row ∷ rows) = (IsWhole w × EndsInForm row) × EndBehind w rows

both_end : (w : List ℕ) (front back : List GrammarRow) → EndBehind w front → EndBehind w back → EndBehind w (front ++ back)
both_end w [] back here there = there
both_end w (row ∷ rows) back here there = (here.0, both_end w rows back here.1 there)

when_ends : (k : Kind) (w : List ℕ) (f : Of k → GrammarRow) (o : Option (Of k)) → IfSome o (λ v. IsWhole w × IsOf k v) → ((v : Of k) → IsOf k v → EndsInForm (f v)) → EndBehind w (when o f)
when_ends k w f None known ends = tt
when_ends k w f (Some v) known ends = ((known.0, ends v known.1), tt)

-- after a fixed word
text_ends : (w text : List ℕ) (row : GrammarRow) (rest : List GrammarRow) → IsWhole text → EndsInForm row → EndBehind w rest → EndBehind w (cond (bytes_eq w text) (row ∷ []) rest)
text_ends w text row rest text_so ends also =
    cond_both (bytes_eq w text) (row ∷ []) rest (EndBehind w) (λ is. ((ap (whole false) ((bytes_eq-Decides w text).0 is) ∙ text_so, ends), tt)) (λ _. also)

whole-text_of : (f : Fixed) → IsWhole (text_of f)
whole-text_of fixed.Repeatable = refl
whole-text_of _ = refl

next_ends : (row : GrammarRow) (w : List ℕ) → EndsInForm row → EndBehind w (next row w)
next_ends (stop stmt) w ends = tt
next_ends (literal fixed row) w ends = text_ends w (text_of fixed) row [] (whole-text_of fixed) ends tt
next_ends (one k f) w ends = when_ends k w f (value k w) (worth k w) ends
next_ends (either a b) w ends = both_end w (next a w) (next b w) (next_ends a w ends.0) (next_ends b w ends.1)
next_ends (many k f) w ends =
    both_end w (next (f []) w) _ (next_ends (f []) w (ends [] (All-nil (IsOf k))))
    (when_ends k w (λ v. many k (λ vs. f (v ∷ vs))) (value k w) (worth k w) (λ v is vs are. ends (v ∷ vs) (All-cons (IsOf k) v vs is are)))

all_next_end : (v w : List ℕ) (rows : List GrammarRow) → EndBehind v rows → EndBehind w (all_next rows w)
all_next_end v w [] ends = tt
all_next_end v w (row ∷ rows) ends = both_end w (next row w) (all_next rows w) (next_ends row w ends.0.1) (all_next_end v w rows ends.1)

-- ---- at the end

or_else_ends : (first other : Option Stmt) → IfSome first IsInForm → IfSome other IsInForm → IfSome (or_else first other) IsInForm
or_else_ends None other here there = there
or_else_ends (Some stmt) other here there = here

ended_ends : (row : GrammarRow) → EndsInForm row → IfSome (ended row) IsInForm
ended_ends (stop stmt) ends = ends
ended_ends (literal fixed row) ends = tt
ended_ends (one k f) ends = tt
ended_ends (either a b) ends = or_else_ends (ended a) (ended b) (ended_ends a ends.0) (ended_ends b ends.1)
ended_ends (many k f) ends = ended_ends (f []) (ends [] (All-nil (IsOf k)))

all_ended_end : (w : List ℕ) (rows : List GrammarRow) → EndBehind w rows → IfSome (all_ended rows) IsInForm
all_ended_end w [] ends = tt
all_ended_end w (row ∷ rows) ends = or_else_ends (ended row) (all_ended rows) (ended_ends row ends.0.1) (all_ended_end w rows ends.1)

-- ---- of words, and of a line

-- a statement that was read is in form, and something else holds
abbrev Reads : Type 0 → Result Stmt ℕ → Type 0
Reads T r = IfOk r (λ stmt. T × IsInForm stmt)

or_bad_ends : (n : ℕ) (o : Option Stmt) → IfSome o IsInForm → Reads (Unit {0}) (or_bad n o)
or_bad_ends n None ends = tt
or_bad_ends n (Some stmt) ends = (tt, ends)

goes_on_ends : (T : Type 0) (w : List ℕ) (rows : List GrammarRow) (n : ℕ) (read : List GrammarRow → Result Stmt ℕ) → ((rows : List GrammarRow) → EndBehind w rows → Reads T (read rows)) → EndBehind w rows
    → Reads (IsWhole w × T) (reads_on rows n read)
goes_on_ends T w [] n read each ends = tt
goes_on_ends T w (row ∷ rows) n read each ends = IfOk-weaker (read (row ∷ rows)) _ _ (λ stmt it. ((ends.0.0, it.0), it.1)) (each (row ∷ rows) ends)

reads_ends : (v : List ℕ) (rows : List GrammarRow) (n : ℕ) (ws : List (List ℕ)) → EndBehind v rows → Reads (AllWhole ws) (reads rows n ws)
reads_ends v rows n [] ends = or_bad_ends n (all_ended rows) (all_ended_end v rows ends)
reads_ends v rows n (w ∷ ws) ends = goes_on_ends (AllWhole ws) w (all_next rows w) n _ (λ left more. reads_ends w left (n + 1) ws more) (all_next_end v w rows ends)

named_form_ends : (w : List ℕ) (forms : List (List ℕ × GrammarRow)) → list_all (λ form. whole false form.0) forms ≡ true → FormsEndInForm forms → EndBehind w (named_form w forms)
named_form_ends w [] all ends = tt
named_form_ends w (form ∷ forms) all ends =
    let parts = and_parts (whole false form.0) (list_all (λ form. whole false form.0) forms) all in
    text_ends w form.0 form.1 (named_form w forms) parts.0 ends.0 (named_form_ends w forms parts.1 ends.1)

statement_ends : (ws : List (List ℕ)) → Reads (AllWhole ws) (statement_of ws)
statement_ends [] = tt
statement_ends (w ∷ ws) = goes_on_ends (AllWhole ws) w (named_form w all_forms) 2 _ (λ rows ends. reads_ends w rows 3 ws ends) (named_form_ends w all_forms refl forms_end)

sessions : (w : List ℕ) → IfSome (session_of w) (λ name. IsWhole w × (is_name name ≡ true))
sessions w =
    let front : List ℕ = take (length w - 1) w in
    if_only _ (bytes_eq (drop (length w - 1) w) (codes ":")) _ (λ is. IfSome_then (value Name front) (worth Name front) (λ name it. (whole-last w (codes ":") is refl it.0, it.1)))

run_ends : (A T : Type 0) (name : List ℕ) (r : Result Stmt ℕ) → A × (is_name name ≡ true) → Reads T r → IfOk (run_of name r) (λ says. (A × T) × IsLineInForm says)
run_ends A T name (Ok stmt) named reads = ((named.0, reads.0), (named.1, reads.1))
run_ends A T name (Err n) named reads = tt

session_ends : (A : Type 0) (ws : List (List ℕ)) (o : Option (List ℕ)) → IfSome o (λ name. A × (is_name name ≡ true)) → IfOk (session_line o ws) (λ says. (A × AllWhole ws) × IsLineInForm says)
session_ends A ws None named = tt
session_ends A ws (Some name) named = run_ends A (AllWhole ws) name (statement_of ws) named (statement_ends ws)

line_ends : (w : List ℕ) (ws : List (List ℕ)) → IfOk (line_of_words (w ∷ ws)) (λ says. AllWhole (w ∷ ws) × IsLineInForm says)
line_ends w ws = session_ends (IsWhole w) ws (session_of w) (sessions w)

-- the words of a line of the grammar are whole
pub whole-line_of_words : (w : List ℕ) (ws : List (List ℕ)) (says : Line) → line_of_words (w ∷ ws) ≡ Ok says → AllWhole (w ∷ ws)
whole-line_of_words w ws says so = (IfOk-at_ok (λ says. AllWhole (w ∷ ws) × IsLineInForm says) so (line_ends w ws)).0

words_in_form : (ws : List (List ℕ)) → IfOk (line_of_words ws) IsLineInForm
words_in_form [] = tt
words_in_form (w ∷ ws) = IfOk-weaker (line_of_words (w ∷ ws)) _ IsLineInForm (λ says it. it.1) (line_ends w ws)

line_in_form : (line : List ℕ) → IfOk (line_of line) IsLineInForm
line_in_form [] = tt
line_in_form (b ∷ bs) = cond_both (b == 35) (Ok Blank) _ (λ r. IfOk r IsLineInForm) (λ _. tt) (λ _. words_in_form (words (b ∷ bs)))

pub lines_are_in_form : LinesAreInForm
lines_are_in_form line says so = IfOk-at_ok IsLineInForm so (line_in_form line)
