-- A form is looked for among those whose first word has a length that passes a test which the length of the line's word passes.
use Rattle.std.proofs.Common.{◌≡◌, ◌-◌, ℕ, Bool, true, false, ◌==◌, ◌&&◌, nat_lt, ◌<◌, length, bytes_eq, cond, subst, List, [], ◌∷◌, filter, Result, refl}
use Rattle.std.proofs.lemmas.Bool.{lt-ltb}
use Rattle.std.proofs.lemmas.Slice.Eq.{bytes_eq-Decides}
use Rattle.sky_model.specs.declared.stmt.Stmt.{Stmt}
use Rattle.sky_model.specs.Grammar.{GrammarRow, all_forms, named_form, reads, reads_on, statement_of}
use Rattle.sky_script.specs.declared.cause.LineCause.{LineCause}
use Rattle.sky_script.specs.Unread.{Unread}
use Rattle.sky_script.specs.Reading.{IsAnswer, AnswersAmong, of_six, of_eleven, of_twelve, of_short, of_middle, of_long, of_longest}

named_form-filter : (p : ℕ → Bool) (w : List ℕ) (forms : List (List ℕ × GrammarRow)) → p (length w) ≡ true
    → named_form w (filter (λ form. p (length form.0)) forms) ≡ named_form w forms
named_form-filter p w [] passes = refl
named_form-filter p w (form ∷ forms) passes =
    let rest : named_form w (filter (λ form. p (length form.0)) forms) ≡ named_form w forms = named_form-filter p w forms passes in
    elim (bytes_eq w form.0) as (λ b. bytes_eq w form.0 ≡ b → named_form w (cond (p (length form.0)) (form ∷ filter (λ form. p (length form.0)) forms) (filter (λ form. p (length form.0)) forms)) ≡ cond b (form.1 ∷ []) (named_form w forms)) [
      | true ↦ λ is. rw (subst (λ u. p (length u) ≡ true) ((bytes_eq-Decides w form.0).0 is) passes, is) refl
      | false ↦ λ is. elim (p (length form.0)) as (λ v. named_form w (cond v (form ∷ filter (λ form. p (length form.0)) forms) (filter (λ form. p (length form.0)) forms)) ≡ named_form w forms) [
        | true ↦ rw is rest
        | false ↦ rest
      ]
    ] refl

among : (p : ℕ → Bool) (r : Result Stmt LineCause) (w : List ℕ) (at : Unread) → p (length w) ≡ true → AnswersAmong r w (filter (λ form. p (length form.0)) all_forms) at → AnswersAmong r w all_forms at
unfolding AnswersAmong
among p r w at passes given = rw (← named_form-filter p w all_forms passes) given

pub among_six : (r : Result Stmt LineCause) (w : List ℕ) (at : Unread) → length w ≡ 6 → AnswersAmong r w of_six at → AnswersAmong r w all_forms at
among_six r w at is = among (λ n. n == 6) r w at (rw is refl)

pub among_eleven : (r : Result Stmt LineCause) (w : List ℕ) (at : Unread) → length w ≡ 11 → AnswersAmong r w of_eleven at → AnswersAmong r w all_forms at
among_eleven r w at is = among (λ n. n == 11) r w at (rw is refl)

pub among_twelve : (r : Result Stmt LineCause) (w : List ℕ) (at : Unread) → length w ≡ 12 → AnswersAmong r w of_twelve at → AnswersAmong r w all_forms at
among_twelve r w at is = among (λ n. n == 12) r w at (rw is refl)

pub among_short : (r : Result Stmt LineCause) (w : List ℕ) (at : Unread) → length w < 6 → AnswersAmong r w of_short at → AnswersAmong r w all_forms at
among_short r w at is = among (λ n. nat_lt n 6) r w at (lt-ltb (length w) 6 is)

pub among_middle : (r : Result Stmt LineCause) (w : List ℕ) (at : Unread) → 6 < length w → length w < 11 → AnswersAmong r w of_middle at → AnswersAmong r w all_forms at
among_middle r w at more less = among (λ n. nat_lt 6 n && nat_lt n 11) r w at (rw (lt-ltb 6 (length w) more, lt-ltb (length w) 11 less) refl)

pub among_long : (r : Result Stmt LineCause) (w : List ℕ) (at : Unread) → 12 < length w → length w < 18 → AnswersAmong r w of_long at → AnswersAmong r w all_forms at
among_long r w at more less = among (λ n. nat_lt 12 n && nat_lt n 18) r w at (rw (lt-ltb 12 (length w) more, lt-ltb (length w) 18 less) refl)

pub among_longest : (r : Result Stmt LineCause) (w : List ℕ) (at : Unread) → 17 < length w → AnswersAmong r w of_longest at → AnswersAmong r w all_forms at
among_longest r w at more = among (λ n. nat_lt 17 n) r w at (lt-ltb 17 (length w) more)

-- what all forms say of the words after a line's second one is what its words say
pub states : (r : Result Stmt LineCause) (w : List ℕ) (at : Unread) → at.number ≡ 3 → AnswersAmong r w all_forms at → IsAnswer r (statement_of (w ∷ at.left))
unfolding AnswersAmong
states r w at third given = subst (λ n. IsAnswer r (reads_on (named_form w all_forms) (n - 1) (λ rows. reads rows n at.left))) third given
