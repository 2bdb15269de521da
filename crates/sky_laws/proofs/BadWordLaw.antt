-- The bad word of a line is the least one: where a line goes wrong, and the lines that begin as it does.
use Rattle.std.proofs.Common.{◌≡◌, ℕ, ◌+◌, ◌-◌, ◌<◌, ◌≤◌, ◌==◌, zero, suc, true, false, cond, List, [], ◌∷◌, ◌++◌, length, take, drop, Some, None, Result, Ok, Err, refl, sym, ap, ◌∙◌, arith, codes, eq-eqb, eqb-true}
use Rattle.std.proofs.lemmas.Bool.{cond_both}
use Rattle.std.proofs.lemmas.List.{take-append-drop, take-append-le, take-take, length-take-le}
use Rattle.sky_model.specs.declared.stmt.RowStmt.{RowStmt}
use Rattle.sky_model.specs.declared.stmt.Stmt.{Stmt}
use Rattle.sky_model.specs.declared.line.Line.{Line}
use Rattle.sky_model.specs.declared.line.Line.TheVariants.{Blank, Run}
use Rattle.sky_model.specs.Words.{is_parting, quoted_after, with_first, pieces, words}
use Rattle.sky_model.specs.Grammar.{on_rows, GrammarRow, reads_on, reads, all_forms, named_form, statement_of, session_of, session_line, run_of, line_of_words, line_of}
use Rattle.sky_model.specs.LawsOfLines.{words_of, BeginsALine, IsLeastBadWord, BadWordIsLeast}
use Rattle.sky_model.proofs.FirstWords.{has_first}
use Rattle.sky_laws.proofs.LeastBadWord.{Begins, bad_within, none_begins, some_begins}
use Rattle.sky_model.proofs.WholeWords.{joined, words-joined}
use Rattle.sky_model.proofs.InFormLaw.{whole-line_of_words}
use Rattle.sky_model.proofs.Cases.{by_test}

-- where words go wrong: at the session's word, after it if it is alone, at the first word of the statement, or after that
data Fault (w : List ℕ) (ws : List (List ℕ)) (k : ℕ) : Type 0 where
  no_session : session_of w ≡ None → k ≡ 1 → Fault w ws k
  session_alone : (name : List ℕ) → session_of w ≡ Some name → ws ≡ [] → k ≡ 2 → Fault w ws k
  no_form : (name f : List ℕ) (rest : List (List ℕ)) → session_of w ≡ Some name → ws ≡ f ∷ rest → named_form f all_forms ≡ [] → k ≡ 2 → Fault w ws k
  in_form : (name f : List ℕ) (rest : List (List ℕ)) (row : GrammarRow) (rows : List GrammarRow) (j : ℕ) → session_of w ≡ Some name → ws ≡ f ∷ rest → named_form f all_forms ≡ row ∷ rows → reads (row ∷ rows) 3 rest ≡ Err k → k ≡ suc (suc (suc j)) → j ≤ length rest → Fault w ws k

run_of-Ok : (session : List ℕ) (r : Result Stmt ℕ) (says : Line) → run_of session r ≡ Ok says → (stmt : Stmt) × (r ≡ Ok stmt)
run_of-Ok session (Ok stmt) says so = (stmt, refl)
run_of-Ok session (Err n) says so = absurd (cc)

run_of-Err : (session : List ℕ) (r : Result Stmt ℕ) (k : ℕ) → run_of session r ≡ Err k → r ≡ Err k
run_of-Err session (Ok stmt) k so = absurd (cc)
run_of-Err session (Err n) k so = cc

fault_in_statement : (w name : List ℕ) (ws : List (List ℕ)) (k : ℕ) → session_of w ≡ Some name → statement_of ws ≡ Err k → Fault w ws k
fault_in_statement w name [] k session bad = session_alone name session refl (cc)
fault_in_statement w name (f ∷ rest) k session bad =
    elim (named_form f all_forms) as (λ rows. named_form f all_forms ≡ rows → reads_on rows 2 (λ l. reads l 3 rest) ≡ Err k → Fault w (f ∷ rest) k) [
      | [] ↦ λ is e. no_form name f rest session refl is (cc)
      | row ∷ rows ↦ λ is e.
          let within = bad_within (row ∷ rows) rest 3 k e in
          in_form name f rest row rows (k - 3) session refl is e (omega arith) (omega arith)
    ] refl bad

fault : (w : List ℕ) (ws : List (List ℕ)) (k : ℕ) → line_of_words (w ∷ ws) ≡ Err k → Fault w ws k
fault w ws k bad =
    elim (session_of w) as (λ session. session_of w ≡ session → session_line session ws ≡ Err k → Fault w ws k) [
      | None ↦ λ is e. no_session is (cc)
      | Some name ↦ λ is e. fault_in_statement w name ws k is (run_of-Err name (statement_of ws) k e)
    ] refl bad

-- the number of the bad word
record Counted (k : ℕ) (ws : List (List ℕ)) : Type 0 where
  low : 1 ≤ k
  high : k ≤ length ws + 1

counted : (w : List ℕ) (ws : List (List ℕ)) (k : ℕ) → Fault w ws k → Counted k (w ∷ ws)
counted w ws k (no_session none is) = record { low = omega arith; high = omega arith }
counted w ws k (session_alone name session none is) = record { low = omega arith; high = omega arith }
counted w ws k (no_form name f rest session are none is) = record { low = omega arith; high = omega (arith, ap length are) }
counted w ws k (in_form name f rest row rows j session are form bad is inside) = record { low = omega arith; high = omega (arith, ap length are) }

-- no words of a line begin so
none_begins_line : (w : List ℕ) (ws more : List (List ℕ)) (k : ℕ) (says : Line) → Fault w ws k → k ≤ length (w ∷ ws) → line_of_words (take k (w ∷ ws) ++ more) ≡ Ok says → ⊥
none_begins_line w ws more k says (no_session none is) inside good =
    let begun = rw is at good in
    let refused = rw none at begun in
    cc
none_begins_line w ws more k says (session_alone name session none is) inside good = absurd (omega (arith, ap length none))
none_begins_line w ws more k says (no_form name f rest session are none is) inside good =
    let begun = rw (is, are) at good in
    let refused = rw (session, none) at begun in
    cc
none_begins_line w ws more k says (in_form name f rest row rows j session are form bad is within) inside good =
    let begun = rw (is, are) at good in
    let read = rw (session, form) at begun in
    let found = run_of-Ok name (reads (row ∷ rows) 3 (take (suc j) rest ++ more)) says read in
    none_begins (row ∷ rows) rest 3 k j (omega arith) (omega (arith, ap length are)) bad (more, found.0, found.1)

-- some words of a line begin as these do before the bad one
record BeginsWords (ws : List (List ℕ)) : Type 0 where
  more : List (List ℕ)
  says : Line
  is : line_of_words (ws ++ more) ≡ Ok says

some_begin_in_form : (w name f : List ℕ) (ws rest : List (List ℕ)) (row : GrammarRow) (rows : List GrammarRow) (k j : ℕ) → session_of w ≡ Some name → ws ≡ f ∷ rest → named_form f all_forms ≡ row ∷ rows → k ≡ suc (suc (suc j)) → Begins (row ∷ rows) 3 (take j rest) → BeginsWords (take (k - 1) (w ∷ ws))
some_begin_in_form w name f ws rest row rows k j session are form is found =
    let before : k - 1 ≡ suc (suc j) = omega arith in
    record { more = found.0; says = Run name found.1; is = rw (before, are, session, form, found.2) refl }

-- `open p`
abbrev opens_p : Stmt
opens_p = on_rows (RowStmt.OpenDb (codes "p"))

some_begin_line : (w : List ℕ) (ws : List (List ℕ)) (k : ℕ) → Fault w ws k → BeginsWords (take (k - 1) (w ∷ ws))
some_begin_line w ws k (no_session none is) =
    record { more = codes "a:" ∷ codes "open" ∷ codes "p" ∷ []; says = Run (codes "a") opens_p; is = rw is refl }
some_begin_line w ws k (session_alone name session none is) =
    record { more = codes "open" ∷ codes "p" ∷ []; says = Run name opens_p; is = rw (is, session) refl }
some_begin_line w ws k (no_form name f rest session are none is) =
    record { more = codes "open" ∷ codes "p" ∷ []; says = Run name opens_p; is = rw (is, session) refl }
some_begin_line w ws k (in_form name f rest row rows j session are form bad is within) =
    some_begin_in_form w name f ws rest row rows k j session are form is (some_begins row rows rest 3 k j (omega arith) bad)

-- a line whose first word begins with `#` does so itself
with_first-hash : (b : ℕ) (ps : List (List ℕ)) (first : List ℕ) (others : List (List ℕ)) → with_first b ps ≡ (35 ∷ first) ∷ others → b ≡ 35
with_first-hash b [] first others so = cc
with_first-hash b (w ∷ ws) first others so = cc

words-hash : (b : ℕ) (bs first : List ℕ) (others : List (List ℕ)) → words (b ∷ bs) ≡ (35 ∷ first) ∷ others → b ≡ 35
words-hash b bs first others so =
    by_test (λ v. cond v ([] ∷ pieces false bs) (with_first b (pieces (quoted_after false b) bs)) ≡ (35 ∷ first) ∷ others → b ≡ 35) (is_parting false b) (λ _ e. absurd (cc))
    (λ _. with_first-hash b (pieces (quoted_after false b) bs) first others) so

-- the first word of a line that begins with `#`
record Hashed (ws : List (List ℕ)) : Type 0 where
  first : List ℕ
  others : List (List ℕ)
  is : ws ≡ (35 ∷ first) ∷ others

hashed-with_first : (ps : List (List ℕ)) → Hashed (with_first 35 ps)
hashed-with_first [] = record { first = []; others = []; is = refl }
hashed-with_first (w ∷ ws) = record { first = w; others = ws; is = refl }

-- a line of words of the grammar is one of the grammar
abbrev Says : List ℕ → Type 0
Says line = (says : Line) × (line_of line ≡ Ok says)

says : (b : ℕ) (bs : List ℕ) (line : Line) → line_of_words (words (b ∷ bs)) ≡ Ok line → Says (b ∷ bs)
says b bs line so = cond_both (b == 35) (Ok Blank) _ (λ r. (says : Line) × (r ≡ Ok says)) (λ _. (Blank, refl)) (λ _. (line, so))

-- the line of words of the grammar, joined
record IsLineOf (ws : List (List ℕ)) : Type 0 where
  line : List ℕ
  said : Says line
  are : words_of line ≡ ws

line_of_joined : (ws : List (List ℕ)) (line : Line) → line_of_words ws ≡ Ok line → IsLineOf ws
line_of_joined [] line so = absurd (cc)
line_of_joined ([] ∷ ws) line so = absurd (cc)
line_of_joined ((b ∷ w) ∷ []) line so =
    let are = words-joined (b ∷ w) [] (whole-line_of_words (b ∷ w) [] line so) in
    record { line = b ∷ w; said = says b w line (ap line_of_words are ∙ so); are = are }
line_of_joined ((b ∷ w) ∷ v ∷ ws) line so =
    let are = words-joined (b ∷ w) (v ∷ ws) (whole-line_of_words (b ∷ w) (v ∷ ws) line so) in
    record { line = b ∷ (w ++ 32 ∷ joined (v ∷ ws)); said = says b (w ++ 32 ∷ joined (v ∷ ws)) line (ap line_of_words are ∙ so); are = are }

-- the first words of the words that were found are those of the line
first_words : (ws more : List (List ℕ)) (n k : ℕ) → n < k → k ≤ length ws + 1 → take n (take (k - 1) ws ++ more) ≡ take n ws
first_words ws more n k below inside =
    let long : length (take (k - 1) ws) ≡ k - 1 = length-take-le (k - 1) ws (omega arith) in
    take-append-le n (take (k - 1) ws) more (omega (arith, long)) ∙ take-take n (k - 1) ws (omega arith)

begins_before : (b : ℕ) (bs w : List ℕ) (ws : List (List ℕ)) (k n : ℕ) → words (b ∷ bs) ≡ w ∷ ws → Fault w ws k → n < k → BeginsALine (b ∷ bs) n
begins_before b bs w ws k n are fault below =
    let found = some_begin_line w ws k fault in
    let line = line_of_joined (take (k - 1) (w ∷ ws) ++ found.more) found.says found.is in
    let bounds = counted w ws k fault in
    record {
      other = line.line;
      says = line.said.0;
      in_grammar = line.said.1;
      first_words = ap (take n) line.are ∙ first_words (w ∷ ws) found.more n k below bounds.high ∙ ap (take n) (sym are);
    }

no_words : (k : ℕ) (w : List ℕ) (ws : List (List ℕ)) → 1 ≤ k → take {A = List ℕ} k [] ≡ take k (w ∷ ws) → ⊥
no_words zero w ws some same = absurd (omega arith)
no_words (suc k) w ws some same = cc

same_first : (k : ℕ) (u w : List ℕ) (us ws : List (List ℕ)) → 1 ≤ k → take k (u ∷ us) ≡ take k (w ∷ ws) → u ≡ w
same_first zero u w us ws some same = absurd (omega arith)
same_first (suc k) u w us ws some same = cc

hashed : (b : ℕ) (bs : List ℕ) → b ≡ 35 → Hashed (words (b ∷ bs))
hashed b bs hash = rw hash (hashed-with_first (pieces (quoted_after false 35) bs))

-- a comment's words don't begin as those of a line that isn't one
no_comment : (c : ℕ) (cs : List ℕ) (b : ℕ) (bs w : List ℕ) (ws : List (List ℕ)) (k : ℕ) → c ≡ 35 → words (b ∷ bs) ≡ w ∷ ws → (b == 35) ≡ false → 1 ≤ k → take k (words (c ∷ cs)) ≡ take k (w ∷ ws) → ⊥
no_comment c cs b bs w ws k hash are no_hash some same =
    let comment = hashed c cs hash in
    let first = same_first k (35 ∷ comment.first) w comment.others ws some (ap (take k) (sym comment.is) ∙ same) in
    let begins : b ≡ 35 = words-hash b bs comment.first ws (are ∙ ap (λ v. v ∷ ws) (sym first)) in
    let so : (b == 35) ≡ true = eq-eqb b 35 begins in
    cc

-- the words of a line of the grammar don't begin as these do up to the bad one
none_begins_other : (other : List ℕ) (b : ℕ) (bs w : List ℕ) (ws : List (List ℕ)) (k : ℕ) (line : Line) → words (b ∷ bs) ≡ w ∷ ws → (b == 35) ≡ false → Fault w ws k → k ≤ length (w ∷ ws) → line_of other ≡ Ok line → take k (words_of other) ≡ take k (w ∷ ws) → ⊥
none_begins_other [] b bs w ws k line are no_hash fault inside good first = no_words k w ws (counted w ws k fault).low first
none_begins_other (c ∷ cs) b bs w ws k line are no_hash fault inside good first =
    by_test (λ v. cond v (Ok Blank) (line_of_words (words (c ∷ cs))) ≡ Ok line → ⊥) (c == 35) (λ is _. no_comment c cs b bs w ws k (eqb-true c 35 is) are no_hash (counted w ws k fault).low first)
    (λ _ e.
    let all : take k (w ∷ ws) ++ drop k (words (c ∷ cs)) ≡ words (c ∷ cs) = ap (λ front. front ++ drop k (words (c ∷ cs))) (sym first) ∙ take-append-drop k (words (c ∷ cs)) in
    none_begins_line w ws (drop k (words (c ∷ cs))) k line fault inside (ap line_of_words all ∙ e)) good

least : (b : ℕ) (bs : List ℕ) (k : ℕ) → (b == 35) ≡ false → line_of_words (words (b ∷ bs)) ≡ Err k → IsLeastBadWord (b ∷ bs) k
least b bs k no_hash bad =
    let its = has_first (b ∷ bs) in
    let at = fault its.first its.others k (ap line_of_words (sym its.is) ∙ bad) in
    let bounds = counted its.first its.others k at in
    record {
      before = λ n below. begins_before b bs its.first its.others k n its.is at below;
      none = λ inside begins. none_begins_other begins.other b bs its.first its.others k begins.says its.is no_hash at (omega (arith, ap length its.is)) begins.in_grammar (begins.first_words ∙ ap (take k) its.is);
      within = omega (arith, bounds.high, ap length its.is);
    }

pub bad_word_is_least : BadWordIsLeast
bad_word_is_least [] k bad = absurd (cc)
bad_word_is_least (b ∷ bs) k bad =
    by_test (λ v. cond v (Ok Blank) (line_of_words (words (b ∷ bs))) ≡ Err k → IsLeastBadWord (b ∷ bs) k) (b == 35) (λ _ e. absurd (cc)) (λ is. least b bs k is) bad
