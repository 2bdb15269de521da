-- What is unblocked is the same at places that read alike.
use Rattle.std.proofs.Common.{◌≡◌, Bool, true, false, ℕ, ℤ, suc, zero, List, [], ◌∷◌, ◌++◌, Option, Some, None, length, refl, ◌∙◌, ap}
use Rattle.sky_keys.specs.Waits.{Waiting, is_waiting}
use Rattle.sky_model.specs.declared.stmt.RowStmt.{RowStmt}
use Rattle.sky_model.specs.declared.stmt.DbStmt.{DbStmt}
use Rattle.sky_model.specs.History.{Mark, sight_taken, tabled, waited}
use Rattle.sky_model.specs.State.{RowPart, Database}
use Rattle.sky_model.specs.Outcome.{or_refused}
use Rattle.sky_model.specs.Allowed.{where_of_row, where_of}
use Rattle.sky_model.specs.StepRows.{attempts}
use Rattle.sky_model.specs.Telling.{tells}
use Rattle.sky_model.specs.Reader.{PartReader, DatabaseReader, Shown, within_part}
use Rattle.sky_model.specs.Settling.{Turn, turn_of, behind_marks, with_rest, and_then, ready, resumed, goes_on, settles, settling, with_settling}
use Rattle.sky_model.specs.SessionMarks.{failing}
use Rattle.sky_model.specs.Calls.{fails_if, row_form, form, row_making, making, row_statement, row_turn, database_turn}
use Rattle.sky_histories.proofs.MadeAt.{same-made_by}

-- marks come one after another, each where it may
abbrev pub Each : {P : Type 0} → PartReader P → (P → Mark → Type 0) → P → List Mark → Type 0
Each r may p [] = Unit {0}
Each r may p (mark ∷ marks) = may p mark × Each r may (r.behind p mark) marks

-- related places read alike, and so do those after a mark that may come there
pub record ReadAlike {P Q : Type 0} (r : PartReader P) (s : PartReader Q) (may : P → Mark → Type 0) (related : P → Q → Type 0) : Type 0 where
  pub parts : (p : P) (q : Q) → related p q → r.part p ≡ s.part q
  pub rows : (p : P) (q : Q) → related p q → r.rows p ≡ s.rows q
  pub tells : (p : P) (q : Q) → related p q → r.tells p ≡ s.tells q
  pub behind : (p : P) (q : Q) (mark : Mark) → related p q → may p mark → related (r.behind p mark) (s.behind q mark)

each-split : {P : Type 0} (r : PartReader P) (may : P → Mark → Type 0) (p : P) (xs ys : List Mark) → Each r may p (xs ++ ys)
    → Each r may p xs × Each r may (behind_marks r p xs) ys
each-split r may p [] ys each = (tt, each)
each-split r may p (x ∷ xs) ys each =
    let rest : Each r may (r.behind p x) xs × Each r may (behind_marks r (r.behind p x) xs) ys = each-split r may (r.behind p x) xs ys each.1 in
    ((each.0, rest.0), rest.1)

module _ {P Q : Type 0} (r : PartReader P) (s : PartReader Q) (may : P → Mark → Type 0) (related : P → Q → Type 0) (alike : ReadAlike r s may related) where
  related-behind : (p : P) (q : Q) (marks : List Mark) → related p q → Each r may p marks → related (behind_marks r p marks) (behind_marks s q marks)
  related-behind p q [] is each = is
  related-behind p q (mark ∷ marks) is each =
      related-behind (r.behind p mark) (s.behind q mark) marks (alike.behind p q mark is each.0) each.1

  same-resumed : (p : P) (q : Q) (w : Waiting) → related p q → may p (tabled (waited w.who)) → resumed r p w ≡ resumed s q w
  same-resumed p q w is may_come = λ i.
      with_rest (record { answers = []; marks = tabled (waited w.who) ∷ [] })
      (turn_of w.who (or_refused w.who ((parts i).session w.who)
      (tells i (attempts (parts i) ((rows i).key w.who w.table w.key) w.who w.table w.key ((alike.parts p q is i).attempt w.who)))))
    where
      parts : r.part (r.behind p (tabled (waited w.who))) ≡ s.part (s.behind q (tabled (waited w.who)))
      parts = alike.parts _ _ (alike.behind p q (tabled (waited w.who)) is may_come)

      rows : r.rows (r.behind p (tabled (waited w.who))) ≡ s.rows (s.behind q (tabled (waited w.who)))
      rows = alike.rows _ _ (alike.behind p q (tabled (waited w.who)) is may_come)

      tells : r.tells (r.behind p (tabled (waited w.who))) ≡ s.tells (s.behind q (tabled (waited w.who)))
      tells = alike.tells _ _ (alike.behind p q (tabled (waited w.who)) is may_come)

  same-and_then : (p : P) (q : Q) (turn turn' : Turn) (rest : P → Turn) (rest' : Q → Turn) → related p q → turn ≡ turn' → ((p' : P) (q' : Q) → related p' q' → Each r may p' (rest p').marks → rest p' ≡ rest' q')
      → Each r may p (and_then r p turn rest).marks → and_then r p turn rest ≡ and_then s q turn' rest'
  same-and_then p q turn turn' rest rest' is same same_rest each =
      let split : Each r may p turn.marks × Each r may (behind_marks r p turn.marks) (rest (behind_marks r p turn.marks)).marks =
      each-split r may p turn.marks (rest (behind_marks r p turn.marks)).marks each in
      ap (with_rest turn) (same_rest _ _ (related-behind p q turn.marks is split.0) split.1)
      ∙ (λ i. with_rest (same i) (rest' (behind_marks s q (same i).marks)))

  same-goes_on : (p : P) (q : Q) (rest : P → Turn) (rest' : Q → Turn) (o : Option Waiting) → related p q → ((p' : P) (q' : Q) → related p' q' → Each r may p' (rest p').marks → rest p' ≡ rest' q')
      → Each r may p (goes_on r p rest o).marks → goes_on r p rest o ≡ goes_on s q rest' o
  same-goes_on p q rest rest' None is same_rest each = refl
  same-goes_on p q rest rest' (Some w) is same_rest each =
      same-and_then p q (resumed r p w) (resumed s q w) rest rest' is (same-resumed p q w is each.0) same_rest each

  pub same-settles : (n : ℕ) (p : P) (q : Q) → related p q → Each r may p (settles r n p).marks → settles r n p ≡ settles s n q
  same-settles zero p q is each = refl
  same-settles (suc n) p q is each =
      same-goes_on p q (settles r n) (settles s n) (ready (r.part p)) is (same-settles n) each
      ∙ ap (λ d. goes_on s q (settles s n) (ready d)) (alike.parts p q is)

  -- so a turn with all that it unblocks is the same
  pub same-with_settling : (p : P) (q : Q) (turn turn' : Turn) → related p q → turn ≡ turn' → Each r may p (with_settling r p turn).marks → with_settling r p turn ≡ with_settling s q turn'
  same-with_settling p q turn turn' is same each =
      same-and_then p q turn turn' (settling r) (settling s) is same
      (λ p' q' is' each'. same-settles _ p' q' is' each' ∙ ap (λ d. settles s (length d.waiting) q') (alike.parts p' q' is')) each

  -- and so is a statement on rows, if the sight may be taken
  pub alike-statement : (p : P) (q : Q) (who : ℕ) (stmt : RowStmt) → related p q → may p (sight_taken who) → row_statement r p who stmt ≡ row_statement s q who stmt
  alike-statement p q who stmt is may_look =
      same-made_by (row_making r who stmt) (row_making s who stmt) (where_of_row stmt) who p q (record {
        sessions = ap (λ (d : RowPart). d.session who) (alike.parts p q is);
        waiting = ap (λ (d : RowPart). is_waiting who d.waiting) (alike.parts p q is);
        outcomes = λ i. alike.tells p q is i (row_form (alike.parts p q is i) (alike.rows p q is i) who stmt);
        sessions_behind = ap (λ (d : RowPart). d.session who) (alike.parts _ _ behind);
        outcomes_behind = λ i. alike.tells _ _ behind i (row_form (alike.parts _ _ behind i) (alike.rows _ _ behind i) who stmt);
      })
    where
      behind : related (r.behind p (sight_taken who)) (s.behind q (sight_taken who))
      behind = alike.behind p q (sight_taken who) is may_look

  -- with those that it unblocks
  pub alike-turn : (p : P) (q : Q) (who : ℕ) (stmt : RowStmt) → related p q → may p (sight_taken who) → Each r may p (row_turn r p who stmt).marks → row_turn r p who stmt ≡ row_turn s q who stmt
  alike-turn p q who stmt is may_look each =
      same-with_settling p q (turn_of who (row_statement r p who stmt)) (turn_of who (row_statement s q who stmt)) is
      (ap (turn_of who) (alike-statement p q who stmt is may_look)) each

-- every mark may come
abbrev pub Any : {P : Type 0} → P → Mark → Type 0
Any p mark = Unit {0}

pub each-any : {P : Type 0} (r : PartReader P) (p : P) (marks : List Mark) → Each r Any p marks
each-any r p [] = tt
each-any r p (mark ∷ marks) = (tt, each-any r (r.behind p mark) marks)

-- a database that is read as another one at a place of its own
pub record ReadsAs {P Q : Type 0} (r : DatabaseReader P) (s : DatabaseReader Q) (at : P → Q) : Type 0 where
  pub database : (p : P) → r.database p ≡ s.database (at p)
  pub shown : (p : P) → r.shown p ≡ s.shown (at p)
  pub behind : (p : P) (mark : Mark) → at (r.behind p mark) ≡ s.behind (at p) mark

-- a turn is the same there, with what it unblocks
same-settled_read : {P Q : Type 0} (r : DatabaseReader P) (s : DatabaseReader Q) (at : P → Q) → ReadsAs r s at → (p : P) (now : ℤ) (turn turn' : Turn) → turn ≡ turn'
    → with_settling (within_part r now) p turn ≡ with_settling (within_part s now) (at p) turn'
same-settled_read r s at reads p now turn turn' same =
    same-with_settling (within_part r now) (within_part s now) Any (λ x y. at x ≡ y) (record {
      parts = λ x y is. ap Database.part (reads.database x) ∙ ap (λ z. (s.database z).part) is;
      rows = λ x y is. ap Shown.rows (reads.shown x) ∙ ap (λ z. (s.shown z).rows) is;
      tells = λ x y is. λ i checked. tells ((reads.database x ∙ ap s.database is) i) now checked;
      behind = λ x y mark is _. reads.behind x mark ∙ ap (λ z. s.behind z mark) is;
    }) p (at p) turn turn' refl same (each-any (within_part r now) p _)

-- a statement does the same
pub same-turn_read : {P Q : Type 0} (r : DatabaseReader P) (s : DatabaseReader Q) (at : P → Q) → ReadsAs r s at → (p : P) (now : ℤ) (who : ℕ) (stmt : DbStmt)
    → database_turn r p now who stmt ≡ database_turn s (at p) now who stmt
same-turn_read r s at reads p now who stmt =
    same-settled_read r s at reads p now _ _
    (ap (turn_of who) (same-made_by (making r now who stmt) (making s now who stmt) (where_of stmt) who p (at p) (record {
      sessions = ap (λ (d : Database). d.part.session who) (reads.database p);
      waiting = ap (λ (d : Database). is_waiting who d.part.waiting) (reads.database p);
      outcomes = λ i. form (reads.database p i) (reads.shown p i) now who stmt;
      sessions_behind = ap (λ (d : Database). d.part.session who) (reads.database (r.behind p (sight_taken who)) ∙ ap s.database (reads.behind p (sight_taken who)));
      outcomes_behind = λ i. form ((reads.database (r.behind p (sight_taken who)) ∙ ap s.database (reads.behind p (sight_taken who))) i) ((reads.shown (r.behind p (sight_taken who)) ∙ ap s.shown (reads.behind p (sight_taken who))) i) now who stmt;
    })))

-- and so does what fails in a session's name
pub same-fails_read : {P Q : Type 0} (r : DatabaseReader P) (s : DatabaseReader Q) (at : P → Q) → ReadsAs r s at → (p : P) (now : ℤ) (who : ℕ) (aborts : Bool)
    → fails_if r p now who aborts ≡ fails_if s (at p) now who aborts
same-fails_read r s at reads p now who true = same-settled_read r s at reads p now _ _ (ap (λ (d : Database). failing d.part who) (reads.database p))
same-fails_read r s at reads p now who false = refl
