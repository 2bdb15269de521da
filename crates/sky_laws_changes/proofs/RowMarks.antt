-- Which marks statements that make tables, write or wait leave if they are in form: what they write, attempt and make is.
use Rattle.std.proofs.Common.{◌≡◌, ◌≢◌, ℕ, Bool, true, false, List, [], ◌∷◌, ◌++◌, Option, Some, None, Ok, Err, IfOk, IfSome, is_some, option_map, All, refl, sym, ◌∙◌, subst}
use Rattle.std.proofs.lemmas.List.Elements.{All-weaker}
use Rattle.sky_val.specs.declared.val.Val.{Val}
use Rattle.sky_val.specs.declared.column.Column.{Column}
use Rattle.sky_val.specs.declared.schema.SchemaFault.{SchemaFault}
use Rattle.sky_val.specs.Schemas.{IsSchema, schema_fault}
use Rattle.sky_val.proofs.SchemaLaws.{is_schema}
use Rattle.sky_keys.specs.Waits.{other_holder}
use Rattle.sky_urlenc.specs.Held.{IsWord}
use Rattle.sky_model.specs.declared.stmt.Attempt.{Attempt}
use Rattle.sky_model.specs.declared.stmt.Attempt.TheVariants.{Insertion, Changes, Deletion}
use Rattle.sky_model.specs.declared.stmt.RowStmt.{RowStmt}
use Rattle.sky_model.specs.declared.stmt.RowStmt.TheVariants.{CreateTable, Insert, Update, Delete}
use Rattle.sky_model.specs.declared.reply.Refusal.TheVariants.{Deadlock}
use Rattle.sky_model.specs.declared.reply.Reply.TheVariants.{Done}
use Rattle.sky_model.specs.Kinds as kind
use Rattle.sky_model.specs.Kinds.{is_name}
use Rattle.sky_model.specs.InForm.{IsOf, IsRowInForm}
use Rattle.sky_model.specs.History.{Mark, of_session, tabled, table_made, wrote, queued, noded}
use Rattle.sky_model.specs.Sessions.{Session}
use Rattle.sky_model.specs.State.{RowPart}
use Rattle.sky_model.specs.ShownRows.{KeyShown, RowsShown}
use Rattle.sky_model.specs.Outcome.{Outcome, Checked, ◌>>=◌, ◌>>◌, refused_by, does_marks}
use Rattle.sky_model.specs.OwnTransaction.{begin_of, commit_of, txid_for, in_own}
use Rattle.sky_model.specs.StepLocks.{ring, once_free}
use Rattle.sky_model.specs.StepRows.{is_seen, schema_refusal, writes_key, changes, attempts, some_row, with_sets}
use Rattle.sky_model.specs.Calls.{row_form}
use Rattle.sky_model.proofs.Cases.{by_block}
use Rattle.sky_model.specs.Permits.{permit_of_row}
use Rattle.sky_laws_changes.proofs.HeldValues.{name-word, AreHeld, values-held, are-changes, with_sets-held, HeldAttempt}
use Rattle.sky_laws_changes.proofs.PlainMarks.{Plain, are_plain}

-- ---- what is so of each mark

abbrev pub Each : (Mark → Type 0) → List Mark → Type 0
Each P [] = Unit {0}
Each P (mark ∷ marks) = P mark × Each P marks

pub each-append : (P : Mark → Type 0) (xs ys : List Mark) → Each P xs → Each P ys → Each P (xs ++ ys)
each-append P [] ys all also = also
each-append P (x ∷ xs) ys all also = (all.0, each-append P xs ys all.1 also)

-- of each that a statement leaves, if it isn't refused
abbrev pub MarkKinds : (Mark → Type 0) → Checked Outcome → Type 0
MarkKinds P c = IfOk c (λ o. Each P o.marks)

pub after : {A : Type 0} (P : Mark → Type 0) (x : Checked A) (c : Checked Outcome) → MarkKinds P c → MarkKinds P (x >> c)
after P (Ok a) c is = is
after P (Err refusal) c is = tt

pub checked : {A : Type 0} (P : Mark → Type 0) (x : Checked A) (c : A → Checked Outcome) → ((a : A) → MarkKinds P (c a)) → MarkKinds P (x >>= c)
checked P (Ok a) c is = is a
checked P (Err refusal) c is = tt

-- ---- marks of statements

-- a session's write: it leaves a row or had one; and the row that it leaves is held, if it is to be
abbrev pub Writes : (strict : Bool) → (old new : Option (List Val)) → Type 0
Writes strict old new = (old ≡ None → is_some new ≡ true) × (strict ≡ true → IfSome new AreHeld)

-- a mark of a statement on rows
abbrev pub RowMark : (strict : Bool) → Mark → Type 0
RowMark strict (tabled (wrote (of_session who) t table key old new)) = Writes strict old new
RowMark strict (tabled (wrote whose t table key old new)) = ⊥
RowMark strict (queued mark) = ⊥
RowMark strict (noded mark) = ⊥
RowMark strict mark = Plain mark

-- ---- statements

module _ (strict : Bool) (who : ℕ) where
  abbrev pub RowLeaves : Checked Outcome → Type 0
  RowLeaves c = MarkKinds (RowMark strict) c

  each-own : (t : ℕ) (s : Session) (marks : List Mark) → Each (RowMark strict) marks → Each (RowMark strict) (in_own who t s marks)
  each-own t s marks all =
      of s.txid (each-append (RowMark strict) marks (commit_of who t s.block) all (by_block (λ b. Each (RowMark strict) (commit_of who t b)) (tt, tt) tt tt s.block))
    where
      of : (o : Option ℕ) → Each (RowMark strict) (marks ++ commit_of who t s.block) → Each (RowMark strict) (begin_of who t o ++ marks ++ commit_of who t s.block)
      of None all = (tt, all)
      of (Some own) all = all

  row-writes : (d : RowPart) (table : ℕ) (key : List Val) (old new : Option (List Val)) → Writes strict old new → RowLeaves (writes_key d who table key old new)
  row-writes d table key old new is = checked (RowMark strict) (txid_for d who) _ (λ t. each-own t (d.session who) (tabled (wrote (of_session who) t table key old new) ∷ []) (is, tt))

  row-once_free : (d : RowPart) (table : ℕ) (key : List Val) (attempt : Attempt) → HeldAttempt attempt → (other : Option ℕ) (c : Checked Outcome)
      → RowLeaves c → RowLeaves (once_free d who table key attempt other c)
  row-once_free d table key attempt held None c is = is
  row-once_free d table key attempt held (Some holder) c is = after (RowMark strict) (refused_by (option_map Deadlock (ring d who holder))) _ (held, tt)

  row-changes : (d : RowPart) (shown : KeyShown) (table : ℕ) (key : List Val) (attempt : Attempt) → HeldAttempt attempt → (new_of : List Val → Checked (Option (List Val)))
      → ((row : List Val) → shown.row ≡ Some row → IfOk (new_of row) (λ new. strict ≡ true → IfSome new AreHeld)) → (o : Option (List Val)) → shown.row ≡ o
      → RowLeaves (changes d shown who table key attempt new_of o)
  row-changes d shown table key attempt held new_of holds None same = tt
  row-changes d shown table key attempt held new_of holds (Some row) same =
      row-once_free d table key attempt held (other_holder d.holder who table key) _ (after (RowMark strict) (is_seen shown) _ (of (new_of row) (holds row same)))
    where
      of : (c : Checked (Option (List Val))) → IfOk c (λ new. strict ≡ true → IfSome new AreHeld) → RowLeaves (c >>= (λ new. writes_key d who table key (Some row) new))
      of (Ok new) is = row-writes d table key (Some row) new (λ e. absurd (cc), is)
      of (Err refusal) is = tt

  -- what is attempted with a key that shows such a row
  pub row-attempts : (d : RowPart) (shown : KeyShown) (table : ℕ) (key : List Val) → (strict ≡ true → IfSome shown.row AreHeld) → (attempt : Attempt) → HeldAttempt attempt
      → RowLeaves (attempts d shown who table key attempt)
  row-attempts d shown table key shows (Insertion row) held =
      row-once_free d table key (Insertion row) held (other_holder d.holder who table key) _ (after (RowMark strict) _ _ (row-writes d table key None (Some row) (λ _. refl, λ _. held)))
  row-attempts d shown table key shows (Changes sets) held =
      row-changes d shown table key (Changes sets) held (λ row. some_row (with_sets (d.columns table) sets row)) (λ row same. sets-held row same) shown.row refl
    where
      sets-held : (row : List Val) → shown.row ≡ Some row → IfOk (some_row (with_sets (d.columns table) sets row)) (λ new. strict ≡ true → IfSome new AreHeld)
      sets-held row same = of strict refl
        where
          of : (b : Bool) → strict ≡ b → IfOk (some_row (with_sets (d.columns table) sets row)) (λ new. strict ≡ true → IfSome new AreHeld)
          of true is = given (with_sets (d.columns table) sets row) (with_sets-held (d.columns table) sets held row (subst (λ o. IfSome o AreHeld) same (shows is)))
            where
              given : (c : Checked (List Val)) → IfOk c AreHeld → IfOk (some_row c) (λ new. strict ≡ true → IfSome new AreHeld)
              given (Ok next) all = λ _. all
              given (Err refusal) all = tt
          of false isnt = any (with_sets (d.columns table) sets row)
            where
              any : (c : Checked (List Val)) → IfOk (some_row c) (λ new. strict ≡ true → IfSome new AreHeld)
              any (Ok next) = λ is. absurd (cc (sym is ∙ isnt))
              any (Err refusal) = tt
  row-attempts d shown table key shows Deletion held = row-changes d shown table key Deletion tt (λ row. Ok None) (λ row same _. tt) shown.row refl

  -- what keys show is held
  abbrev pub ShowsHeld : RowsShown → Type 0
  ShowsHeld shown = strict ≡ true → (w table : ℕ) (key : List Val) → IfSome (shown.key w table key).row AreHeld

  row-table : (columns : List Column) → All (IsOf kind.Column) columns → (name : List ℕ) → RowLeaves (refused_by (option_map (schema_refusal columns) (schema_fault columns)) >> does_marks Done (tabled (table_made name columns) ∷ []))
  row-table columns all name = of (schema_fault columns) refl
    where
      of : (o : Option SchemaFault) → schema_fault columns ≡ o → RowLeaves (refused_by (option_map (schema_refusal columns) o) >> does_marks Done (tabled (table_made name columns) ∷ []))
      of (Some fault) same = tt
      of None same =
          let s : IsSchema columns = is_schema columns same (All-weaker (IsOf kind.Column) (λ c. c.name ≢ []) (λ c is. named c.name is) columns all) in
          (record { named = s.named; apart = s.apart; words = All-weaker (IsOf kind.Column) (λ c. IsWord c.name) (λ c is. name-word c.name is) columns all }, tt)
        where
          named : (text : List ℕ) → is_name text ≡ true → text ≢ []
          named [] is e = cc
          named (b ∷ bs) is e = cc

  -- a statement that makes a table, writes or waits
  pub row-leaves : (d : RowPart) (shown : RowsShown) → ShowsHeld shown → (stmt : RowStmt) → are_plain (permit_of_row stmt).kinds ≡ false → IsRowInForm stmt → RowLeaves (row_form d shown who stmt)
  row-leaves d shown held (CreateTable name columns) e is =
      let made : RowLeaves (refused_by (option_map (schema_refusal columns) (schema_fault columns)) >> does_marks Done (tabled (table_made name columns) ∷ [])) = row-table columns is.1.1 name in
      search (after, made)
  row-leaves d shown held (Insert name row) e is =
      let tried : (table : ℕ) (key : List Val) → RowLeaves (attempts d (shown.key who table key) who table key (Insertion row))
      = λ table key. row-attempts d (shown.key who table key) table key (λ s. held s who table key) (Insertion row) (values-held row is.1.1) in
      search (checked, after, tried) depth 8
  row-leaves d shown held (Update name key sets) e is =
      let tried : (table : ℕ) → RowLeaves (attempts d (shown.key who table key) who table key (Changes sets))
      = λ table. row-attempts d (shown.key who table key) table key (λ s. held s who table key) (Changes sets) (are-changes sets is.2.1) in
      search (checked, after, tried) depth 8
  row-leaves d shown held (Delete name key) e is =
      let tried : (table : ℕ) → RowLeaves (attempts d (shown.key who table key) who table key Deletion)
      = λ table. row-attempts d (shown.key who table key) table key (λ s. held s who table key) Deletion tt in
      search (checked, after, tried) depth 8
  row-leaves d shown held _ e is = absurd (cc)
