-- The switches of event tables that a `commit` makes come first, and it does all else as it does after them.
use Rattle.std.proofs.Common.{◌≡◌, ◌≢◌, ℕ, ℤ, List, [], ◌∷◌, ◌++◌, Option, Some, None, Ok, Err, append_assoc, refl, sym, ◌∙◌, ap, if◌then◌else◌}
use Rattle.sky_keys.specs.Waits.{is_waiting}
use Rattle.sky_model.specs.declared.stmt.RowStmt.{RowStmt}
use Rattle.sky_model.specs.declared.stmt.RowStmt.TheVariants.{Commit}
use Rattle.sky_model.specs.declared.stmt.DbStmt.TheVariants.{Row}
use Rattle.sky_model.specs.declared.stmt.Where.TheVariants.{WhenOpen}
use Rattle.sky_model.specs.Allowed.{where_of_row, allowed}
use Rattle.sky_model.specs.ShownRows.{rows_by}
use Rattle.sky_model.specs.Calls.{row_form, row_making, making, row_statement, row_turn, statement, database_turn}
use Rattle.sky_model.specs.History.{Mark, queued, switched}
use Rattle.sky_model.specs.Made.{runs_if, made_by}
use Rattle.sky_model.specs.Outcome.{Outcome, Checked, ◌>>◌, after_marks_of, or_refused}
use Rattle.sky_model.specs.Queues.{NamedQueue, is_pending}
use Rattle.sky_model.specs.Reader.{PartReader, database_by_itself, within_part}
use Rattle.sky_model.specs.Sessions.{Block, outside, inside, failed, Session}
use Rattle.sky_model.specs.Settling.{Turn, turn_of, behind_marks, settling, with_settling}
use Rattle.sky_model.specs.State.{RowPart, Database, after_mark, after_marks}
use Rattle.sky_model.specs.StepRotation.{switches_by, switches_of, committed_by}
use Rattle.sky_model.specs.StepSession.{commit}
use Rattle.sky_model.specs.Telling.{tells}
use Rattle.sky_model.proofs.Cases.{by_test}
use Rattle.sky_histories.proofs.DatabaseStanding.{after_marks-append, behind-all}
use Rattle.sky_histories.proofs.StatementMarks.{SwitchesNone, none-first}
use Rattle.sky_model.specs.declared.reply.Reply.{Reply}
use Rattle.pgq_parts.specs.Gives.{Adds}
use Rattle.sky_row_store.specs.Committing.{commits_of, committed_in}
use Rattle.pgq_parts.specs.Switches.{switches_before_commit}

-- ---- they change queues alone

part-by : (d e : Database) (now : ℤ) (t : ℕ) (queues : List NamedQueue) → (after_marks e (switches_by d now t queues)).part ≡ e.part
part-by d e now t [] = refl
part-by d e now t (q ∷ queues) =
    by_test (λ b. (after_marks e (if b then queued (switched q.number now) ∷ switches_by d now t queues else switches_by d now t queues)).part ≡ e.part)
    (is_pending t (d.queue q.number).event_tables) (λ _. part-by d (after_mark e (queued (switched q.number now))) now t queues) (λ _. part-by d e now t queues)

part-of : (d : Database) (now : ℤ) (txid : Option ℕ) → (after_marks d (switches_of d now txid)).part ≡ d.part
part-of d now None = refl
part-of d now (Some t) = part-by d d now t d.queues

-- ---- a statement after them

-- marks come before those of an outcome, and before those of a turn
abbrev with_first : List Mark → Outcome → Outcome
with_first marks outcome = record outcome { marks = marks ++ outcome.marks }

abbrev pub turn_after : List Mark → Turn → Turn
turn_after marks turn = record turn { marks = marks ++ turn.marks }

commit-does : (d e : Database) (now : ℤ) (who : ℕ) (s : Session) (txid : Option ℕ) (b : Block)
    → or_refused who s (after_marks_of (switches_of d now (committed_by b txid)) (tells d now (commit who txid b)))
    ≡ with_first (switches_of d now (committed_by b txid)) (or_refused who s (tells e now (commit who txid b)))
commit-does d e now who s txid outside = refl
commit-does d e now who s None inside = refl
commit-does d e now who s (Some t) inside = refl
commit-does d e now who s None failed = refl
commit-does d e now who s (Some t) failed = refl

module _ (d : Database) (now : ℤ) (who : ℕ) where
  abbrev reads : PartReader Database
  reads = within_part database_by_itself now

  -- the switches, whether the `commit` is allowed or not
  abbrev switches_if : Checked (Unit {0}) → List Mark
  switches_if may = switches_of d now (committed_in (may >> Ok (committed_by (d.part.session who).block (d.part.session who).txid)))

  commit-runs : (may : Checked (Unit {0})) → runs_if (making database_by_itself now who (Row Commit)) WhenOpen who d may
      ≡ with_first (switches_if may) (runs_if (row_making reads who Commit) WhenOpen who (after_marks d (switches_if may)) may)
  commit-runs (Err refusal) = refl
  commit-runs (Ok _) =
      let e : Database = after_marks d (switches_if (Ok tt)) in
      commit-does d e now who (d.part.session who) (d.part.session who).txid (d.part.session who).block
      ∙ ap (λ (x : RowPart). with_first (switches_if (Ok tt)) (or_refused who (x.session who) (tells e now (commit who (x.session who).txid (x.session who).block))))
      (sym (part-of d now (committed_by (d.part.session who).block (d.part.session who).txid)))

  abbrev may_commit : RowPart → Checked (Unit {0})
  may_commit p = allowed (is_waiting who p.waiting) (p.session who).is_open (p.session who).block WhenOpen

  commit-statement : statement database_by_itself d now who (Row Commit)
      ≡ with_first (switches_before_commit d now who) (row_statement reads (after_marks d (switches_before_commit d now who)) who Commit)
  commit-statement =
      let e : Database = after_marks d (switches_before_commit d now who) in
      commit-runs (may_commit d.part)
      ∙ ap (λ (x : RowPart). with_first (switches_before_commit d now who) (runs_if (row_making reads who Commit) WhenOpen who e (may_commit x)))
      (sym (part-of d now (committed_in (commits_of d.part who))))

  -- with those that it unblocks
  then-first : (first : List Mark) (o : Outcome) → with_settling reads d (turn_of who (with_first first o)) ≡ turn_after first (with_settling reads (after_marks d first) (turn_of who o))
  then-first first o =
      ap (λ (x : Database). record { answers = (who, o.reply) ∷ (settling reads x).answers; marks = (first ++ o.marks) ++ (settling reads x).marks }) there
      ∙ (λ i. record {
        answers = (who, o.reply) ∷ (settling reads behind).answers;
        marks = append_assoc first o.marks (settling reads behind).marks i;
      })
    where
      behind : Database
      behind = behind_marks reads (after_marks d first) o.marks

      there : behind_marks reads d (first ++ o.marks) ≡ behind
      there = behind-all now d (first ++ o.marks) ∙ after_marks-append d first o.marks ∙ sym (behind-all now (after_marks d first) o.marks)

  -- a `commit`, in a whole database
  turn-first : database_turn database_by_itself d now who (Row Commit)
      ≡ turn_after (switches_before_commit d now who) (row_turn reads (after_marks d (switches_before_commit d now who)) who Commit)
  turn-first =
      ap (λ o. with_settling reads d (turn_of who o)) commit-statement
      ∙ then-first (switches_before_commit d now who) (row_statement reads (after_marks d (switches_before_commit d now who)) who Commit)

  other-statement : (stmt : RowStmt) → SwitchesNone stmt → statement database_by_itself d now who (Row stmt) ≡ row_statement reads d who stmt
  other-statement stmt none =
      ap (λ outcome. made_by (record (row_making reads who stmt) { outcome = outcome }) (where_of_row stmt) who d)
      (λ i e. none-first e now who stmt (tells e now (row_form e.part (rows_by e.part) who stmt)) none i)

  -- any other statement
  pub turn-other : (stmt : RowStmt) → stmt ≢ Commit → database_turn database_by_itself d now who (Row stmt) ≡ row_turn reads d who stmt
  turn-other Commit other = absurd (other refl)
  turn-other stmt other = ap (λ o. with_settling reads d (turn_of who o)) (other-statement stmt (λ d now who. refl))

module _ (d mid : Database) (now : ℤ) (who : ℕ) (first : mid ≡ after_marks d (switches_before_commit d now who)) where
  -- what a `commit` answers, once the switches are made
  pub answers-first : (database_turn database_by_itself d now who (Row Commit)).answers ≡ (row_turn (within_part database_by_itself now) mid who Commit).answers
  answers-first = ap Turn.answers (turn-first d now who) ∙ ap (λ x. (row_turn (within_part database_by_itself now) x who Commit).answers) (sym first)

  -- and what it adds
  pub adds-first : (new : Database) (before after : List (ℕ × Reply)) → Adds mid new before after (row_turn (within_part database_by_itself now) mid who Commit)
      → Adds d new before after (database_turn database_by_itself d now who (Row Commit))
  adds-first new before after adds = record {
    replied = adds.replied ∙ ap (λ answers. before ++ answers) (sym answers-first);
    changed = adds.changed
        ∙ ap (λ x. after_marks x (row_turn (within_part database_by_itself now) x who Commit).marks) first
        ∙ sym (after_marks-append d (switches_before_commit d now who) (row_turn (within_part database_by_itself now) (after_marks d (switches_before_commit d now who)) who Commit).marks)
        ∙ ap (λ (t : Turn). after_marks d t.marks) (sym (turn-first d now who));
  }
