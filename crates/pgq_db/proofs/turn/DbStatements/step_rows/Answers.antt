use Rattle.std.proofs.Common.{ℤ, sym, subst, w64}
use Rattle.std.proofs.lemmas.Int.{to_z-of_z}
use Rattle.sky_model.specs.declared.stmt.RowStmt.{RowStmt}
use Rattle.sky_model.specs.declared.stmt.RowStmt.TheVariants.{Commit}
use Rattle.sky_model.specs.declared.stmt.DbStmt.TheVariants.{Row}
use Rattle.sky_model.specs.Calls.{database_turn, row_turn}
use Rattle.sky_model.specs.Printed.{HaveMoments}
use Rattle.sky_model.specs.Reader.{database_by_itself, within_part}
use Rattle.sky_model.specs.Settling.{Turn}
use Rattle.sky_model.specs.State.{Database}
use Rattle.pgq_parts.specs.Seen.{seen_database}
use Rattle.pgq_parts.specs.Gives.{Adds}
use Rattle.pgq_parts.proofs.Results.{on-ok}
use Rattle.pgq_parts.proofs.Switched.{turn-other}
use Rattle.pgq_db.proofs.turn.DbStatements.step_rows.Goals as goal

pub returns-in-Commit-clause-adds : goal.returns-in-Commit-clause-adds
returns-in-Commit-clause-adds g c =
    let d : Database = seen_database c.args.self.now in
    on-ok c.step_commit.result c.step_commit.ensures.adds (λ adds.
    subst (λ (stmt : RowStmt). Adds d (seen_database c.step_commit.new.self) c.args.replies.now c.step_commit.new.replies (database_turn database_by_itself d c.args.now c.args.who (Row stmt))) (sym c.in-Commit.is)
    (rw (to_z-of_z w64 c.args.now c.ranges.now) at adds))

pub returns-in-Commit-clause-moments : goal.returns-in-Commit-clause-moments
returns-in-Commit-clause-moments g c =
    let d : Database = seen_database c.args.self.now in
    on-ok c.step_commit.result c.step_commit.ensures.moments (λ moments.
    subst (λ (stmt : RowStmt). HaveMoments (database_turn database_by_itself d c.args.now c.args.who (Row stmt)).answers) (sym c.in-Commit.is)
    (subst (λ (now : ℤ). HaveMoments (database_turn database_by_itself d now c.args.who (Row Commit)).answers) (to_z-of_z w64 c.args.now c.ranges.now) moments))

pub returns-in_default-clause-adds : goal.returns-in_default-clause-adds
returns-in_default-clause-adds g c =
    let d : Database = seen_database c.args.self.now in
    on-ok c.run_rows.result c.run_rows.ensures.adds (λ adds.
    subst (Adds d (seen_database c.run_rows.new.self) c.args.replies.now c.run_rows.new.replies) (sym (turn-other d c.args.now c.args.who c.args.stmt.now c.in_default.not-Commit))
    (rw (to_z-of_z w64 c.args.now c.ranges.now) at adds))

pub returns-in_default-clause-moments : goal.returns-in_default-clause-moments
returns-in_default-clause-moments g c =
    let d : Database = seen_database c.args.self.now in
    on-ok c.run_rows.result c.run_rows.ensures.moments (λ moments.
    subst (λ (t : Turn). HaveMoments t.answers) (sym (turn-other d c.args.now c.args.who c.args.stmt.now c.in_default.not-Commit))
    (subst (λ (now : ℤ). HaveMoments (row_turn (within_part database_by_itself now) d c.args.who c.args.stmt.now).answers) (to_z-of_z w64 c.args.now c.ranges.now) moments))
