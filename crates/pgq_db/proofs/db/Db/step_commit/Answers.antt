use Rattle.std.proofs.Common.{◌≡◌, ℤ, ap, ◌∙◌, subst, to_z, of_z, w64}
use Rattle.std.proofs.lemmas.Int.{to_z-of_z}
use Rattle.sky_model.specs.declared.stmt.RowStmt.TheVariants.{Commit}
use Rattle.sky_model.specs.Calls.{row_turn}
use Rattle.sky_model.specs.Printed.{HaveMoments}
use Rattle.sky_model.specs.Reader.{database_by_itself, within_part}
use Rattle.sky_model.specs.State.{Database, after_marks}
use Rattle.sky_state.specs.Seen.{seen}
use Rattle.pgq_queues.specs.Seen.{seen_with}
use Rattle.pgq_parts.specs.Views.{DbView}
use Rattle.pgq_parts.specs.Seen.{with_node, seen_database}
use Rattle.pgq_parts.specs.Switches.{switches_before_commit}
use Rattle.pgq_parts.proofs.Agreeing.{agree-stay}
use Rattle.pgq_parts.proofs.Moments.{same-moments}
use Rattle.pgq_parts.proofs.Results.{on-ok}
use Rattle.pgq_parts.proofs.Switched.{answers-first, adds-first}
use Rattle.pgq_db.proofs.db.Db.step_commit.Goals as goal

pub invariant_of-self : goal.invariant_of-self
invariant_of-self g c = λ e. agree-stay (seen (g.R.RowStore.state c.self.inside.rows)) c.self.inside.queues c.switch_before_commit-checked.new.queues c.switch_before_commit-checked.ensures.rest (c.self.invariant e)

pub returns-clause-adds : goal.returns-clause-adds
returns-clause-adds g c =
    let d : Database = seen_database c.args.self.now in
    let mid : Database = seen_with (with_node c.self.inside.node (seen (g.R.RowStore.state c.self.inside.rows))) c.switch_before_commit-checked.new.queues in
    let first : mid ≡ after_marks d (switches_before_commit d c.args.now c.args.who) =
    c.switch_before_commit-checked.ensures.marks c.self.inside.node
    ∙ ap (λ (v : DbView). after_marks (seen_database v) (switches_before_commit (seen_database v) (to_z w64 (of_z w64 c.args.now)) c.args.who)) c.self.view_is
    ∙ ap (λ (now : ℤ). after_marks d (switches_before_commit d now c.args.who)) (to_z-of_z w64 c.args.now c.ranges.now) in
    on-ok c.run_rows.result c.run_rows.ensures.adds (λ adds.
    adds-first d mid c.args.now c.args.who first _ c.args.replies.now _ (rw (to_z-of_z w64 c.args.now c.ranges.now) at adds))

pub returns-clause-moments : goal.returns-clause-moments
returns-clause-moments g c =
    let d : Database = seen_database c.args.self.now in
    let mid : Database = seen_with (with_node c.self.inside.node (seen (g.R.RowStore.state c.self.inside.rows))) c.switch_before_commit-checked.new.queues in
    let first : mid ≡ after_marks d (switches_before_commit d c.args.now c.args.who) =
    c.switch_before_commit-checked.ensures.marks c.self.inside.node
    ∙ ap (λ (v : DbView). after_marks (seen_database v) (switches_before_commit (seen_database v) (to_z w64 (of_z w64 c.args.now)) c.args.who)) c.self.view_is
    ∙ ap (λ (now : ℤ). after_marks d (switches_before_commit d now c.args.who)) (to_z-of_z w64 c.args.now c.ranges.now) in
    on-ok c.run_rows.result c.run_rows.ensures.moments (λ moments.
    same-moments _ _ (answers-first d mid c.args.now c.args.who first)
    (subst (λ (now : ℤ). HaveMoments (row_turn (within_part database_by_itself now) mid c.args.who Commit).answers) (to_z-of_z w64 c.args.now c.ranges.now) moments))
