use Rattle.std.proofs.Common.{◌≡◌, ℤ, None, sym, ◌∙◌, ap, subst, w64}
use Rattle.std.proofs.lemmas.Int.{to_z-of_z}
use Rattle.sky_model.specs.Outcome.{marks_of}
use Rattle.sky_model.specs.Sessions.{outside}
use Rattle.sky_model.specs.State.{RowPart, Database, after_marks}
use Rattle.sky_model.specs.StepRotation.{held_back, switch_of, rotates_by_itself}
use Rattle.sky_state.specs.Seen.{seen}
use Rattle.pgq_queues.specs.Seen.{seen_with, queue_at}
use Rattle.pgq_parts.specs.Views.{DbView}
use Rattle.pgq_parts.specs.Seen.{with_node, seen_database}
use Rattle.pgq_parts.proofs.Agreeing.{agree-worked}
use Rattle.pgq_parts.proofs.RotationSteps.{absent, switched-alone}
use Rattle.pgq_db.proofs.db.Db.rotate_alone.Goals as goal

pub invariant_of-self-2 : goal.invariant_of-self-2
invariant_of-self-2 g c = λ e.
    agree-worked (seen (g.R.RowStore.state c.self.inside.rows)) (seen (g.R.RowStore.state c.work_alone.new.rows)) c.in_ok-txid.txid c.self.inside.queues c.switch.new.queues c.in_ok-txid.ensures.marks c.switch.ensures.rest (c.self.invariant e)

pub returns-clause-changed : goal.returns-clause-changed
returns-clause-changed g c =
    let p : RowPart = seen (g.R.RowStore.state c.self.inside.rows) in
    let after : RowPart = seen (g.R.RowStore.state c.work_alone.new.rows) in
    let d : Database = seen_with (with_node c.self.inside.node p) c.self.inside.queues in
    let left : Database = seen_with (with_node c.self.inside.node after) c.switch.new.queues in
    let none : None ≡ held_back c.args.now (d.queue c.args.queue) =
    absent _ (sym c.is_held_back.ensures ∙ c.if-is_held_back.false) ∙ ap (λ (now : ℤ). held_back now (queue_at c.self.inside.queues c.args.queue)) (to_z-of_z w64 c.args.now c.ranges.now) in
    subst (λ (v : DbView). left ≡ after_marks (seen_database v) (marks_of (rotates_by_itself (seen_database v) c.args.now c.args.queue))) c.self.view_is
    (switched-alone d left after c.args.now c.args.queue c.in_ok-txid.txid none c.in_ok-txid.ensures.id c.in_ok-txid.ensures.marks
    (c.switch.ensures.marks (with_node c.self.inside.node after) ∙ ap (λ (now : ℤ). after_marks (seen_with (with_node c.self.inside.node after) c.self.inside.queues) (switch_of c.args.queue c.in_ok-txid.txid now outside)) (to_z-of_z w64 c.args.now c.ranges.now)))
