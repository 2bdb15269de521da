use Rattle.std.proofs.Common.{◌≡◌, ℤ, subst, w64, to_z, of_z}
use Rattle.std.proofs.lemmas.Int.{to_z-of_z}
use Rattle.sky_model.specs.StepRetry.{maint_retry_events}
use Rattle.sky_model.specs.Outcome.{marks_of}
use Rattle.sky_model.specs.State.{Database, after_marks}
use Rattle.sky_state.specs.Seen.{seen}
use Rattle.pgq_queues.specs.Seen.{seen_with}
use Rattle.pgq_parts.specs.Views.{DbView}
use Rattle.pgq_parts.specs.Seen.{with_node, seen_database}
use Rattle.pgq_parts.proofs.Agreeing.{agree-back}
use Rattle.pgq_parts.proofs.RetrySteps.{brought-back}
use Rattle.pgq_db.proofs.db.Db.bring_back.Goals as goal

pub invariant_of-self-in_err-count : goal.invariant_of-self-in_err-count
invariant_of-self-in_err-count g c = λ e.
    agree-back (seen (g.R.RowStore.state c.self.inside.rows)) (seen (g.R.RowStore.state c.work_alone.new.rows)) c.in_ok-txid.txid c.self.inside.queues c.bring_back.new.self c.in_ok-txid.ensures.id c.in_ok-txid.ensures.marks c.bring_back.ensures.rest
    (c.self.invariant c.if-self.false)

pub invariant_of-self-2 : goal.invariant_of-self-2
invariant_of-self-2 g c = λ e.
    agree-back (seen (g.R.RowStore.state c.self.inside.rows)) (seen (g.R.RowStore.state c.work_alone.new.rows)) c.in_ok-txid.txid c.self.inside.queues c.bring_back.new.self c.in_ok-txid.ensures.id c.in_ok-txid.ensures.marks c.bring_back.ensures.rest
    (c.self.invariant c.if-self.false)

pub returns-clause-changed : goal.returns-clause-changed
returns-clause-changed g c =
    let left : Database = seen_with (with_node c.self.inside.node (seen (g.R.RowStore.state c.work_alone.new.rows))) c.bring_back.new.self in
    subst (λ (now : ℤ). left ≡ after_marks (seen_database c.args.self.now) (marks_of (maint_retry_events (seen_database c.args.self.now) now))) (to_z-of_z w64 c.args.now c.ranges.now)
    (subst (λ (v : DbView). left ≡ after_marks (seen_database v) (marks_of (maint_retry_events (seen_database v) (to_z w64 (of_z w64 c.args.now))))) c.self.view_is
    (brought-back (seen_with (with_node c.self.inside.node (seen (g.R.RowStore.state c.self.inside.rows))) c.self.inside.queues) left (seen (g.R.RowStore.state c.work_alone.new.rows)) (to_z w64 (of_z w64 c.args.now)) c.in_ok-txid.txid c.due_count.result
    c.in_ok-txid.ensures.id c.due_count.ensures c.if-due_count-eq0.false c.in_ok-txid.ensures.marks (c.in_ok-count.ensures.marks (with_node c.self.inside.node (seen (g.R.RowStore.state c.work_alone.new.rows))))))
