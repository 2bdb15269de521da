use Rattle.std.proofs.Common.{rules, ◌≡◌, subst}
use Rattle.sky_model.specs.Outcome.{marks_of}
use Rattle.sky_model.specs.State.{RowPart, Database, after_marks}
use Rattle.sky_model.specs.StepRotation.{maint_rotate_step2}
use Rattle.sky_state.specs.Seen.{seen}
use Rattle.pgq_queues.specs.Seen.{seen_with}
use Rattle.pgq_parts.specs.Views.{DbView}
use Rattle.pgq_parts.specs.Seen.{with_node, seen_database}
use Rattle.pgq_parts.proofs.Agreeing.{agree-worked}
use Rattle.pgq_parts.proofs.RotationSteps.{steps-made}
use Rattle.pgq_db.proofs.db.Db.end_switches.Goals as goal

pub invariant_of-self-2 : goal.invariant_of-self-2
invariant_of-self-2 g c = λ e.
    agree-worked (seen (g.R.RowStore.state c.self.inside.rows)) (seen (g.R.RowStore.state c.work_alone.new.rows)) c.in_ok-txid.txid c.self.inside.queues c.end_switches.new.self c.in_ok-txid.ensures.marks c.end_switches.ensures.rest (c.self.invariant e)

pub returns-clause-changed : goal.returns-clause-changed
returns-clause-changed g c =
    let p : RowPart = seen (g.R.RowStore.state c.self.inside.rows) in
    let after : RowPart = seen (g.R.RowStore.state c.work_alone.new.rows) in
    let d : Database = seen_with (with_node c.self.inside.node p) c.self.inside.queues in
    let left : Database = seen_with (with_node c.self.inside.node after) c.end_switches.new.self in
    subst (λ (v : DbView). left ≡ after_marks (seen_database v) (marks_of (maint_rotate_step2 (seen_database v)))) c.self.view_is
    (steps-made d c.unfinished-count.result (c.unfinished-count.ensures (with_node c.self.inside.node p)) left after c.in_ok-txid.txid c.if-count-eq0.false c.in_ok-txid.ensures.id c.in_ok-txid.ensures.marks (c.end_switches.ensures.marks (with_node c.self.inside.node after)))

pub returns-then-count-eq0-clause-count : goal.returns-then-count-eq0-clause-count
returns-then-count-eq0-clause-count g c =
    let count = c.unfinished-count.ensures (with_node c.self.inside.node (seen (g.R.RowStore.state c.self.inside.rows))) in
    search (rules, count)

pub returns-then-count-eq0-clause-changed : goal.returns-then-count-eq0-clause-changed
returns-then-count-eq0-clause-changed g c =
    let count = c.unfinished-count.ensures (with_node c.self.inside.node (seen (g.R.RowStore.state c.self.inside.rows))) in
    search (rules, count)

pub returns-in_err-txid-clause-stops : goal.returns-in_err-txid-clause-stops
returns-in_err-txid-clause-stops g c =
    let count = c.unfinished-count.ensures (with_node c.self.inside.node (seen (g.R.RowStore.state c.self.inside.rows))) in
    search (rules, count)

pub returns-clause-count : goal.returns-clause-count
returns-clause-count g c =
    let count = c.unfinished-count.ensures (with_node c.self.inside.node (seen (g.R.RowStore.state c.self.inside.rows))) in
    search (rules, count)
