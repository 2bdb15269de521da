use Rattle.std.proofs.Common.{ℕ, ℤ, Option, Some, ◌∙◌, sym, ap, w64}
use Rattle.std.proofs.lemmas.Int.{to_z-of_z}
use Rattle.sky_model.specs.State.{after_marks}
use Rattle.sky_model.specs.StepRotation.{switches_of}
use Rattle.sky_state.specs.Seen.{seen}
use Rattle.sky_row_store.specs.Committing.{committed_in}
use Rattle.pgq_queues.specs.Seen.{seen_with}
use Rattle.pgq_parts.specs.Seen.{with_node}
use Rattle.pgq_parts.proofs.rotation.switch_before_commit.Goals as goal

pub returns-in-Some-clause-marks : goal.returns-in-Some-clause-marks
returns-in-Some-clause-marks g c = λ node.
    let d = seen_with (with_node node (seen (g.R.RowStore.state c.args.rows.now))) c.args.queues.now in
    c.switch_tables.ensures.marks (with_node node (seen (g.R.RowStore.state c.args.rows.now)))
    ∙ ap (λ (now : ℤ). after_marks d (switches_of d now (Some c.in-Some.txid))) (to_z-of_z w64 c.args.now c.ranges.now)
    ∙ ap (λ (txid : Option ℕ). after_marks d (switches_of d c.args.now txid)) (sym c.in-Some.is ∙ c.committed.ensures ∙ ap committed_in c.check_commit-checked.ensures)
