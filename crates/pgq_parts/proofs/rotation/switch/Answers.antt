use Rattle.std.proofs.Common.{ℤ, [], Bool, ◌∙◌, sym, ap, if◌then◌else◌, w64}
use Rattle.std.proofs.lemmas.Int.{to_z-of_z}
use Rattle.sky_model.specs.History.{queued, switched}
use Rattle.sky_model.specs.Sessions.{outside, inside}
use Rattle.sky_model.specs.State.{part_of, after_mark, after_marks}
use Rattle.sky_model.specs.StepRotation.{switch_of}
use Rattle.pgq_queues.specs.Seen.{seen_with}
use Rattle.pgq_parts.specs.Seen.{with_node, no_node}
use Rattle.pgq_parts.proofs.RotationSteps.{now-pending}
use Rattle.pgq_parts.proofs.rotation.switch.Goals as goal

pub commit_switch-requires-clause-pending : goal.commit_switch-requires-clause-pending
commit_switch-requires-clause-pending c =
    now-pending (seen_with (with_node no_node (part_of [])) c.args.queues.now) (seen_with (with_node no_node (part_of [])) c.begin_switch.new.self) c.args.queue c.args.txid (c.begin_switch.ensures.mark (with_node no_node (part_of [])))

pub returns-then-is_alone-clause-marks : goal.returns-then-is_alone-clause-marks
returns-then-is_alone-clause-marks c = λ beside.
    let d = seen_with beside c.args.queues.now in
    c.commit_switch.ensures.mark beside
    ∙ ap (λ (now : ℤ). after_mark (seen_with beside c.begin_switch.new.self) (queued (switched c.args.queue now))) (to_z-of_z w64 c.args.now c.ranges.now)
    ∙ ap (λ x. after_mark x (queued (switched c.args.queue c.args.now))) (c.begin_switch.ensures.mark beside)
    ∙ ap (λ (alone : Bool). after_marks d (switch_of c.args.queue c.args.txid c.args.now (if alone then outside else inside))) (sym c.if-is_alone.true)

pub returns-else-is_alone-clause-marks : goal.returns-else-is_alone-clause-marks
returns-else-is_alone-clause-marks c = λ beside.
    c.begin_switch.ensures.mark beside
    ∙ ap (λ (alone : Bool). after_marks (seen_with beside c.args.queues.now) (switch_of c.args.queue c.args.txid c.args.now (if alone then outside else inside))) (sym c.if-is_alone.false)
