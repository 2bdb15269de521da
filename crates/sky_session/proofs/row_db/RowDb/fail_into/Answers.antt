-- A rollback, and then the statements that it unblocks.
use Rattle.std.proofs.Common.{refl, subst}
use Rattle.sky_model.specs.SessionMarks.{failing}
use Rattle.sky_model.specs.Settling.{with_settling}
use Rattle.sky_model.specs.Reader.{part_by_itself}
use Rattle.sky_model.specs.Gates.{by_gate}
use Rattle.sky_model.specs.Rooms.{room_of}
use Rattle.sky_model.specs.RowCalls.{row_failed}
use Rattle.sky_histories.proofs.RowCallStanding.{gated_fail_from_exact}
use Rattle.sky_row_store.specs.declared.row_step.RowStep.{RowStep}
use Rattle.sky_row_store.specs.Gives.{Adds, Settles}
use Rattle.sky_state.specs.Views.{RowStateView}
use Rattle.sky_state.specs.Seen.{seen}
use Rattle.sky_session.proofs.Steps.{adds-failing, adds-settled}
use Rattle.sky_session.proofs.row_db.RowDb.fail_into.Goals as goal

pub returns : goal.returns
returns g c =
    let gate = g.G.WriteGate.rule in
    let d = seen c.self.inside.state in
    let mid = seen c.abort_block.new.state in
    let middle : RowStep = record { replies = c.args.step.now.replies; effects = c.abort_block.new.effects } in
    let exact : Adds gate (d, c.args.gate.now) (seen c.settle_behind.new.state, c.settle_behind.new.gate) c.args.step.now c.settle_behind.new.step (with_settling (by_gate gate part_by_itself) (d, c.args.gate.now) (failing d c.args.who)) =
    adds-settled gate (d, c.args.gate.now) (mid, c.abort_block.new.gate) (seen c.settle_behind.new.state, c.settle_behind.new.gate) c.args.step.now middle c.settle_behind.new.step (failing d c.args.who)
    (adds-failing gate (d, c.args.gate.now) (mid, c.abort_block.new.gate) c.args.step.now middle c.args.who refl c.in_ok-abort_block.ensures.told c.in_ok-abort_block.ensures.marks c.in_ok-abort_block.ensures.passed) c.in_ok-settle_behind.ensures.adds in
    subst (λ (v : RowStateView). Settles gate (seen v, c.args.gate.now) (seen c.settle_behind.new.state, c.settle_behind.new.gate) c.args.step.now c.settle_behind.new.step (row_failed (room_of gate c.args.gate.now) c.args.who)
    (with_settling (by_gate gate part_by_itself) (seen v, c.args.gate.now) (failing (seen v) c.args.who))) c.self.view_is
    (record { exact = exact; rests = c.in_ok-settle_behind.ensures.rests; steps = gated_fail_from_exact gate d (seen c.settle_behind.new.state) c.args.gate.now c.args.who exact.changed })
