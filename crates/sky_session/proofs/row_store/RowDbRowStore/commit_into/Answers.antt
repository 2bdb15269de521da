-- The turn of the `commit`, and then the statements that it unblocks.
use Rattle.std.proofs.Common.{subst}
use Rattle.sky_model.specs.declared.stmt.RowStmt.TheVariants.{Commit}
use Rattle.sky_model.specs.Settling.{turn_of}
use Rattle.sky_model.specs.Reader.{part_by_itself}
use Rattle.sky_model.specs.Gates.{by_gate}
use Rattle.sky_model.specs.Rooms.{room_of}
use Rattle.sky_model.specs.RowCalls.{row_stepped}
use Rattle.sky_model.specs.Calls.{row_statement, row_turn}
use Rattle.sky_histories.proofs.RowCallStanding.{gated_step_from_exact}
use Rattle.sky_row_store.specs.Gives.{Adds, Settles}
use Rattle.sky_state.specs.Views.{RowStateView}
use Rattle.sky_state.specs.Seen.{seen}
use Rattle.sky_session.proofs.Steps.{adds-settled}
use Rattle.sky_session.proofs.row_store.RowDbRowStore.commit_into.Goals as goal

pub returns : goal.returns
returns g c =
    let gate = g.G.WriteGate.rule in
    let d = seen c.self.inside.state in
    let outcome = row_statement (by_gate gate part_by_itself) (d, c.args.gate.now) c.args.who Commit in
    let turn = row_turn (by_gate gate part_by_itself) (d, c.args.gate.now) c.args.who Commit in
    let exact : Adds gate (d, c.args.gate.now) (seen c.settle_behind.new.state, c.settle_behind.new.gate) c.args.step.now c.settle_behind.new.step turn =
    adds-settled gate (d, c.args.gate.now) (seen c.commit_answer.new.state, c.commit_answer.new.gate) (seen c.settle_behind.new.state, c.settle_behind.new.gate) c.args.step.now c.commit_answer.new.step c.settle_behind.new.step (turn_of c.args.who outcome)
    c.in_ok-commit_answer.ensures c.in_ok-settle_behind.ensures.adds in
    subst (λ (v : RowStateView). Settles gate (seen v, c.args.gate.now) (seen c.settle_behind.new.state, c.settle_behind.new.gate) c.args.step.now c.settle_behind.new.step (row_stepped (room_of gate c.args.gate.now) c.args.who Commit)
    (row_turn (by_gate gate part_by_itself) (seen v, c.args.gate.now) c.args.who Commit)) c.self.view_is
    (record { exact = exact; rests = c.in_ok-settle_behind.ensures.rests; steps = gated_step_from_exact gate d (seen c.settle_behind.new.state) c.args.gate.now c.args.who Commit exact.changed })
