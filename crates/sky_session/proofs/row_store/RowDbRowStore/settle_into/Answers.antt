use Rattle.std.proofs.Common.{subst}
use Rattle.sky_model.specs.Settling.{settling}
use Rattle.sky_model.specs.Reader.{part_by_itself}
use Rattle.sky_model.specs.Gates.{by_gate}
use Rattle.sky_model.specs.Rooms.{room_of}
use Rattle.sky_model.specs.RowCalls.{row_settled}
use Rattle.sky_histories.proofs.RowCallStanding.{gated_settle_from_exact}
use Rattle.sky_row_store.specs.Gives.{Settles}
use Rattle.sky_state.specs.Views.{RowStateView}
use Rattle.sky_state.specs.Seen.{seen}
use Rattle.sky_session.proofs.row_store.RowDbRowStore.settle_into.Goals as goal

pub returns : goal.returns
returns g c =
    let gate = g.G.WriteGate.rule in
    let e = c.in_ok-settle_behind.ensures in
    subst (λ (v : RowStateView). Settles gate (seen v, c.args.gate.now) (seen c.settle_behind.new.state, c.settle_behind.new.gate) c.args.step.now c.settle_behind.new.step (row_settled (room_of gate c.args.gate.now)) (settling (by_gate gate part_by_itself) (seen v, c.args.gate.now))) c.self.view_is
    (record { exact = e.adds; rests = e.rests; steps = gated_settle_from_exact gate (seen c.self.inside.state) (seen c.settle_behind.new.state) c.args.gate.now e.adds.changed })
