-- The same as with a gate that always has room.
use Rattle.sky_model.specs.Rooms.{any_room}
use Rattle.sky_model.specs.RowCalls.{row_stepped}
use Rattle.sky_histories.proofs.GatedLemmas.{open-turn}
use Rattle.sky_state.specs.Seen.{seen}
use Rattle.sky_session.proofs.Steps.{gives-all}
use Rattle.sky_session.proofs.row_db.RowDb.step.Goals as goal

pub returns : goal.returns
returns c =
    let d = seen c.args.self.now in
    gives-all d (seen c.step_into.new.self) c.whole-step.result c.step_into.new.step (row_stepped any_room c.args.who c.args.stmt.now) _ _ c.whole-step.ensures (open-turn d c.args.who c.args.stmt.now) c.in_ok-step_into.ensures
