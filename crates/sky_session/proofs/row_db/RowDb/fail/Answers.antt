-- The same as with a gate that always has room.
use Rattle.sky_model.specs.SessionMarks.{failing}
use Rattle.sky_model.specs.Rooms.{any_room}
use Rattle.sky_model.specs.RowCalls.{row_failed}
use Rattle.sky_histories.proofs.GatedLemmas.{open-with_settling}
use Rattle.sky_state.specs.Seen.{seen}
use Rattle.sky_session.proofs.Steps.{gives-all}
use Rattle.sky_session.proofs.row_db.RowDb.fail.Goals as goal

pub returns : goal.returns
returns c =
    let d = seen c.args.self.now in
    gives-all d (seen c.fail_into.new.self) c.whole-step.result c.fail_into.new.step (row_failed any_room c.args.who) _ _ c.whole-step.ensures (open-with_settling d (failing d c.args.who)) c.in_ok-fail_into.ensures
