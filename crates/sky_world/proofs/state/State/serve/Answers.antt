use Rattle.sky_model.specs.WorkersOfWorld.{node_form}
use Rattle.sky_world.specs.Seen.{seen_state}
use Rattle.sky_world.proofs.ServedNodes.{form-done}
use Rattle.sky_world.proofs.state.State.serve.Goals as goal

pub returns-in_ok-answer_all-in-Ok : goal.returns-in_ok-answer_all-in-Ok
returns-in_ok-answer_all-in-Ok g c =
    form-done c.args.self.now c.run_form.new.self c.args.who c.in-Ok.given.items (node_form (seen_state g.D.Store.seen c.args.self.now) c.args.database c.args.stmt.now) c.args.replies.now c.answer_all.new.replies c.requires.who c.in-Ok.ensures.ok
    c.in_ok-answer_all-in-Ok.ensures
