use Rattle.sky_world.proofs.Worlds.{answers-known}
use Rattle.sky_world.proofs.state.State.answer_known.Goals as goal

pub returns-clause-adds : goal.returns-clause-adds
returns-clause-adds g c = answers-known _ _ _ c.args.who _ _ c.requires.known c.in_ok-run.ensures
