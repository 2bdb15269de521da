use Rattle.sky_world.proofs.Outside.{refused-stays, refused-aborts}
use Rattle.sky_world.proofs.state.State.refuse.Goals as goal

pub returns-in_ok-abort_block : goal.returns-in_ok-abort_block
returns-in_ok-abort_block g c =
    refused-aborts _ _ c.args.database c.args.who c.args.refusal _ _ _ _ c.requires.who c.aborts-aborts.ensures c.if-aborts.true c.in_ok-push.ensures.ok c.in_ok-abort_block.ensures

pub returns-else-aborts : goal.returns-else-aborts
returns-else-aborts g c = refused-stays _ c.args.database c.args.who c.args.refusal _ _ _ c.requires.whole c.requires.who c.aborts-aborts.ensures c.if-aborts.false c.in_ok-push.ensures.ok
