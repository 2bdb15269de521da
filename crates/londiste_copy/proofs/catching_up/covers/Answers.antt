use Rattle.londiste_copy.proofs.CatchingUp.{covers-is}
use Rattle.londiste_copy.proofs.catching_up.covers.Goals as goal

pub returns : goal.returns
returns c = covers-is c.args.at.now c.args.copied.now c.xmax-bound.ensures.sound c.covers.result c.covers.ensures
