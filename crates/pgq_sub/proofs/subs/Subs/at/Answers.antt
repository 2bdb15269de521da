use Rattle.pgq_sub.proofs.SubLists.{at-place}
use Rattle.pgq_sub.proofs.subs.Subs.at.Goals as goal

pub returns : goal.returns
returns c = λ consumer there. at-place _ _ consumer c.args.place c.get.result.now c.self.view_is c.names.ensures.distinct c.get.ensures.within c.get.ensures.value there
