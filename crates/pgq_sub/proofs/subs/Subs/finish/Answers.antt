use Rattle.pgq_sub.specs.Views.{finished}
use Rattle.pgq_sub.proofs.SubLists.{sub-changed}
use Rattle.pgq_sub.proofs.subs.Subs.finish.Goals as goal

pub returns-in-Some : goal.returns-in-Some
returns-in-Some c =
    sub-changed _ _ c.args.consumer.now _ c.get_mut.result.now c.finish.new.self finished c.self.view_is c.in-Some.ensures.number c.get_mut.ensures.within c.get_mut.ensures.value c.finish.ensures
