use Rattle.pgq_sub.specs.Views.{with_open}
use Rattle.pgq_sub.proofs.SubLists.{sub-changed}
use Rattle.pgq_sub.proofs.subs.Subs.open_batch.Goals as goal

pub returns-in-Some : goal.returns-in-Some
returns-in-Some c =
    sub-changed _ _ c.args.consumer.now _ c.get_mut.result.now c.open_batch.new.self (with_open c.args.batch) c.self.view_is c.in-Some.ensures.number c.get_mut.ensures.within c.get_mut.ensures.value c.open_batch.ensures
