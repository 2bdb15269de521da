use Rattle.std.proofs.Common.{◌∙◌, ap, subst, Err}
use Rattle.sky_model.specs.declared.reply.Refusal.TheVariants.{ConsumerExists, IdsSpent, TooMany}
use Rattle.sky_model.specs.declared.reply.Limit.TheVariants.{Consumers}
use Rattle.sky_model.specs.declared.stop.Stop.TheVariants as halt
use Rattle.sky_model.specs.StepNode.{joining}
use Rattle.londiste_calls.specs.declared.faults.JoinFault.{JoinFault}
use Rattle.sky_store.specs.Served.{JoinRefused}
use Rattle.sky_world.proofs.ServedNodes.{joined-there, refused-there, joined-as}
use Rattle.sky_world.proofs.state.State.join.Goals.{in-Ok, in-Err-ConsumerExists+in_ok-consumer-in-Err-ConsumerExists, in-Err-TooManyConsumers, in-Err-IdsSpent, in-Err-NoMemory}
use Rattle.sky_world.proofs.state.State.join.Goals as goal

pub returns : goal.returns
returns g c =
    let store = c.get_mut-store in
    let joined = c.join.new.self in
    let Not : JoinFault → Type 0 = λ fault. JoinRefused fault (g.D.Store.seen store.result.now) (g.D.Store.seen joined) c.args.consumer.now in
    elim c.match-join.branch [
      | in-Ok w ↦ joined-as g.D.Store.seen c.args.self.now _ c.args.database c.match-join.result _ c.args.consumer.now w.result-is
          (joined-there _ _ c.args.database _ store.result.now joined c.args.consumer.now c.self.view_is store.ensures.within store.ensures.value c.requires.whole w.in-Ok.ensures.tick w.in-Ok.ensures.serves)
      | in-Err-ConsumerExists+in_ok-consumer-in-Err-ConsumerExists w ↦ (let there = subst Not w.in-Err-ConsumerExists.field-0-is w.in-Err-ConsumerExists.ensures.fault in
          joined-as g.D.Store.seen c.args.self.now _ c.args.database c.match-join.result _ c.args.consumer.now
          (w.result-is ∙ ap (λ name. Err (halt.Refused (ConsumerExists name))) w.in_ok-consumer-in-Err-ConsumerExists.ensures)
          (refused-there _ _ c.args.database store.result.now joined (joining c.args.consumer.now) (ConsumerExists c.args.consumer.now) c.self.view_is store.ensures.within store.ensures.value c.requires.whole there.refused there.same))
      | in-Err-TooManyConsumers w ↦ (let full = subst Not w.in-Err-TooManyConsumers.field-0-is w.in-Err-TooManyConsumers.ensures.fault in
          joined-as g.D.Store.seen c.args.self.now _ c.args.database c.match-join.result _ c.args.consumer.now w.result-is
          (refused-there _ _ c.args.database store.result.now joined (joining c.args.consumer.now) (TooMany Consumers) c.self.view_is store.ensures.within store.ensures.value c.requires.whole full.refused full.same))
      | in-Err-IdsSpent w ↦ (let spent = subst Not w.in-Err-IdsSpent.field-0-is w.in-Err-IdsSpent.ensures.fault in
          joined-as g.D.Store.seen c.args.self.now _ c.args.database c.match-join.result _ c.args.consumer.now w.result-is
          (refused-there _ _ c.args.database store.result.now joined (joining c.args.consumer.now) IdsSpent c.self.view_is store.ensures.within store.ensures.value c.requires.whole spent.refused spent.same))
      | in-Err-NoMemory w ↦ joined-as g.D.Store.seen c.args.self.now _ c.args.database c.match-join.result _ c.args.consumer.now w.result-is tt
    ]
