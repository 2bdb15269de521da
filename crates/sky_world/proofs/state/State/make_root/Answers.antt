use Rattle.std.proofs.Common.{◌∙◌, ap, sym, subst, length, to_z, of_z, w64, arith, Err}
use Rattle.std.proofs.lemmas.Int.{to_z-of_z}
use Rattle.sky_model.specs.StepNode.{making_root}
use Rattle.sky_model.specs.declared.reply.Refusal.TheVariants.{QueueExists, TooMany, TxidsSpent}
use Rattle.sky_model.specs.declared.reply.Limit.TheVariants.{Queues}
use Rattle.londiste_calls.specs.declared.faults.MakeRootFault.{MakeRootFault}
use Rattle.sky_store.specs.Served.{MakeRootRefused}
use Rattle.sky_world.specs.Views.{StateView}
use Rattle.sky_world.proofs.Whole.{whole-with, whole-served}
use Rattle.sky_world.proofs.ServedNodes.{root-there, unrooted-there}
use Rattle.sky_world.proofs.state.State.make_root.Goals as goal

pub gets_node-requires-clause-whole : goal.gets_node-requires-clause-whole
gets_node-requires-clause-whole g c =
    let store = c.get_mut-store in
    whole-with _ _ c.args.database store.result.now c.make_root.new.self c.self.view_is store.ensures.within store.ensures.value c.requires.whole
    (whole-served (length c.args.self.now.sessions.names) (g.D.Store.seen store.result.now) (g.D.Store.seen c.make_root.new.self) (making_root c.args.name.now c.args.queue.now (to_z w64 (of_z w64 c.self.inside.clock))) c.in-Ok.ensures.serves)

pub returns-in_ok-gets_node-in-Ok : goal.returns-in_ok-gets_node-in-Ok
returns-in_ok-gets_node-in-Ok g c =
    let store = c.get_mut-store in
    root-there _ _ _ c.args.database store.result.now c.make_root.new.self c.args.name.now c.args.queue.now _ (to_z w64 (of_z w64 c.self.inside.clock)) c.self.view_is store.ensures.within store.ensures.value c.requires.bare c.requires.whole
    (to_z-of_z w64 c.self.inside.clock (omega arith) ∙ ap (λ (v : StateView g.row.D.Denot). v.now) c.self.view_is) c.in-Ok.ensures.serves c.in_ok-gets_node-in-Ok.ensures

pub returns-in_ok-queue-in-Err-QueueExists : goal.returns-in_ok-queue-in-Err-QueueExists
returns-in_ok-queue-in-Err-QueueExists g c =
    let store = c.get_mut-store in
    let Not : MakeRootFault → Type 0 = λ fault. MakeRootRefused fault (g.D.Store.seen store.result.now) (g.D.Store.seen c.make_root.new.self) c.args.name.now c.args.queue.now (to_z w64 (of_z w64 c.self.inside.clock)) in
    let not = unrooted-there _ _ c.args.database store.result.now c.make_root.new.self c.args.name.now c.args.queue.now _ (to_z w64 (of_z w64 c.self.inside.clock)) (QueueExists c.args.queue.now) c.self.view_is store.ensures.within store.ensures.value c.requires.bare c.requires.whole
    (to_z-of_z w64 c.self.inside.clock (omega arith) ∙ ap (λ (v : StateView g.row.D.Denot). v.now) c.self.view_is) (subst Not c.in-Err-QueueExists.field-0-is c.in-Err-QueueExists.ensures.fault) in
    (not.0 ∙ ap (λ queue. Err (QueueExists queue)) (sym c.in_ok-queue-in-Err-QueueExists.ensures), not.1)

pub returns-in-Err-TooManyQueues : goal.returns-in-Err-TooManyQueues
returns-in-Err-TooManyQueues g c =
    let store = c.get_mut-store in
    let Not : MakeRootFault → Type 0 = λ fault. MakeRootRefused fault (g.D.Store.seen store.result.now) (g.D.Store.seen c.make_root.new.self) c.args.name.now c.args.queue.now (to_z w64 (of_z w64 c.self.inside.clock)) in
    unrooted-there _ _ c.args.database store.result.now c.make_root.new.self c.args.name.now c.args.queue.now _ (to_z w64 (of_z w64 c.self.inside.clock)) (TooMany Queues) c.self.view_is store.ensures.within store.ensures.value c.requires.bare c.requires.whole
    (to_z-of_z w64 c.self.inside.clock (omega arith) ∙ ap (λ (v : StateView g.row.D.Denot). v.now) c.self.view_is) (subst Not c.in-Err-TooManyQueues.field-0-is c.in-Err-TooManyQueues.ensures.fault)

pub returns-in-Err-TxidsSpent : goal.returns-in-Err-TxidsSpent
returns-in-Err-TxidsSpent g c =
    let store = c.get_mut-store in
    let Not : MakeRootFault → Type 0 = λ fault. MakeRootRefused fault (g.D.Store.seen store.result.now) (g.D.Store.seen c.make_root.new.self) c.args.name.now c.args.queue.now (to_z w64 (of_z w64 c.self.inside.clock)) in
    unrooted-there _ _ c.args.database store.result.now c.make_root.new.self c.args.name.now c.args.queue.now _ (to_z w64 (of_z w64 c.self.inside.clock)) TxidsSpent c.self.view_is store.ensures.within store.ensures.value c.requires.bare c.requires.whole
    (to_z-of_z w64 c.self.inside.clock (omega arith) ∙ ap (λ (v : StateView g.row.D.Denot). v.now) c.self.view_is) (subst Not c.in-Err-TxidsSpent.field-0-is c.in-Err-TxidsSpent.ensures.fault)
