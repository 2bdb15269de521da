use Rattle.std.proofs.Common.{ap, ◌≡◌, refl, subst, Err}
use Rattle.sky_model.specs.Config.{param_of}
use Rattle.pgq_tick.specs.Config.{set_to}
use Rattle.pgq_queue.specs.Views.{QueueView}
use Rattle.pgq_queues.proofs.Waiting.{alike-within}
use Rattle.pgq_queues.proofs.Marked.{queue-kept, on-err-then, configured-as, queue-at}
use Rattle.std.specs.Prelude.{IfErr}
use Rattle.sky_model.specs.State.{Queue}
use Rattle.pgq_queues.proofs.TracedLists.{stands-kept}
use Rattle.pgq_queues.proofs.Unchanged.{rest-kept}
use Rattle.pgq_queues.proofs.queues.Queues.configure.Goals as goal

pub invariant_of-self : goal.invariant_of-self
invariant_of-self c =
    alike-within _ _ c.args.queue c.get_mut.result.now c.configure.new.self c.self.view_is c.requires c.get_mut.ensures.within c.get_mut.ensures.value (ap QueueView.ticks c.configure.ensures.but) (ap QueueView.subs c.configure.ensures.but) (ap (λ (q : QueueView). q.event_tables.tables) c.configure.ensures.but)
    c.self.invariant

pub returns-clause-err : goal.returns-clause-err
returns-clause-err c = on-err-then c.configure.result _ _ (queue-kept _ _ c.args.queue c.get_mut.result.now c.configure.new.self c.self.view_is c.get_mut.ensures.value) c.configure.ensures.err

pub returns-clause-mark : goal.returns-clause-mark
returns-clause-mark c =
    configured-as c.configure.result _ _ c.args.queue c.get_mut.result.now c.configure.new.self (λ config. set_to config (param_of c.args.param.now) c.args.value.now) c.self.view_is c.get_mut.ensures.within c.get_mut.ensures.value
    c.configure.ensures.but c.configure.ensures.ok

pub get_mut-requires : goal.get_mut-requires
get_mut-requires c = stands-kept _ _ c.args.queue c.self.view_is c.requires

pub returns-clause-fault : goal.returns-clause-fault
returns-clause-fault c = subst (λ (q : Queue). IfErr c.configure.result (λ fault. set_to q.config (param_of c.args.param.now) c.args.value.now ≡ Err fault)) (queue-at _ _ c.args.queue c.get_mut.result.now c.self.view_is c.get_mut.ensures.within c.get_mut.ensures.value) c.configure.ensures.fault

pub returns-clause-rest : goal.returns-clause-rest
returns-clause-rest c = rest-kept _ _ _ c.self.view_is refl refl refl refl
