use Rattle.std.proofs.Common.{refl, ap}
use Rattle.pgq_queues.specs.Views.{QueuesView}
use Rattle.pgq_queues.proofs.Waiting.{waits-kept, retried-asked}
use Rattle.pgq_queues.proofs.Unchanged.{rest-kept}
use Rattle.pgq_queues.proofs.Asked.{asked-fresh, asked-as, asked-none}
use Rattle.pgq_queues.proofs.queues.Queues.retry.Goals as goal

pub invariant_of-self : goal.invariant_of-self
invariant_of-self c = (
  (
    c.self.invariant.0.0,
    retried-asked c.ask.result c.self.inside.slots c.self.inside.retries c.ask.new.self c.args.retry c.ask.ensures.ok c.ask.ensures.err
        (waits-kept _ _ c.args.retry c.self.view_is c.requires.owner c.requires.time c.requires.rounds) c.self.invariant.0.1,
  ),
  c.self.invariant.1,
)

pub returns-clause-fresh : goal.returns-clause-fresh
returns-clause-fresh c = asked-fresh c.ask.result _ _ c.args.retry c.self.view_is c.ask.ensures.new

pub returns-clause-mark : goal.returns-clause-mark
returns-clause-mark c = asked-as c.ask.result _ _ c.args.retry c.self.view_is c.ask.new.self c.ask.ensures.ok

pub returns-clause-err : goal.returns-clause-err
returns-clause-err c = asked-none c.ask.result _ _ c.args.retry c.self.view_is c.ask.new.self c.ask.ensures.err

pub returns-clause-queues : goal.returns-clause-queues
returns-clause-queues c = ap QueuesView.queues c.self.view_is

pub returns-clause-rest : goal.returns-clause-rest
returns-clause-rest c = rest-kept _ _ _ c.self.view_is refl refl refl refl
