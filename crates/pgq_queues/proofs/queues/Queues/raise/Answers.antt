use Rattle.std.proofs.Common.{ap, refl}
use Rattle.pgq_queue.specs.Views.{QueueView}
use Rattle.pgq_queues.proofs.TracedLists.{stays-alike, stand-set, stand-shown, stands-kept}
use Rattle.pgq_queues.proofs.Waiting.{alike-within}
use Rattle.sky_model.specs.State.{Queue}
use Rattle.pgq_queue.specs.Seen.{seen_queue}
use Rattle.pgq_queues.proofs.Marked.{queues-set}
use Rattle.pgq_queues.proofs.Unchanged.{rest-kept}
use Rattle.pgq_queues.proofs.queues.Queues.raise.Goals as goal

pub invariant_of-self : goal.invariant_of-self
invariant_of-self c =
    alike-within _ _ c.args.queue c.get_mut.result.now c.raise.new.self c.self.view_is c.requires c.get_mut.ensures.within c.get_mut.ensures.value (ap QueueView.ticks c.raise.ensures) (ap QueueView.subs c.raise.ensures) (ap (λ (q : QueueView). q.event_tables.tables) c.raise.ensures)
    c.self.invariant

pub returns-clause-stand : goal.returns-clause-stand
returns-clause-stand c = stand-shown _ _ _ c.self.view_is (stand-set c.self.inside.slots c.args.queue c.get_mut.result.now c.raise.new.self (stands-kept _ _ c.args.queue c.self.view_is c.requires) c.get_mut.ensures.within c.get_mut.ensures.value (stays-alike _ _ (ap QueueView.ticks c.raise.ensures) (ap QueueView.subs c.raise.ensures)))

pub get_mut-requires : goal.get_mut-requires
get_mut-requires c = stands-kept _ _ c.args.queue c.self.view_is c.requires

pub returns-clause-mark : goal.returns-clause-mark
returns-clause-mark c =
    queues-set _ _ c.args.queue c.get_mut.result.now c.raise.new.self (λ (q : Queue). record q { seq = c.args.value }) c.self.view_is c.get_mut.ensures.within c.get_mut.ensures.value (ap seen_queue c.raise.ensures) (ap QueueView.subs c.raise.ensures)

pub returns-clause-rest : goal.returns-clause-rest
returns-clause-rest c = rest-kept _ _ _ c.self.view_is refl refl refl refl
