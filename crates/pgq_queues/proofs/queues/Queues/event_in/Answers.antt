use Rattle.std.proofs.Common.{◌≡◌, ◌==◌, IfOk, refl, subst}
use Rattle.std.specs.Prelude.{IfSome, find}
use Rattle.sky_model.specs.State.{Queue}
use Rattle.sky_model.specs.Selection.{selected_in}
use Rattle.pgq_queues.specs.Views.{QueuesView}
use Rattle.pgq_queue.specs.Seen.{seen_span}
use Rattle.pgq_queue.specs.Looked.{most_in}
use Rattle.pgq_queue.specs.Stored.{RetriedAtMost}
use Rattle.pgq_queues.proofs.Marked.{queue-at}
use Rattle.pgq_queues.proofs.Waiting.{looked-within, stored-here}
use Rattle.pgq_queues.proofs.Unchanged.{rest-kept, looked-same, looked-still, reads-others, reads-most}
use Rattle.pgq_queues.proofs.TracedLists.{stands-kept}
use Rattle.pgq_queues.proofs.queues.Queues.event_in.Goals as goal

pub invariant_of-self : goal.invariant_of-self
invariant_of-self c = looked-within _ _ c.args.span.queue c.get_mut.result.now c.find.new.self c.self.view_is c.requires c.get_mut.ensures.within c.get_mut.ensures.value c.find.ensures.but c.self.invariant

pub returns-clause-found : goal.returns-clause-found
returns-clause-found c = λ beside.
    subst (λ (q : Queue). IfOk c.find.result (λ found. found ≡ find (λ e. e.ev_id == c.args.id) (selected_in q (seen_span c.args.span)))) (queue-at _ _ c.args.span.queue c.get_mut.result.now c.self.view_is c.get_mut.ensures.within c.get_mut.ensures.value)
    c.find.ensures.found

pub returns-clause-moment : goal.returns-clause-moment
returns-clause-moment c = c.find.ensures.moment

pub returns-clause-rounds : goal.returns-clause-rounds
returns-clause-rounds c =
    subst (λ (v : QueuesView). IfOk c.find.result (λ found. IfSome found (λ e. RetriedAtMost v.rounds e))) c.self.view_is
    (c.find.ensures.rounds c.self.inside.rounds (stored-here c.self.inside.slots c.args.span.queue c.get_mut.result.now c.self.inside.retries c.get_mut.ensures.within c.get_mut.ensures.value c.self.invariant.0.1))

pub returns-clause-same : goal.returns-clause-same
returns-clause-same c = looked-same _ _ c.args.span.queue c.get_mut.result.now c.find.new.self c.self.view_is c.get_mut.ensures.within c.get_mut.ensures.value c.find.ensures.but

pub returns-clause-stand : goal.returns-clause-stand
returns-clause-stand c = looked-still _ _ c.args.span.queue c.get_mut.result.now c.find.new.self c.self.view_is c.requires c.get_mut.ensures.within c.get_mut.ensures.value c.find.ensures.but

pub returns-clause-rest : goal.returns-clause-rest
returns-clause-rest c = rest-kept _ _ _ c.self.view_is refl refl refl refl

pub returns-clause-others : goal.returns-clause-others
returns-clause-others c = reads-others _ _ c.args.span.queue c.find.new.self c.self.view_is c.get_mut.ensures.within

pub returns-clause-upper : goal.returns-clause-upper
returns-clause-upper c =
    reads-most c.find.result _ _ c.args.span.queue c.get_mut.result.now c.find.new.self c.self.view_is c.get_mut.ensures.within c.get_mut.ensures.value (λ q. most_in q (seen_span c.args.span)) c.find.ensures.upper

pub get_mut-requires : goal.get_mut-requires
get_mut-requires c = stands-kept _ _ c.args.span.queue c.self.view_is c.requires
