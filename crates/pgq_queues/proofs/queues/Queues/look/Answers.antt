use Rattle.std.proofs.Common.{IfOk, length, refl, subst}
use Rattle.sky_model.specs.State.{Queue}
use Rattle.sky_model.specs.Selection.{selected_in}
use Rattle.pgq_queue.specs.Seen.{seen_span}
use Rattle.pgq_queue.specs.Looked.{most_in, AreLookedAtIn}
use Rattle.pgq_queues.proofs.Waiting.{looked-within}
use Rattle.pgq_queues.proofs.Unchanged.{rest-kept, looked-same, looked-still, shown-there, reads-others, reads-least, reads-most}
use Rattle.pgq_queues.proofs.TracedLists.{stands-kept}
use Rattle.pgq_queues.proofs.queues.Queues.look.Goals as goal

pub invariant_of-self : goal.invariant_of-self
invariant_of-self c = looked-within _ _ c.args.span.queue c.get_mut.result.now c.look.new.self c.self.view_is c.requires c.get_mut.ensures.within c.get_mut.ensures.value c.look.ensures.but c.self.invariant

pub returns-clause-looked : goal.returns-clause-looked
returns-clause-looked c =
    subst (λ (q : Queue). IfOk c.look.result (λ looks. AreLookedAtIn q (seen_span c.args.span) looks.items)) (shown-there c.self.inside.slots c.args.span.queue c.get_mut.result.now c.look.new.self c.get_mut.ensures.within c.look.ensures.but)
    c.look.ensures.looked

pub returns-clause-same : goal.returns-clause-same
returns-clause-same c = looked-same _ _ c.args.span.queue c.get_mut.result.now c.look.new.self c.self.view_is c.get_mut.ensures.within c.get_mut.ensures.value c.look.ensures.but

pub returns-clause-stand : goal.returns-clause-stand
returns-clause-stand c = looked-still _ _ c.args.span.queue c.get_mut.result.now c.look.new.self c.self.view_is c.requires c.get_mut.ensures.within c.get_mut.ensures.value c.look.ensures.but

pub returns-clause-rest : goal.returns-clause-rest
returns-clause-rest c = rest-kept _ _ _ c.self.view_is refl refl refl refl

pub returns-clause-others : goal.returns-clause-others
returns-clause-others c = reads-others _ _ c.args.span.queue c.look.new.self c.self.view_is c.get_mut.ensures.within

pub returns-clause-lower : goal.returns-clause-lower
returns-clause-lower c =
    reads-least c.look.result _ _ c.args.span.queue c.get_mut.result.now c.look.new.self c.self.view_is c.get_mut.ensures.within c.get_mut.ensures.value (λ looks q. length (selected_in q (seen_span c.args.span))) c.look.ensures.lower

pub returns-clause-upper : goal.returns-clause-upper
returns-clause-upper c =
    reads-most c.look.result _ _ c.args.span.queue c.get_mut.result.now c.look.new.self c.self.view_is c.get_mut.ensures.within c.get_mut.ensures.value (λ q. most_in q (seen_span c.args.span)) c.look.ensures.upper

pub get_mut-requires : goal.get_mut-requires
get_mut-requires c = stands-kept _ _ c.args.span.queue c.self.view_is c.requires
