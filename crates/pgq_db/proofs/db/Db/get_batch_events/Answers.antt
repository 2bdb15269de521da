use Rattle.std.proofs.Common.{Option, Some, option_map, IfSome, refl, sym, ◌∙◌, ap, subst}
use Rattle.std.specs.Global.{Global}
use Rattle.std.specs.declared.vec.Vec.{Vec}
use Rattle.sky_val.specs.declared.event.Event.{Event}
use Rattle.sky_model.specs.Printed.{EventsHaveMoments}
use Rattle.sky_model.specs.Reader.{shown_by}
use Rattle.pgq_queues.specs.Seen.{batch_at}
use Rattle.pgq_parts.specs.Looks.{LooksFrom}
use Rattle.pgq_parts.specs.Seen.{seen_database}
use Rattle.pgq_parts.proofs.ConsumerSteps.{no-events, gives-events}
use Rattle.pgq_parts.proofs.Looking.{lists-reply}
use Rattle.pgq_db.proofs.db.Db.get_batch_events.Goals as goal

pub returns-in_default-clause-ran : goal.returns-in_default-clause-ran
returns-in_default-clause-ran g c = (
  record {
    refused = no-events (shown_by (seen_database c.args.self.now)).events c.args.id (ap (option_map (λ (events : Vec Event Global). events.items)) (sym c.in_default.is) ∙ c.in_ok-events.ensures.events);
    same = c.events_of.ensures.same;
  },
  refl,
)

pub returns-clause-ran : goal.returns-clause-ran
returns-clause-ran g c =
    gives-events (seen_database c.args.self.now) _ c.args.who c.args.id c.new.result _ _
    (ap Some c.new.ensures ∙ ap (option_map (λ (events : Vec Event Global). events.items)) (sym c.in-Some.is) ∙ c.in_ok-events.ensures.events)
    (subst EventsHaveMoments (sym c.new.ensures) (subst (λ (found : Option (Vec Event Global)). IfSome found (λ events. EventsHaveMoments events.items)) c.in-Some.is c.in_ok-events.ensures.moments)) c.events_of.ensures.same
    c.in_ok-push.ensures.ok

pub returns-clause-lists : goal.returns-clause-lists
returns-clause-lists g c =
    lists-reply c.args.self.now.queues c.events_of.new.self.queues c.args.id (shown_by (seen_database c.args.self.now)).events c.in-Some.events.items
    (ap (option_map (λ (events : Vec Event Global). events.items)) (sym c.in-Some.is) ∙ c.in_ok-events.ensures.events)
    (subst (λ (found : Option (Vec Event Global)). IfSome found (λ events. LooksFrom c.args.self.now.queues c.events_of.new.self.queues events.items (batch_at c.args.self.now.queues c.args.id))) c.in-Some.is c.in_ok-events.ensures.lists)
