use Rattle.std.proofs.Common.{sym, subst}
use Rattle.sky_model.specs.Moment.{HasMoment}
use Rattle.pgq_queue.specs.Views.{QueueView}
use Rattle.pgq_queue.specs.Stored.{AllStored, RetriedAtMost}
use Rattle.pgq_queue.proofs.AllStored.{find-all}
use Rattle.pgq_queue.proofs.queue.Queue.find.Goals as goal

pub returns-in-Some-Some-clause-moment : goal.returns-in-Some-Some-clause-moment
returns-in-Some-Some-clause-moment c = find-all (λ e. HasMoment e.ev_time) _ _ c.args.span.sub c.args.id c.self.inside.event_tables.tables c.find.result c.self.invariant.0 c.find.ensures.found

pub returns-in-Some-Some-clause-rounds : goal.returns-in-Some-Some-clause-rounds
returns-in-Some-Some-clause-rounds c = λ rounds all.
    find-all (RetriedAtMost rounds) _ _ c.args.span.sub c.args.id c.self.inside.event_tables.tables c.find.result (subst (λ (q : QueueView). AllStored (RetriedAtMost rounds) q.event_tables.tables) (sym c.self.view_is) all) c.find.ensures.found
