use Rattle.sky_model.specs.Moment.{HasMoment}
use Rattle.pgq_queue.proofs.AllStored.{select-all}
use Rattle.pgq_queue.proofs.queue.Queue.select.Goals as goal

pub returns-in-Some-Some-clause-moments : goal.returns-in-Some-Some-clause-moments
returns-in-Some-Some-clause-moments c = select-all (λ e. HasMoment e.ev_time) _ _ c.args.span.sub c.self.inside.event_tables.tables c.select.result c.self.invariant.0 c.select.ensures.listed
