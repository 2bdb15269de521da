use Rattle.std.proofs.Common.{subst, sym, w64}
use Rattle.std.proofs.lemmas.Int.{to_z-of_z}
use Rattle.sky_model.specs.Moment.{HasMoment}
use Rattle.pgq_queues.proofs.TracedLists.{there}
use Rattle.pgq_queues.proofs.queues.Queues.set_time.Goals as goal

pub invariant_of-self : goal.invariant_of-self
invariant_of-self c = ((subst HasMoment (sym (to_z-of_z w64 c.args.time c.ranges.time)) c.requires, c.self.invariant.0.1), c.self.invariant.1)

pub returns-clause-time : goal.returns-clause-time
returns-clause-time c = λ j. record (c.self.view_is j) { time = to_z-of_z w64 c.args.time c.ranges.time j }

pub returns-clause-within : goal.returns-clause-within
returns-clause-within c = λ k d lt. there c.self.inside.slots _ (c.self.invariant.1.1.1.stand k d lt)
