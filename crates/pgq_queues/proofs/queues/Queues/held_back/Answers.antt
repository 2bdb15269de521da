use Rattle.std.proofs.Common.{◌≡◌, ℤ, IfOk, subst, sym, w64, to_z, of_z}
use Rattle.std.proofs.lemmas.Int.{to_z-of_z}
use Rattle.sky_model.specs.Moment.{IsTime}
use Rattle.sky_model.specs.State.{Queue}
use Rattle.sky_model.specs.StepRotation.{held_back}
use Rattle.pgq_queues.specs.Seen.{queue_at}
use Rattle.pgq_queues.proofs.queues.Queues.held_back.Goals as goal

pub queue-requires : goal.queue-requires
queue-requires c = c.requires.stands

pub held_back-requires : goal.held_back-requires
held_back-requires c = subst IsTime (sym (to_z-of_z w64 c.args.now c.ranges.now)) c.requires.time

pub returns-clause-held : goal.returns-clause-held
returns-clause-held c =
    subst (λ (t : ℤ). IfOk c.held_back.result (λ held. held ≡ held_back t (queue_at c.args.self.now c.args.queue))) (to_z-of_z w64 c.args.now c.ranges.now)
    (subst (λ (q : Queue). IfOk c.held_back.result (λ held. held ≡ held_back (to_z w64 (of_z w64 c.args.now)) q)) c.queue.ensures c.held_back.ensures.held)

pub returns-clause-moment : goal.returns-clause-moment
returns-clause-moment c = c.held_back.ensures.moment
