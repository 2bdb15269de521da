use Rattle.std.proofs.Common.{ap, sym, ◌∙◌, subst, w64}
use Rattle.std.proofs.lemmas.Int.{to_z-of_z}
use Rattle.sky_val.specs.declared.event.Event.{Event}
use Rattle.sky_model.specs.Moment.{HasMoment}
use Rattle.pgq_queue.proofs.AllStored.{timed-one}
use Rattle.pgq_queue.proofs.queue.Queue.tell.Goals as goal

pub invariant_of-self-2 : goal.invariant_of-self-2
invariant_of-self-2 c =
    timed-one c.self.inside.event_tables c.insert.new.self c.told_event.result c.in_ok-insert.ensures.ok
    (subst HasMoment (sym (ap Event.ev_time c.told_event.ensures ∙ to_z-of_z w64 c.args.now c.ranges.now)) c.requires.time) c.self.invariant
