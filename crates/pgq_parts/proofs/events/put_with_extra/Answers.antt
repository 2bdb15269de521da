use Rattle.std.proofs.Common.{ap, ◌∙◌}
use Rattle.sky_val.specs.declared.event.Event.{Event}
use Rattle.sky_model.specs.History.{queued, put}
use Rattle.sky_model.specs.State.{after_mark}
use Rattle.pgq_queues.specs.Seen.{seen_with}
use Rattle.pgq_parts.proofs.events.put_with_extra.Goals as goal

pub returns-clause-mark : goal.returns-clause-mark
returns-clause-mark c = λ beside. c.in_ok-put.ensures.mark beside ∙ ap (λ (e : Event). after_mark (seen_with beside c.args.queues.now) (queued (put c.args.queue e))) c.in_ok-event.ensures
