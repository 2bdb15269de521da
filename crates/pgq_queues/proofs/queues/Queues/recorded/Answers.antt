use Rattle.std.proofs.Common.{◌≡◌, IfOk, subst, sym, map}
use Rattle.pgq_tables.specs.Tables.{recorded_part}
use Rattle.sky_model.specs.State.{Queue}
use Rattle.sky_model.specs.Selection.{selected_in}
use Rattle.pgq_queue.specs.Seen.{seen_span}
use Rattle.pgq_queue.specs.Looked.{AreLookedAtIn}
use Rattle.pgq_queues.proofs.queues.Queues.recorded.Goals as goal

pub queue-requires : goal.queue-requires
queue-requires c = c.requires.stands

pub recorded-requires : goal.recorded-requires
recorded-requires c = subst (λ (q : Queue). AreLookedAtIn q (seen_span c.args.span) c.args.looks.items) (sym c.queue.ensures) c.requires.looked

pub returns : goal.returns
returns c = λ beside.
    subst (λ (q : Queue). IfOk c.recorded.result (λ events. events.items ≡ map recorded_part (selected_in q (seen_span c.args.span)))) c.queue.ensures c.recorded.ensures
