-- The events' lines are printed, and after them how many they are.
use Rattle.std.proofs.Common.{arith}
use Rattle.sky_model.specs.Printed.{event_text, line_text}
use Rattle.sky_print.proofs.Keeping.{ok-failed, kept-failed, kept-last}
use Rattle.sky_print.proofs.Printing.{lines-last, items-more, moment-at}
use Rattle.sky_print.proofs.print.append_batch.Goals as goal

pub returns-clause-ok : goal.returns-clause-ok
returns-clause-ok c = lines-last c.append_count.result c.args.name.now event_text c.args.events.now c.loop-event.event-index _ _ _ c.loop-event-test.false c.loop-event.invariant c.append_count.ensures.ok

pub loop-event-preserved : goal.loop-event-preserved
loop-event-preserved c =
    items-more (λ x. line_text c.args.name.now (event_text x)) c.args.events.now c.loop-event.event-index c.event-item.result _ _ _ (omega arith) c.event-item.is c.loop-event.invariant c.in_ok-append_event_line.ensures.ok

pub returns-in_err-append_event_line-clause-ok : goal.returns-in_err-append_event_line-clause-ok
returns-in_err-append_event_line-clause-ok c = ok-failed c.from_residual.result _ c.from_residual.ensures.0

pub returns-in_err-append_event_line-clause-kept : goal.returns-in_err-append_event_line-clause-kept
returns-in_err-append_event_line-clause-kept c = kept-failed c.from_residual.result _ _ _ _ c.loop-event.invariant c.in_err-append_event_line.ensures.kept

pub returns-clause-kept : goal.returns-clause-kept
returns-clause-kept c = kept-last c.append_count.result _ _ _ _ c.loop-event.invariant c.append_count.ensures.kept

pub append_event_line-requires : goal.append_event_line-requires
append_event_line-requires c = moment-at c.args.events.now c.loop-event.event-index c.event-item.result c.requires (omega arith) c.event-item.is
