use Rattle.std.proofs.Common.{◌+◌, ◌-◌, ◌^◌, ◌<◌, ◌≤◌, length, ◌∙◌, ap, subst, sym}
use Rattle.sky_model.specs.BatchMoves.{events_of_batch}
use Rattle.sky_state.specs.Seen.{seen}
use Rattle.pgq_queue.specs.declared.span.Span.{Span}
use Rattle.pgq_queues.specs.Seen.{Stands, batch_at, reads_at}
use Rattle.pgq_parts.specs.Looks.{LooksFrom}
use Rattle.pgq_parts.specs.Views.{DbView}
use Rattle.pgq_parts.specs.Seen.{with_node, seen_database}
use Rattle.pgq_parts.proofs.ApplySteps.{batch-recorded, batch-listed, none-recorded}
use Rattle.pgq_parts.proofs.Looking.{looks-for, lists-for, no-other-for, no-other-same}
use Rattle.pgq_db.proofs.db.Db.apply_batch.Goals as goal

pub recorded-requires-clause-stands : goal.recorded-requires-clause-stands
recorded-requires-clause-stands g c = subst (λ (s : Span). Stands c.look.new.self.queues s.queue) (sym c.span-span.ensures) (c.look.ensures.stand.stands c.in-Some.batch.queue c.in-Some.ensures.stands)

pub returns-in_default-clause-number : goal.returns-in_default-clause-number
returns-in_default-clause-number g c = c.apply_recorded.ensures.number (events_of_batch (seen_database c.args.provider.now) c.args.batch) (none-recorded _ _ c.provider.view_is c.args.batch c.in_default.ensures.batch)

pub returns-in_default-clause-serves : goal.returns-in_default-clause-serves
returns-in_default-clause-serves g c = c.apply_recorded.ensures.serves (events_of_batch (seen_database c.args.provider.now) c.args.batch) (none-recorded _ _ c.provider.view_is c.args.batch c.in_default.ensures.batch)

pub returns-in_default-clause-fault : goal.returns-in_default-clause-fault
returns-in_default-clause-fault g c = c.apply_recorded.ensures.fault (events_of_batch (seen_database c.args.provider.now) c.args.batch) (none-recorded _ _ c.provider.view_is c.args.batch c.in_default.ensures.batch)

pub returns-in_default-clause-steps : goal.returns-in_default-clause-steps
returns-in_default-clause-steps g c = c.apply_recorded.ensures.steps (events_of_batch (seen_database c.args.provider.now) c.args.batch) (none-recorded _ _ c.provider.view_is c.args.batch c.in_default.ensures.batch)

pub returns-in_default-clause-lists : goal.returns-in_default-clause-lists
returns-in_default-clause-lists g c =
    λ _. subst (LooksFrom c.args.provider.now.queues c.args.provider.now.queues (events_of_batch (seen_database c.args.provider.now) c.args.batch)) (c.in_default.ensures.batch ∙ ap (λ (v : DbView). batch_at v.queues c.args.batch) c.provider.view_is) tt

pub returns-in_default-clause-others : goal.returns-in_default-clause-others
returns-in_default-clause-others g c = no-other-same c.args.provider.now.queues (batch_at c.args.provider.now.queues c.args.batch)

pub returns-clause-number : goal.returns-clause-number
returns-clause-number g c = c.apply_recorded-2.ensures.number (events_of_batch (seen_database c.args.provider.now) c.args.batch) (c.deref.ensures.value ∙ batch-recorded _ _ c.provider.view_is c.args.batch c.in-Some.batch c.span-span.result c.look.new.self c.in_ok-recorded.recorded.items c.in-Some.ensures.batch c.span-span.ensures c.look.ensures.same c.in_ok-recorded.ensures)

pub returns-clause-serves : goal.returns-clause-serves
returns-clause-serves g c = c.apply_recorded-2.ensures.serves (events_of_batch (seen_database c.args.provider.now) c.args.batch) (c.deref.ensures.value ∙ batch-recorded _ _ c.provider.view_is c.args.batch c.in-Some.batch c.span-span.result c.look.new.self c.in_ok-recorded.recorded.items c.in-Some.ensures.batch c.span-span.ensures c.look.ensures.same c.in_ok-recorded.ensures)

pub returns-clause-fault : goal.returns-clause-fault
returns-clause-fault g c = c.apply_recorded-2.ensures.fault (events_of_batch (seen_database c.args.provider.now) c.args.batch) (c.deref.ensures.value ∙ batch-recorded _ _ c.provider.view_is c.args.batch c.in-Some.batch c.span-span.result c.look.new.self c.in_ok-recorded.recorded.items c.in-Some.ensures.batch c.span-span.ensures c.look.ensures.same c.in_ok-recorded.ensures)

pub returns-clause-steps : goal.returns-clause-steps
returns-clause-steps g c = c.apply_recorded-2.ensures.steps (events_of_batch (seen_database c.args.provider.now) c.args.batch) (c.deref.ensures.value ∙ batch-recorded _ _ c.provider.view_is c.args.batch c.in-Some.batch c.span-span.result c.look.new.self c.in_ok-recorded.recorded.items c.in-Some.ensures.batch c.span-span.ensures c.look.ensures.same c.in_ok-recorded.ensures)

pub returns-clause-provider : goal.returns-clause-provider
returns-clause-provider g c = c.look.ensures.same (with_node c.provider.inside.node (seen (g.R.RowStore.state c.provider.inside.rows))) ∙ ap seen_database c.provider.view_is

pub returns-clause-looks : goal.returns-clause-looks
returns-clause-looks g c = λ _. looks-for _ _ c.provider.view_is c.args.batch c.in-Some.batch c.span-span.result c.in-Some.ensures.batch c.span-span.ensures c.look.new.self c.look.ensures.others c.in_ok-looks.ensures.upper

pub returns-clause-lists : goal.returns-clause-lists
returns-clause-lists g c =
    let listed = batch-listed _ _ c.provider.view_is c.args.batch c.in-Some.batch c.span-span.result c.in-Some.ensures.batch c.span-span.ensures in
    λ _. lists-for _ _ c.provider.view_is c.args.batch c.in-Some.batch c.span-span.result c.in-Some.ensures.batch c.span-span.ensures c.look.new.self (events_of_batch (seen_database c.args.provider.now) c.args.batch)
    (subst (λ es. reads_at c.look.new.self.queues c.span-span.result.queue < 2 ^ 64 - 1 → length es + reads_at c.provider.inside.queues.queues c.span-span.result.queue ≤ reads_at c.look.new.self.queues c.span-span.result.queue) listed c.in_ok-looks.ensures.lower)

pub returns-clause-others : goal.returns-clause-others
returns-clause-others g c = no-other-for _ _ c.provider.view_is c.args.batch c.in-Some.batch c.span-span.result c.in-Some.ensures.batch c.span-span.ensures c.look.new.self c.look.ensures.others

pub returns-in_err-looks-clause-provider : goal.returns-in_err-looks-clause-provider
returns-in_err-looks-clause-provider g c = c.look.ensures.same (with_node c.provider.inside.node (seen (g.R.RowStore.state c.provider.inside.rows))) ∙ ap seen_database c.provider.view_is

pub returns-in_err-looks-clause-others : goal.returns-in_err-looks-clause-others
returns-in_err-looks-clause-others g c = no-other-for _ _ c.provider.view_is c.args.batch c.in-Some.batch c.span-span.result c.in-Some.ensures.batch c.span-span.ensures c.look.new.self c.look.ensures.others

pub returns-in_err-recorded-clause-provider : goal.returns-in_err-recorded-clause-provider
returns-in_err-recorded-clause-provider g c = c.look.ensures.same (with_node c.provider.inside.node (seen (g.R.RowStore.state c.provider.inside.rows))) ∙ ap seen_database c.provider.view_is

pub returns-in_err-recorded-clause-others : goal.returns-in_err-recorded-clause-others
returns-in_err-recorded-clause-others g c = no-other-for _ _ c.provider.view_is c.args.batch c.in-Some.batch c.span-span.result c.in-Some.ensures.batch c.span-span.ensures c.look.new.self c.look.ensures.others
