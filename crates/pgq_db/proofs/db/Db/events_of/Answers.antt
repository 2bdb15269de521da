use Rattle.std.proofs.Common.{◌∙◌, ap, option_map}
use Rattle.sky_model.specs.Selection.{selected}
use Rattle.sky_model.specs.State.{Database}
use Rattle.sky_state.specs.Seen.{seen}
use Rattle.pgq_queue.specs.declared.span.Span.{Span}
use Rattle.pgq_queues.specs.Seen.{seen_batch, seen_with, batch_at}
use Rattle.pgq_queue.specs.Seen.{seen_span}
use Rattle.pgq_parts.specs.Views.{DbView}
use Rattle.pgq_parts.specs.Seen.{with_node, seen_database}
use Rattle.pgq_parts.proofs.ConsumerSteps.{events-as}
use Rattle.pgq_parts.proofs.Looking.{looks-for, lists-for, no-other-for, no-other-same}
use Rattle.pgq_db.proofs.db.Db.events_of.Goals as goal

pub returns-in_default-clause-events : goal.returns-in_default-clause-events
returns-in_default-clause-events g c = ap (option_map (selected (seen_database c.args.self.now))) (c.in_default.ensures.batch ∙ ap (λ (v : DbView). batch_at v.queues c.args.id) c.self.view_is)

pub returns-clause-events : goal.returns-clause-events
returns-clause-events g c =
    let was : Database = seen_with (with_node c.self.inside.node (seen (g.R.RowStore.state c.self.inside.rows))) c.self.inside.queues in
    events-as (seen_database c.args.self.now) c.args.id c.in-Some.batch _ (c.in-Some.ensures.batch ∙ ap (λ (v : DbView). batch_at v.queues c.args.id) c.self.view_is)
    (c.in_ok-events.ensures.events (with_node c.self.inside.node (seen (g.R.RowStore.state c.self.inside.rows))) ∙ ap (λ (s : Span). selected was (seen_span s)) c.span-span.ensures
    ∙ ap (λ (v : DbView). selected (seen_database v) (seen_batch c.in-Some.batch)) c.self.view_is)

pub returns-clause-looks : goal.returns-clause-looks
returns-clause-looks g c = looks-for _ _ c.self.view_is c.args.id c.in-Some.batch c.span-span.result c.in-Some.ensures.batch c.span-span.ensures c.batch_events.new.self c.batch_events.ensures.others c.in_ok-events.ensures.upper

pub returns-clause-lists : goal.returns-clause-lists
returns-clause-lists g c = lists-for _ _ c.self.view_is c.args.id c.in-Some.batch c.span-span.result c.in-Some.ensures.batch c.span-span.ensures c.batch_events.new.self c.in_ok-events.events.items c.in_ok-events.ensures.lower

pub returns-clause-same : goal.returns-clause-same
returns-clause-same g c = c.batch_events.ensures.same (with_node c.self.inside.node (seen (g.R.RowStore.state c.self.inside.rows))) ∙ ap seen_database c.self.view_is

pub returns-in_err-events-clause-same : goal.returns-in_err-events-clause-same
returns-in_err-events-clause-same g c = c.batch_events.ensures.same (with_node c.self.inside.node (seen (g.R.RowStore.state c.self.inside.rows))) ∙ ap seen_database c.self.view_is

pub returns-clause-others : goal.returns-clause-others
returns-clause-others g c = no-other-for _ _ c.self.view_is c.args.id c.in-Some.batch c.span-span.result c.in-Some.ensures.batch c.span-span.ensures c.batch_events.new.self c.batch_events.ensures.others

pub returns-in_err-events-clause-others : goal.returns-in_err-events-clause-others
returns-in_err-events-clause-others g c = no-other-for _ _ c.self.view_is c.args.id c.in-Some.batch c.span-span.result c.in-Some.ensures.batch c.span-span.ensures c.batch_events.new.self c.batch_events.ensures.others

pub returns-in_default-clause-others : goal.returns-in_default-clause-others
returns-in_default-clause-others g c = no-other-same c.args.self.now.queues (batch_at c.args.self.now.queues c.args.id)
