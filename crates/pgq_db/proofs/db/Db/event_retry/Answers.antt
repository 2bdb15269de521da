use Rattle.std.proofs.Common.{◌≡◌, ◌≤◌, ◌+◌, List, ◌*◌, ◌^◌, ◌<◌, pos, ◌+ℤ◌, w64, to_z, of_z, arith, false, refl, sym, ◌∙◌, ap, subst, not}
use Rattle.std.specs.Prelude.{find, ◌==◌}
use Rattle.std.proofs.lemmas.Int.{ints, to_z-of_z, to_z_pos}
use Rattle.sky_val.specs.declared.event.Event.{Event}
use Rattle.pgq_retry.specs.Retries.{is_asked}
use Rattle.sky_model.specs.Reader.{shown_by}
use Rattle.sky_model.specs.Retries.{retried}
use Rattle.sky_model.specs.Selection.{selected}
use Rattle.sky_model.specs.State.{RowPart, Database}
use Rattle.sky_model.specs.StepConsumer.{is_nodes_batch}
use Rattle.sky_model.specs.StepRetry.{event_retry}
use Rattle.sky_state.specs.Seen.{seen}
use Rattle.pgq_queue.specs.declared.span.Span.{Span}
use Rattle.pgq_queues.specs.Seen.{seen_with, seen_batch, batch_at, queue_at, reads_at}
use Rattle.pgq_queue.specs.Seen.{seen_span}
use Rattle.pgq_parts.specs.Views.{DbView}
use Rattle.pgq_parts.specs.Seen.{with_node, seen_database}
use Rattle.pgq_parts.proofs.Databases.{Runs}
use Rattle.pgq_parts.proofs.RetrySteps.{no-event, gives-retry, asked-as}
use Rattle.pgq_parts.proofs.Agreeing.{agree-stay}
use Rattle.pgq_queue.specs.Looked.{most_in}
use Rattle.pgq_queue.specs.Views.{QueueView}
use Rattle.pgq_parts.proofs.Looking.{looks-for}
use Rattle.pgq_db.proofs.db.Db.event_retry.Goals as goal

pub returns-in_default-2-clause-ran : goal.returns-in_default-2-clause-ran
returns-in_default-2-clause-ran g c =
    let p : RowPart = seen (g.R.RowStore.state c.self.inside.rows) in
    let was : Database = seen_with (with_node c.self.inside.node p) c.self.inside.queues in (
      record {
        refused = no-event (seen_database c.args.self.now) c.args.now c.args.again.now (seen_batch c.in-Some.batch) (c.in-Some.ensures.batch ∙ ap (λ (v : DbView). batch_at v.queues c.args.again.now.batch) c.self.view_is) (sym c.is_nodes_of.ensures ∙ c.if-is_nodes_of.false)
            (sym c.in_default-2.is ∙ c.in_ok-found.ensures.found (with_node c.self.inside.node p) ∙ ap (λ (s : Span). find (λ (e : Event). e.ev_id == c.args.again.now.event) (selected was (seen_span s))) c.span-span.ensures
            ∙ ap (λ (v : DbView). find (λ (e : Event). e.ev_id == c.args.again.now.event) (selected (seen_database v) (seen_batch c.in-Some.batch))) c.self.view_is);
        same = c.event_in.ensures.same (with_node c.self.inside.node p) ∙ ap seen_database c.self.view_is;
      },
      refl,
    )

pub returns-clause-ran : goal.returns-clause-ran
returns-clause-ran g c =
    let p : RowPart = seen (g.R.RowStore.state c.self.inside.rows) in
    let was : Database = seen_with (with_node c.self.inside.node p) c.self.inside.queues in
    let left : Database = seen_with (with_node c.self.inside.node p) c.retry.new.self in
    let b = seen_batch c.in-Some.batch in
    let low : 1_000_000 * c.args.again.now.seconds < 2 ^ 63 = omega (arith, c.requires.seconds) in
    let sum : to_z w64 (of_z w64 c.args.now) +ℤ to_z w64 (1_000_000 * c.args.again.now.seconds) ≡ c.args.now +ℤ pos (1_000_000 * c.args.again.now.seconds) = λ i.
    to_z-of_z w64 c.args.now c.ranges.now i +ℤ to_z_pos w64 (1_000_000 * c.args.again.now.seconds) low i in
    let due = ap (λ z. to_z w64 (of_z w64 z)) sum ∙ to_z-of_z w64 (c.args.now +ℤ pos (1_000_000 * c.args.again.now.seconds)) (omega (arith, ints, c.requires.time.0, c.requires.time.1, c.requires.seconds)) in
    let event = c.retried.ensures ∙ ap (λ (s : Span). retried s.sub c.in-Some-2.found) c.span-span.ensures in
    subst (λ (v : DbView). Runs (seen_database v) left c.args.replies.now c.push.new.self c.args.who (event_retry (seen_database v) (shown_by (seen_database v)).events c.args.now c.args.again.now)) c.self.view_is
    (gives-retry was c.args.now c.args.again.now b c.in-Some.ensures.batch (subst (λ (v : DbView). is_nodes_batch (seen_database v) b ≡ false) (sym c.self.view_is) (sym c.is_nodes_of.ensures ∙ c.if-is_nodes_of.false)) left c.args.who c.from-count.result c.in-Some-2.found _ c.in_ok-retry.field-0 _ _
    (sym c.in-Some-2.is ∙ c.in_ok-found.ensures.found (with_node c.self.inside.node p) ∙ ap (λ (s : Span). find (λ (e : Event). e.ev_id == c.args.again.now.event) (selected was (seen_span s))) c.span-span.ensures)
    (λ i. record { queue = (c.span-span.ensures i).queue; sub = (c.span-span.ensures i).sub; due = due i; event = event i })
    (c.in_ok-retry.ensures.fresh ∙ ap (λ (x : Database). not (is_asked c.span-span.result.sub c.retried.result.ev_id x.retries)) (c.event_in.ensures.same (with_node c.self.inside.node p)))
    (asked-as _ _ _ _ _ (c.in_ok-retry.ensures.mark (with_node c.self.inside.node p)) (c.event_in.ensures.same (with_node c.self.inside.node p))) c.from-count.ensures
    c.in_ok-push.ensures.ok)

pub invariant_of-self-in_err-push : goal.invariant_of-self-in_err-push
invariant_of-self-in_err-push g c = λ e.
    let p : RowPart = seen (g.R.RowStore.state c.self.inside.rows) in
    agree-stay p c.event_in.new.self c.retry.new.self c.retry.ensures.rest (agree-stay p c.self.inside.queues c.event_in.new.self c.event_in.ensures.rest (c.self.invariant e))

pub invariant_of-self-in_err-retry : goal.invariant_of-self-in_err-retry
invariant_of-self-in_err-retry g c = λ e.
    let p : RowPart = seen (g.R.RowStore.state c.self.inside.rows) in
    agree-stay p c.event_in.new.self c.retry.new.self c.retry.ensures.rest (agree-stay p c.self.inside.queues c.event_in.new.self c.event_in.ensures.rest (c.self.invariant e))

pub invariant_of-self-2 : goal.invariant_of-self-2
invariant_of-self-2 g c = λ e.
    let p : RowPart = seen (g.R.RowStore.state c.self.inside.rows) in
    agree-stay p c.event_in.new.self c.retry.new.self c.retry.ensures.rest (agree-stay p c.self.inside.queues c.event_in.new.self c.event_in.ensures.rest (c.self.invariant e))

pub returns-in_default-2-clause-looks : goal.returns-in_default-2-clause-looks
returns-in_default-2-clause-looks g c =
    looks-for _ _ c.self.view_is c.args.again.now.batch c.in-Some.batch c.span-span.result c.in-Some.ensures.batch c.span-span.ensures c.event_in.new.self c.event_in.ensures.others c.in_ok-found.ensures.upper

pub returns-clause-looks : goal.returns-clause-looks
returns-clause-looks g c =
    looks-for _ _ c.self.view_is c.args.again.now.batch c.in-Some.batch c.span-span.result c.in-Some.ensures.batch c.span-span.ensures c.retry.new.self
    (λ n other. ap (λ queues. reads_at queues n) c.retry.ensures.queues ∙ c.event_in.ensures.others n other)
    (subst (λ (queues : List QueueView). reads_at queues c.span-span.result.queue ≤ reads_at c.self.inside.queues.queues c.span-span.result.queue + most_in (queue_at c.self.inside.queues c.span-span.result.queue) (seen_span c.span-span.result))
    (sym c.retry.ensures.queues) c.in_ok-found.ensures.upper)
