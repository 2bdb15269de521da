use Rattle.std.proofs.Common.{sym, ap, ◌+◌, ◌∙◌, arith, w64}
use Rattle.std.proofs.lemmas.Int.{to_z-of_z}
use Rattle.sky_val.specs.declared.event.Event.{Event}
use Rattle.sky_model.specs.History.{raised}
use Rattle.sky_model.specs.State.{Queue}
use Rattle.sky_model.specs.StepQueue.{made_event}
use Rattle.pgq_tables.specs.declared.stored.PlainEvent.{PlainEvent}
use Rattle.pgq_queues.specs.Seen.{queue_at}
use Rattle.pgq_parts.specs.Views.{DbView}
use Rattle.pgq_parts.proofs.Databases.{gives-event, marked-as}
use Rattle.pgq_db.proofs.db.Db.insert_event.Goals as goal

pub returns : goal.returns
returns g c =
    let whole : PlainEvent → Event = λ e. made_event e.ev_id e.ev_time e.ev_txid e.ev_type e.ev_data c.args.inserted.now.extra in
    gives-event _ _ _ _ c.args.now _ c.args.who c.args.inserted.now c.in_ok-queue.queue c.seq-seq.result c.in_ok-txid.txid (whole c.in_ok-event.event) _ _
    c.in_ok-queue.ensures.ok (sym c.is_reserved.ensures ∙ c.if-is_reserved.false) c.in_ok-txid.ensures.ok (c.seq-seq.ensures ∙ ap (λ (q : Queue). q.seq) c.queue.ensures ∙ ap (λ (v : DbView). (queue_at v.queues c.in_ok-queue.queue).seq) c.self.view_is) (omega arith)
    (to_z-of_z w64 c.args.now c.ranges.now) (ap whole c.in_ok-event.ensures) c.in_ok-take_txid.ensures.marks
    (marked-as _ _ c.raise.new.self (λ _. raised c.in_ok-queue.queue (c.seq-seq.result + 1)) c.self-2.view_is c.raise.ensures.mark) c.in_ok-put.ensures.mark c.in_ok-push.ensures.ok
