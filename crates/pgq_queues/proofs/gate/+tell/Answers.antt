use Rattle.std.proofs.Common.{◌≡◌, true, false, ◌<◌, ◌+◌, List, length, refl, sym, ◌∙◌, ap, subst, arith, option_copied, slice_set, get_or, to_z, of_z, w64}
use Rattle.std.proofs.lemmas.Int.{to_z-of_z}
use Rattle.std.proofs.lemmas.List.{set-get_or}
use Rattle.std.proofs.lemmas.Result.{IfOk-from_err}
use Rattle.sky_urlenc.specs.RowEvents.{Trigger, RowEvent}
use Rattle.sky_model.specs.Moment.{HasMoment}
use Rattle.pgq_queue.specs.Views.{QueueView}
use Rattle.pgq_queue.specs.Seen.{no_queue}
use Rattle.pgq_queues.specs.Seen.{Stands}
use Rattle.pgq_queues.specs.Traced.{no_trigger}
use Rattle.pgq_queues.specs.EventRule.{sequences, ids_left, telling_all}
use Rattle.pgq_queue.specs.Changed.{telling}
use Rattle.pgq_queues.proofs.Marked.{on-err}
use Rattle.pgq_queues.proofs.TracedLists.{goes-same, goes-then, goes-alike}
use Rattle.pgq_queues.proofs.Telling.{told-rest, event_at, out_at, from, read-out, read-event, from-told, from-left_out, from-end, room-next, ids-rest, told-there, told-here, told-some, back-there, told-stand}
use Rattle.pgq_queues.proofs.gate.+tell.Goals as goal

pub get-requires : goal.get-requires
get-requires n c =
    let t = c.args.traced.now in
    let queues : List QueueView = c.args.queues.now in
    let i = c.args.place in
    let fits : i < length t.triggers = omega (arith, c.requires.place, c.if-place-count.false, c.count.ensures) in
    let same : c.trigger-trigger.result.now ≡ (get_or t.triggers i no_trigger).trigger = c.trigger-trigger.ensures in
    subst (Stands queues) (sym (c.queue-queue.ensures ∙ ap Trigger.queue same)) (c.requires.within i no_trigger fits)

pub get_mut-requires : goal.get_mut-requires
get_mut-requires n c =
    let t = c.args.traced.now in
    let queues : List QueueView = c.args.queues.now in
    let i = c.args.place in
    let fits : i < length t.triggers = omega (arith, c.requires.place, c.if-place-count.false, c.count.ensures) in
    let same : c.trigger-trigger.result.now ≡ (get_or t.triggers i no_trigger).trigger = c.trigger-trigger.ensures in
    subst (Stands queues) (sym (c.queue-queue.ensures ∙ ap Trigger.queue same)) (c.requires.within i no_trigger fits)

pub tell-requires : goal.tell-requires
tell-requires n c =
    let t = c.args.traced.now in
    let old = option_copied c.args.old in
    let new = option_copied c.args.new in
    let queues : List QueueView = c.args.queues.now in
    let i = c.args.place in
    let fits : i < length t.triggers = omega (arith, c.requires.place, c.if-place-count.false, c.count.ensures) in
    let same : c.trigger-trigger.result.now ≡ (get_or t.triggers i no_trigger).trigger = c.trigger-trigger.ensures in
    let out : out_at t old new i ≡ true = read-out t old new i _ _ _ _ same c.schema.ensures c.leaves_out.ensures c.if-leaves_out.true in (
      omega (arith, fits, c.decreases),
      (
        omega (arith, fits),
        (c.requires.within, (subst HasMoment (sym (to_z-of_z w64 c.args.now c.ranges.now)) c.requires.time, ap (ids_left (sequences queues)) (sym (from-left_out t old new i fits out)) ∙ c.requires.room)),
      ),
    )

pub tell-requires-2 : goal.tell-requires-2
tell-requires-2 n c =
    let t = c.args.traced.now in
    let old = option_copied c.args.old in
    let new = option_copied c.args.new in
    let queues : List QueueView = c.args.queues.now in
    let i = c.args.place in
    let e : RowEvent = event_at t old new i in
    let fits : i < length t.triggers = omega (arith, c.requires.place, c.if-place-count.false, c.count.ensures) in
    let same : c.trigger-trigger.result.now ≡ (get_or t.triggers i no_trigger).trigger = c.trigger-trigger.ensures in
    let out : out_at t old new i ≡ false = read-out t old new i _ _ _ _ same c.schema.ensures c.leaves_out.ensures c.if-leaves_out.false in
    let queue : c.queue-queue.result ≡ e.queue = c.queue-queue.ensures ∙ ap Trigger.queue same in
    record {
      time = subst HasMoment (sym (to_z-of_z w64 c.args.now c.ranges.now)) c.requires.time;
      id = room-next queues e (from t old new (i + 1)) c.queue-queue.result c.get_mut.result.now queue c.get_mut.ensures.within c.get_mut.ensures.value (ap (ids_left (sequences queues)) (sym (from-told t old new i fits out)) ∙ c.requires.room);
    }

pub tell-requires-3 : goal.tell-requires-3
tell-requires-3 n c =
    let t = c.args.traced.now in
    let old = option_copied c.args.old in
    let new = option_copied c.args.new in
    let queues : List QueueView = c.args.queues.now in
    let i = c.args.place in
    let e : RowEvent = event_at t old new i in
    let fits : i < length t.triggers = omega (arith, c.requires.place, c.if-place-count.false, c.count.ensures) in
    let same : c.trigger-trigger.result.now ≡ (get_or t.triggers i no_trigger).trigger = c.trigger-trigger.ensures in
    let out : out_at t old new i ≡ false = read-out t old new i _ _ _ _ same c.schema.ensures c.leaves_out.ensures c.if-leaves_out.false in
    let queue : c.queue-queue.result ≡ e.queue = c.queue-queue.ensures ∙ ap Trigger.queue same in
    let stands : Stands queues c.queue-queue.result = subst (Stands queues) (sym (c.queue-queue.ensures ∙ ap Trigger.queue same)) (c.requires.within i no_trigger fits) in
    let time : to_z w64 (of_z w64 c.args.now) ≡ c.args.now = to_z-of_z w64 c.args.now c.ranges.now in
    let low : e.queue < length queues = subst (λ n. n < length queues) queue c.get_mut.ensures.within in
    let still = told-stand queues c.queue-queue.result c.get_mut.result.now c.tell-2.new.self (to_z w64 (of_z w64 c.args.now)) c.args.txid c.in_ok-event.event c.get_mut.ensures.within c.get_mut.ensures.value stands c.in_ok-tell.ensures.ok in
    let after : slice_set queues c.queue-queue.result c.tell-2.new.self ≡ slice_set queues e.queue (telling c.args.now c.args.txid e (get_or queues e.queue no_queue)) =
    told-there queues c.args.now (to_z w64 (of_z w64 c.args.now)) c.args.txid c.queue-queue.result c.in_ok-event.event e c.get_mut.result.now c.tell-2.new.self queue
    (read-event t old new i _ _ _ _ same c.name.ensures c.schema-2.ensures c.in_ok-event.ensures) time c.get_mut.ensures.within c.get_mut.ensures.value c.in_ok-tell.ensures.ok in (
      omega (arith, fits, c.decreases),
      (
        omega (arith, fits),
        (
          (λ k d lt. still.stands _ (c.requires.within k d lt)),
          (
            subst HasMoment (sym time) c.requires.time,
            ap (λ qs. ids_left (sequences qs) (from t old new (i + 1))) after
                ∙ ids-rest queues c.args.now c.args.txid e (from t old new (i + 1)) low (ap (ids_left (sequences queues)) (sym (from-told t old new i fits out)) ∙ c.requires.room),
          ),
        ),
      ),
    )

pub get_mut-requires-in-Err : goal.get_mut-requires-in-Err
get_mut-requires-in-Err n c =
    let t = c.args.traced.now in
    let queues : List QueueView = c.args.queues.now in
    let i = c.args.place in
    let fits : i < length t.triggers = omega (arith, c.requires.place, c.if-place-count.false, c.count.ensures) in
    let same : c.trigger-trigger.result.now ≡ (get_or t.triggers i no_trigger).trigger = c.trigger-trigger.ensures in
    let stands : Stands queues c.queue-queue.result = subst (Stands queues) (sym (c.queue-queue.ensures ∙ ap Trigger.queue same)) (c.requires.within i no_trigger fits) in
    let still = told-stand queues c.queue-queue.result c.get_mut.result.now c.tell-2.new.self (to_z w64 (of_z w64 c.args.now)) c.args.txid c.in_ok-event.event c.get_mut.ensures.within c.get_mut.ensures.value stands c.in_ok-tell.ensures.ok in
    c.tell-3.ensures.stand.stands _ (still.stands _ stands)

pub take_back-requires : goal.take_back-requires
take_back-requires n c =
    let t = c.args.traced.now in
    let old = option_copied c.args.old in
    let new = option_copied c.args.new in
    let queues : List QueueView = c.args.queues.now in
    let i = c.args.place in
    let e : RowEvent = event_at t old new i in
    let same : c.trigger-trigger.result.now ≡ (get_or t.triggers i no_trigger).trigger = c.trigger-trigger.ensures in
    let queue : c.queue-queue.result ≡ e.queue = c.queue-queue.ensures ∙ ap Trigger.queue same in
    let time : to_z w64 (of_z w64 c.args.now) ≡ c.args.now = to_z-of_z w64 c.args.now c.ranges.now in
    let after : slice_set queues c.queue-queue.result c.tell-2.new.self ≡ slice_set queues e.queue (telling c.args.now c.args.txid e (get_or queues e.queue no_queue)) =
    told-there queues c.args.now (to_z w64 (of_z w64 c.args.now)) c.args.txid c.queue-queue.result c.in_ok-event.event e c.get_mut.result.now c.tell-2.new.self queue
    (read-event t old new i _ _ _ _ same c.name.ensures c.schema-2.ensures c.in_ok-event.ensures) time c.get_mut.ensures.within c.get_mut.ensures.value c.in_ok-tell.ensures.ok in
    told-some queues c.tell-3.new.queues c.args.now c.args.txid c.queue-queue.result e c.get_mut-in-Err.result.now queue c.get_mut.ensures.within c.get_mut-in-Err.ensures.within (c.in-Err.ensures.err ∙ after) c.get_mut-in-Err.ensures.value

pub returns-then-place-count : goal.returns-then-place-count
returns-then-place-count n c =
    let end = from-end c.args.traced.now (option_copied c.args.old) (option_copied c.args.new) c.args.place (omega (arith, c.if-place-count.true, c.count.ensures)) in record {
      ok = ap (λ es. telling_all c.args.now c.args.txid es c.args.queues.now) (sym end);
      err = tt;
      stand = goes-same _ _ refl;
    }

pub returns-then-leaves_out : goal.returns-then-leaves_out
returns-then-leaves_out n c =
    let t = c.args.traced.now in
    let old = option_copied c.args.old in
    let new = option_copied c.args.new in
    let queues : List QueueView = c.args.queues.now in
    let i = c.args.place in
    let fits : i < length t.triggers = omega (arith, c.requires.place, c.if-place-count.false, c.count.ensures) in
    let same : c.trigger-trigger.result.now ≡ (get_or t.triggers i no_trigger).trigger = c.trigger-trigger.ensures in
    let time : to_z w64 (of_z w64 c.args.now) ≡ c.args.now = to_z-of_z w64 c.args.now c.ranges.now in
    let out : out_at t old new i ≡ true = read-out t old new i _ _ _ _ same c.schema.ensures c.leaves_out.ensures c.if-leaves_out.true in
    record {
      ok = told-rest c.tell.result t old new i queues c.tell.new.queues c.args.now (to_z w64 (of_z w64 c.args.now)) c.args.txid time (from-left_out t old new i fits out) c.tell.ensures.ok;
      err = c.tell.ensures.err;
      stand = c.tell.ensures.stand;
    }

pub returns-in_err-event-clause-ok : goal.returns-in_err-event-clause-ok
returns-in_err-event-clause-ok n c = IfOk-from_err _ _ c.from_residual.ensures.0

pub returns-in_err-event-clause-err : goal.returns-in_err-event-clause-err
returns-in_err-event-clause-err n c = on-err _ _ refl

pub returns-in_err-event-clause-stand : goal.returns-in_err-event-clause-stand
returns-in_err-event-clause-stand n c = goes-same _ _ refl

pub returns-in_err-tell-clause-ok : goal.returns-in_err-tell-clause-ok
returns-in_err-tell-clause-ok n c = IfOk-from_err _ _ c.from_residual-in_err-tell.ensures.0

pub returns-in_err-tell-clause-err : goal.returns-in_err-tell-clause-err
returns-in_err-tell-clause-err n c =
    on-err _ _ (ap (slice_set c.args.queues.now c.queue-queue.result) (c.in_err-tell.ensures.err ∙ c.get_mut.ensures.value) ∙ set-get_or c.args.queues.now c.queue-queue.result c.get_mut.result.now)

pub returns-in_err-tell-clause-stand : goal.returns-in_err-tell-clause-stand
returns-in_err-tell-clause-stand n c =
    let t = c.args.traced.now in
    let queues : List QueueView = c.args.queues.now in
    let i = c.args.place in
    let fits : i < length t.triggers = omega (arith, c.requires.place, c.if-place-count.false, c.count.ensures) in
    let same : c.trigger-trigger.result.now ≡ (get_or t.triggers i no_trigger).trigger = c.trigger-trigger.ensures in
    let stands : Stands queues c.queue-queue.result = subst (Stands queues) (sym (c.queue-queue.ensures ∙ ap Trigger.queue same)) (c.requires.within i no_trigger fits) in
    goes-alike queues c.queue-queue.result c.get_mut.result.now c.tell-2.new.self c.get_mut.ensures.within c.get_mut.ensures.value stands (ap QueueView.ticks c.in_err-tell.ensures.err) (ap QueueView.subs c.in_err-tell.ensures.err)

pub returns-in-Ok-clause-ok : goal.returns-in-Ok-clause-ok
returns-in-Ok-clause-ok n c =
    let t = c.args.traced.now in
    let old = option_copied c.args.old in
    let new = option_copied c.args.new in
    let queues : List QueueView = c.args.queues.now in
    let i = c.args.place in
    let e : RowEvent = event_at t old new i in
    let time : to_z w64 (of_z w64 c.args.now) ≡ c.args.now = to_z-of_z w64 c.args.now c.ranges.now in
    let fits : i < length t.triggers = omega (arith, c.requires.place, c.if-place-count.false, c.count.ensures) in
    let same : c.trigger-trigger.result.now ≡ (get_or t.triggers i no_trigger).trigger = c.trigger-trigger.ensures in
    let out : out_at t old new i ≡ false = read-out t old new i _ _ _ _ same c.schema.ensures c.leaves_out.ensures c.if-leaves_out.false in
    let queue : c.queue-queue.result ≡ e.queue = c.queue-queue.ensures ∙ ap Trigger.queue same in
    let after : slice_set queues c.queue-queue.result c.tell-2.new.self ≡ slice_set queues e.queue (telling c.args.now c.args.txid e (get_or queues e.queue no_queue)) =
    told-there queues c.args.now (to_z w64 (of_z w64 c.args.now)) c.args.txid c.queue-queue.result c.in_ok-event.event e c.get_mut.result.now c.tell-2.new.self queue
    (read-event t old new i _ _ _ _ same c.name.ensures c.schema-2.ensures c.in_ok-event.ensures) time c.get_mut.ensures.within c.get_mut.ensures.value c.in_ok-tell.ensures.ok in
    c.in-Ok.ensures.ok
    ∙ (λ j. telling_all (time j) c.args.txid (from t old new (i + 1)) (after j))
    ∙ ap (λ es. telling_all c.args.now c.args.txid es queues) (sym (from-told t old new i fits out))

pub returns-in-Ok-clause-stand : goal.returns-in-Ok-clause-stand
returns-in-Ok-clause-stand n c =
    let t = c.args.traced.now in
    let queues : List QueueView = c.args.queues.now in
    let i = c.args.place in
    let fits : i < length t.triggers = omega (arith, c.requires.place, c.if-place-count.false, c.count.ensures) in
    let same : c.trigger-trigger.result.now ≡ (get_or t.triggers i no_trigger).trigger = c.trigger-trigger.ensures in
    let stands : Stands queues c.queue-queue.result = subst (Stands queues) (sym (c.queue-queue.ensures ∙ ap Trigger.queue same)) (c.requires.within i no_trigger fits) in
    let still = told-stand queues c.queue-queue.result c.get_mut.result.now c.tell-2.new.self (to_z w64 (of_z w64 c.args.now)) c.args.txid c.in_ok-event.event c.get_mut.ensures.within c.get_mut.ensures.value stands c.in_ok-tell.ensures.ok in
    goes-then queues _ _ still c.in-Ok.ensures.stand

pub returns-in-Err-clause-err : goal.returns-in-Err-clause-err
returns-in-Err-clause-err n c =
    let t = c.args.traced.now in
    let old = option_copied c.args.old in
    let new = option_copied c.args.new in
    let queues : List QueueView = c.args.queues.now in
    let i = c.args.place in
    let e : RowEvent = event_at t old new i in
    let same : c.trigger-trigger.result.now ≡ (get_or t.triggers i no_trigger).trigger = c.trigger-trigger.ensures in
    let queue : c.queue-queue.result ≡ e.queue = c.queue-queue.ensures ∙ ap Trigger.queue same in
    let time : to_z w64 (of_z w64 c.args.now) ≡ c.args.now = to_z-of_z w64 c.args.now c.ranges.now in
    let after : slice_set queues c.queue-queue.result c.tell-2.new.self ≡ slice_set queues e.queue (telling c.args.now c.args.txid e (get_or queues e.queue no_queue)) =
    told-there queues c.args.now (to_z w64 (of_z w64 c.args.now)) c.args.txid c.queue-queue.result c.in_ok-event.event e c.get_mut.result.now c.tell-2.new.self queue
    (read-event t old new i _ _ _ _ same c.name.ensures c.schema-2.ensures c.in_ok-event.ensures) time c.get_mut.ensures.within c.get_mut.ensures.value c.in_ok-tell.ensures.ok in
    let here = told-here queues c.tell-3.new.queues c.args.now c.args.txid c.queue-queue.result e c.get_mut-in-Err.result.now queue c.get_mut.ensures.within c.get_mut-in-Err.ensures.within (c.in-Err.ensures.err ∙ after) c.get_mut-in-Err.ensures.value in
    back-there queues c.tell-3.new.queues c.args.now c.args.txid c.queue-queue.result e c.get_mut-in-Err.result.now c.take_back.new.self queue (c.in-Err.ensures.err ∙ after) here c.take_back.ensures

pub returns-in-Err-clause-stand : goal.returns-in-Err-clause-stand
returns-in-Err-clause-stand n c = goes-same _ _ (returns-in-Err-clause-err n c)
