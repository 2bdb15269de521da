use Rattle.std.proofs.Common.{◌≡◌, ◌<◌, true, false, length, get_or, sym, ◌∙◌, ap, arith, option_copied}
use Rattle.sky_urlenc.specs.RowEvents.{Trigger, leaves_out}
use Rattle.pgq_queue.specs.Views.{QueueView}
use Rattle.pgq_queues.specs.Traced.{no_trigger}
use Rattle.pgq_queues.specs.EventRule.{sequences, count_of}
use Rattle.pgq_queues.proofs.Telling.{upto, out_at, ids-left_out, ids-told, room-for, found-at}
use Rattle.pgq_queues.proofs.gate.has_ids.Goals as goal

pub loop-place-preserved-then-leaves_out : goal.loop-place-preserved-then-leaves_out
loop-place-preserved-then-leaves_out c =
    let t = c.args.traced.now in
    let old = option_copied c.args.old in
    let new = option_copied c.args.new in
    let i = c.loop-place.place in
    let fits : i < length t.triggers = omega (arith, c.loop-place-test.true, c.count-place-end.ensures) in
    let same : c.trigger-trigger.result.now ≡ (get_or t.triggers i no_trigger).trigger = c.trigger-trigger.ensures in
    let out : out_at t old new i ≡ true = sym (λ j. leaves_out (same j) (c.schema.ensures j) old new) ∙ sym c.leaves_out.ensures ∙ c.if-leaves_out.true in
    sym (ids-left_out t old new (sequences c.args.queues.now) i fits out) ∙ c.loop-place.invariant

pub loop-place-preserved : goal.loop-place-preserved
loop-place-preserved c =
    let seq = sequences c.args.queues.now in
    let t = c.args.traced.now in
    let old = option_copied c.args.old in
    let new = option_copied c.args.new in
    let i = c.loop-place.place in
    let fits : i < length t.triggers = omega (arith, c.loop-place-test.true, c.count-place-end.ensures) in
    let same : c.trigger-trigger.result.now ≡ (get_or t.triggers i no_trigger).trigger = c.trigger-trigger.ensures in
    let out : out_at t old new i ≡ false = sym (λ j. leaves_out (same j) (c.schema.ensures j) old new) ∙ sym c.leaves_out.ensures ∙ c.if-leaves_out.false in
    let queue : c.queue-queue.result ≡ (get_or t.triggers i no_trigger).trigger.queue = c.queue-queue.ensures ∙ ap Trigger.queue same in
    sym (ids-told t old new seq i fits out
    (room-for c.seq-seq.result c.told_before-before.result (seq (get_or t.triggers i no_trigger).trigger.queue) (count_of (get_or t.triggers i no_trigger).trigger.queue (upto t old new i))
    (c.seq-seq.ensures ∙ ap QueueView.seq (found-at c.args.queues.now c.queue-queue.result (get_or t.triggers i no_trigger).trigger.queue c.get.result.now queue c.get.ensures.within c.get.ensures.value)) (c.told_before-before.ensures ∙ ap (λ q. count_of q (upto t old new i)) queue) (λ h. omega (arith, h, c.if-seq.false)) (λ h. omega (arith, h, c.if-before-seq.false))))
    ∙ c.loop-place.invariant
