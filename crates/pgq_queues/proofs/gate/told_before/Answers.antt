use Rattle.std.proofs.Common.{◌≡◌, ◌<◌, ◌≤◌, length, get_or, sym, ◌∙◌, ap, arith, option_copied}
use Rattle.sky_urlenc.specs.RowEvents.{Trigger, leaves_out}
use Rattle.pgq_queues.specs.Traced.{no_trigger}
use Rattle.pgq_queues.proofs.Telling.{count-left_out, count-told, count-other}
use Rattle.pgq_queues.proofs.gate.told_before.Goals.{then-queue+then-not-leaves_out, else-queue, else-queue-via-then-queue+else-not-leaves_out, else-queue-via-else-queue}
use Rattle.pgq_queues.proofs.gate.told_before.Goals as goal

pub loop-earlier-preserved : goal.loop-earlier-preserved
loop-earlier-preserved c =
    let t = c.args.traced.now in
    let old = option_copied c.args.old in
    let new = option_copied c.args.new in
    let i = c.loop-earlier.earlier in
    let fits : i < length t.triggers = omega (arith, c.requires, c.loop-earlier-test.true) in
    let same : c.trigger-trigger.result.now ≡ (get_or t.triggers i no_trigger).trigger = c.trigger-trigger.ensures in
    let few : c.loop-earlier.count ≤ i = c.loop-earlier.invariant.few in
    let queue : c.queue.result ≡ (get_or t.triggers i no_trigger).trigger.queue = c.queue.ensures ∙ ap Trigger.queue same in
    elim c.if-queue.branch [
      | then-queue+then-not-leaves_out w ↦ record {
        counted = w.count-is ∙ count-told t old new c.args.queue i c.loop-earlier.count fits
            (sym (λ j. leaves_out (same j) (w.schema.ensures j) old new) ∙ sym w.leaves_out.ensures ∙ w.if-not-leaves_out.true) (sym queue ∙ w.if-queue.true) c.loop-earlier.invariant.counted;
        few = omega (arith, few, w.count-is);
      }
      | else-queue w ↦ elim w.else-queue.branch [
        | else-queue-via-then-queue+else-not-leaves_out v ↦ record {
          counted = w.count-is ∙ count-left_out t old new c.args.queue i c.loop-earlier.count fits
              (sym (λ j. leaves_out (same j) (v.schema.ensures j) old new) ∙ sym v.leaves_out.ensures ∙ v.if-not-leaves_out.false) c.loop-earlier.invariant.counted;
          few = omega (arith, few, w.count-is);
        }
        | else-queue-via-else-queue v ↦ record {
          counted = w.count-is ∙ count-other t old new c.args.queue i c.loop-earlier.count fits (λ its. v.if-queue.false (queue ∙ its)) c.loop-earlier.invariant.counted;
          few = omega (arith, few, w.count-is);
        }
      ]
    ]
