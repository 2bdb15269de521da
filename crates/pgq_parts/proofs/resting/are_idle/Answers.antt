use Rattle.std.proofs.Common.{◌≡◌, ℤ, Bool, false, slice_index_or, sym, ap, ◌∙◌, to_z, of_z, w64, arith}
use Rattle.std.specs.List.{list_all}
use Rattle.std.proofs.lemmas.Int.{to_z-of_z}
use Rattle.sky_model.specs.Queues.{NamedQueue}
use Rattle.sky_store.specs.Idle.{queue_idles}
use Rattle.pgq_queues.specs.Seen.{queue_at, queues_of, unnamed}
use Rattle.pgq_parts.proofs.Idle.{not-idle-at}
use Rattle.pgq_parts.proofs.resting.are_idle.Goals as goal

pub returns-then-not-is_idle : goal.returns-then-not-is_idle
returns-then-not-is_idle c =
    let moment : ℤ = to_z w64 (of_z w64 c.args.moment) in
    let f : ℤ → NamedQueue → Bool = λ m q. queue_idles m (queue_at c.args.queues.now q.number) in
    let busy : f moment (slice_index_or (queues_of c.args.queues.now) c.loop-place.place unnamed) ≡ false =
    ap (λ n. queue_idles moment (queue_at c.args.queues.now n)) (sym c.number_at.ensures.number)
    ∙ ap (queue_idles moment) (sym c.queue-queue.ensures) ∙ sym c.is_idle.ensures ∙ c.if-not-is_idle.true in
    sym (not-idle-at (f moment) (queues_of c.args.queues.now) c.loop-place.place (omega (arith, c.loop-place-test.true, c.count-place-end.ensures)) busy)
    ∙ c.loop-place.invariant ∙ ap (λ (m : ℤ). list_all (f m) (queues_of c.args.queues.now)) (to_z-of_z w64 c.args.moment c.ranges.moment)
