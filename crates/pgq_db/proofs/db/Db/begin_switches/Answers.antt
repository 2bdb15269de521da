use Rattle.std.proofs.Common.{◌<◌, length, get_or, ◌∙◌, ap, arith, w64, to_z, of_z}
use Rattle.sky_model.specs.Queues.{NamedQueue}
use Rattle.pgq_queues.specs.Seen.{unnamed, queues_of}
use Rattle.pgq_parts.specs.Views.{DbView}
use Rattle.pgq_parts.specs.Seen.{seen_database}
use Rattle.pgq_parts.proofs.Daemons.{steps_end, left-count, steps-left}
use Rattle.pgq_db.proofs.db.Db.begin_switches.Goals as goal

pub number_at-queue-requires : goal.number_at-queue-requires
number_at-queue-requires g c =
    let same = left-count (steps_end (to_z w64 (of_z w64 c.args.now))) _ _ c.loop-place.place c.loop-place.invariant in
    let shown = ap (λ (v : DbView). length (queues_of v.queues)) c.self.view_is in
    let here = ap (λ (v : DbView). length (queues_of v.queues)) c.self-in-loop-place.view_is in
    omega (arith, same, shown, here, c.loop-place-test.true, c.count-place-end.ensures)

pub loop-place-preserved : goal.loop-place-preserved
loop-place-preserved g c =
    let same = left-count (steps_end (to_z w64 (of_z w64 c.args.now))) _ _ c.loop-place.place c.loop-place.invariant in
    let shown = ap (λ (v : DbView). length (queues_of v.queues)) c.self.view_is in
    let low : c.loop-place.place < length (seen_database c.loop-place.self).queues = omega (arith, same, shown, c.loop-place-test.true, c.count-place-end.ensures) in
    steps-left (to_z w64 (of_z w64 c.args.now)) _ _ _ c.loop-place.place c.number_at-queue.result low
    (c.number_at-queue.ensures.number ∙ ap (λ (v : DbView). NamedQueue.number (get_or (queues_of v.queues) c.loop-place.place unnamed)) c.self-in-loop-place.view_is) c.loop-place.invariant c.in_ok-begin_switch.ensures
