use Rattle.std.proofs.Common.{◌<◌, [], Some, length, get_or, sym, ◌∙◌, ap, arith}
use Rattle.std.specs.Prelude.{slice_get}
use Rattle.sky_model.specs.declared.reply.HeldBack.TheVariants.{Consumer}
use Rattle.pgq_queue.specs.Views.{QueueView}
use Rattle.pgq_queue.specs.Seen.{seen_queue}
use Rattle.pgq_queue.proofs.HeldBack.{consumer-there, held-first, held-next}
use Rattle.pgq_queue.proofs.queue.Queue.held_by_consumers.Goals as goal

pub returns-in-Some-clause-held : goal.returns-in-Some-clause-held
returns-in-Some-clause-held c =
    let there = ap (λ (v : QueueView). slice_get v.subs.names c.loop-place.place) (sym c.self.view_is) ∙ c.consumer.ensures in
    (λ i. Some (Consumer (c.in_ok-copy.ensures i) (c.id.ensures i) (c.xmin.ensures i)))
    ∙ sym (held-first c.args.txid (seen_queue c.args.self.now) c.args.self.now.subs.names c.loop-place.place c.consumer.result.now _ there (c.in-Some.ensures c.consumer.result.now there))
    ∙ c.loop-place.invariant

pub loop-place-preserved : goal.loop-place-preserved
loop-place-preserved c =
    let members = c.args.self.now.subs.names in
    let many = ap (λ (v : QueueView). length v.subs.names) c.self.view_is in
    let inside : c.loop-place.place < length members = omega (arith, c.loop-place-test.true, c.len-place-end.ensures, many) in
    let there = consumer-there members c.loop-place.place inside in
    held-next c.args.txid (seen_queue c.args.self.now) members c.loop-place.place (get_or members c.loop-place.place []) there (c.in_default.ensures (get_or members c.loop-place.place []) there) ∙ c.loop-place.invariant
