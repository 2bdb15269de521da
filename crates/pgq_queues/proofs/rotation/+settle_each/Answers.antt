use Rattle.std.proofs.Common.{◌<◌, length, arith, sym, subst, w64}
use Rattle.std.proofs.lemmas.Int.{to_z-of_z}
use Rattle.sky_model.specs.Moment.{IsTime}
use Rattle.pgq_queues.specs.Seen.{Stands}
use Rattle.pgq_queues.proofs.TracedLists.{stand-set}
use Rattle.pgq_queues.proofs.RotatedQueues.{settled-stays, each-still}
use Rattle.pgq_queues.proofs.rotation.+settle_each.Goals as goal

pub settle_each-requires : goal.settle_each-requires
settle_each-requires n c =
    let inside : c.args.place < length c.args.names.now.values = omega (arith, c.if-place-len.true, c.len.ensures.len, c.len.ensures.values) in
    let stands : Stands c.args.queues.now c.get.result.now = subst (Stands c.args.queues.now) (sym c.get.ensures.value) (c.requires.stand c.args.place c.get.result.now inside) in
    let still =
    stand-set c.args.queues.now c.get.result.now c.get_mut.result.now c.settle.new.self stands c.get_mut.ensures.within c.get_mut.ensures.value
    (settled-stays c.args.txid _ c.get_mut.result.now c.settle.new.self c.settle.ensures) in (
      omega (arith, inside, c.decreases),
      (omega (arith, inside), (subst IsTime (sym (to_z-of_z w64 c.args.now c.ranges.now)) c.requires.time, λ k d lt. still.stands _ (c.requires.stand k d lt))),
    )

pub returns-then-place-len-clause-stand : goal.returns-then-place-len-clause-stand
returns-then-place-len-clause-stand n c =
    let inside : c.args.place < length c.args.names.now.values = omega (arith, c.if-place-len.true, c.len.ensures.len, c.len.ensures.values) in
    each-still c.args.queues.now c.settle_each.new.queues c.get.result.now c.get_mut.result.now c.settle.new.self
    (subst (Stands c.args.queues.now) (sym c.get.ensures.value) (c.requires.stand c.args.place c.get.result.now inside)) c.get_mut.ensures.within c.get_mut.ensures.value
    (settled-stays c.args.txid _ c.get_mut.result.now c.settle.new.self c.settle.ensures) c.settle_each.ensures.stand
