use Rattle.std.proofs.Common.{◌<◌, length, arith, sym, subst, ap}
use Rattle.pgq_queue.specs.Views.{QueueView}
use Rattle.pgq_queues.specs.Seen.{Stands}
use Rattle.pgq_queues.proofs.TracedLists.{stands-set, ticks-kept}
use Rattle.pgq_queues.proofs.gate.+undo_each.Goals as goal

pub undo_each-requires : goal.undo_each-requires
undo_each-requires n c =
    let inside : c.args.place < length c.args.names.now.values = omega (arith, c.if-place-len.true, c.len.ensures.len, c.len.ensures.values) in
    let stands : Stands c.args.queues.now c.get.result.now = subst (Stands c.args.queues.now) (sym c.get.ensures.value) (c.requires.stand c.args.place c.get.result.now inside) in
    let ticks =
    ticks-kept c.args.queues.now c.get.result.now c.get_mut.result.now c.undo.new.self c.get_mut.ensures.within c.get_mut.ensures.value stands (ap QueueView.ticks c.undo.ensures) in
    (omega (arith, inside, c.decreases), (omega (arith, inside), λ k d lt. stands-set c.args.queues.now c.get.result.now c.undo.new.self c.get_mut.ensures.within ticks _ (c.requires.stand k d lt)))
