use Rattle.std.proofs.Common.{None, Some, option_map, is_some, sym, ◌∙◌, ap, refl}
use Rattle.pgq_sub.specs.Views.{finished}
use Rattle.sky_names.specs.Named.{value_of}
use Rattle.pgq_queue.specs.Views.{QueueView}
use Rattle.pgq_queues.specs.Batches.{open_id}
use Rattle.pgq_queues.proofs.Marked.{kept-updated}
use Rattle.pgq_queues.proofs.Indexed.{finished-none}
use Rattle.pgq_queues.proofs.Consumed.{becomes, sub-here, within-less, closed-as, if-there, if-nothing}
use Rattle.pgq_queues.proofs.Waiting.{finish-keeps, retried-becomes}
use Rattle.pgq_queues.proofs.Unchanged.{rest-kept}
use Rattle.pgq_queues.proofs.queues.Queues.close_batch.Goals as goal

pub invariant_of-self-2 : goal.invariant_of-self-2
invariant_of-self-2 c =
    let p = c.in-Some.place in
    let were = c.self.invariant.1.1.0 in (
      (
        c.self.invariant.0.0,
        retried-becomes c.self.inside.slots p.queue c.get_mut.result.now c.close_batch.new.self p.consumer (option_map finished) c.self.inside.retries (were.stand c.args.id p (sym c.in-Some.ensures.value)) c.get_mut.ensures.within c.get_mut.ensures.value
            c.close_batch.ensures.but (becomes p.consumer (option_map finished) c.get_mut.result.now c.close_batch.new.self _ c.close_batch.ensures.subs) finish-keeps c.self.invariant.0.1,
      ),
      within-less c.self.inside.names c.self.inside.slots p.queue p.consumer (option_map finished) (Some c.args.id) c.get_mut.result.now c.close_batch.new.self c.self.inside.batches.entries c.remove.new.self.entries
          c.self.inside.triggers.items c.self.inside.traced_tables.entries c.get_mut.ensures.within c.get_mut.ensures.value (were.stand c.args.id p (sym c.in-Some.ensures.value)) (ap QueueView.ticks c.close_batch.ensures.but)
          (becomes p.consumer (option_map finished) c.get_mut.result.now c.close_batch.new.self _ c.close_batch.ensures.subs)
          (sym (were.indexed.there c.args.id p (sym c.in-Some.ensures.value)) ∙ ap open_id (sub-here c.self.inside.slots p.queue c.get_mut.result.now p.consumer c.get_mut.ensures.within c.get_mut.ensures.value))
          (finished-none (value_of p.consumer c.get_mut.result.now.subs)) (kept-updated c.self.inside.batches.entries c.remove.new.self.entries c.args.id None c.remove.ensures.updates.0) c.self.invariant.1,
    )

pub returns-clause-found : goal.returns-clause-found
returns-clause-found c =
    let closed = closed-as _ _ c.self.inside.last_batch_id c.args.id c.in-Some.place c.get_mut.result.now c.close_batch.new.self c.remove.new.self.entries c.self.view_is c.get_mut.ensures.within c.get_mut.ensures.value
    c.close_batch.ensures.but c.close_batch.ensures.subs c.in-Some.ensures.value (kept-updated c.self.inside.batches.entries c.remove.new.self.entries c.args.id None c.remove.ensures.updates.0) c.self.invariant.1.1.0.indexed in
    sym (ap is_some closed.1)

pub returns-clause-mark : goal.returns-clause-mark
returns-clause-mark c =
    let closed = closed-as _ _ c.self.inside.last_batch_id c.args.id c.in-Some.place c.get_mut.result.now c.close_batch.new.self c.remove.new.self.entries c.self.view_is c.get_mut.ensures.within c.get_mut.ensures.value
    c.close_batch.ensures.but c.close_batch.ensures.subs c.in-Some.ensures.value (kept-updated c.self.inside.batches.entries c.remove.new.self.entries c.args.id None c.remove.ensures.updates.0) c.self.invariant.1.1.0.indexed in
    if-there _ closed.0 _ closed.1 closed.2

pub returns-clause-none : goal.returns-clause-none
returns-clause-none c =
    let closed = closed-as _ _ c.self.inside.last_batch_id c.args.id c.in-Some.place c.get_mut.result.now c.close_batch.new.self c.remove.new.self.entries c.self.view_is c.get_mut.ensures.within c.get_mut.ensures.value
    c.close_batch.ensures.but c.close_batch.ensures.subs c.in-Some.ensures.value (kept-updated c.self.inside.batches.entries c.remove.new.self.entries c.args.id None c.remove.ensures.updates.0) c.self.invariant.1.1.0.indexed in
    if-nothing _ closed.0 _ closed.1

pub returns-clause-rest : goal.returns-clause-rest
returns-clause-rest c = rest-kept _ _ _ c.self.view_is refl refl refl refl
