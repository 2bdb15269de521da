use Rattle.std.proofs.Common.{option_map, ap, refl}
use Rattle.sky_names.specs.Named.{value_of}
use Rattle.pgq_sub.specs.declared.sub.OpenBatch.{OpenBatch}
use Rattle.pgq_sub.specs.Views.{at_tick}
use Rattle.pgq_queue.specs.Views.{QueueView}
use Rattle.pgq_queues.proofs.TracedLists.{stands-kept}
use Rattle.pgq_queues.proofs.Consumed.{becomes, tick-none, within-less, moved-as}
use Rattle.pgq_queues.proofs.Waiting.{tick-keeps, retried-becomes}
use Rattle.pgq_queues.proofs.Unchanged.{rest-kept}
use Rattle.pgq_queues.proofs.queues.Queues.move_to.Goals as goal

pub invariant_of-self : goal.invariant_of-self
invariant_of-self c =
    let name = c.args.consumer.now in
    let old = c.get_mut.result.now in
    let new = c.move_to-given_up.new.self in (
      (
        c.self.invariant.0.0,
        retried-becomes c.self.inside.slots c.args.queue c.get_mut.result.now c.move_to-given_up.new.self c.args.consumer.now (option_map (at_tick c.args.tick)) c.self.inside.retries (stands-kept _ _ c.args.queue c.self.view_is c.requires) c.get_mut.ensures.within c.get_mut.ensures.value
            c.move_to-given_up.ensures.but (becomes c.args.consumer.now (option_map (at_tick c.args.tick)) c.get_mut.result.now c.move_to-given_up.new.self _ c.move_to-given_up.ensures.subs) (tick-keeps c.args.tick) c.self.invariant.0.1,
      ),
      within-less c.self.inside.names c.self.inside.slots c.args.queue name (option_map (at_tick c.args.tick)) (option_map OpenBatch.id c.move_to-given_up.result) old new c.self.inside.batches.entries c.forget.new.places.entries
          c.self.inside.triggers.items c.self.inside.traced_tables.entries c.get_mut.ensures.within c.get_mut.ensures.value (stands-kept _ _ c.args.queue c.self.view_is c.requires) (ap QueueView.ticks c.move_to-given_up.ensures.but)
          (becomes name (option_map (at_tick c.args.tick)) old new _ c.move_to-given_up.ensures.subs) (ap (option_map OpenBatch.id) c.move_to-given_up.ensures.given_up) (tick-none c.args.tick (value_of name old.subs))
          c.forget.ensures c.self.invariant.1,
    )

pub returns-clause-mark : goal.returns-clause-mark
returns-clause-mark c =
    moved-as _ _ c.self.inside.last_batch_id c.args.queue c.args.tick c.args.consumer.now (option_map OpenBatch.id c.move_to-given_up.result) c.get_mut.result.now c.move_to-given_up.new.self c.forget.new.places.entries
    c.self.view_is c.get_mut.ensures.within c.get_mut.ensures.value c.move_to-given_up.ensures.but c.move_to-given_up.ensures.subs (ap (option_map OpenBatch.id) c.move_to-given_up.ensures.given_up) c.forget.ensures c.self.invariant.1.1.0.indexed

pub get_mut-requires : goal.get_mut-requires
get_mut-requires c = stands-kept _ _ c.args.queue c.self.view_is c.requires

pub returns-clause-rest : goal.returns-clause-rest
returns-clause-rest c = rest-kept _ _ _ c.self.view_is refl refl refl refl
