use Rattle.std.proofs.Common.{ℕ, List, Some, ◌+◌, refl, ◌∙◌, ap, option_map}
use Rattle.pgq_sub.specs.Views.{with_open}
use Rattle.pgq_queues.specs.declared.batch.Place.{Place}
use Rattle.pgq_queues.specs.Seen.{kept}
use Rattle.pgq_queues.proofs.Marked.{kept-updated}
use Rattle.pgq_queues.proofs.TracedLists.{stands-kept}
use Rattle.pgq_queues.proofs.Indexed.{and_at}
use Rattle.pgq_queues.proofs.Consumed.{becomes, is-free, within-more, opened-as}
use Rattle.pgq_queues.proofs.Waiting.{open-keeps, retried-becomes}
use Rattle.pgq_queues.proofs.Unchanged.{rest-kept}
use Rattle.pgq_queues.proofs.queues.Queues.open_batch.Goals as goal

pub invariant_of-self-2 : goal.invariant_of-self-2
invariant_of-self-2 c =
    let id = c.self.inside.last_batch_id + 1 in
    let old = c.self.inside.batches.entries in
    let p : Place = record { queue = c.args.queue; consumer = c.args.consumer.now } in (
      (
        c.self.invariant.0.0,
        retried-becomes c.self.inside.slots c.args.queue c.get_mut.result.now c.open_batch.new.self c.args.consumer.now (option_map (with_open (record { id = id; cur = c.args.cur }))) c.self.inside.retries (stands-kept _ _ c.args.queue c.self.view_is c.requires.queue) c.get_mut.ensures.within c.get_mut.ensures.value
            c.open_batch.ensures.but (becomes c.args.consumer.now (option_map (with_open (record { id = id; cur = c.args.cur }))) c.get_mut.result.now c.open_batch.new.self _ c.open_batch.ensures.subs) (open-keeps (record { id = id; cur = c.args.cur })) c.self.invariant.0.1,
      ),
      within-more c.self.inside.names c.self.inside.slots c.args.cur id p c.get_mut.result.now c.open_batch.new.self old c.insert.new.self.entries c.self.inside.triggers.items c.self.inside.traced_tables.entries
          c.get_mut.ensures.within c.get_mut.ensures.value (stands-kept _ _ c.args.queue c.self.view_is c.requires.queue) c.open_batch.ensures.but c.open_batch.ensures.subs refl
          (is-free _ _ c.args.queue c.args.consumer.now c.self.view_is c.requires.free)
          (λ n. kept-updated old c.insert.new.self.entries id (Some (record { queue = c.args.queue; consumer = c.in_ok-copy.field-0 })) c.in_ok-insert.ensures.updates.0 n
          ∙ ap (λ (name : List ℕ). and_at id (record { queue = c.args.queue; consumer = name }) n (kept old n)) c.in_ok-copy.ensures)
          c.self.invariant.1,
    )

pub returns-clause-mark : goal.returns-clause-mark
returns-clause-mark c =
    let id = c.self.inside.last_batch_id + 1 in
    let old = c.self.inside.batches.entries in
    let p : Place = record { queue = c.args.queue; consumer = c.args.consumer.now } in
    opened-as _ _ c.args.cur id p c.get_mut.result.now c.open_batch.new.self c.insert.new.self.entries c.self.view_is c.get_mut.ensures.within c.get_mut.ensures.value c.open_batch.ensures.but c.open_batch.ensures.subs refl c.requires.free
    (λ n. kept-updated old c.insert.new.self.entries id (Some (record { queue = c.args.queue; consumer = c.in_ok-copy.field-0 })) c.in_ok-insert.ensures.updates.0 n
    ∙ ap (λ (name : List ℕ). and_at id (record { queue = c.args.queue; consumer = name }) n (kept old n)) c.in_ok-copy.ensures)
    c.self.invariant.1.1.0.indexed

pub get_mut-requires : goal.get_mut-requires
get_mut-requires c = stands-kept _ _ c.args.queue c.self.view_is c.requires.queue

pub returns-in_err-insert-clause-rest : goal.returns-in_err-insert-clause-rest
returns-in_err-insert-clause-rest c = rest-kept _ _ _ c.self.view_is refl refl refl refl

pub returns-clause-rest : goal.returns-clause-rest
returns-clause-rest c = rest-kept _ _ _ c.self.view_is refl refl refl refl
