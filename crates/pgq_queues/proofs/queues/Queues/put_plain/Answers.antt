use Rattle.std.proofs.Common.{inl, inr, arith, refl, ap}
use Rattle.pgq_tables.specs.Tables.{full_event, with_stored}
use Rattle.pgq_queues.proofs.Waiting.{put-still, put-within}
use Rattle.pgq_queues.proofs.Marked.{queue-kept, on-err, queues-set}
use Rattle.sky_model.specs.State.{with_tables}
use Rattle.pgq_queue.specs.Views.{QueueView}
use Rattle.pgq_queue.specs.Seen.{seen_queue}
use Rattle.pgq_queues.proofs.TracedLists.{stands-kept}
use Rattle.pgq_queues.proofs.Unchanged.{rest-kept}
use Rattle.pgq_queues.proofs.queues.Queues.put_plain.Goals as goal

pub invariant_of-self : goal.invariant_of-self
invariant_of-self c = put-within _ _ c.args.queue (full_event c.args.event) c.get_mut.result.now c.put_plain.new.self c.self.view_is c.requires.queue c.get_mut.ensures.within c.get_mut.ensures.value (inr c.in_err-put_plain.ensures.err) (omega arith) c.self.invariant

pub invariant_of-self-2 : goal.invariant_of-self-2
invariant_of-self-2 c = put-within _ _ c.args.queue (full_event c.args.event) c.get_mut.result.now c.put_plain.new.self c.self.view_is c.requires.queue c.get_mut.ensures.within c.get_mut.ensures.value (inl c.in_ok-put_plain.ensures.ok) (omega arith) c.self.invariant

pub returns-in_err-put_plain-clause-stand : goal.returns-in_err-put_plain-clause-stand
returns-in_err-put_plain-clause-stand c = put-still _ _ c.args.queue (full_event c.args.event) c.get_mut.result.now c.put_plain.new.self c.self.view_is c.requires.queue c.get_mut.ensures.within c.get_mut.ensures.value (inr c.in_err-put_plain.ensures.err)

pub returns-clause-stand : goal.returns-clause-stand
returns-clause-stand c = put-still _ _ c.args.queue (full_event c.args.event) c.get_mut.result.now c.put_plain.new.self c.self.view_is c.requires.queue c.get_mut.ensures.within c.get_mut.ensures.value (inl c.in_ok-put_plain.ensures.ok)

pub returns-in_err-put_plain-clause-err : goal.returns-in_err-put_plain-clause-err
returns-in_err-put_plain-clause-err c = on-err c.from_residual.result _ (queue-kept _ _ c.args.queue c.get_mut.result.now c.put_plain.new.self c.self.view_is c.get_mut.ensures.value c.in_err-put_plain.ensures.err)

pub get_mut-requires : goal.get_mut-requires
get_mut-requires c = stands-kept _ _ c.args.queue c.self.view_is c.requires.queue

pub put_plain-requires : goal.put_plain-requires
put_plain-requires c = c.requires.time

pub returns-clause-mark : goal.returns-clause-mark
returns-clause-mark c =
    queues-set _ _ c.args.queue c.get_mut.result.now c.put_plain.new.self (with_tables (with_stored (full_event c.args.event))) c.self.view_is c.get_mut.ensures.within c.get_mut.ensures.value (ap seen_queue c.in_ok-put_plain.ensures.ok) (ap QueueView.subs c.in_ok-put_plain.ensures.ok)

pub returns-in_err-put_plain-clause-rest : goal.returns-in_err-put_plain-clause-rest
returns-in_err-put_plain-clause-rest c = rest-kept _ _ _ c.self.view_is refl refl refl refl

pub returns-clause-rest : goal.returns-clause-rest
returns-clause-rest c = rest-kept _ _ _ c.self.view_is refl refl refl refl
