use Rattle.std.proofs.Common.{rules, sym, ap, ◌∙◌}
use Rattle.sky_model.specs.Nodes.{is_set_queue}
use Rattle.pgq_queues.specs.Seen.{seen_with}
use Rattle.pgq_parts.proofs.Decided.{not-there, is-sets, is-free}
use Rattle.pgq_parts.proofs.triggers.queue_of_no_set.Goals as goal

pub returns-in_err-number-clause-err : goal.returns-in_err-number-clause-err
returns-in_err-number-clause-err c = λ beside same.
    let stops = not-there c.args.queue.now (seen_with beside c.args.queues.now) c.in_err-number.field-0.0 (c.in_err-number.ensures.err beside) in
    search (rules, stops)

pub returns-then-is_set_queue-clause-err : goal.returns-then-is_set_queue-clause-err
returns-then-is_set_queue-clause-err c = λ beside same.
    is-sets c.args.queue.now (seen_with beside c.args.queues.now) c.in_ok-number.number (c.in_ok-number.ensures.ok beside)
    (ap (λ node. is_set_queue c.args.queue.now node) same ∙ sym c.is_set_queue.ensures ∙ c.if-is_set_queue.true)

pub returns-clause-ok : goal.returns-clause-ok
returns-clause-ok c = λ beside same.
    is-free c.args.queue.now (seen_with beside c.args.queues.now) c.in_ok-number.number (c.in_ok-number.ensures.ok beside)
    (ap (λ node. is_set_queue c.args.queue.now node) same ∙ sym c.is_set_queue.ensures ∙ c.if-is_set_queue.false)
