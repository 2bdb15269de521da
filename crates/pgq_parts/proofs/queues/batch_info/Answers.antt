use Rattle.std.proofs.Common.{◌∙◌}
use Rattle.pgq_queues.specs.Seen.{seen_with}
use Rattle.pgq_parts.proofs.BatchSteps.{info-of}
use Rattle.pgq_parts.proofs.queues.batch_info.Goals as goal

pub returns-clause-ok : goal.returns-clause-ok
returns-clause-ok c = λ beside. info-of (seen_with beside c.args.queues.now) c.args.id c.in-Some.batch _ c.in-Some.ensures.batch (c.in_ok-new.ensures ∙ c.in_ok-info.ensures beside)
