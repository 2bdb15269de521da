-- pgq_queues/proofs/queues/Queues/subscription/Answers.antt
use Rattle.std.proofs.Common.{◌≡◌, Some, sym, ap, ◌∙◌, option_map}
use Rattle.pgq_sub.specs.Views.{seen_sub}
use Rattle.pgq_queues.specs.Seen.{sub_at}
use Rattle.pgq_queues.proofs.Consumed.{sub-there, open-there}
use Rattle.pgq_queues.proofs.queues.Queues.subscription.Goals.{After-copy}
use Rattle.pgq_queues.proofs.queues.Queues.subscription.Goals as goal

there : (c : After-copy) → sub_at c.args.self.now.queues c.args.number c.args.consumer.now ≡ Some c.copy.result
there c = sub-there _ _ c.args.number c.get.result.now c.args.consumer.now (Some c.in_ok-sub.sub.now) c.self.view_is c.get.ensures.within c.get.ensures.value c.in_ok-sub.ensures ∙ ap Some (sym c.copy.ensures)

pub returns-clause-sub : goal.returns-clause-sub
returns-clause-sub c = ap (option_map seen_sub) (sym (there c))

pub returns-clause-batch : goal.returns-clause-batch
returns-clause-batch c = open-there _ _ c.args.number c.args.consumer.now c.copy.result c.self.view_is c.self.invariant.1.1.0 (there c)
