use Rattle.std.proofs.Common.{◌∙◌, ◌+◌, ap, length, w64, subst}
use Rattle.std.proofs.lemmas.Int.{to_z-of_z}
use Rattle.pgq_retry.specs.Retries.{due_now}
use Rattle.sky_model.specs.StepRetry.{most_back}
use Rattle.pgq_queues.proofs.BroughtBack.{back-marks, once-more}
use Rattle.pgq_queues.specs.Views.{QueuesView}
use Rattle.pgq_queues.specs.Traced.{KeepsRest}
use Rattle.pgq_queues.proofs.queues.Queues.bring_back.Goals as goal

pub returns-clause-marks : goal.returns-clause-marks
returns-clause-marks c =
    back-marks _ c.args.self.now c.bring.new.self (c.self.inside.rounds + 1) c.args.txid c.due_count-count.result c.args.now most_back c.self.view_is
    (c.due_count-count.ensures ∙ ap (λ m. length (due_now m most_back c.args.self.now.retries)) (to_z-of_z w64 c.args.now c.ranges.now)) c.in_ok-bring.ensures.marks

pub bring-requires : goal.bring-requires
bring-requires c = λ k d lt. (c.self.invariant.0.1.waiting k d lt).most

pub invariant_of-self : goal.invariant_of-self
invariant_of-self c = ((c.self.invariant.0.0, once-more c.self.inside.slots c.self.inside.retries c.self.invariant.0.1), c.self.invariant.1)

pub returns-clause-count : goal.returns-clause-count
returns-clause-count c = c.due_count-count.ensures ∙ ap (λ m. length (due_now m most_back c.args.self.now.retries)) (to_z-of_z w64 c.args.now c.ranges.now)

pub returns-clause-rest : goal.returns-clause-rest
returns-clause-rest c = subst (λ (v : QueuesView). KeepsRest (record v { rounds = v.rounds + 1 }) c.bring.new.self) c.self.view_is c.bring.ensures.rest

pub returns-in_err-bring-clause-rest : goal.returns-in_err-bring-clause-rest
returns-in_err-bring-clause-rest c = subst (λ (v : QueuesView). KeepsRest (record v { rounds = v.rounds + 1 }) c.bring.new.self) c.self.view_is c.bring.ensures.rest
