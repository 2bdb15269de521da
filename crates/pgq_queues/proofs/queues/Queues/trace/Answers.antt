use Rattle.std.proofs.Common.{◌∙◌, ap, sym, subst}
use Rattle.std.proofs.lemmas.Result.{IfOk-from_err, IfOk-weaker}
use Rattle.sky_model.specs.History.{queued, traced}
use Rattle.sky_model.specs.State.{Database, after_mark}
use Rattle.sky_model.specs.Triggers.{TableTrigger}
use Rattle.pgq_queues.specs.Traced.{IsTable}
use Rattle.pgq_queues.proofs.Marked.{on-err, on-err-then}
use Rattle.pgq_queues.proofs.queues.Queues.trace.Goals as goal

pub store_trigger-requires-clause-queue : goal.store_trigger-requires-clause-queue
store_trigger-requires-clause-queue c = c.keep_table.ensures.stand.stands _ c.requires

pub returns-in_err-keep_table-clause-ok : goal.returns-in_err-keep_table-clause-ok
returns-in_err-keep_table-clause-ok c = IfOk-from_err _ _ c.from_residual.ensures.0

pub returns-in_err-keep_table-clause-err : goal.returns-in_err-keep_table-clause-err
returns-in_err-keep_table-clause-err c = on-err _ _ c.keep_table.ensures.same

pub returns-in_err-keep_table-clause-tables : goal.returns-in_err-keep_table-clause-tables
returns-in_err-keep_table-clause-tables c = λ part here are. c.keep_table.ensures.tables part (subst (λ n. IsTable part n c.args.name.now c.args.schema.now) (sym (ap TableTrigger.table c.trigger.view_is)) here) are

pub returns-in_err-keep_table-clause-rounds : goal.returns-in_err-keep_table-clause-rounds
returns-in_err-keep_table-clause-rounds c = c.keep_table.ensures.rounds

pub returns-clause-ok : goal.returns-clause-ok
returns-clause-ok c =
    IfOk-weaker c.store_trigger.result _ _
    (λ _ is beside. is beside ∙ ap (λ (d : Database). after_mark d (queued (traced c.args.trigger.table c.args.trigger.name c.args.trigger.trigger))) (c.keep_table.ensures.same beside)) c.store_trigger.ensures.ok

pub returns-clause-err : goal.returns-clause-err
returns-clause-err c = on-err-then c.store_trigger.result _ _ (λ is beside. is beside ∙ c.keep_table.ensures.same beside) c.store_trigger.ensures.err

pub returns-clause-tables : goal.returns-clause-tables
returns-clause-tables c = λ part here are.
    c.store_trigger.ensures.tables part (c.keep_table.ensures.tables part (subst (λ n. IsTable part n c.args.name.now c.args.schema.now) (sym (ap TableTrigger.table c.trigger.view_is)) here) are)

pub returns-clause-rounds : goal.returns-clause-rounds
returns-clause-rounds c = c.store_trigger.ensures.rounds ∙ c.keep_table.ensures.rounds
