use Rattle.std.proofs.Common.{rules, Some, refl, sym, ap, ◌∙◌}
use Rattle.sky_model.specs.Triggers.{TableTrigger}
use Rattle.sky_state.specs.Seen.{seen}
use Rattle.pgq_parts.specs.Views.{DbView}
use Rattle.pgq_parts.specs.Seen.{with_node, seen_database}
use Rattle.pgq_parts.proofs.Decided.{no-queue, no-fit, adds}
use Rattle.pgq_parts.proofs.Tables.{is-table}
use Rattle.pgq_parts.proofs.triggers.new_trigger.Goals as goal

pub returns-in_err-into-clause-err : goal.returns-in_err-into-clause-err
returns-in_err-into-clause-err g c =
    let v : DbView = record { rows = (g.R.RowStore.state c.args.rows.now); queues = c.args.queues.now; node = c.args.node.now } in
    let stops =
    no-queue (seen_database v) c.args.asked.now c.in_ok-number.number c.in_ok-number.ensures.number c.in_err-into.field-0.0
    (c.in_err-into.ensures.err (with_node c.args.node.now (seen (g.R.RowStore.state c.args.rows.now))) refl) in
    search (rules, stops)

pub returns-in_err-check_trigger-clause-err : goal.returns-in_err-check_trigger-clause-err
returns-in_err-check_trigger-clause-err g c =
    let v : DbView = record { rows = (g.R.RowStore.state c.args.rows.now); queues = c.args.queues.now; node = c.args.node.now } in
    let stops =
    no-fit (seen_database v) c.args.asked.now c.in_ok-number.number c.in_ok-into.into c.in_ok-number.ensures.number
    (c.in_ok-into.ensures.ok (with_node c.args.node.now (seen (g.R.RowStore.state c.args.rows.now))) refl) c.in_err-check_trigger.field-0.0 c.in_err-check_trigger.ensures.err in
    search (rules, stops)

pub returns-clause-adds : goal.returns-clause-adds
returns-clause-adds g c =
    let v : DbView = record { rows = (g.R.RowStore.state c.args.rows.now); queues = c.args.queues.now; node = c.args.node.now } in
    adds (seen_database v) c.args.asked.now c.in_ok-number.number c.in_ok-into.into c.in_ok-number.ensures.number
    (c.in_ok-into.ensures.ok (with_node c.args.node.now (seen (g.R.RowStore.state c.args.rows.now))) refl) c.in_ok-check_trigger.ensures.ok c.in_ok-trigger.trigger c.in_ok-trigger.ensures

pub returns-clause-table : goal.returns-clause-table
returns-clause-table g c =
    is-table (seen (g.R.RowStore.state c.args.rows.now)) c.args.asked.now.table c.in_ok-trigger.trigger.table c.in_ok-number.number c.in_ok-number.schema.now
    (c.in_ok-number.ensures.number ∙ ap Some (sym (ap TableTrigger.table c.in_ok-trigger.ensures))) c.in_ok-number.ensures.number c.in_ok-number.ensures.columns
