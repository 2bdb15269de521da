use Rattle.std.proofs.Common.{ℕ, List, ◌<◌, rules, option_map, sym, subst, ◌∙◌}
use Rattle.std.specs.Prelude.{find, not}
use Rattle.sky_model.specs.declared.reply.Refusal.TheVariants.{BadColumn}
use Rattle.sky_model.specs.Outcome.{refused_by}
use Rattle.sky_model.specs.StepTrigger.{may_ignore}
use Rattle.sky_model.specs.Stops.{StopsAs}
use Rattle.sky_state.specs.Seen.{seen}
use Rattle.pgq_parts.proofs.Decided.{bad-column}
use Rattle.pgq_parts.proofs.triggers.check_trigger.Goals as goal

pub returns-in_err-check_ignored-clause-err : goal.returns-in_err-check_ignored-clause-err
returns-in_err-check_ignored-clause-err g c =
    let stop = c.in_err-check_ignored.field-0.0 in
    let stops =
    bad-column (seen (g.R.RowStore.state c.args.rows.now)) c.args.queues.now.triggers c.args.table c.args.asked.now.name c.args.asked.now.ignored (sym c.has_trigger.ensures ∙ c.if-has_trigger.false)
    (subst (λ m. m < 8) c.trigger_count.ensures (subst (λ m. c.trigger_count.result < m) c.most.ensures c.if-trigger_count-most.false)) stop
    (subst (λ columns. StopsAs stop (refused_by (option_map BadColumn (find (λ x. not (may_ignore columns x)) c.args.asked.now.ignored)))) c.requires
    (subst (λ (names : List (List ℕ)). StopsAs stop (refused_by (option_map BadColumn (find (λ x. not (may_ignore c.args.schema.now x)) names)))) c.as_slice.ensures c.in_err-check_ignored.ensures.err)) in
    search (rules, stops)
