use Rattle.std.proofs.Common.{◌≡◌, rules, subst}
use Rattle.sky_model.specs.declared.reply.Reply.TheVariants.{BatchInfo}
use Rattle.sky_model.specs.Outcome.{answers}
use Rattle.sky_model.specs.StepConsumer.{get_batch_info}
use Rattle.sky_model.specs.Stops.{StopsAs}
use Rattle.sky_state.specs.Seen.{seen}
use Rattle.pgq_parts.specs.Views.{DbView}
use Rattle.pgq_parts.specs.Seen.{with_node, seen_database}
use Rattle.pgq_parts.proofs.BatchSteps.{gives-shown}
use Rattle.pgq_parts.proofs.Decided.{stops-there}
use Rattle.pgq_db.proofs.db.Db.get_batch_info.Goals as goal

pub returns-in_err-info : goal.returns-in_err-info
returns-in_err-info g c =
    let d = seen_database c.args.self.now in
    let stops =
    stops-there c.in_err-info.field-0.0 d c.args.replies.now (get_batch_info d c.args.id)
    (subst (λ (v : DbView). StopsAs c.in_err-info.field-0.0 (get_batch_info (seen_database v) c.args.id)) c.self.view_is (c.in_err-info.ensures.err (with_node c.self.inside.node (seen (g.R.RowStore.state c.self.inside.rows))))) in
    search (rules, stops)

pub returns : goal.returns
returns g c =
    gives-shown (seen_database c.args.self.now) c.args.who c.args.id c.in_ok-info.info _ _
    (subst (λ (v : DbView). get_batch_info (seen_database v) c.args.id ≡ answers (BatchInfo c.in_ok-info.info)) c.self.view_is (c.in_ok-info.ensures.ok (with_node c.self.inside.node (seen (g.R.RowStore.state c.self.inside.rows))))) c.in_ok-push.ensures.ok
