use Rattle.std.proofs.Common.{◌≡◌, [], ◌∷◌, rules, subst}
use Rattle.sky_model.specs.declared.reply.Reply.TheVariants.{Done}
use Rattle.sky_model.specs.History.{queued, traced}
use Rattle.sky_model.specs.Outcome.{does_marks}
use Rattle.sky_model.specs.StepTrigger.{add_trigger}
use Rattle.sky_model.specs.Stops.{StopsAs}
use Rattle.sky_state.specs.Seen.{seen}
use Rattle.pgq_parts.specs.Views.{DbView}
use Rattle.pgq_parts.specs.Seen.{seen_database}
use Rattle.pgq_parts.proofs.Databases.{marked-as}
use Rattle.pgq_parts.proofs.Decided.{stops-there, does-mark}
use Rattle.pgq_parts.proofs.Agreeing.{agree-traced}
use Rattle.pgq_db.proofs.db.Db.add_trigger.Goals as goal

pub returns-in_err-trigger : goal.returns-in_err-trigger
returns-in_err-trigger g c =
    let stop = c.in_err-trigger.field-0.0 in
    let stops =
    stops-there stop (seen_database c.args.self.now) c.args.replies.now (add_trigger (seen_database c.args.self.now) c.args.asked.now)
    (subst (λ (w : DbView). StopsAs stop (add_trigger (seen_database w) c.args.asked.now)) c.self.view_is c.in_err-trigger.ensures.err) in
    search (rules, stops)

pub invariant_of-self : goal.invariant_of-self
invariant_of-self g c = λ e.
    agree-traced (seen (g.R.RowStore.state c.self.inside.rows)) c.self.inside.queues c.trace.new.self c.trace.ensures.rounds
    (c.trace.ensures.tables (seen (g.R.RowStore.state c.self.inside.rows)) c.in_ok-trigger.ensures.table (c.self.invariant e).tables) (c.self.invariant e)

pub invariant_of-self-in_err-push : goal.invariant_of-self-in_err-push
invariant_of-self-in_err-push g c = λ e.
    agree-traced (seen (g.R.RowStore.state c.self.inside.rows)) c.self.inside.queues c.trace.new.self c.trace.ensures.rounds
    (c.trace.ensures.tables (seen (g.R.RowStore.state c.self.inside.rows)) c.in_ok-trigger.ensures.table (c.self.invariant e).tables) (c.self.invariant e)

pub invariant_of-self-2 : goal.invariant_of-self-2
invariant_of-self-2 g c = λ e.
    agree-traced (seen (g.R.RowStore.state c.self.inside.rows)) c.self.inside.queues c.trace.new.self c.trace.ensures.rounds
    (c.trace.ensures.tables (seen (g.R.RowStore.state c.self.inside.rows)) c.in_ok-trigger.ensures.table (c.self.invariant e).tables) (c.self.invariant e)

pub returns : goal.returns
returns g c =
    let t = c.in_ok-trigger.trigger in
    let adds =
    subst (λ (w : DbView). add_trigger (seen_database w) c.args.asked.now ≡ does_marks Done (queued (traced t.table t.name t.trigger) ∷ [])) c.self.view_is c.in_ok-trigger.ensures.adds in
    let mark = marked-as _ _ c.trace.new.self (λ _. traced t.table t.name t.trigger) c.self.view_is c.in_ok-trace.ensures.ok in
    does-mark _ _ _ _ c.args.who Done (traced t.table t.name t.trigger) _ adds mark c.in_ok-push.ensures.ok tt
