use Rattle.std.proofs.Common.{IfOk, subst, ap, if◌then◌else◌}
use Rattle.sky_model.specs.SessionMarks.{Enters, entry_place}
use Rattle.pgq_parts.specs.Views.{DbView}
use Rattle.sky_model.specs.declared.stmt.Where.TheVariants.{WhenReading, WhenOutside}
use Rattle.sky_state.specs.Seen.{seen}
use Rattle.pgq_parts.specs.Seen.{seen_database}
use Rattle.pgq_parts.proofs.Agreeing.{agree-entered}
use Rattle.pgq_parts.proofs.Databases.{entered-steps}
use Rattle.pgq_db.proofs.db.Db.enter.Goals as goal

pub invariant_of-self : goal.invariant_of-self
invariant_of-self g c = λ e.
    agree-entered (seen (g.R.RowStore.state c.self.inside.rows)) (seen (g.R.RowStore.state c.enter.new.self)) c.args.who (if c.args.outside then WhenOutside else WhenReading) c.enter.result c.self.inside.queues
    c.enter.ensures.ok c.enter.ensures.err (c.self.invariant e)

pub returns-clause-steps : goal.returns-clause-steps
returns-clause-steps g c =
    entered-steps (seen_database c.args.self.now) _ c.args.who c.args.outside c.enter.result
    (subst (λ (v : DbView). IfOk c.enter.result (λ refusal. Enters (seen v.rows) (seen (g.R.RowStore.state c.enter.new.self)) c.args.who (entry_place c.args.outside) refusal)) c.self.view_is c.enter.ensures.ok)
    (ap (λ (v : DbView). record (seen_database v) { part = seen (g.R.RowStore.state c.enter.new.self) }) c.self.view_is)
