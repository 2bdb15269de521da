use Rattle.std.proofs.Common.{◌≡◌, ◌++◌, [], subst}
use Rattle.sky_model.specs.State.{after_marks}
use Rattle.sky_model.specs.OwnTransaction.{begin_of, commit_of, in_own}
use Rattle.sky_state.specs.Seen.{seen}
use Rattle.pgq_parts.specs.Views.{DbView}
use Rattle.pgq_parts.specs.Seen.{seen_database}
use Rattle.pgq_parts.proofs.Databases.{took}
use Rattle.pgq_parts.proofs.Agreeing.{agree-then, agree-same}
use Rattle.pgq_db.proofs.db.Db.take_txid.Goals as goal

pub returns-clause-marks : goal.returns-clause-marks
returns-clause-marks g c =
    let left : DbView = record { rows = (g.R.RowStore.state c.write_elsewhere.new.self); queues = c.self.inside.queues; node = c.self.inside.node } in
    let begun : DbView = record left { rows = (g.R.RowStore.state c.self.inside.rows) } in
    subst (λ (v : DbView). seen_database left ≡ after_marks (seen_database v)
    (begin_of c.args.who c.args.txid ((seen_database v).part.session c.args.who).txid ++ commit_of c.args.who c.args.txid ((seen_database v).part.session c.args.who).block)) c.self.view_is
    (took (seen_database begun) (seen (g.R.RowStore.state c.write_elsewhere.new.self)) c.args.who c.args.txid c.in_ok-write_elsewhere.ensures.marks)

pub invariant_of-self : goal.invariant_of-self
invariant_of-self g c = λ e. agree-same (seen (g.R.RowStore.state c.self.inside.rows)) (seen (g.R.RowStore.state c.write_elsewhere.new.self)) c.self.inside.queues c.in_err-write_elsewhere.ensures.same (c.self.invariant e)

pub invariant_of-self-2 : goal.invariant_of-self-2
invariant_of-self-2 g c =
    let old = seen (g.R.RowStore.state c.self.inside.rows) in
    λ e. agree-then old (seen (g.R.RowStore.state c.write_elsewhere.new.self)) (in_own c.args.who c.args.txid (old.session c.args.who) []) c.self.inside.queues c.in_ok-write_elsewhere.ensures.marks (c.self.invariant e)
