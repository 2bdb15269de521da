use Rattle.std.proofs.Common.{◌≡◌, refl, ◌∙◌, subst}
use Rattle.sky_model.specs.State.{RowPart, after_marks}
use Rattle.sky_model.specs.SessionMarks.{failure}
use Rattle.sky_state.specs.Seen.{seen}
use Rattle.pgq_queues.specs.Seen.{seen_with}
use Rattle.pgq_queues.specs.Views.{QueuesView}
use Rattle.pgq_parts.specs.Views.{DbView}
use Rattle.pgq_parts.specs.Seen.{with_node, seen_database}
use Rattle.pgq_parts.proofs.EventsAlike.{failure-unwritten}
use Rattle.pgq_parts.proofs.Agreeing.{agree-passed}
use Rattle.pgq_parts.specs.Looks.{ReadsNone}
use Rattle.pgq_parts.proofs.Looking.{reads-passed}
use Rattle.pgq_parts.proofs.Results.{on-same, on-both, if-ok}
use Rattle.pgq_db.proofs.turn.DbStatements.roll_back.Goals as goal

pub invariant_of-self : goal.invariant_of-self
invariant_of-self g c = λ e.
    let old : RowPart = seen (g.R.RowStore.state c.self.inside.rows) in
    let r = c.roll_back-ended.result in
    let ok = c.noted.ensures.ok e in
    agree-passed old (seen (g.R.RowStore.state c.roll_back-ended.new.self)) c.self.inside.queues c.roll_back-ended.new.gate (failure c.args.who (old.session c.args.who).txid (old.session c.args.who).block) (if-ok r c.roll_back-ended.ensures.marks ok) (if-ok r c.roll_back-ended.ensures.passed ok) (c.self.invariant (c.noted.ensures.sound e))

pub returns-clause-marks : goal.returns-clause-marks
returns-clause-marks g c =
    let old : RowPart = seen (g.R.RowStore.state c.self.inside.rows) in
    let q : QueuesView = c.self.inside.queues in
    on-both c.noted.result c.roll_back-ended.result c.noted.ensures.same c.roll_back-ended.ensures.marks c.roll_back-ended.ensures.passed (λ marks passed.
    subst (λ (v : DbView). seen_with (with_node c.self.inside.node (seen (g.R.RowStore.state c.roll_back-ended.new.self))) c.roll_back-ended.new.gate
    ≡ after_marks (seen_database v) (failure c.args.who ((seen_database v).part.session c.args.who).txid ((seen_database v).part.session c.args.who).block)) c.self.view_is
    ((λ i. seen_with (with_node c.self.inside.node (marks i)) (passed i)) ∙ failure-unwritten c.self.inside.node old q c.args.who (old.session c.args.who).txid (old.session c.args.who).block))

pub returns-clause-reads : goal.returns-clause-reads
returns-clause-reads g c =
    let old : RowPart = seen (g.R.RowStore.state c.self.inside.rows) in
    on-same c.noted.result c.roll_back-ended.result c.noted.ensures.same c.roll_back-ended.ensures.passed (λ passed.
    subst (λ (v : DbView). ReadsNone v.queues c.roll_back-ended.new.gate) c.self.view_is (reads-passed c.self.inside.queues c.self.inside.queues c.roll_back-ended.new.gate (failure c.args.who (old.session c.args.who).txid (old.session c.args.who).block) refl passed))
