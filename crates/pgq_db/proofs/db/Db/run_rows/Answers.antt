use Rattle.std.proofs.Common.{sym, ap, ◌++◌, ◌∙◌, subst, to_z, of_z, w64, refl}
use Rattle.std.proofs.lemmas.Int.{to_z-of_z}
use Rattle.sky_model.specs.State.{RowPart, Database}
use Rattle.sky_model.specs.Reader.{part_by_itself, database_by_itself, within_part}
use Rattle.sky_model.specs.Gates.{by_gate}
use Rattle.sky_model.specs.Printed.{HaveMoments}
use Rattle.sky_model.specs.Settling.{Turn}
use Rattle.sky_state.specs.Seen.{seen}
use Rattle.pgq_queues.specs.Views.{QueuesView}
use Rattle.pgq_queues.specs.Seen.{seen_with}
use Rattle.pgq_queues.specs.EventRule.{event_rule}
use Rattle.pgq_parts.specs.Views.{DbView}
use Rattle.pgq_parts.specs.Seen.{with_node, seen_database}
use Rattle.pgq_parts.specs.Gives.{Adds}
use Rattle.pgq_parts.specs.Looks.{ReadsNone}
use Rattle.pgq_parts.specs.RowRuns.{run_turn}
use Rattle.pgq_parts.proofs.EventsAlike.{Alike, alike-at, run-told, run-rows, told-changed}
use Rattle.pgq_parts.proofs.Moments.{same-moments}
use Rattle.pgq_parts.proofs.Agreeing.{agree-behind_turn}
use Rattle.pgq_parts.proofs.Looking.{reads-passed}
use Rattle.pgq_parts.proofs.Results.{on-same, if-ok}
use Rattle.pgq_db.proofs.db.Db.run_rows.Goals as goal

pub invariant_of-self : goal.invariant_of-self
invariant_of-self g c = λ e.
    let node = c.self.inside.node in
    let was : QueuesView = c.self.inside.queues in
    let p : RowPart = seen (g.R.RowStore.state c.self.inside.rows) in
    let settles = if-ok c.run-ran.result c.run-ran.ensures (c.noted.ensures.ok e) in
    agree-behind_turn c.args.now node _ p _ was c.set_time.new.self _ _ _ (run-told c.args.now node (seen_with (with_node node p) was) p c.set_time.new.self (g.W.RunsRows.what c.args.run)) c.set_time.ensures.time
    (to_z-of_z w64 c.args.now c.ranges.now) (c.self.invariant c.if-self.false) c.set_time.ensures.within settles.exact.changed settles.exact.passed

pub returns-clause-adds : goal.returns-clause-adds
returns-clause-adds g c =
    let node = c.self.inside.node in
    let was : QueuesView = c.self.inside.queues in
    let p : RowPart = seen (g.R.RowStore.state c.self.inside.rows) in
    let d : Database = seen_with (with_node node p) was in
    let q : QueuesView = c.set_time.new.self in
    let after : RowPart = seen (g.R.RowStore.state c.run-ran.new.rows) in
    let alike : Alike c.args.now node d p q = alike-at c.args.now node (to_z w64 (of_z w64 c.args.now)) p was q c.set_time.ensures.time (to_z-of_z w64 c.args.now c.ranges.now) (c.self.invariant c.if-self.false).tables c.set_time.ensures.within in
    let same = run-told c.args.now node d p q (g.W.RunsRows.what c.args.run) alike in
    let turn : Turn = run_turn (by_gate event_rule part_by_itself) (p, q) (g.W.RunsRows.what c.args.run) in
    on-same c.noted.result c.run-ran.result c.noted.ensures.same c.run-ran.ensures (λ settles.
    subst (λ (v : DbView). Adds (seen_database v) (seen_with (with_node node after) c.run-ran.new.queues) c.args.replies.now c.swap-2.new.y (run_turn (within_part database_by_itself c.args.now) (seen_database v) (g.W.RunsRows.what c.args.run))) c.self.view_is (record {
      replied = c.swap-2.ensures.y_after ∙ settles.exact.replied ∙ ap (λ before. before ++ turn.answers) c.swap.ensures.x_after ∙ ap (λ answers. c.args.replies.now ++ answers) (sym same.answers);
      changed = told-changed c.args.now node d p after q c.run-ran.new.queues turn _ same (run-rows p q (g.W.RunsRows.what c.args.run)) refl settles.exact.changed settles.exact.passed;
    }))

pub returns-clause-moments : goal.returns-clause-moments
returns-clause-moments g c =
    let node = c.self.inside.node in
    let was : QueuesView = c.self.inside.queues in
    let p : RowPart = seen (g.R.RowStore.state c.self.inside.rows) in
    let q : QueuesView = c.set_time.new.self in
    let alike : Alike c.args.now node (seen_with (with_node node p) was) p q = alike-at c.args.now node (to_z w64 (of_z w64 c.args.now)) p was q c.set_time.ensures.time (to_z-of_z w64 c.args.now c.ranges.now) (c.self.invariant c.if-self.false).tables c.set_time.ensures.within in
    on-same c.noted.result c.run-ran.result c.noted.ensures.same c.run-ran.ensures (λ settles.
    subst (λ (v : DbView). HaveMoments (run_turn (within_part database_by_itself c.args.now) (seen_database v) (g.W.RunsRows.what c.args.run)).answers) c.self.view_is
    (same-moments _ _ (run-told c.args.now node (seen_with (with_node node p) was) p q (g.W.RunsRows.what c.args.run) alike).answers (run-rows p q (g.W.RunsRows.what c.args.run)).moments))

pub returns-clause-rests : goal.returns-clause-rests
returns-clause-rests g c = on-same c.noted.result c.run-ran.result c.noted.ensures.same c.run-ran.ensures (λ settles. settles.rests)

pub returns-clause-reads : goal.returns-clause-reads
returns-clause-reads g c = on-same c.noted.result c.run-ran.result c.noted.ensures.same c.run-ran.ensures (λ settles.
    subst (λ (v : DbView). ReadsNone v.queues c.run-ran.new.queues) c.self.view_is
    (reads-passed c.self.inside.queues c.set_time.new.self c.run-ran.new.queues (run_turn (by_gate event_rule part_by_itself) (seen (g.R.RowStore.state c.self.inside.rows), c.set_time.new.self) (g.W.RunsRows.what c.args.run)).marks (ap QueuesView.queues c.set_time.ensures.time) settles.exact.passed))
