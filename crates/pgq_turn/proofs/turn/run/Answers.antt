use Rattle.std.proofs.Common.{sym, subst, w64}
use Rattle.std.proofs.lemmas.Int.{to_z-of_z}
use Rattle.sky_model.specs.Calls.{database_turn}
use Rattle.sky_model.specs.Printed.{HaveMoments}
use Rattle.sky_model.specs.Reader.{database_by_itself}
use Rattle.sky_model.specs.Settling.{Turn}
use Rattle.sky_model.specs.State.{Database}
use Rattle.pgq_parts.specs.Gives.{Adds}
use Rattle.pgq_parts.specs.Seen.{seen_database}
use Rattle.pgq_parts.proofs.Results.{on-ok}
use Rattle.pgq_turn.proofs.turn.run.Goals as goal

pub returns-in-Row-clause-adds : goal.returns-in-Row-clause-adds
returns-in-Row-clause-adds g c =
    let d : Database = seen_database (g.S.Statements.view c.args.db.now) in
    on-ok c.step_rows.result c.step_rows.ensures.adds (subst (Adds d (seen_database (g.S.Statements.view c.step_rows.new.self)) c.args.replies.now c.step_rows.new.replies)
    (λ i. database_turn database_by_itself d (to_z-of_z w64 c.args.now c.ranges.now i) c.args.who (sym c.in-Row.is i)))

pub returns-in-Row-clause-moments : goal.returns-in-Row-clause-moments
returns-in-Row-clause-moments g c =
    let d : Database = seen_database (g.S.Statements.view c.args.db.now) in
    on-ok c.step_rows.result c.step_rows.ensures.moments (subst (λ (turn : Turn). HaveMoments turn.answers)
    (λ i. database_turn database_by_itself d (to_z-of_z w64 c.args.now c.ranges.now i) c.args.who (sym c.in-Row.is i)))

pub returns-in-Queue-clause-adds : goal.returns-in-Queue-clause-adds
returns-in-Queue-clause-adds g c =
    let d : Database = seen_database (g.S.Statements.view c.args.db.now) in
    on-ok c.run_on_queues.result c.run_on_queues.ensures.adds (subst (Adds d (seen_database (g.S.Statements.view c.run_on_queues.new.db)) c.args.replies.now c.run_on_queues.new.replies)
    (λ i. database_turn database_by_itself d (to_z-of_z w64 c.args.now c.ranges.now i) c.args.who (sym c.in-Queue.is i)))

pub returns-in-Queue-clause-moments : goal.returns-in-Queue-clause-moments
returns-in-Queue-clause-moments g c =
    let d : Database = seen_database (g.S.Statements.view c.args.db.now) in
    on-ok c.run_on_queues.result c.run_on_queues.ensures.moments (subst (λ (turn : Turn). HaveMoments turn.answers)
    (λ i. database_turn database_by_itself d (to_z-of_z w64 c.args.now c.ranges.now i) c.args.who (sym c.in-Queue.is i)))
