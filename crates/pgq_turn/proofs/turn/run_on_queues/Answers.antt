use Rattle.std.proofs.Common.{ℤ, subst, w64, to_z, of_z}
use Rattle.std.proofs.lemmas.Int.{to_z-of_z}
use Rattle.sky_model.specs.declared.stmt.DbStmt.TheVariants.{Queue}
use Rattle.sky_model.specs.Printed.{HaveMoments}
use Rattle.sky_model.specs.Reader.{database_by_itself}
use Rattle.sky_model.specs.Settling.{turn_of}
use Rattle.sky_model.specs.Calls.{statement, database_turn}
use Rattle.pgq_parts.specs.Seen.{seen_database}
use Rattle.pgq_parts.specs.Looks.{ListsLooked}
use Rattle.pgq_parts.proofs.Databases.{adds-then}
use Rattle.pgq_parts.proofs.Moments.{one-moments, then-moments}
use Rattle.pgq_parts.proofs.Looking.{looks-then, lists-then}
use Rattle.pgq_turn.proofs.turn.run_on_queues.Goals as goal

pub returns-clause-adds : goal.returns-clause-adds
returns-clause-adds g c =
    let adds = adds-then (to_z w64 (of_z w64 c.args.now)) (seen_database (g.S.Statements.view c.args.db.now)) _ _ _ _ _ _ c.in_ok-run_or_refuse.ensures.answers.0 c.in_ok-settle.ensures.adds in
    rw (to_z-of_z w64 c.args.now c.ranges.now) at adds

pub returns-clause-moments : goal.returns-clause-moments
returns-clause-moments g c =
    let d = seen_database (g.S.Statements.view c.args.db.now) in
    subst (λ (now : ℤ). HaveMoments (database_turn database_by_itself d now c.args.who (Queue c.args.stmt.now)).answers) (to_z-of_z w64 c.args.now c.ranges.now)
    (then-moments (to_z w64 (of_z w64 c.args.now)) d _ (turn_of c.args.who (statement database_by_itself d (to_z w64 (of_z w64 c.args.now)) c.args.who (Queue c.args.stmt.now)))
    (one-moments c.args.who _ c.in_ok-run_or_refuse.ensures.answers.1) c.in_ok-run_or_refuse.ensures.answers.0.changed c.in_ok-settle.ensures.moments)

pub returns-clause-looks : goal.returns-clause-looks
returns-clause-looks g c = looks-then (g.S.Statements.view c.args.db.now).queues (g.S.Statements.view c.run_or_refuse.new.db).queues (g.S.Statements.view c.settle.new.self).queues (Queue c.args.stmt.now) c.in_ok-run_or_refuse.ensures.looks c.in_ok-settle.ensures.reads

pub returns-clause-lists : goal.returns-clause-lists
returns-clause-lists g c =
    let d = seen_database (g.S.Statements.view c.args.db.now) in
    lists-then (g.S.Statements.view c.args.db.now).queues (g.S.Statements.view c.run_or_refuse.new.db).queues (g.S.Statements.view c.settle.new.self).queues (Queue c.args.stmt.now) (statement database_by_itself d c.args.now c.args.who (Queue c.args.stmt.now)).reply
    (subst (λ (now : ℤ). ListsLooked (g.S.Statements.view c.args.db.now).queues (g.S.Statements.view c.run_or_refuse.new.db).queues (Queue c.args.stmt.now) (statement database_by_itself d now c.args.who (Queue c.args.stmt.now)).reply) (to_z-of_z w64 c.args.now c.ranges.now) c.in_ok-run_or_refuse.ensures.lists)
    c.in_ok-settle.ensures.reads
