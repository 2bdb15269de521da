use Rattle.std.proofs.Common.{w64}
use Rattle.std.proofs.lemmas.Int.{to_z-of_z}
use Rattle.sky_model.specs.DatabaseCalls.{stepped}
use Rattle.sky_histories.proofs.DatabaseStanding.{database_steps_from_exact}
use Rattle.pgq_parts.specs.Seen.{seen_database}
use Rattle.pgq_parts.proofs.Waiters.{statement-within}
use Rattle.pgq_turn.proofs.turn.step_into.Goals as goal

pub returns-clause-within : goal.returns-clause-within
returns-clause-within g c =
    let within = statement-within (seen_database (g.S.Statements.view c.args.db.now)) _ _ c.args.who c.args.stmt.now c.in_ok-run.ensures.adds.changed in
    rw (to_z-of_z w64 c.args.now c.ranges.now) at within

pub returns-clause-steps : goal.returns-clause-steps
returns-clause-steps g c =
    let changed = rw (to_z-of_z w64 c.args.now c.ranges.now) at c.in_ok-run.ensures.adds.changed in
    database_steps_from_exact (seen_database (g.S.Statements.view c.args.db.now)) (seen_database (g.S.Statements.view c.run.new.db)) (stepped c.args.who c.args.stmt.now c.args.now) changed
