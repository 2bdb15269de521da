use Rattle.std.proofs.Common.{sym, w64, to_z, of_z, append-nil, arith}
use Rattle.std.proofs.lemmas.Int.{to_z-of_z}
use Rattle.sky_model.specs.SessionMarks.{failing}
use Rattle.sky_model.specs.DatabaseCalls.{failed}
use Rattle.sky_histories.proofs.DatabaseStanding.{database_steps_from_exact}
use Rattle.pgq_parts.specs.Seen.{seen_database}
use Rattle.pgq_parts.proofs.Databases.{adds-then}
use Rattle.pgq_parts.proofs.Moments.{then-moments}
use Rattle.pgq_parts.proofs.Results.{on-ok}
use Rattle.pgq_parts.proofs.Waiters.{failure-within}
use Rattle.pgq_turn.proofs.turn.fail_into.Goals as goal

pub returns-clause-exact : goal.returns-clause-exact
returns-clause-exact g c =
    let d = seen_database (g.S.Statements.view c.args.db.now) in
    on-ok c.settle.result c.settle.ensures.adds (λ settled.
    let adds = adds-then (to_z w64 (of_z w64 c.args.now)) d (seen_database (g.S.Statements.view c.roll_back.new.self)) _ (failing d.part c.args.who) c.args.replies.now c.args.replies.now _
    (record { replied = sym (append-nil c.args.replies.now); changed = c.in_ok-roll_back.ensures.marks }) settled in
    rw (to_z-of_z w64 c.args.now c.ranges.now) at adds)

pub returns-clause-moments : goal.returns-clause-moments
returns-clause-moments g c =
    let d = seen_database (g.S.Statements.view c.args.db.now) in
    on-ok c.settle.result c.settle.ensures.moments (λ settled.
    let have = then-moments (to_z w64 (of_z w64 c.args.now)) d _ (failing d.part c.args.who) (λ k a at. absurd (omega arith)) c.in_ok-roll_back.ensures.marks settled in
    rw (to_z-of_z w64 c.args.now c.ranges.now) at have)

pub returns-clause-within : goal.returns-clause-within
returns-clause-within g c = on-ok c.settle.result (returns-clause-exact g c) (λ adds. failure-within c.args.now (seen_database (g.S.Statements.view c.args.db.now)) _ c.args.who adds.changed)

pub returns-clause-steps : goal.returns-clause-steps
returns-clause-steps g c =
    on-ok c.settle.result (returns-clause-exact g c) (λ adds. database_steps_from_exact (seen_database (g.S.Statements.view c.args.db.now)) (seen_database (g.S.Statements.view c.settle.new.self)) (failed c.args.who c.args.now) adds.changed)
