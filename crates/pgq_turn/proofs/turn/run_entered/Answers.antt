use Rattle.std.proofs.Common.{ℤ, Err, ap, subst, w64}
use Rattle.std.proofs.lemmas.Int.{to_z-of_z}
use Rattle.sky_model.specs.declared.stmt.DbStmt.TheVariants.{Queue}
use Rattle.sky_model.specs.Reader.{shown_by}
use Rattle.sky_model.specs.Outcome.{reply_of, or_refused}
use Rattle.sky_model.specs.Calls.{form}
use Rattle.sky_model.specs.Stops.{Stops, Keeps}
use Rattle.pgq_parts.specs.Seen.{seen_database}
use Rattle.pgq_parts.proofs.Databases.{Runs, answers-done, answers-refused}
use Rattle.pgq_parts.specs.Looks.{RanWithin, ListsLooked}
use Rattle.pgq_parts.proofs.Looking.{looks-done, looks-refused, lists-done, lists-refused}
use Rattle.pgq_turn.proofs.turn.run_entered.Goals as goal

pub returns-in_ok-refuse-in-Err-Refused-clause-answers : goal.returns-in_ok-refuse-in-Err-Refused-clause-answers
returns-in_ok-refuse-in-Err-Refused-clause-answers g c =
    let d = seen_database (g.S.Statements.view c.args.db.now) in
    let tried = λ (now : ℤ). form d (shown_by d) now c.args.who (Queue c.args.stmt.now) in
    answers-refused d (seen_database (g.S.Statements.view c.run_form.new.self)) _ _ c.run_form.new.replies _ c.args.who c.in-Err-Refused.refusal (tried c.args.now)
    (subst (λ stop. Stops stop d (seen_database (g.S.Statements.view c.run_form.new.self)) (tried c.args.now)) c.in-Err-Refused.field-0-is
    (subst (λ (now : ℤ). Stops c.in-Err-Refused.field-0 d (seen_database (g.S.Statements.view c.run_form.new.self)) (tried now)) (to_z-of_z w64 c.args.now c.ranges.now) c.in-Err-Refused.ensures.ran.0))
    (subst (λ stop. Keeps stop c.args.replies.now c.run_form.new.replies) c.in-Err-Refused.field-0-is c.in-Err-Refused.ensures.ran.1) c.in_ok-refuse-in-Err-Refused.ensures.answers

pub returns-in-Ok-clause-answers : goal.returns-in-Ok-clause-answers
returns-in-Ok-clause-answers g c =
    let d = seen_database (g.S.Statements.view c.args.db.now) in
    answers-done d (seen_database (g.S.Statements.view c.run_form.new.self)) c.args.replies.now c.run_form.new.replies c.args.who (form d (shown_by d) c.args.now c.args.who (Queue c.args.stmt.now))
    (subst (λ (now : ℤ). Runs d (seen_database (g.S.Statements.view c.run_form.new.self)) c.args.replies.now c.run_form.new.replies c.args.who (form d (shown_by d) now c.args.who (Queue c.args.stmt.now))) (to_z-of_z w64 c.args.now c.ranges.now) c.in-Ok.ensures.ran)

pub returns-in_ok-refuse-in-Err-Refused-clause-looks : goal.returns-in_ok-refuse-in-Err-Refused-clause-looks
returns-in_ok-refuse-in-Err-Refused-clause-looks g c =
    looks-refused (g.S.Statements.view c.args.db.now).queues (g.S.Statements.view c.run_form.new.self).queues (g.S.Statements.view c.refuse.new.db).queues (Queue c.args.stmt.now) c.in-Err-Refused.refusal
    (subst (λ stop. RanWithin (g.S.Statements.view c.args.db.now).queues (g.S.Statements.view c.run_form.new.self).queues (Queue c.args.stmt.now) (Err stop)) c.in-Err-Refused.field-0-is c.in-Err-Refused.ensures.looks) c.in_ok-refuse-in-Err-Refused.ensures.reads

pub returns-in-Ok-clause-looks : goal.returns-in-Ok-clause-looks
returns-in-Ok-clause-looks g c = looks-done (g.S.Statements.view c.args.db.now).queues (g.S.Statements.view c.run_form.new.self).queues (Queue c.args.stmt.now) _ c.in-Ok.ensures.looks

pub returns-in_ok-refuse-in-Err-Refused-clause-lists : goal.returns-in_ok-refuse-in-Err-Refused-clause-lists
returns-in_ok-refuse-in-Err-Refused-clause-lists g c =
    let d = seen_database (g.S.Statements.view c.args.db.now) in
    let tried = λ (now : ℤ). form d (shown_by d) now c.args.who (Queue c.args.stmt.now) in
    let stops = subst (λ stop. Stops stop d (seen_database (g.S.Statements.view c.run_form.new.self)) (tried c.args.now)) c.in-Err-Refused.field-0-is
    (subst (λ (now : ℤ). Stops c.in-Err-Refused.field-0 d (seen_database (g.S.Statements.view c.run_form.new.self)) (tried now)) (to_z-of_z w64 c.args.now c.ranges.now) c.in-Err-Refused.ensures.ran.0) in
    lists-refused (g.S.Statements.view c.args.db.now).queues (g.S.Statements.view c.refuse.new.db).queues (Queue c.args.stmt.now) _ c.in-Err-Refused.refusal (ap (λ checked. (or_refused c.args.who (d.part.session c.args.who) checked).reply) stops.refused)

pub returns-in-Ok-clause-lists : goal.returns-in-Ok-clause-lists
returns-in-Ok-clause-lists g c =
    let d = seen_database (g.S.Statements.view c.args.db.now) in
    lists-done (g.S.Statements.view c.args.db.now).queues (g.S.Statements.view c.run_form.new.self).queues (Queue c.args.stmt.now) c.args.who (d.part.session c.args.who) (form d (shown_by d) c.args.now c.args.who (Queue c.args.stmt.now))
    (subst (λ (now : ℤ). ListsLooked (g.S.Statements.view c.args.db.now).queues (g.S.Statements.view c.run_form.new.self).queues (Queue c.args.stmt.now) (reply_of (form d (shown_by d) now c.args.who (Queue c.args.stmt.now)))) (to_z-of_z w64 c.args.now c.ranges.now) c.in-Ok.ensures.lists)
