use Rattle.std.proofs.Common.{ℤ, sym, ap, ◌∙◌, subst, w64, if◌then◌else◌}
use Rattle.sky_model.specs.declared.stmt.DbStmt.TheVariants.{Queue}
use Rattle.sky_model.specs.declared.stmt.Where.TheVariants.{WhenReading, WhenOutside}
use Rattle.std.proofs.lemmas.Int.{to_z-of_z}
use Rattle.sky_model.specs.State.{Database}
use Rattle.sky_model.specs.Outcome.{or_refused}
use Rattle.sky_model.specs.Reader.{database_by_itself, shown_by}
use Rattle.sky_model.specs.Calls.{form, statement}
use Rattle.sky_model.specs.SessionMarks.{Enters}
use Rattle.pgq_parts.specs.Seen.{seen_database}
use Rattle.pgq_parts.proofs.Databases.{answers-entered, answers-turned_away, reply-entered, reply-turned_away}
use Rattle.pgq_queues.specs.Seen.{reads_at}
use Rattle.pgq_queues.specs.Views.{QueuesView}
use Rattle.pgq_parts.specs.Looks.{LooksWithin, ListsLooked}
use Rattle.pgq_parts.proofs.Looking.{looks-none, lists-refused}
use Rattle.pgq_turn.proofs.turn.run_or_refuse.Goals as goal

pub returns-in_ok-run_entered-in-None-clause-answers : goal.returns-in_ok-run_entered-in-None-clause-answers
returns-in_ok-run_entered-in-None-clause-answers g c =
    answers-entered (seen_database (g.S.Statements.view c.args.db.now)) (seen_database (g.S.Statements.view c.enter.new.self)) _ _ c.args.now c.args.who (Queue c.args.stmt.now) _ _ _
    (to_z-of_z w64 c.args.now c.ranges.now) c.is_outside.ensures
    (subst (λ o. Enters (seen_database (g.S.Statements.view c.args.db.now)).part (seen_database (g.S.Statements.view c.enter.new.self)).part c.args.who (if c.is_outside.result then WhenOutside else WhenReading) o) c.in-None.is c.in_ok-enter.ensures.enters)
    c.in_ok-enter.ensures.but c.in_ok-run_entered-in-None.ensures.answers

pub returns-in_ok-refuse-in-Some-clause-answers : goal.returns-in_ok-refuse-in-Some-clause-answers
returns-in_ok-refuse-in-Some-clause-answers g c =
    answers-turned_away (seen_database (g.S.Statements.view c.args.db.now)) (seen_database (g.S.Statements.view c.enter.new.self)) _ c.args.now c.args.who (Queue c.args.stmt.now) _ _ _ c.in-Some.refusal c.is_outside.ensures
    (subst (λ o. Enters (seen_database (g.S.Statements.view c.args.db.now)).part (seen_database (g.S.Statements.view c.enter.new.self)).part c.args.who (if c.is_outside.result then WhenOutside else WhenReading) o) c.in-Some.is c.in_ok-enter.ensures.enters)
    c.in_ok-enter.ensures.but c.in_ok-refuse-in-Some.ensures.answers

pub returns-in_ok-run_entered-in-None-clause-looks : goal.returns-in_ok-run_entered-in-None-clause-looks
returns-in_ok-run_entered-in-None-clause-looks g c =
    subst (λ (q : QueuesView). LooksWithin q (g.S.Statements.view c.run_entered.new.db).queues (Queue c.args.stmt.now)) c.in_ok-enter.ensures.queues c.in_ok-run_entered-in-None.ensures.looks

pub returns-in_ok-refuse-in-Some-clause-looks : goal.returns-in_ok-refuse-in-Some-clause-looks
returns-in_ok-refuse-in-Some-clause-looks g c =
    looks-none (g.S.Statements.view c.args.db.now).queues (g.S.Statements.view c.refuse.new.db).queues (Queue c.args.stmt.now) (λ n. c.in_ok-refuse-in-Some.ensures.reads n ∙ ap (λ (q : QueuesView). reads_at q.queues n) c.in_ok-enter.ensures.queues)

pub returns-in_ok-run_entered-in-None-clause-lists : goal.returns-in_ok-run_entered-in-None-clause-lists
returns-in_ok-run_entered-in-None-clause-lists g c =
    let d = seen_database (g.S.Statements.view c.args.db.now) in
    let s : Database = seen_database (g.S.Statements.view c.enter.new.self) in
    let done = λ (now : ℤ). (or_refused c.args.who (s.part.session c.args.who) (form s (shown_by s) now c.args.who (Queue c.args.stmt.now))).reply in
    subst (λ (q : QueuesView). ListsLooked q (g.S.Statements.view c.run_entered.new.db).queues (Queue c.args.stmt.now) (statement database_by_itself d c.args.now c.args.who (Queue c.args.stmt.now)).reply) c.in_ok-enter.ensures.queues
    (subst (ListsLooked (g.S.Statements.view c.enter.new.self).queues (g.S.Statements.view c.run_entered.new.db).queues (Queue c.args.stmt.now))
    (ap done (to_z-of_z w64 c.args.now c.ranges.now) ∙ sym (reply-entered d s c.args.now c.args.who (Queue c.args.stmt.now) _ c.is_outside.ensures
    (subst (λ o. Enters d.part s.part c.args.who (if c.is_outside.result then WhenOutside else WhenReading) o) c.in-None.is c.in_ok-enter.ensures.enters) c.in_ok-enter.ensures.but))
    c.in_ok-run_entered-in-None.ensures.lists)

pub returns-in_ok-refuse-in-Some-clause-lists : goal.returns-in_ok-refuse-in-Some-clause-lists
returns-in_ok-refuse-in-Some-clause-lists g c =
    let d = seen_database (g.S.Statements.view c.args.db.now) in
    let s : Database = seen_database (g.S.Statements.view c.enter.new.self) in
    lists-refused (g.S.Statements.view c.args.db.now).queues (g.S.Statements.view c.refuse.new.db).queues (Queue c.args.stmt.now) _ c.in-Some.refusal (reply-turned_away d s c.args.now c.args.who (Queue c.args.stmt.now) _ c.in-Some.refusal c.is_outside.ensures
    (subst (λ o. Enters d.part s.part c.args.who (if c.is_outside.result then WhenOutside else WhenReading) o) c.in-Some.is c.in_ok-enter.ensures.enters))
