use Rattle.std.proofs.Common.{subst, w64, OnOk}
use Rattle.std.proofs.lemmas.Int.{to_z-of_z}
use Rattle.sky_model.specs.Calls.{statement, database_turn}
use Rattle.sky_model.specs.DatabaseCalls.{stepped}
use Rattle.sky_model.specs.DatabaseSteps.{DatabaseSteps}
use Rattle.sky_model.specs.Printed.{HaveMoments}
use Rattle.sky_model.specs.Reader.{database_by_itself}
use Rattle.sky_store.specs.Gives.{Adds}
use Rattle.sky_store.specs.Waiters.{StaysWithin}
use Rattle.pgq_parts.specs.Looks.{ListsLooked}
use Rattle.pgq_parts.specs.Seen.{seen_database}
use Rattle.pgq_db.proofs.db.Db.step_into.Goals as goal

pub returns-clause-exact : goal.returns-clause-exact
returns-clause-exact g c =
    let d = seen_database c.args.self.now in
    subst (λ now. OnOk c.step_into.result (Adds d (seen_database c.step_into.new.db) c.args.replies.now c.step_into.new.replies (database_turn database_by_itself d now c.args.who c.args.stmt.now))) (to_z-of_z w64 c.args.now c.ranges.now)
    c.step_into.ensures.exact

pub returns-clause-moments : goal.returns-clause-moments
returns-clause-moments g c =
    subst (λ now. OnOk c.step_into.result (HaveMoments (database_turn database_by_itself (seen_database c.args.self.now) now c.args.who c.args.stmt.now).answers)) (to_z-of_z w64 c.args.now c.ranges.now) c.step_into.ensures.moments

pub returns-clause-within : goal.returns-clause-within
returns-clause-within g c =
    let d = seen_database c.args.self.now in
    subst (λ now. OnOk c.step_into.result (StaysWithin d (seen_database c.step_into.new.db) c.args.who (database_turn database_by_itself d now c.args.who c.args.stmt.now).answers)) (to_z-of_z w64 c.args.now c.ranges.now)
    c.step_into.ensures.within

pub returns-clause-steps : goal.returns-clause-steps
returns-clause-steps g c =
    let d = seen_database c.args.self.now in
    subst (λ now. OnOk c.step_into.result (DatabaseSteps d (seen_database c.step_into.new.db) (stepped c.args.who c.args.stmt.now now) (database_turn database_by_itself d now c.args.who c.args.stmt.now))) (to_z-of_z w64 c.args.now c.ranges.now)
    c.step_into.ensures.steps

pub returns-clause-lists : goal.returns-clause-lists
returns-clause-lists g c =
    let d = seen_database c.args.self.now in
    subst (λ now. OnOk c.step_into.result (ListsLooked c.args.self.now.queues c.step_into.new.db.queues c.args.stmt.now (statement database_by_itself d now c.args.who c.args.stmt.now).reply)) (to_z-of_z w64 c.args.now c.ranges.now)
    c.step_into.ensures.lists
