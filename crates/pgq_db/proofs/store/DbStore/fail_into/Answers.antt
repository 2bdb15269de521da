use Rattle.std.proofs.Common.{ℕ, ℤ, OnOk, subst, w64}
use Rattle.std.proofs.lemmas.Int.{to_z-of_z}
use Rattle.sky_model.specs.DatabaseCalls.{failed}
use Rattle.sky_model.specs.DatabaseSteps.{DatabaseSteps}
use Rattle.sky_model.specs.Printed.{HaveMoments}
use Rattle.sky_model.specs.Reader.{database_by_itself, within_part}
use Rattle.sky_model.specs.SessionMarks.{failing}
use Rattle.sky_model.specs.Settling.{Turn, with_settling}
use Rattle.sky_model.specs.State.{Database}
use Rattle.sky_store.specs.Gives.{Adds}
use Rattle.sky_store.specs.Waiters.{StaysWithin}
use Rattle.pgq_parts.specs.Seen.{seen_database}
use Rattle.pgq_db.proofs.store.DbStore.fail_into.Goals as goal

-- the turn of a failure at a moment
abbrev failure_at : Database → ℕ → ℤ → Turn
failure_at d who now = with_settling (within_part database_by_itself now) d (failing d.part who)

pub returns-clause-exact : goal.returns-clause-exact
returns-clause-exact g c =
    let d = seen_database c.args.self.now in
    subst (λ (now : ℤ). OnOk c.fail_into.result (Adds d (seen_database c.fail_into.new.db) c.args.replies.now c.fail_into.new.replies (failure_at d c.args.who now))) (to_z-of_z w64 c.args.now c.ranges.now) c.fail_into.ensures.exact

pub returns-clause-moments : goal.returns-clause-moments
returns-clause-moments g c =
    let d = seen_database c.args.self.now in
    subst (λ (now : ℤ). OnOk c.fail_into.result (HaveMoments (failure_at d c.args.who now).answers)) (to_z-of_z w64 c.args.now c.ranges.now) c.fail_into.ensures.moments

pub returns-clause-within : goal.returns-clause-within
returns-clause-within g c =
    let d = seen_database c.args.self.now in
    subst (λ (now : ℤ). OnOk c.fail_into.result (StaysWithin d (seen_database c.fail_into.new.db) c.args.who (failure_at d c.args.who now).answers)) (to_z-of_z w64 c.args.now c.ranges.now) c.fail_into.ensures.within

pub returns-clause-steps : goal.returns-clause-steps
returns-clause-steps g c =
    let d = seen_database c.args.self.now in
    subst (λ (now : ℤ). OnOk c.fail_into.result (DatabaseSteps d (seen_database c.fail_into.new.db) (failed c.args.who now) (failure_at d c.args.who now))) (to_z-of_z w64 c.args.now c.ranges.now) c.fail_into.ensures.steps
