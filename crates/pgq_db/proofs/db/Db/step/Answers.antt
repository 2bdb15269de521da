use Rattle.std.proofs.Common.{sym, subst, w64}
use Rattle.std.proofs.lemmas.Int.{to_z-of_z}
use Rattle.pgq_parts.specs.Seen.{seen_database}
use Rattle.sky_store.specs.Waiters.{StaysWithin}
use Rattle.pgq_parts.proofs.Databases.{gives-added}
use Rattle.pgq_parts.proofs.Moments.{same-moments}
use Rattle.pgq_db.proofs.db.Db.step.Goals as goal

pub returns-clause-exact : goal.returns-clause-exact
returns-clause-exact g c = rw (sym (to_z-of_z w64 c.args.now c.ranges.now)) (gives-added _ _ _ _ _ c.new-replies.ensures c.in_ok-step_into.ensures.exact)

pub returns-clause-moments : goal.returns-clause-moments
returns-clause-moments g c = same-moments _ _ (gives-added _ _ _ _ _ c.new-replies.ensures c.in_ok-step_into.ensures.exact).replied c.in_ok-step_into.ensures.moments

pub returns-clause-within : goal.returns-clause-within
returns-clause-within g c =
    subst (StaysWithin (seen_database c.args.self.now) (seen_database c.step_into.new.self) c.args.who) (sym (gives-added _ _ _ _ _ c.new-replies.ensures c.in_ok-step_into.ensures.exact).replied) c.in_ok-step_into.ensures.within
