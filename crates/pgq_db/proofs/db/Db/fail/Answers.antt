use Rattle.std.proofs.Common.{sym, subst, w64, to_z, of_z}
use Rattle.std.proofs.lemmas.Int.{to_z-of_z}
use Rattle.sky_model.specs.SessionMarks.{failing}
use Rattle.sky_model.specs.Settling.{with_settling}
use Rattle.sky_model.specs.Reader.{database_by_itself, within_part}
use Rattle.pgq_parts.specs.Seen.{seen_database}
use Rattle.sky_store.specs.Waiters.{StaysWithin}
use Rattle.pgq_parts.proofs.Databases.{gives-added}
use Rattle.pgq_parts.proofs.Moments.{same-moments}
use Rattle.pgq_db.proofs.db.Db.fail.Goals as goal

pub returns-clause-exact : goal.returns-clause-exact
returns-clause-exact g c =
    let d = seen_database c.args.self.now in
    let gives = gives-added d (seen_database c.fail_into.new.self) c.new-replies.result c.fail_into.new.replies
    (with_settling (within_part database_by_itself (to_z w64 (of_z w64 c.args.now))) d (failing d.part c.args.who)) c.new-replies.ensures c.in_ok-fail_into.ensures.exact in
    rw (to_z-of_z w64 c.args.now c.ranges.now) at gives

pub returns-clause-moments : goal.returns-clause-moments
returns-clause-moments g c =
    let have = c.in_ok-fail_into.ensures.moments in
    same-moments _ _ (returns-clause-exact g c).replied (rw (to_z-of_z w64 c.args.now c.ranges.now) at have)

pub returns-clause-within : goal.returns-clause-within
returns-clause-within g c =
    let d = seen_database c.args.self.now in
    let within = c.in_ok-fail_into.ensures.within in
    subst (StaysWithin d (seen_database c.fail_into.new.self) c.args.who) (sym (returns-clause-exact g c).replied) (rw (to_z-of_z w64 c.args.now c.ranges.now) at within)
