use Rattle.std.proofs.Common.{◌≡◌, ℤ, length, sym, ◌∙◌, subst, w64, to_z, of_z}
use Rattle.std.proofs.lemmas.Int.{to_z-of_z}
use Rattle.sky_model.specs.State.{Database}
use Rattle.pgq_parts.specs.Seen.{seen_database}
use Rattle.pgq_parts.proofs.Daemons.{retries_end, retrying-fewer, retrying-more, retrying-done}
use Rattle.pgq_db.proofs.db.Db.retry_events.Goals as goal

pub loop-smaller : goal.loop-smaller
loop-smaller g c =
    retrying-fewer (seen_database c.loop.self) (seen_database c.retry_most.new.self) (to_z w64 (of_z w64 c.args.now)) (sym c.if-branch.true ∙ c.in_ok-retry_most.ensures.most) c.in_ok-retry_most.ensures.moved

pub loop-preserved : goal.loop-preserved
loop-preserved g c =
    retrying-more (seen_database c.args.self.now) (seen_database c.loop.self) (seen_database c.retry_most.new.self) (to_z w64 (of_z w64 c.args.now)) c.loop.invariant
    (sym c.if-branch.true ∙ c.in_ok-retry_most.ensures.most) c.in_ok-retry_most.ensures.moved

pub returns : goal.returns
returns g c =
    let d : Database = seen_database c.args.self.now in
    let new : Database = seen_database c.retry_most.new.self in
    subst (λ (now : ℤ). new ≡ retries_end now (length d.retries) d) (to_z-of_z w64 c.args.now c.ranges.now)
    (retrying-done d (seen_database c.loop.self) new (to_z w64 (of_z w64 c.args.now)) c.loop.invariant (sym c.if-branch.false ∙ c.in_ok-retry_most.ensures.most) c.in_ok-retry_most.ensures.moved)
