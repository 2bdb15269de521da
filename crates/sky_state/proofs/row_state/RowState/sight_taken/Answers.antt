use Rattle.std.proofs.Common.{refl}
use Rattle.sky_model.specs.Sessions.{at_place}
use Rattle.sky_model.specs.State.{with_sight}
use Rattle.sky_state.proofs.Owning.{owned-kept, owned-change}
use Rattle.sky_state.proofs.row_state.RowState.sight_taken.Goals as goal

pub invariant_of-self : goal.invariant_of-self
invariant_of-self c = (c.self.invariant.0, (owned-kept _ _ _ c.in_err-set_sight.ensures.err c.self.invariant.1.0, c.self.invariant.1.1))

pub invariant_of-self-2 : goal.invariant_of-self-2
invariant_of-self-2 c = (
  c.self.invariant.0,
  (
    owned-change _ _ _ c.args.who (with_sight (at_place c.in_ok-snapshot.snapshot)) c.in_ok-set_sight.ensures.ok (λ s. refl) c.self.invariant.1.0,
    c.self.invariant.1.1,
  ),
)
