use Rattle.std.proofs.Common.{true, refl}
use Rattle.sky_model.specs.State.{with_open}
use Rattle.sky_state.proofs.Owning.{owned-kept, owned-change}
use Rattle.sky_state.proofs.row_state.RowState.connected.Goals as goal

pub invariant_of-self : goal.invariant_of-self
invariant_of-self c = (c.self.invariant.0, (owned-kept _ _ _ c.in_err-connect.ensures.err c.self.invariant.1.0, c.self.invariant.1.1))

pub invariant_of-self-2 : goal.invariant_of-self-2
invariant_of-self-2 c = (c.self.invariant.0, (owned-change _ _ _ c.args.who (with_open true) c.in_ok-connect.ensures.ok (λ s. refl) c.self.invariant.1.0, c.self.invariant.1.1))
