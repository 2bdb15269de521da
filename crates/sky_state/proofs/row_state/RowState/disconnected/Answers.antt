use Rattle.std.proofs.Common.{false, refl}
use Rattle.sky_model.specs.State.{with_open}
use Rattle.sky_state.proofs.Owning.{owned-change}
use Rattle.sky_state.proofs.row_state.RowState.disconnected.Goals as goal

pub invariant_of-self : goal.invariant_of-self
invariant_of-self c = (c.self.invariant.0, (owned-change _ _ _ c.args.who (with_open false) c.disconnect.ensures (λ s. refl) c.self.invariant.1.0, c.self.invariant.1.1))
