use Rattle.std.proofs.Common.{refl}
use Rattle.sky_model.specs.Sessions.{outside}
use Rattle.sky_model.specs.State.{without_sight}
use Rattle.sky_state.proofs.Owning.{owned-change}
use Rattle.sky_state.proofs.row_state.RowState.block_ended.Goals as goal

pub invariant_of-self : goal.invariant_of-self
invariant_of-self c = (c.self.invariant.0, (owned-change _ _ _ c.args.who (without_sight outside) c.leave.ensures (λ s. refl) c.self.invariant.1.0, c.self.invariant.1.1))
