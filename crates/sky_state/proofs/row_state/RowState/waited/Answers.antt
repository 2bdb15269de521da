use Rattle.std.proofs.Common.{refl}
use Rattle.sky_state.proofs.Owning.{within-kept, within-without}
use Rattle.sky_state.proofs.row_state.RowState.waited.Goals as goal

pub invariant_of-self : goal.invariant_of-self
invariant_of-self c = (c.self.invariant.0, (c.self.invariant.1.0, within-kept _ _ _ _ refl c.leave.ensures.waiting (within-without _ c.args.who _ c.self.invariant.1.1)))
