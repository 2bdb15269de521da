use Rattle.std.proofs.Common.{refl}
use Rattle.sky_model.specs.Sessions.{inside}
use Rattle.sky_model.specs.State.{with_block}
use Rattle.sky_state.proofs.Owning.{owned-kept, owned-change}
use Rattle.sky_state.proofs.row_state.RowState.block_begun.Goals as goal

pub invariant_of-self : goal.invariant_of-self
invariant_of-self c = (c.self.invariant.0, (owned-kept _ _ _ c.in_err-set_block.ensures.err c.self.invariant.1.0, c.self.invariant.1.1))

pub invariant_of-self-2 : goal.invariant_of-self-2
invariant_of-self-2 c = (c.self.invariant.0, (owned-change _ _ _ c.args.who (with_block inside) c.in_ok-set_block.ensures.ok (λ s. refl) c.self.invariant.1.0, c.self.invariant.1.1))
