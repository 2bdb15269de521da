use Rattle.sky_chain.proofs.Apart.{are_apart}
use Rattle.sky_chain.proofs.chains.Chains.size.Goals as goal

pub returns-clause-apart : goal.returns-clause-apart
returns-clause-apart c = are_apart c.self.invariant.2 _ c.self.view_is
