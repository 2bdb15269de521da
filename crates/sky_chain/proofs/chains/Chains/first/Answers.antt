use Rattle.std.proofs.Common.{◌∙◌}
use Rattle.sky_chain.proofs.Reading.{first_read}
use Rattle.sky_chain.proofs.chains.Chains.first.Goals as goal

pub returns : goal.returns
returns c = c.known.ensures ∙ first_read c.self.invariant.2 _ c.self.view_is _ _ c.requires c.index.ensures
