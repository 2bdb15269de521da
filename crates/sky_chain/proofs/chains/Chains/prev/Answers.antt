use Rattle.std.proofs.Common.{◌∙◌, arith}
use Rattle.sky_chain.proofs.Reading.{prev_read, linked_within}
use Rattle.sky_chain.proofs.chains.Chains.prev.Goals as goal

pub index-requires : goal.index-requires
index-requires c = omega (arith, c.self.inside.links.ok.0, linked_within c.self.invariant.2 _ c.self.view_is _ c.requires)

pub returns : goal.returns
returns c list front back between =
    c.known.ensures ∙ prev_read c.self.invariant.2 _ c.self.view_is list front _ back _ between c.index.ensures
