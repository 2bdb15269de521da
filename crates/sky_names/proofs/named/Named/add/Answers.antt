use Rattle.std.proofs.Common.{◌∙◌, ap}
use Rattle.sky_names.specs.Named.{value_of}
use Rattle.sky_names.proofs.ValueLemmas.{place_of-none}
use Rattle.sky_names.proofs.named.Named.add.Goals as goal

pub add-requires-clause-new : goal.add-requires-clause-new
add-requires-clause-new g c = place_of-none _ c.args.name c.self.invariant (ap (value_of c.args.name) c.self.view_is ∙ c.requires.new)
