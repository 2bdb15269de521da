use Rattle.std.proofs.Common.{◌∙◌, ap}
use Rattle.sky_names.specs.Places.{place_of}
use Rattle.sky_names.proofs.PlaceLemmas.{found_within}
use Rattle.sky_databases.proofs.databases.Databases.number.Goals as goal

pub returns-clause-within : goal.returns-clause-within
returns-clause-within g c = found_within c.args.name.now c.args.self.now.names c.number.result (c.number.ensures ∙ ap (λ n. place_of c.args.name.now n.names) c.self.view_is)
