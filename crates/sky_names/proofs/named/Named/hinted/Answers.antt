use Rattle.std.proofs.Common.{Some, IfSome, ◌≡◌, subst}
use Rattle.sky_names.specs.Places.{place_of}
use Rattle.sky_names.proofs.PlaceLemmas.{may_be_within}
use Rattle.sky_names.proofs.named.Named.hinted.Goals as goal

pub returns-clause-within : goal.returns-clause-within
returns-clause-within g c =
    may_be_within c.args.name.now c.args.self.now.names c.hinted.result (subst (λ n. IfSome c.hinted.result (λ place. place_of c.args.name.now n.names ≡ Some place)) c.self.view_is c.hinted.ensures)
