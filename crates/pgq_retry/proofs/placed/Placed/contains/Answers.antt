use Rattle.std.proofs.Common.{◌∙◌, ap}
use Rattle.std.specs.Map.{values_of}
use Rattle.pgq_retry.specs.Retries.{is_asked}
use Rattle.pgq_retry.proofs.Indexed.{has_place}
use Rattle.pgq_retry.proofs.placed.Placed.contains.Goals as goal

pub returns : goal.returns
returns c = c.contains.ensures
    ∙ has_place c.self.inside.line c.self.inside.places.by_sub c.self.invariant c.args.sub c.args.ev_id
    ∙ ap (λ es. is_asked c.args.sub c.args.ev_id (values_of es)) c.self.view_is
