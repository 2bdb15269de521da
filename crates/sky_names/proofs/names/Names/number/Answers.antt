-- The place that the set gives is std's position of the name.
use Rattle.std.proofs.Common.{position, bytes_eq, sym, ap, ◌∙◌}
use Rattle.sky_names.proofs.PlaceLemmas.{place_of-position}
use Rattle.sky_names.proofs.names.Names.number.Goals as goal

pub returns-in_err-place : goal.returns-in_err-place
returns-in_err-place c =
    let name = c.args.name.now in
    c.from_residual.ensures ∙ c.in_err-place.ensures.index ∙ ap (position (bytes_eq name)) c.self.view_is
    ∙ sym (place_of-position name c.args.self.now)

pub returns : goal.returns
returns c =
    let name = c.args.name.now in
    c.in_ok-place.ensures.index ∙ ap (position (bytes_eq name)) c.self.view_is ∙ sym (place_of-position name c.args.self.now)
