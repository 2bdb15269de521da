use Rattle.std.proofs.Common.{◌∙◌, ap, sym}
use Rattle.std.specs.Option.{option_copied}
use Rattle.sky_rows.proofs.PlaceLemmas.{none_kept, found_there, its_place, no_slot, own_found}
use Rattle.sky_rows.proofs.rows.Rows.found.Goals as goal

pub returns-in_err-place-clause-kept : goal.returns-in_err-place-clause-kept
returns-in_err-place-clause-kept c = λ key found. ap option_copied c.from_residual.ensures ∙ none_kept c.args.self.now.slots c.args.self.now.places key (sym found ∙ c.in_err-place.was)

pub returns-in_err-slot-clause-kept : goal.returns-in_err-slot-clause-kept
returns-in_err-slot-clause-kept c = λ key found.
    absurd (no_slot c.self.inside.slots c.self.inside.places.entries c.args.self.now c.self.view_is c.self.invariant c.args.place key c.in_ok-place.field-0 found c.in_ok-place.was (sym c.in_err-slot.ensures))

pub returns-clause-kept : goal.returns-clause-kept
returns-clause-kept c = λ key found.
    own_found c.self.inside.slots c.self.inside.places.entries c.args.self.now c.self.view_is c.self.invariant c.in_ok-place.field-0 c.in_ok-slot.slot.now (sym c.in_ok-slot.ensures) key
    (found_there c.self.inside.slots c.self.inside.places.entries c.args.self.now c.self.view_is c.self.invariant c.args.place key c.in_ok-place.field-0 found c.in_ok-place.was)

pub returns-clause-there : goal.returns-clause-there
returns-clause-there c =
    (c.in_ok-slot.slot.now.key, c.in_ok-place.was ∙ sym (its_place c.self.inside.slots c.self.inside.places.entries c.args.self.now c.self.view_is c.self.invariant c.in_ok-place.field-0 c.in_ok-slot.slot.now (sym c.in_ok-slot.ensures)))
