use Rattle.std.proofs.Common.{◌∙◌, ap, sym}
use Rattle.sky_lock_table.specs.Slots.{SlotsView, place_at, is_slot_of}
use Rattle.sky_lock_table.proofs.PlaceLemmas.{its_place}
use Rattle.sky_lock_table.proofs.slots.Slots.is_at.Goals as goal

pub returns-in-Some : goal.returns-in-Some
returns-in-Some c = λ same.
    ap (λ (s : SlotsView). place_at s.places c.args.key.now) (sym c.self.view_is)
    ∙ its_place c.self.inside.places.entries c.self.inside.slots c.self.invariant c.args.key.now c.args.place
    (ap (is_slot_of c.args.key.now) (sym c.in-Some.ensures) ∙ sym c.is_same.ensures ∙ same)
