use Rattle.std.proofs.Common.{◌∙◌, ap, sym, Some}
use Rattle.std.specs.Prelude.{option_map}
use Rattle.sky_keys.proofs.EntryLemmas.{key_ties-is}
use Rattle.sky_rows.specs.declared.rows.Slot.{Slot}
use Rattle.sky_rows.specs.Rows.{RowsView, place_at}
use Rattle.sky_rows.proofs.rows.Rows.is_at.Goals as goal

pub returns-in-Some : goal.returns-in-Some
returns-in-Some c = λ same.
    ap (λ (r : RowsView). place_at r.places c.args.key.now) (sym c.self.view_is)
    ∙ c.self.invariant.only c.args.key.now c.args.place
    (ap (option_map (λ (s : Slot). s.key)) (sym c.in-Some.ensures) ∙ ap (λ k. Some k) (sym (key_ties-is c.args.key.now c.in-Some.slot.now.key (sym c.is_same.ensures ∙ same))))
