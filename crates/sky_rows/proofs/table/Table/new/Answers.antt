use Rattle.std.proofs.Common.{◌≡◌, ◌∙◌, [], ◌∷◌, None, refl, ap, subst, sym}
use Rattle.slab.specs.Slab.{Slab}
use Rattle.sky_rows.specs.declared.rows.Slot.{Slot}
use Rattle.sky_rows.specs.Rows.{Places, rows_of}
use Rattle.sky_rows.specs.Kept.{all_versions, AreOwn}
use Rattle.sky_rows.specs.Written.{AllKept, wrote, logged}
use Rattle.sky_rows.proofs.table.Table.new.Goals as goal

no_places : (slots : Slab Slot) (es : Places) → rows_of slots es ≡ [] → es ≡ []
no_places slots [] none = refl
no_places slots (e ∷ es) none = absurd (cc none)

pub invariant_of-result : goal.invariant_of-result
invariant_of-result c = (
  subst (AreOwn c.new-2.result) (sym c.new.ensures) tt,
  subst (λ es. AllKept (wrote c.new-3.result) (all_versions c.new-2.result es)) (sym c.new.ensures) tt,
  subst (λ es. AllKept (logged None) (all_versions c.new-2.result es)) (sym c.new.ensures) tt,
)

pub returns : goal.returns
returns c =
    ap (λ es. record { columns = c.args.schema; versions = all_versions c.new-2.result es; places = c.new.result.places }) c.new.ensures
    ∙ ap (λ es. record { columns = c.args.schema; versions = []; places = es }) (no_places c.new.result.slots c.new.result.places c.new.ensures)
