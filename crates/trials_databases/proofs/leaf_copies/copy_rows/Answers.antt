use Rattle.std.proofs.Common.{◌≡◌, Some, sym, subst, ◌∙◌}
use Rattle.sky_model.specs.StepNode.{table_number}
use Rattle.sky_names.proofs.PlaceLemmas.{place_of_within}
use Rattle.trials_databases.proofs.leaf_copies.copy_rows.Goals as goal

pub schema-requires : goal.schema-requires
schema-requires g c =
    let may = c.in_ok-number.ensures.may in
    place_of_within may.name _ c.in_ok-number.number
    (subst (λ (d : g.row.D.Denot). table_number (g.D.Store.seen d) may.name ≡ Some c.in_ok-number.number) (sym (c.db-2.ensures ∙ sym c.db.ensures)) may.number)
