use Rattle.std.proofs.Common.{◌∙◌, ap, sym, refl, is_some}
use Rattle.sky_val.specs.Entries.{at}
use Rattle.sky_rows.specs.Kept.{versions_of}
use Rattle.sky_rows.specs.Rows.{rows_in}
use Rattle.sky_rows.specs.Table.{TableView}
use Rattle.sky_rows.proofs.PlaceLemmas.{is_some-map, some_kept}
use Rattle.sky_rows.proofs.RowChanges.{found_at}
use Rattle.sky_rows.proofs.table.Table.find.Goals as goal

pub returns-clause-known : goal.returns-clause-known
returns-clause-known c =
    let key = c.args.key.now in
    let older = c.self.inside.older in
    let rows = c.self.inside.rows in
    ap is_some c.place.ensures.place ∙ sym (some_kept rows.slots rows.places key)
    ∙ sym (ap is_some (found_at older key (rows_in rows) _ refl) ∙ is_some-map (versions_of older) _)
    ∙ ap (λ (t : TableView). is_some (at key t.versions)) c.self.view_is
