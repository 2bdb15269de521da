use Rattle.std.proofs.Common.{◌∙◌, sym, ap}
use Rattle.std.specs.Option.{option_copied}
use Rattle.sky_keys.specs.Versions.{newest_but, versions_at}
use Rattle.sky_rows.specs.Rows.{rows_in}
use Rattle.sky_rows.specs.Table.{TableView, place_in}
use Rattle.sky_rows.proofs.RowChanges.{used_at, versions_found, none_found}
use Rattle.sky_rows.proofs.table.Table.newest.Goals as goal

pub returns-in_err-found : goal.returns-in_err-found
returns-in_err-found c =
    ap option_copied c.from_residual.ensures
    ∙ sym (ap (λ (t : TableView). newest_but c.args.except (versions_at c.args.key.now t.versions)) (sym c.self.view_is)
    ∙ ap (newest_but c.args.except) (none_found c.self.inside.older c.args.key.now (rows_in c.self.inside.rows) (c.in_err-found.ensures.kept c.args.key.now (c.find.ensures.place ∙ ap (λ (t : TableView). place_in t c.args.key.now) (sym c.self.view_is)))))

pub newest-requires : goal.newest-requires
newest-requires c = used_at c.self.inside.older c.args.key.now (rows_in c.self.inside.rows) c.in_ok-found.field-0.now c.self.invariant.0 (c.in_ok-found.ensures.kept c.args.key.now (c.find.ensures.place ∙ ap (λ (t : TableView). place_in t c.args.key.now) (sym c.self.view_is)))

pub returns : goal.returns
returns c =
    c.newest.ensures
    ∙ ap (newest_but c.args.except) (sym (versions_found c.self.inside.older c.args.key.now (rows_in c.self.inside.rows) c.in_ok-found.field-0.now (c.in_ok-found.ensures.kept c.args.key.now (c.find.ensures.place ∙ ap (λ (t : TableView). place_in t c.args.key.now) (sym c.self.view_is)))))
    ∙ ap (λ (t : TableView). newest_but c.args.except (versions_at c.args.key.now t.versions)) c.self.view_is
