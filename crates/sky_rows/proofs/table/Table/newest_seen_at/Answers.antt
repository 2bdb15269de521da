use Rattle.std.proofs.Common.{◌∙◌, sym, ap}
use Rattle.std.specs.Option.{option_copied}
use Rattle.sky_txid.specs.Snapshot.{sees}
use Rattle.sky_keys.specs.Versions.{newest_by, versions_at}
use Rattle.sky_rows.specs.Rows.{rows_in}
use Rattle.sky_rows.specs.Table.{TableView, place_in}
use Rattle.sky_rows.proofs.RowChanges.{used_at, versions_found, none_found}
use Rattle.sky_rows.proofs.table.Table.newest_seen_at.Goals as goal

pub returns-in_err-found : goal.returns-in_err-found
returns-in_err-found c = λ key is.
    ap option_copied c.from_residual.ensures
    ∙ sym (ap (λ (t : TableView). newest_by (sees c.args.snapshot.now) (versions_at key t.versions)) (sym c.self.view_is)
    ∙ ap (newest_by (sees c.args.snapshot.now)) (none_found c.self.inside.older key (rows_in c.self.inside.rows) (c.in_err-found.ensures.kept key (is ∙ ap (λ (t : TableView). place_in t key) (sym c.self.view_is)))))

pub newest_seen-requires : goal.newest_seen-requires
newest_seen-requires c =
    let owner = c.in_ok-found.ensures.there in
    used_at c.self.inside.older owner.0 (rows_in c.self.inside.rows) c.in_ok-found.field-0.now c.self.invariant.0 (c.in_ok-found.ensures.kept owner.0 owner.1)

pub returns : goal.returns
returns c = λ key is.
    c.newest_seen.ensures
    ∙ ap (newest_by (sees c.args.snapshot.now)) (sym (versions_found c.self.inside.older key (rows_in c.self.inside.rows) c.in_ok-found.field-0.now (c.in_ok-found.ensures.kept key (is ∙ ap (λ (t : TableView). place_in t key) (sym c.self.view_is)))))
    ∙ ap (λ (t : TableView). newest_by (sees c.args.snapshot.now) (versions_at key t.versions)) c.self.view_is
