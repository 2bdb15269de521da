-- There are fewer rows than the largest `usize`, so all were asked for.
use Rattle.std.proofs.Common.{◌<◌, ◌∙◌, ap, map, length, arith}
use Rattle.sky_keys.specs.Versions.{rows_read}
use Rattle.sky_model.specs.ShownRows.{snapshot_for}
use Rattle.sky_state.specs.Seen.{seen}
use Rattle.sky_state.proofs.ScanLemmas.{take-fewer}
use Rattle.sky_state.proofs.row_state.RowState.rows_shown.Goals as goal

pub returns : goal.returns
returns c =
    let d = seen c.args.self.now in
    let few : length c.in_ok-rows.rows.items < 18446744073709551615 = let small = c.in_ok-rows.rows.small in let ok = c.in_ok-rows.rows.ok in omega arith in
    take-fewer c.in_ok-rows.rows.items _ 18446744073709551615 c.in_ok-rows.ensures few
    ∙ ap (λ sight. map (λ e. e.1) (rows_read sight c.own_txid-own.result c.table_at.result.now.versions)) c.sight-sight.ensures
    ∙ ap (λ own. map (λ e. e.1) (rows_read (snapshot_for d (d.session c.args.who)) own c.table_at.result.now.versions)) c.own_txid-own.ensures
    ∙ ap (λ versions. map (λ e. e.1) (rows_read (snapshot_for d (d.session c.args.who)) (d.session c.args.who).txid versions)) c.table_at.ensures.versions
