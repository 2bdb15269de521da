use Rattle.std.proofs.Common.{◌∙◌, ap}
use Rattle.sky_keys.specs.Versions.{written}
use Rattle.sky_rows.specs.Table.{TableView}
use Rattle.sky_state.proofs.SessionLists.{wrote-as}
use Rattle.sky_state.proofs.AloneLemmas.{version-written}
use Rattle.sky_state.proofs.row_state.RowState.wrote.Goals as goal

pub returns : goal.returns
returns c =
    let v = c.self.inside in
    let tables = version-written v.tables.values c.args.key.table c.args.txid c.args.key.key c.args.row c.get_mut-table.result.now c.write_at.new.self c.get_mut-table.ensures.within c.get_mut-table.ensures.value
    (c.in_ok-write_at.ensures.ok ∙ ap (λ (t : TableView). record t { versions = written c.args.txid c.args.key.key c.args.row t.versions; places = c.write_at.new.self.places }) c.prune.ensures) in
    wrote-as _ _ _ c.add.new.self c.take_at.new.self c.args.who c.args.txid c.args.key.table c.args.key.key c.args.row c.self.view_is tables.0 tables.1 c.in_ok-add.ensures.ok c.in_ok-take_at.ensures.ok.held c.in_ok-take_at.ensures.ok.waiting
