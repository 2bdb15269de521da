use Rattle.std.proofs.Common.{◌||◌, ◌&&◌, ◌==◌, ◌∙◌, ap}
use Rattle.sky_keys.specs.Versions.{written}
use Rattle.sky_rows.specs.Table.{TableView}
use Rattle.sky_state.proofs.AloneLemmas.{version-written}
use Rattle.sky_state.proofs.WorkLemmas.{work_wrote-as}
use Rattle.sky_state.proofs.row_state.RowState.wrote_work.Goals as goal

pub returns-clause-ok : goal.returns-clause-ok
returns-clause-ok c = λ old.
    let v = c.self.inside in
    let tables = version-written v.tables.values c.args.table c.args.txid c.args.key c.args.row c.get_mut-rows.result.now c.write.new.self c.get_mut-rows.ensures.within c.get_mut-rows.ensures.value
    (c.in_ok-write.ensures.ok ∙ ap (λ (t : TableView). record t { versions = written c.args.txid c.args.key c.args.row t.versions; places = c.write.new.self.places }) c.prune.ensures) in
    work_wrote-as _ _ _ c.note.new.self c.args.txid c.args.table c.args.key old c.args.row c.self.view_is tables.0 tables.1
    (c.note.ensures ∙ (λ i n u. (c.args.table == n && c.args.txid == u) || c.make_room.ensures.same i n u))
