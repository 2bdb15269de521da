-- A transaction of one write, whose id no session has afterwards.
use Rattle.std.proofs.Common.{◌≡◌, ◌∙◌, ◌&&◌, ◌==◌, false, not, ap, subst}
use Rattle.sky_txid.specs.Ids.{contains}
use Rattle.sky_state.specs.Seen.{versions_of, wrote_in}
use Rattle.sky_keys.specs.Versions.{written}
use Rattle.sky_model.specs.State.{changed_at}
use Rattle.sky_state.proofs.AloneLemmas.{version-written, alone-as}
use Rattle.sky_state.proofs.row_state.RowState.wrote_alone.Goals as goal

pub returns : goal.returns
returns c =
    let v = c.self.inside in
    let t = c.spend-txid.result in
    let tables = version-written v.tables.values c.args.key.table t c.args.key.key c.args.row c.get_mut.result.now c.put_row.new.table c.get_mut.ensures.within c.get_mut.ensures.value c.in_ok-put_row.ensures in
    alone-as _ _ c.spend-txid.new.self _ c.end.new.self c.release.new.self c.args.who c.args.key.table c.args.key.key c.args.row c.self.view_is c.requires.single c.requires.free
    (subst (λ u. contains u v.trans.running ≡ false) c.spend-txid.ensures.id c.spend-txid.ensures.fresh) c.spend-txid.ensures.next
    tables.0 (tables.1 ∙ ap (λ u. changed_at c.args.key.table (written u c.args.key.key c.args.row) (versions_of v.tables.values)) c.spend-txid.ensures.id) (c.end.ensures ∙ ap (λ u n m. not (u == m) && wrote_in v.writers n m) c.spend-txid.ensures.id) c.release.ensures.held c.release.ensures.waiting
