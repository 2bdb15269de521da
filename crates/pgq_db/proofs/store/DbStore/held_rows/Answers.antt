use Rattle.std.proofs.Common.{◌<◌, length, sym, subst}
use Rattle.sky_state.specs.Seen.{seen}
use Rattle.pgq_parts.specs.Views.{DbView}
use Rattle.pgq_parts.proofs.CopySteps.{held-rows-if}
use Rattle.pgq_db.proofs.store.DbStore.held_rows.Goals as goal

pub rows_under-requires : goal.rows_under-requires
rows_under-requires g c = subst (λ (v : DbView). c.args.table < length (seen v.rows).tables) (sym c.self.view_is) c.requires.there

pub returns : goal.returns
returns g c = λ name number.
    held-rows-if (λ rows. rows.items) c.rows_under.result _ _ name c.args.table c.self.view_is number c.held_snapshot-snapshot.result.now _ c.held_snapshot-snapshot.ensures _ c.args.most c.rows_under.ensures
