use Rattle.std.proofs.Common.{[], ◌∷◌, ◌∙◌, ap, to_z, of_z, w64}
use Rattle.std.proofs.lemmas.Int.{to_z-of_z}
use Rattle.sky_model.specs.History.{queued, made}
use Rattle.sky_model.specs.ShownRows.{snapshot_now}
use Rattle.sky_state.specs.Seen.{seen}
use Rattle.pgq_parts.specs.Views.{DbView}
use Rattle.pgq_parts.proofs.Databases.{ticked-as}
use Rattle.pgq_parts.proofs.Results.{on-ok}
use Rattle.pgq_db.proofs.db.Db.make_queue.Goals as goal

pub returns : goal.returns
returns g c =
    on-ok c.make.result c.make.ensures.mark (λ mark.
    let marked = ticked-as _ _ c.make.new.self c.in_ok-snapshot.snapshot (λ q. queued (made c.args.name c.args.txid (to_z w64 (of_z w64 c.args.now))) ∷ []) c.self.view_is
    (c.in_ok-snapshot.ensures ∙ ap (λ (v : DbView). snapshot_now (seen v.rows)) c.self.view_is) mark in
    rw (to_z-of_z w64 c.args.now c.ranges.now) at marked)
