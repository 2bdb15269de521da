use Rattle.std.proofs.Common.{◌≡◌, IfSome, sym, ap, subst}
use Rattle.sky_model.specs.History.{queued, closed}
use Rattle.sky_model.specs.State.{after_mark}
use Rattle.pgq_parts.specs.Views.{DbView}
use Rattle.pgq_parts.specs.Seen.{seen_database}
use Rattle.pgq_parts.proofs.BatchSteps.{closed-if, Finished, gives-finished}
use Rattle.pgq_db.proofs.db.Db.finish_batch.Goals as goal
use Rattle.pgq_db.proofs.db.Db.finish_batch.Goals.{then-is_active, else-is_active}

pub returns : goal.returns
returns g c =
    let d = seen_database c.args.self.now in
    let left : Finished d (seen_database c.if-is_active.self) (d.batch c.args.id) c.in_ok-is_active.is_active =
    elim c.if-is_active.branch [
      | then-is_active w ↦
          subst (Finished d (seen_database c.if-is_active.self) (d.batch c.args.id)) (sym w.if-is_active.true)
          (subst (λ (x : DbView). IfSome (d.batch c.args.id) (λ b. seen_database x ≡ after_mark d (queued (closed b)))) (sym w.self-is) (closed-if _ _ w.close_batch.new.self c.args.id c.self.view_is w.close_batch.ensures.mark))
      | else-is_active w ↦ subst (Finished d (seen_database c.if-is_active.self) (d.batch c.args.id)) (sym w.if-is_active.false) (ap seen_database w.self-is)
    ] in
    gives-finished d _ c.args.who c.args.id _ _ _ _ c.in_ok-is_active.ensures.active c.in_ok-is_active.ensures.foreign left c.from.ensures c.in_ok-push.ensures.ok
