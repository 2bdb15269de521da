use Rattle.std.proofs.Common.{◌+◌, ℤ, [], ◌∷◌, w64, ap, ◌∙◌}
use Rattle.std.proofs.lemmas.Int.{to_z-of_z}
use Rattle.sky_model.specs.StepQueue.{newest_id}
use Rattle.sky_model.specs.History.{queued, ticked}
use Rattle.sky_model.specs.ShownRows.{snapshot_now}
use Rattle.sky_model.specs.State.{after_mark}
use Rattle.sky_state.specs.Seen.{seen}
use Rattle.pgq_queues.specs.Views.{QueuesView}
use Rattle.pgq_queues.specs.Seen.{queue_at, seen_with}
use Rattle.pgq_parts.specs.Views.{DbView}
use Rattle.pgq_parts.proofs.Databases.{ticked-as, tick-stops, unmarked-as, err-and}
use Rattle.pgq_db.proofs.db.Db.tick.Goals as goal

pub returns-in_err-id-clause-err : goal.returns-in_err-id-clause-err
returns-in_err-id-clause-err g c =
    err-and c.from_residual-in_err-id.result c.from_residual-in_err-id.ensures.1 (λ stop. tick-stops c.tick.result c.in_err-id.field-0.0 stop _ _ _ _ c.in_err-id.was (ap (λ (v : DbView). newest_id (queue_at v.queues c.args.queue) + 1) c.self.view_is) c.tick.ensures.spent
    (unmarked-as _ _ c.tick.new.self c.self.view_is c.in_err-id.ensures.err))

pub returns-clause-mark : goal.returns-clause-mark
returns-clause-mark g c =
    ticked-as _ _ c.tick.new.self c.in_ok-snapshot.snapshot (λ (q : QueuesView). queued (ticked c.args.queue c.in_ok-id.id c.args.now (queue_at q c.args.queue).seq) ∷ []) c.self.view_is
    (c.in_ok-snapshot.ensures ∙ ap (λ (v : DbView). snapshot_now (seen v.rows)) c.self.view_is)
    (λ part snap. c.in_ok-id.ensures.mark part snap
    ∙ ap (λ (t : ℤ). after_mark (seen_with part c.self.inside.queues) (queued (ticked c.args.queue c.in_ok-id.id t (queue_at c.self.inside.queues c.args.queue).seq))) (to_z-of_z w64 c.args.now c.ranges.now))
