use Rattle.std.proofs.Common.{[], ◌∷◌, true, ◌∙◌, ap, w64}
use Rattle.std.proofs.lemmas.Int.{to_z-of_z}
use Rattle.sky_model.specs.History.{of_worker, began, ended}
use Rattle.sky_model.specs.State.{RowPart, after_part}
use Rattle.sky_model.specs.StepNode.{making_root}
use Rattle.sky_state.specs.Seen.{seen}
use Rattle.pgq_parts.specs.Seen.{seen_database}
use Rattle.pgq_parts.proofs.Agreeing.{agree-then}
use Rattle.sky_store.proofs.Serving.{serves-steps}
use Rattle.pgq_parts.proofs.RetrySteps.{works}
use Rattle.pgq_parts.proofs.RootSteps.{root-serves}
use Rattle.pgq_db.proofs.store.DbStore.make_root.Goals as goal

pub end_worker-requires : goal.end_worker-requires
end_worker-requires g c = works (seen (g.R.RowStore.state c.self.inside.rows)) (seen (g.R.RowStore.state c.begin_worker.new.self)) c.in_ok-txid.txid c.in_ok-txid.ensures.mark

pub invariant_of-self-2 : goal.invariant_of-self-2
invariant_of-self-2 g c = λ e.
    agree-then (seen (g.R.RowStore.state c.self.inside.rows)) (seen (g.R.RowStore.state c.end_worker.new.self)) (began of_worker c.in_ok-txid.txid ∷ ended of_worker c.in_ok-txid.txid true ∷ []) c.self.inside.queues
    (c.end_worker.ensures.mark ∙ ap (λ (p : RowPart). after_part p (ended of_worker c.in_ok-txid.txid true)) c.in_ok-txid.ensures.mark) (c.self.invariant e)

pub returns-clause-serves : goal.returns-clause-serves
returns-clause-serves g c =
    root-serves _ _ c.args.name.now c.args.queue.now c.args.now c.self.view_is c.requires.bare c.in_ok-check_set_queue.ensures.new c.in_ok-check_set_queue.ensures.room c.in_ok-txid.txid c.in_ok-txid.ensures.id
    (g.R.RowStore.state c.begin_worker.new.self) (g.R.RowStore.state c.end_worker.new.self) c.in_ok-txid.ensures.mark c.end_worker.ensures.mark _ _ _ _ c.self-2.view_is c.in_ok-make_queue.ensures c.in_ok-set.ensures (to_z-of_z w64 c.args.now c.ranges.now)
    c.make_root.new.node c.in_ok-make_root.ensures

pub returns-clause-steps : goal.returns-clause-steps
returns-clause-steps g c =
    serves-steps (seen_database c.args.self.now) _ (making_root c.args.name.now c.args.queue.now c.args.now)
    (root-serves _ _ c.args.name.now c.args.queue.now c.args.now c.self.view_is c.requires.bare c.in_ok-check_set_queue.ensures.new c.in_ok-check_set_queue.ensures.room c.in_ok-txid.txid c.in_ok-txid.ensures.id
    (g.R.RowStore.state c.begin_worker.new.self) (g.R.RowStore.state c.end_worker.new.self) c.in_ok-txid.ensures.mark c.end_worker.ensures.mark _ _ _ _ c.self-2.view_is c.in_ok-make_queue.ensures c.in_ok-set.ensures (to_z-of_z w64 c.args.now c.ranges.now)
    c.make_root.new.node c.in_ok-make_root.ensures)
