use Rattle.std.proofs.Common.{[], ◌∷◌}
use Rattle.sky_model.specs.History.{of_worker, began}
use Rattle.sky_model.specs.StepNode.{applying}
use Rattle.sky_state.specs.Seen.{seen}
use Rattle.londiste_calls.specs.Picks.{pick_of}
use Rattle.pgq_parts.specs.Seen.{seen_database}
use Rattle.pgq_parts.proofs.Agreeing.{agree-then, agree-marked, agree-same}
use Rattle.pgq_parts.proofs.ApplySteps.{begun-all, apply-refused, apply-serves, apply-answers, apply-bad, works-recorded}
use Rattle.pgq_parts.proofs.Databases.{err-and}
use Rattle.sky_store.proofs.Serving.{serves-steps}
use Rattle.pgq_parts.proofs.RetrySteps.{works}
use Rattle.pgq_db.proofs.db.Db.apply_recorded.Goals as goal

pub apply_picked-requires-clause-runs : goal.apply_picked-requires-clause-runs
apply_picked-requires-clause-runs g c = works (seen (g.R.RowStore.state c.self.inside.rows)) (seen (g.R.RowStore.state c.begin_worker.new.self)) c.in_ok-txid.txid c.in_ok-txid.ensures.mark

pub apply_picked-requires-clause-may : goal.apply_picked-requires-clause-may
apply_picked-requires-clause-may g c =
    begun-all _ _ c.self.view_is c.requires.made c.in_ok-txid.txid c.in_ok-txid.ensures.id (g.R.RowStore.state c.begin_worker.new.self) c.in_ok-txid.ensures.mark (pick_of c.args.pick.now) c.args.events.now

pub invariant_of-self : goal.invariant_of-self
invariant_of-self g c = λ e. agree-same (seen (g.R.RowStore.state c.self.inside.rows)) (seen (g.R.RowStore.state c.begin_worker.new.self)) c.self.inside.queues c.in_err-txid.ensures.same (c.self.invariant e)

pub invariant_of-self-in_err-work : goal.invariant_of-self-in_err-work
invariant_of-self-in_err-work g c = λ e. agree-marked (seen (g.R.RowStore.state c.begin_worker.new.self)) (seen (g.R.RowStore.state c.apply_picked.new.rows)) c.self.inside.queues c.apply_picked.ensures.marked
    (agree-then (seen (g.R.RowStore.state c.self.inside.rows)) (seen (g.R.RowStore.state c.begin_worker.new.self)) (began of_worker c.in_ok-txid.txid ∷ []) c.self.inside.queues c.in_ok-txid.ensures.mark (c.self.invariant e))

pub invariant_of-self-in-Some : goal.invariant_of-self-in-Some
invariant_of-self-in-Some g c = λ e. agree-marked (seen (g.R.RowStore.state c.begin_worker.new.self)) (seen (g.R.RowStore.state c.apply_picked.new.rows)) c.self.inside.queues c.apply_picked.ensures.marked
    (agree-then (seen (g.R.RowStore.state c.self.inside.rows)) (seen (g.R.RowStore.state c.begin_worker.new.self)) (began of_worker c.in_ok-txid.txid ∷ []) c.self.inside.queues c.in_ok-txid.ensures.mark (c.self.invariant e))

pub invariant_of-self-in-None : goal.invariant_of-self-in-None
invariant_of-self-in-None g c = λ e. agree-marked (seen (g.R.RowStore.state c.begin_worker.new.self)) (seen (g.R.RowStore.state c.apply_picked.new.rows)) c.self.inside.queues c.apply_picked.ensures.marked
    (agree-then (seen (g.R.RowStore.state c.self.inside.rows)) (seen (g.R.RowStore.state c.begin_worker.new.self)) (began of_worker c.in_ok-txid.txid ∷ []) c.self.inside.queues c.in_ok-txid.ensures.mark (c.self.invariant e))

pub roll_back_work-requires : goal.roll_back_work-requires
roll_back_work-requires g c = c.in_ok-work.ensures.work.runs

pub commit_work-requires : goal.commit_work-requires
commit_work-requires g c = c.in_ok-work.ensures.work.runs

pub returns-in_err-txid-clause-fault : goal.returns-in_err-txid-clause-fault
returns-in_err-txid-clause-fault g c = λ all is.
    err-and c.from_residual.result c.from_residual.ensures.1 (λ fault. apply-refused _ _ c.self.view_is all (pick_of c.args.pick.now) c.args.tick c.requires.may c.requires.made
    c.begin_worker.result c.in_err-txid.field-0.0 fault (g.R.RowStore.state c.begin_worker.new.self) c.in_err-txid.was c.begin_worker.ensures.spent c.in_err-txid.ensures.same)

pub returns-in-Some-clause-fault : goal.returns-in-Some-clause-fault
returns-in-Some-clause-fault g c = λ all is.
    apply-bad _ _ c.self.view_is all (pick_of c.args.pick.now) c.args.tick c.requires.may c.requires.made c.in_ok-txid.txid c.in_ok-txid.ensures.id (g.R.RowStore.state c.begin_worker.new.self) (g.R.RowStore.state c.apply_picked.new.rows)
    c.in_ok-txid.ensures.mark c.in_ok-work.work (works-recorded c.in_ok-work.work (seen (g.R.RowStore.state c.begin_worker.new.self)) (seen (g.R.RowStore.state c.apply_picked.new.rows)) c.in_ok-txid.txid c.self.inside.node.own (pick_of c.args.pick.now) c.args.events.now all is c.in_ok-work.ensures.work) c.in-Some.id c.in-Some.is (seen_database c.roll_back_work.new.self) c.roll_back_work.ensures

pub returns-in-None-clause-number : goal.returns-in-None-clause-number
returns-in-None-clause-number g c = λ all is.
    apply-answers _ _ c.self.view_is all (pick_of c.args.pick.now) c.args.tick c.requires.may c.requires.made c.in_ok-txid.txid c.in_ok-txid.ensures.id (g.R.RowStore.state c.begin_worker.new.self) (g.R.RowStore.state c.apply_picked.new.rows)
    c.in_ok-txid.ensures.mark c.in_ok-work.work (works-recorded c.in_ok-work.work (seen (g.R.RowStore.state c.begin_worker.new.self)) (seen (g.R.RowStore.state c.apply_picked.new.rows)) c.in_ok-txid.txid c.self.inside.node.own (pick_of c.args.pick.now) c.args.events.now all is c.in_ok-work.ensures.work) c.in-None.is

pub returns-in-None-clause-serves : goal.returns-in-None-clause-serves
returns-in-None-clause-serves g c = λ all is.
    apply-serves _ _ c.self.view_is all (pick_of c.args.pick.now) c.args.tick c.requires.may c.requires.made c.in_ok-txid.txid c.in_ok-txid.ensures.id (g.R.RowStore.state c.begin_worker.new.self) (g.R.RowStore.state c.apply_picked.new.rows)
    c.in_ok-txid.ensures.mark c.in_ok-work.work (works-recorded c.in_ok-work.work (seen (g.R.RowStore.state c.begin_worker.new.self)) (seen (g.R.RowStore.state c.apply_picked.new.rows)) c.in_ok-txid.txid c.self.inside.node.own (pick_of c.args.pick.now) c.args.events.now all is c.in_ok-work.ensures.work) c.in-None.is (seen_database c.commit_work.new.self) c.commit_work.ensures

pub returns-in-None-clause-steps : goal.returns-in-None-clause-steps
returns-in-None-clause-steps g c = λ all is.
    serves-steps (seen_database c.args.self.now) _ (applying all (pick_of c.args.pick.now) c.args.tick)
    (apply-serves _ _ c.self.view_is all (pick_of c.args.pick.now) c.args.tick c.requires.may c.requires.made c.in_ok-txid.txid c.in_ok-txid.ensures.id (g.R.RowStore.state c.begin_worker.new.self) (g.R.RowStore.state c.apply_picked.new.rows)
    c.in_ok-txid.ensures.mark c.in_ok-work.work (works-recorded c.in_ok-work.work (seen (g.R.RowStore.state c.begin_worker.new.self)) (seen (g.R.RowStore.state c.apply_picked.new.rows)) c.in_ok-txid.txid c.self.inside.node.own (pick_of c.args.pick.now) c.args.events.now all is c.in_ok-work.ensures.work) c.in-None.is (seen_database c.commit_work.new.self) c.commit_work.ensures)
