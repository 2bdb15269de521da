use Rattle.std.proofs.Common.{[], ◌∷◌, refl}
use Rattle.sky_model.specs.History.{of_worker, began}
use Rattle.sky_model.specs.ShownRows.{snapshot_now}
use Rattle.sky_model.specs.StepNode.{beginning_copy}
use Rattle.sky_state.specs.Seen.{seen}
use Rattle.pgq_parts.specs.Seen.{seen_database}
use Rattle.pgq_parts.proofs.Agreeing.{agree-then, agree-same}
use Rattle.pgq_parts.proofs.CopySteps.{may-named, begun-may, begin-does, begin-refused}
use Rattle.pgq_parts.proofs.Databases.{table-low, err-and}
use Rattle.sky_store.proofs.Serving.{serves-steps}
use Rattle.pgq_db.proofs.store.DbStore.copy_begin.Goals as goal

pub keys_now-requires : goal.keys_now-requires
keys_now-requires g c = table-low _ _ c.requires.may.name c.args.table c.self.view_is c.requires.may.number

pub delete_all-requires : goal.delete_all-requires
delete_all-requires g c =
    begun-may _ _ c.requires.may.name c.args.table c.self.view_is c.requires.may.number c.requires.made c.requires.may.may c.in_ok-txid.txid c.in_ok-txid.ensures.id (g.R.RowStore.state c.begin_worker.new.self) c.in_ok-txid.ensures.mark

pub invariant_of-self-in_err-delete_all : goal.invariant_of-self-in_err-delete_all
invariant_of-self-in_err-delete_all g c = λ e. c.delete_all.ensures.agree c.self.inside.queues
    (agree-then (seen (g.R.RowStore.state c.self.inside.rows)) (seen (g.R.RowStore.state c.begin_worker.new.self)) (began of_worker c.in_ok-txid.txid ∷ []) c.self.inside.queues c.in_ok-txid.ensures.mark (c.self.invariant e))

pub invariant_of-self : goal.invariant_of-self
invariant_of-self g c = λ e. agree-same (seen (g.R.RowStore.state c.self.inside.rows)) (seen (g.R.RowStore.state c.begin_worker.new.self)) c.self.inside.queues c.in_err-txid.ensures.same (c.self.invariant e)

pub invariant_of-self-in_err-begin : goal.invariant_of-self-in_err-begin
invariant_of-self-in_err-begin g c = λ e. c.delete_all.ensures.agree c.self.inside.queues
    (agree-then (seen (g.R.RowStore.state c.self.inside.rows)) (seen (g.R.RowStore.state c.begin_worker.new.self)) (began of_worker c.in_ok-txid.txid ∷ []) c.self.inside.queues c.in_ok-txid.ensures.mark (c.self.invariant e))

pub invariant_of-self-2 : goal.invariant_of-self-2
invariant_of-self-2 g c = λ e. c.delete_all.ensures.agree c.self.inside.queues
    (agree-then (seen (g.R.RowStore.state c.self.inside.rows)) (seen (g.R.RowStore.state c.begin_worker.new.self)) (began of_worker c.in_ok-txid.txid ∷ []) c.self.inside.queues c.in_ok-txid.ensures.mark (c.self.invariant e))

-- there is no id, or no memory
pub returns-in_err-txid-clause-fault : goal.returns-in_err-txid-clause-fault
returns-in_err-txid-clause-fault g c = λ name number.
    err-and c.from_residual-in_err-txid.result c.from_residual-in_err-txid.ensures.1 (λ fault. begin-refused _ _ name c.args.table c.self.view_is number
    (may-named (seen_database c.args.self.now) c.args.table c.requires.may name number) c.requires.idle c.begin_worker.result c.in_err-txid.field-0.0 fault (g.R.RowStore.state c.begin_worker.new.self) c.in_err-txid.was c.begin_worker.ensures.spent
    c.in_err-txid.ensures.same)

pub returns-clause-serves : goal.returns-clause-serves
returns-clause-serves g c = λ name number.
    begin-does _ _ name c.args.table c.self.view_is number (may-named (seen_database c.args.self.now) c.args.table c.requires.may name number) c.requires.idle c.in_ok-txid.txid c.in_ok-txid.ensures.id (g.R.RowStore.state c.begin_worker.new.self)
    (g.R.RowStore.state c.delete_all.new.rows) c.in_ok-txid.ensures.mark c.begin.new.self c.in_ok-begin.ensures.ok (snapshot_now (seen (g.R.RowStore.state c.self.inside.rows))) refl c.in_ok-keys.keys.items c.in_ok-keys.ensures c.in_ok-delete_all.ensures.marks

pub returns-clause-steps : goal.returns-clause-steps
returns-clause-steps g c = λ name number.
    serves-steps (seen_database c.args.self.now) _ (beginning_copy name)
    (begin-does _ _ name c.args.table c.self.view_is number (may-named (seen_database c.args.self.now) c.args.table c.requires.may name number) c.requires.idle c.in_ok-txid.txid c.in_ok-txid.ensures.id (g.R.RowStore.state c.begin_worker.new.self)
    (g.R.RowStore.state c.delete_all.new.rows) c.in_ok-txid.ensures.mark c.begin.new.self c.in_ok-begin.ensures.ok (snapshot_now (seen (g.R.RowStore.state c.self.inside.rows))) refl c.in_ok-keys.keys.items c.in_ok-keys.ensures c.in_ok-delete_all.ensures.marks)
