use Rattle.std.proofs.Common.{sym}
use Rattle.sky_model.specs.StepNode.{copying_rows}
use Rattle.pgq_parts.specs.Seen.{seen_database}
use Rattle.pgq_parts.proofs.CopySteps.{may-named, rows-may, rows-none, rows-serve}
use Rattle.pgq_parts.proofs.Databases.{table-low}
use Rattle.pgq_parts.proofs.NodeSteps.{steps-if}
use Rattle.sky_store.proofs.Serving.{serves-steps}
use Rattle.pgq_db.proofs.store.DbStore.copy_rows.Goals as goal

pub returns-in_default-clause-serves : goal.returns-in_default-clause-serves
returns-in_default-clause-serves g c = λ name number.
    rows-none _ _ name c.args.table c.self.view_is number c.args.rows.items (may-named (seen_database c.args.self.now) c.args.table c.requires.may name number) (sym c.in_default.ensures)

pub returns-in_default-clause-steps : goal.returns-in_default-clause-steps
returns-in_default-clause-steps g c = λ name number.
    serves-steps (seen_database c.args.self.now) _ (copying_rows name c.args.rows.items)
    (rows-none _ _ name c.args.table c.self.view_is number c.args.rows.items (may-named (seen_database c.args.self.now) c.args.table c.requires.may name number) (sym c.in_default.ensures))

pub schema-requires : goal.schema-requires
schema-requires g c = table-low _ _ c.requires.may.name c.args.table c.self.view_is c.requires.may.number

pub write_all-requires : goal.write_all-requires
write_all-requires g c = rows-may _ _ c.requires.may.name c.args.table c.self.view_is c.requires.may.number c.requires.made c.in-Some.txid (sym c.in-Some.ensures)

pub invariant_of-self : goal.invariant_of-self
invariant_of-self g c = λ e. c.write_all.ensures.agree c.self.inside.queues (c.self.invariant e)

pub returns-clause-serves : goal.returns-clause-serves
returns-clause-serves g c = λ name number.
    rows-serve _ _ c.self.view_is c.write_all.result name c.args.table number c.requires.may c.args.rows.items c.requires.fit c.in-Some.txid (sym c.in-Some.ensures) _ c.schema.ensures c.in_ok-keyed.keyed.items c.in_ok-keyed.ensures
    (g.R.RowStore.state c.write_all.new.rows) c.write_all.ensures.marks

pub returns-clause-steps : goal.returns-clause-steps
returns-clause-steps g c = λ name number.
    steps-if c.write_all.result (seen_database c.args.self.now) _ (copying_rows name c.args.rows.items)
    (rows-serve _ _ c.self.view_is c.write_all.result name c.args.table number c.requires.may c.args.rows.items c.requires.fit c.in-Some.txid (sym c.in-Some.ensures) _ c.schema.ensures c.in_ok-keyed.keyed.items c.in_ok-keyed.ensures
    (g.R.RowStore.state c.write_all.new.rows) c.write_all.ensures.marks)
