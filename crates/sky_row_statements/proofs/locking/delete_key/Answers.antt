use Rattle.std.proofs.Common.{Some, None, Ok, refl, subst}
use Rattle.sky_model.specs.declared.stmt.Attempt.TheVariants.{Deletion}
use Rattle.sky_row_statements.specs.Finding.{Finds, IsFree}
use Rattle.sky_row_statements.proofs.FreeLemmas.{changed, change-unfound, change-untold, writes-out}
use Rattle.sky_row_statements.proofs.locking.delete_key.Goals as goal

pub returns-in_err-find_row : goal.returns-in_err-find_row
returns-in_err-find_row g c =
    change-unfound g.G.WriteGate.rule c.args.gate.now c.args.state.now c.args.step.now c.args.who c.args.key.table c.args.key.key Deletion (λ row. Ok None) c.from_residual.result c.in_err-find_row.field-0.0
    c.from_residual.ensures.1 (c.in_err-find_row.ensures.err Deletion (λ row. Ok None))

pub returns-in_err-txid : goal.returns-in_err-txid
returns-in_err-txid g c =
    let finds : IsFree c.args.state.now c.args.who c.args.key.table c.args.key.key c.in-Free.places c.in-Free.old.now = subst (Finds c.args.state.now c.args.who c.args.key.table c.args.key.key) c.in-Free.is c.in_ok-find_row.ensures.ok in
    change-untold g.G.WriteGate.rule c.args.gate.now c.tell_write.new.gate c.args.state.now c.args.step.now (record c.args.step.now { effects = c.tell_write.new.effects }) c.args.who c.args.key.table c.args.key.key
    c.in-Free.places c.in-Free.old.now Deletion (λ row. Ok None) None c.from_residual-in_err-txid.result c.in_err-txid.field-0.0 c.from_residual-in_err-txid.ensures.1 finds refl c.in_err-txid.ensures.err
    c.in_err-txid.ensures.same.0 refl c.in_err-txid.ensures.same.1

pub returns-in_err-write_key : goal.returns-in_err-write_key
returns-in_err-write_key g c =
    writes-out g.G.WriteGate.rule (c.args.state.now, c.args.gate.now) (c.write_key.new.state, c.tell_write.new.gate) c.args.step.now c.write_key.new.step c.args.who c.from_residual-in_err-write_key.result _ c.from_residual-in_err-write_key.ensures.1

pub returns : goal.returns
returns g c =
    let finds : IsFree c.args.state.now c.args.who c.args.key.table c.args.key.key c.in-Free.places c.in-Free.old.now = subst (Finds c.args.state.now c.args.who c.args.key.table c.args.key.key) c.in-Free.is c.in_ok-find_row.ensures.ok in
    changed g.G.WriteGate.rule c.args.gate.now c.tell_write.new.gate c.args.state.now c.write_key.new.state c.args.step.now c.write_key.new.step c.args.who c.in_ok-txid.txid c.args.key.table c.args.key.key
    c.in-Free.places c.in-Free.old.now Deletion (λ row. Ok None) None finds refl c.in_ok-txid.ensures.does c.in_ok-txid.ensures.passed c.in_ok-write_key.ensures.replied
    (c.in_ok-write_key.ensures.told (Some c.in-Free.old.now) c.args.step.now.effects c.in_ok-txid.ensures.told) (c.in_ok-write_key.ensures.marks (Some c.in-Free.old.now))
