use Rattle.std.proofs.Common.{None, sym, refl, ◌∙◌}
use Rattle.sky_row_statements.proofs.FreeLemmas.{inserted, insert-stopped, insert-untold, writes-out}
use Rattle.sky_row_statements.proofs.locking.insert_key.Goals as goal

pub returns-in_err-place : goal.returns-in_err-place
returns-in_err-place g c =
    insert-stopped g.G.WriteGate.rule c.args.gate.now c.args.state.now c.args.step.now c.args.who c.args.key.table c.args.key.key c.args.row.now c.from_residual-in_err-place.result c.in_err-place.field-0.0 c.from_residual-in_err-place.ensures.1
    (sym c.other_holder.ensures ∙ c.in_default.is) c.in_err-place.ensures.err

pub returns-in_err-row : goal.returns-in_err-row
returns-in_err-row g c =
    writes-out g.G.WriteGate.rule (c.args.state.now, c.args.gate.now) (c.args.state.now, c.args.gate.now) c.args.step.now c.args.step.now c.args.who c.from_residual-in_err-row.result _ c.from_residual-in_err-row.ensures.1

pub returns-in_err-txid : goal.returns-in_err-txid
returns-in_err-txid g c =
    insert-untold g.G.WriteGate.rule c.args.gate.now c.tell_write.new.gate c.args.state.now c.args.step.now (record c.args.step.now { effects = c.tell_write.new.effects }) c.args.who c.args.key.table c.args.key.key
    c.args.row.now c.in_ok-row.row c.from_residual-in_err-txid.result c.in_err-txid.field-0.0 c.from_residual-in_err-txid.ensures.1
    (sym c.other_holder.ensures ∙ c.in_default.is) c.in_ok-place.ensures.ok c.in_ok-row.ensures c.in_err-txid.ensures.err c.in_err-txid.ensures.same.0 refl c.in_err-txid.ensures.same.1

pub returns-in_err-write_key : goal.returns-in_err-write_key
returns-in_err-write_key g c =
    writes-out g.G.WriteGate.rule (c.args.state.now, c.args.gate.now) (c.write_key.new.state, c.tell_write.new.gate) c.args.step.now c.write_key.new.step c.args.who c.from_residual-in_err-write_key.result _ c.from_residual-in_err-write_key.ensures.1

pub returns : goal.returns
returns g c =
    inserted g.G.WriteGate.rule c.args.gate.now c.tell_write.new.gate c.args.state.now c.write_key.new.state c.args.step.now c.write_key.new.step c.args.who c.in_ok-txid.txid c.args.key.table c.args.key.key
    c.args.row.now c.in_ok-row.row (sym c.other_holder.ensures ∙ c.in_default.is) c.in_ok-place.ensures.ok c.in_ok-row.ensures c.in_ok-txid.ensures.does c.in_ok-txid.ensures.passed c.in_ok-write_key.ensures.replied
    (c.in_ok-write_key.ensures.told None c.args.step.now.effects c.in_ok-txid.ensures.told) (c.in_ok-write_key.ensures.marks None)
