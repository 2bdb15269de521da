use Rattle.std.proofs.Common.{Some, ◌≡◌, Ok, refl, sym, ap, ◌∙◌, subst}
use Rattle.sky_model.specs.declared.stmt.Attempt.TheVariants.{Changes}
use Rattle.sky_model.specs.Stops.{StopsAs}
use Rattle.sky_model.specs.StepRows.{some_row, with_sets}
use Rattle.sky_state.specs.Seen.{seen}
use Rattle.sky_row_statements.specs.Finding.{Finds, IsFree}
use Rattle.sky_row_statements.proofs.FreeLemmas.{changed, change-unfound, change-untold, change-stopped, some-stops, writes-out}
use Rattle.sky_row_statements.proofs.locking.change_key.Goals as goal

pub returns-in_err-find_row : goal.returns-in_err-find_row
returns-in_err-find_row g c =
    change-unfound g.G.WriteGate.rule c.args.gate.now c.args.state.now c.args.step.now c.args.who c.args.key.table c.args.key.key (Changes c.args.sets.now) (λ row. some_row (with_sets ((seen c.args.state.now).columns c.args.key.table) c.args.sets.now row)) c.from_residual.result c.in_err-find_row.field-0.0
    c.from_residual.ensures.1 (c.in_err-find_row.ensures.err (Changes c.args.sets.now) (λ row. some_row (with_sets ((seen c.args.state.now).columns c.args.key.table) c.args.sets.now row)))

pub returns-in_err-new : goal.returns-in_err-new
returns-in_err-new g c =
    let finds : IsFree c.args.state.now c.args.who c.args.key.table c.args.key.key c.in-Free.places c.in-Free.old.now = subst (Finds c.args.state.now c.args.who c.args.key.table c.args.key.key) c.in-Free.is c.in_ok-find_row.ensures.ok in
    let columns = c.columns-columns.ensures.value ∙ c.schema.ensures in
    let stops : StopsAs c.in_err-new.field-0.0 (with_sets ((seen c.args.state.now).columns c.args.key.table) c.args.sets.now c.in-Free.old.now)
    = subst (StopsAs c.in_err-new.field-0.0) (λ i. with_sets (columns i) (c.as_slice.ensures i) c.in-Free.old.now) c.in_err-new.ensures.err in
    change-stopped g.G.WriteGate.rule c.args.gate.now c.args.state.now c.args.step.now c.args.who c.args.key.table c.args.key.key c.in-Free.places c.in-Free.old.now (Changes c.args.sets.now) (λ row. some_row (with_sets ((seen c.args.state.now).columns c.args.key.table) c.args.sets.now row))
    c.from_residual-in_err-new.result c.in_err-new.field-0.0 c.from_residual-in_err-new.ensures.1 finds (some-stops c.in_err-new.field-0.0 _ stops)

pub returns-in_err-txid : goal.returns-in_err-txid
returns-in_err-txid g c =
    let finds : IsFree c.args.state.now c.args.who c.args.key.table c.args.key.key c.in-Free.places c.in-Free.old.now = subst (Finds c.args.state.now c.args.who c.args.key.table c.args.key.key) c.in-Free.is c.in_ok-find_row.ensures.ok in
    let columns = c.columns-columns.ensures.value ∙ c.schema.ensures in
    let made : some_row (with_sets ((seen c.args.state.now).columns c.args.key.table) c.args.sets.now c.in-Free.old.now) ≡ Ok (Some c.in_ok-new.new)
    = ap some_row (sym (λ i. with_sets (columns i) (c.as_slice.ensures i) c.in-Free.old.now) ∙ c.in_ok-new.ensures.ok) in
    change-untold g.G.WriteGate.rule c.args.gate.now c.tell_write.new.gate c.args.state.now c.args.step.now (record c.args.step.now { effects = c.tell_write.new.effects }) c.args.who c.args.key.table c.args.key.key
    c.in-Free.places c.in-Free.old.now (Changes c.args.sets.now) (λ row. some_row (with_sets ((seen c.args.state.now).columns c.args.key.table) c.args.sets.now row)) (Some c.in_ok-new.new) c.from_residual-in_err-txid.result c.in_err-txid.field-0.0 c.from_residual-in_err-txid.ensures.1 finds made c.in_err-txid.ensures.err
    c.in_err-txid.ensures.same.0 refl c.in_err-txid.ensures.same.1

pub returns-in_err-write_key : goal.returns-in_err-write_key
returns-in_err-write_key g c =
    writes-out g.G.WriteGate.rule (c.args.state.now, c.args.gate.now) (c.write_key.new.state, c.tell_write.new.gate) c.args.step.now c.write_key.new.step c.args.who c.from_residual-in_err-write_key.result _ c.from_residual-in_err-write_key.ensures.1

pub returns : goal.returns
returns g c =
    let finds : IsFree c.args.state.now c.args.who c.args.key.table c.args.key.key c.in-Free.places c.in-Free.old.now = subst (Finds c.args.state.now c.args.who c.args.key.table c.args.key.key) c.in-Free.is c.in_ok-find_row.ensures.ok in
    let columns = c.columns-columns.ensures.value ∙ c.schema.ensures in
    let made : some_row (with_sets ((seen c.args.state.now).columns c.args.key.table) c.args.sets.now c.in-Free.old.now) ≡ Ok (Some c.in_ok-new.new)
    = ap some_row (sym (λ i. with_sets (columns i) (c.as_slice.ensures i) c.in-Free.old.now) ∙ c.in_ok-new.ensures.ok) in
    changed g.G.WriteGate.rule c.args.gate.now c.tell_write.new.gate c.args.state.now c.write_key.new.state c.args.step.now c.write_key.new.step c.args.who c.in_ok-txid.txid c.args.key.table c.args.key.key
    c.in-Free.places c.in-Free.old.now (Changes c.args.sets.now) (λ row. some_row (with_sets ((seen c.args.state.now).columns c.args.key.table) c.args.sets.now row)) (Some c.in_ok-new.new) finds made c.in_ok-txid.ensures.does c.in_ok-txid.ensures.passed c.in_ok-write_key.ensures.replied
    (c.in_ok-write_key.ensures.told (Some c.in-Free.old.now) c.args.step.now.effects c.in_ok-txid.ensures.told) (c.in_ok-write_key.ensures.marks (Some c.in-Free.old.now))
