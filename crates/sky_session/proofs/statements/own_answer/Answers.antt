use Rattle.std.proofs.Common.{Some, None}
use Rattle.sky_model.specs.Allowed.{where_of_row}
use Rattle.sky_model.specs.ShownRows.{rows_by}
use Rattle.sky_model.specs.Gates.{gated}
use Rattle.sky_model.specs.Calls.{row_form}
use Rattle.sky_state.specs.Seen.{seen}
use Rattle.sky_session.proofs.Steps.{entered, adds-barred, adds-made, awake-made}
use Rattle.sky_session.proofs.statements.own_answer.Goals as goal

pub returns-in-Some : goal.returns-in-Some
returns-in-Some g c =
    let d = seen c.args.state.now in
    let mid = seen c.admit.new.state in
    let barred = entered d mid c.args.who c.where_of.result (where_of_row c.args.stmt.now) _ (Some c.in-Some.refusal) c.where_of.ensures c.in-Some.is c.in_ok-refusal.ensures.ok in
    adds-barred g.G.WriteGate.rule c.args.gate.now d mid (seen c.refuse.new.state, c.refuse.new.gate) c.args.step.now c.refuse.new.step c.args.who c.args.stmt.now c.in-Some.refusal barred.0 barred.1 c.in_ok-refuse.ensures

pub run_form-ran-requires-clause-admitted : goal.run_form-ran-requires-clause-admitted
run_form-ran-requires-clause-admitted g c =
    let d = seen c.args.state.now in
    let mid = seen c.admit.new.state in
    let made = entered d mid c.args.who c.where_of.result (where_of_row c.args.stmt.now) _ None c.where_of.ensures c.in_default.is c.in_ok-refusal.ensures.ok in
    awake-made d mid c.args.who (where_of_row c.args.stmt.now) made.0 made.1

pub returns : goal.returns
returns g c =
    let d = seen c.args.state.now in
    let old = c.admit.new.state in
    let mid = seen old in
    let gate = g.G.WriteGate.rule in
    let form = row_form mid (rows_by mid) c.args.who c.args.stmt.now in
    let made = entered d mid c.args.who c.where_of.result (where_of_row c.args.stmt.now) _ None c.where_of.ensures c.in_default.is c.in_ok-refusal.ensures.ok in
    adds-made gate c.args.gate.now d mid (seen c.or_refuse.new.state, c.or_refuse.new.gate) c.args.step.now c.or_refuse.new.step c.args.who c.args.stmt.now made.0 made.1
    (c.in_ok-or_refuse.ensures (old, c.args.gate.now) c.args.step.now (gated gate c.args.gate.now form) c.run_form-ran.ensures)
