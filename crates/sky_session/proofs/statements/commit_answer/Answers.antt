use Rattle.std.proofs.Common.{sym, ◌∙◌, subst}
use Rattle.sky_model.specs.Settling.{turn_of}
use Rattle.sky_model.specs.StepSession.{commit}
use Rattle.sky_row_store.specs.Gives.{Adds}
use Rattle.sky_state.specs.Seen.{seen}
use Rattle.sky_session.proofs.CommitLemmas.{commit-made, commit-barred}
use Rattle.sky_session.proofs.statements.commit_answer.Goals as goal

pub returns-in_ok-or_refuse-in-Ok : goal.returns-in_ok-or_refuse-in-Ok
returns-in_ok-or_refuse-in-Ok g c =
    let gate = g.G.WriteGate.rule in
    let d = seen c.args.state.now in
    let s = d.session c.args.who in
    subst (λ outcome. Adds gate (d, c.args.gate.now) (seen c.or_refuse.new.state, c.or_refuse.new.gate) c.args.step.now c.or_refuse.new.step (turn_of c.args.who outcome))
    (commit-made gate c.args.gate.now d c.args.who _ (sym c.in-Ok.is ∙ c.requires))
    (c.in_ok-or_refuse-in-Ok.ensures (c.args.state.now, c.args.gate.now) c.args.step.now (commit c.args.who s.txid s.block) (record { ran = c.commit-ran.ensures.ran; passes = c.commit-ran.ensures.passes }))

pub returns-in_ok-refuse-in-Err : goal.returns-in_ok-refuse-in-Err
returns-in_ok-refuse-in-Err g c =
    let gate = g.G.WriteGate.rule in
    let d = seen c.args.state.now in
    subst (λ outcome. Adds gate (d, c.args.gate.now) (seen c.refuse.new.state, c.refuse.new.gate) c.args.step.now c.refuse.new.step (turn_of c.args.who outcome))
    (commit-barred gate c.args.gate.now d c.args.who c.in-Err.refusal (sym c.in-Err.is ∙ c.requires)) c.in_ok-refuse-in-Err.ensures
