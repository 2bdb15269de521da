use Rattle.std.proofs.Common.{Err, ap, ◌∙◌, subst}
use Rattle.sky_state.specs.Seen.{seen}
use Rattle.sky_row_statements.specs.Ran.{Runs}
use Rattle.sky_session.proofs.Steps.{adds-refused}
use Rattle.sky_session.proofs.statements.or_refuse.Goals as goal

pub returns-in_ok-refuse-in-Err-Refused : goal.returns-in_ok-refuse-in-Err-Refused
returns-in_ok-refuse-in-Err-Refused g c = λ old before checked runs.
    adds-refused g.G.WriteGate.rule old (c.args.state.now, c.args.gate.now) (seen c.refuse.new.state, c.refuse.new.gate) before c.args.step.now c.refuse.new.step c.args.who c.in-Err-Refused.refusal checked
    (subst (λ r. Runs g.G.WriteGate.rule old (c.args.state.now, c.args.gate.now) before c.args.step.now c.args.who r checked) (c.in-Err-Refused.is ∙ ap Err c.in-Err-Refused.field-0-is) runs) c.in_ok-refuse-in-Err-Refused.ensures
