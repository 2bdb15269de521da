-- Each turn runs the first statement that is ready, after which fewer wait.
use Rattle.std.proofs.Common.{option_map, sym, ap, ◌∙◌}
use Rattle.sky_locks.specs.Locks.{entry}
use Rattle.sky_state.specs.Seen.{seen}
use Rattle.sky_session.proofs.LockLemmas.{remains-resumed, remains-done, fewer-left}
use Rattle.sky_session.proofs.settling.settle_behind.Goals as goal

pub loop-who-smaller : goal.loop-who-smaller
loop-who-smaller g c =
    fewer-left g.G.WriteGate.rule (seen c.loop-who.state, c.loop-who.gate) (seen c.resume.new.state, c.resume.new.gate) c.loop-who.step c.resume.new.step (entry c.in-Some.who c.in-Some.key)
    (sym c.in_ok-who.ensures.found ∙ ap (option_map (λ f. entry f.0 f.1)) c.in-Some.is) c.in_ok-resume.ensures

pub loop-who-preserved : goal.loop-who-preserved
loop-who-preserved g c =
    remains-resumed g.G.WriteGate.rule (seen c.args.state.now, c.args.gate.now) (seen c.loop-who.state, c.loop-who.gate) (seen c.resume.new.state, c.resume.new.gate) c.args.step.now c.loop-who.step c.resume.new.step (entry c.in-Some.who c.in-Some.key)
    (sym c.in_ok-who.ensures.found ∙ ap (option_map (λ f. entry f.0 f.1)) c.in-Some.is) c.in_ok-resume.ensures c.loop-who.invariant

pub returns-in_default-clause-adds : goal.returns-in_default-clause-adds
returns-in_default-clause-adds g c =
    remains-done g.G.WriteGate.rule (seen c.args.state.now, c.args.gate.now) (seen c.loop-who.state, c.loop-who.gate) c.args.step.now c.loop-who.step
    (sym c.in_ok-who.ensures.found ∙ ap (option_map (λ f. entry f.0 f.1)) c.in_default.is) c.loop-who.invariant
