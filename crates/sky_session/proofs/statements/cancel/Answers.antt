-- The block of a session that no longer waits is rolled back.
use Rattle.std.proofs.Common.{◌∙◌, sym}
use Rattle.sky_state.specs.Seen.{seen}
use Rattle.sky_session.proofs.LockLemmas.{does-cancel, passes-cancel}
use Rattle.sky_session.proofs.statements.cancel.Goals as goal

pub returns-clause-ran : goal.returns-clause-ran
returns-clause-ran g c =
    does-cancel (seen c.args.state.now) (seen c.waited.new.self) (seen c.abort_block.new.state) c.args.step.now c.answer-2.new.self c.args.who (sym c.is_waiting.ensures ∙ c.if-not-is_waiting.false)
    c.waited.ensures.mark c.in_ok-abort_block.ensures.marks c.in_ok-answer-2.ensures.replied (c.in_ok-answer-2.ensures.same ∙ c.in_ok-abort_block.ensures.told)

pub returns-clause-passes : goal.returns-clause-passes
returns-clause-passes g c =
    passes-cancel g.G.WriteGate.rule (seen c.args.state.now) (seen c.waited.new.self) c.args.gate.now c.abort_block.new.gate c.args.who (sym c.is_waiting.ensures ∙ c.if-not-is_waiting.false) c.waited.ensures.mark c.in_ok-abort_block.ensures.passed
