use Rattle.std.proofs.Common.{Result, subst}
use Rattle.sky_model.specs.declared.stmt.Stmt.{Stmt}
use Rattle.sky_script.specs.declared.cause.LineCause.{LineCause}
use Rattle.sky_script.specs.Reading.{IsAnswer}
use Rattle.sky_loop.proofs.ParsedLemmas.{IsAnswer-run}
use Rattle.sky_loop.proofs.calls.answer_parsed.Goals as goal

pub returns-in-Err-clause-bad : goal.returns-in-Err-clause-bad
returns-in-Err-clause-bad g c = λ says is. IsAnswer-run c.args.who.now c.in-Err.cause says (subst (λ (r : Result Stmt LineCause). IsAnswer r says) c.in-Err.is is)
