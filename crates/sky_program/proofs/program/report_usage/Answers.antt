use Rattle.sky_program.proofs.program.report_usage.Goals as goal

pub returns-in-Ok-clause-usage : goal.returns-in-Ok-clause-usage
returns-in-Ok-clause-usage g c = λ _. rw c.as_bytes.ensures.value at c.in-Ok.ensures.ok
