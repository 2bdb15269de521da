use Rattle.std.proofs.Common.{sym, ◌∙◌}
use Rattle.sky_loop.proofs.EndLemmas.{Ends-prefix}
use Rattle.sky_program.proofs.StatusLemmas.{PrintsWhole-ends, TellsBadLine-ends, complaint-ends, PrintsGiven-ends, due_status-whole, due_status-bad}
use Rattle.sky_program.proofs.program.run_program.Goals as goal

pub returns-in-Whole-clause-whole : goal.returns-in-Whole-clause-whole
returns-in-Whole-clause-whole g c = λ _ bytes told. PrintsWhole-ends (c.in-Whole.ensures.ends bytes told)

pub returns-in-Whole-clause-prefix : goal.returns-in-Whole-clause-prefix
returns-in-Whole-clause-prefix g c = λ bytes told. Ends-prefix (c.in-Whole.ensures.ends bytes told)

pub returns-in-Whole-clause-due : goal.returns-in-Whole-clause-due
returns-in-Whole-clause-due g c = λ bytes told _ _ _. due_status-whole _ (sym c.in-Ok.ensures ∙ c.if-not-known.false) (c.in-Whole.ensures.ends bytes told)

pub returns-in-Bad-clause-bad_line : goal.returns-in-Bad-clause-bad_line
returns-in-Bad-clause-bad_line g c = λ is_bad bytes told. TellsBadLine-ends c.in-Bad.line c.in-Bad.cause _ _ (c.in-Bad.ensures.ends bytes told) (c.report_bad_line.ensures.told is_bad)

pub returns-in-Bad-clause-prefix : goal.returns-in-Bad-clause-prefix
returns-in-Bad-clause-prefix g c = λ bytes told. Ends-prefix (c.in-Bad.ensures.ends bytes told)

pub returns-in-Bad-clause-complaint : goal.returns-in-Bad-clause-complaint
returns-in-Bad-clause-complaint g c = λ bytes told.
    let known = sym c.in-Ok.ensures ∙ c.if-not-known.false in
    rw known (complaint-ends c.in-Bad.line c.in-Bad.cause _ _ (c.in-Bad.ensures.ends bytes told) c.report_bad_line.ensures.prefix)

pub returns-in-Bad-clause-due : goal.returns-in-Bad-clause-due
returns-in-Bad-clause-due g c = λ bytes told _ _ no_report.
    due_status-bad _ c.in-Bad.line c.in-Bad.cause c.report_bad_line.result (sym c.in-Ok.ensures ∙ c.if-not-known.false) (c.in-Bad.ensures.ends bytes told)
    c.report_bad_line.ensures.known (λ write. no_report (c.report_bad_line.ensures.write write))

pub returns-in-Read-clause-given : goal.returns-in-Read-clause-given
returns-in-Read-clause-given g c = λ _ bytes told. PrintsGiven-ends (c.in-Read.ensures.ends bytes told)

pub returns-in-Read-clause-prefix : goal.returns-in-Read-clause-prefix
returns-in-Read-clause-prefix g c = λ bytes told. Ends-prefix (c.in-Read.ensures.ends bytes told)

pub returns-in-Write-clause-prefix : goal.returns-in-Write-clause-prefix
returns-in-Write-clause-prefix g c = λ bytes told. Ends-prefix (c.in-Write.ensures.ends bytes told)

pub returns-in-NoMemory-clause-prefix : goal.returns-in-NoMemory-clause-prefix
returns-in-NoMemory-clause-prefix g c = λ bytes told. Ends-prefix (c.in-NoMemory.ensures.ends bytes told)
