use Rattle.std.proofs.Common.{Ok, ap}
use Rattle.sky_lines.proofs.reader.LineReader.next_line.Goals as goal

pub returns-then-not-branch-clause-end : goal.returns-then-not-branch-clause-end
returns-then-not-branch-clause-end g c = c.in_ok-advance.ensures.end (ap Ok c.if-not-branch.true)
