use Rattle.std.proofs.Common.{arith}
use Rattle.sky_lines.proofs.ReaderLemmas.{StartsTooLong-feeds, EndsTooLate-feeds}
use Rattle.sky_lines.proofs.reader.LineReader.answer.Goals as goal

pub returns-then-len-gt-MOST_IN_LINE-clause-bad : goal.returns-then-len-gt-MOST_IN_LINE-clause-bad
returns-then-len-gt-MOST_IN_LINE-clause-bad c =
    rw (← c.self.view_is) (StartsTooLong-feeds c.self.inside.buffer.pending c.in-Some.len c.in-Some.ensures (omega arith))

pub returns-then-taken-gt-MOST_IN_SCRIPT-clause-bad : goal.returns-then-taken-gt-MOST_IN_SCRIPT-clause-bad
returns-then-taken-gt-MOST_IN_SCRIPT-clause-bad c =
    rw (← c.self.view_is) (EndsTooLate-feeds c.self.inside.taken c.self.inside.buffer.pending c.in-Some.len c.in-Some.ensures (omega arith) (omega arith))
