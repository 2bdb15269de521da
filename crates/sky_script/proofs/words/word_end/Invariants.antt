use Rattle.std.proofs.Common.{false}
use Rattle.sky_script.proofs.WordLemmas.{Reaches}
use Rattle.sky_script.proofs.words.word_end.Given as goal

abbrev pub invariant-loop-i : goal.invariant-loop-i
invariant-loop-i l = Reaches l.bytes false l.i
