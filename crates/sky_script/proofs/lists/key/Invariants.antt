use Rattle.std.proofs.Common.{length}
use Rattle.sky_model.specs.Kinds.{Value}
use Rattle.sky_model.specs.Grammar.{stop}
use Rattle.sky_script.proofs.ListLemmas.{SoFar}
use Rattle.sky_script.proofs.lists.key.Given as goal

abbrev pub invariant-loop-values : goal.invariant-loop-values
invariant-loop-values l = SoFar stop Value l.values.items l.fn.words l.words

abbrev pub decreases-loop-values : goal.decreases-loop-values
decreases-loop-values l = length l.words.left
