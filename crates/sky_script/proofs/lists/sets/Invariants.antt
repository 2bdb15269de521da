use Rattle.std.proofs.Common.{length}
use Rattle.sky_model.specs.Kinds.{Set}
use Rattle.sky_model.specs.Grammar.{stop}
use Rattle.sky_script.proofs.ListLemmas.{SoFar}
use Rattle.sky_script.proofs.lists.sets.Given as goal

abbrev pub invariant-loop-sets : goal.invariant-loop-sets
invariant-loop-sets l = SoFar stop Set l.sets.items l.fn.words l.words

abbrev pub decreases-loop-sets : goal.decreases-loop-sets
decreases-loop-sets l = length l.words.left
