use Rattle.std.proofs.Common.{length}
use Rattle.sky_model.specs.Kinds.{Column}
use Rattle.sky_model.specs.Grammar.{stop}
use Rattle.sky_script.proofs.ListLemmas.{SoFar}
use Rattle.sky_script.proofs.lists.columns.Given as goal

abbrev pub invariant-loop-columns : goal.invariant-loop-columns
invariant-loop-columns l = SoFar stop Column l.columns.items l.initial.words l.words

abbrev pub decreases-loop-columns : goal.decreases-loop-columns
decreases-loop-columns l = length l.words.left
