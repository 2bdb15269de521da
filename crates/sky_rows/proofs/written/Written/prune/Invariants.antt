use Rattle.std.proofs.Common.{◌≡◌, ℕ, List, ◌≤◌, length}
use Rattle.sky_rows.specs.Written.{indexed}
use Rattle.sky_val.specs.declared.val.Val.{Val}
use Rattle.sky_rows.proofs.written.Written.prune.Given as goal

abbrev pub invariant-loop-first : goal.invariant-loop-first
invariant-loop-first l = (l.self.from ≡ l.below) × (l.self.unindexed ≡ l.initial.self.unindexed) × ((t : ℕ) (q : List Val) → l.below ≤ t → indexed l.self.keys t q ≡ indexed l.initial.self.keys t q)

abbrev pub decreases-loop-first : goal.decreases-loop-first
decreases-loop-first l = length l.self.keys.entries
