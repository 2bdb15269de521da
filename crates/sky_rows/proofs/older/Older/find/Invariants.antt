use Rattle.std.proofs.Common.{◌≡◌, ℕ, Bool, ◌<◌, ◌^◌}
use Rattle.sky_chain.specs.Chains.{nodes_of}
use Rattle.sky_rows.proofs.Nodes.{place_of}
use Rattle.sky_rows.proofs.Walk.{IsAhead}
use Rattle.sky_rows.proofs.older.Older.find.Given as goal

abbrev pub invariant-loop-at : goal.invariant-loop-at
invariant-loop-at g l = IsAhead (λ p. (t : ℕ) (b : Bool) → t < 2 ^ 64 → goal.F-post g l.passes t b → b ≡ p t) l.self l.list l.at

abbrev pub decreases-loop-at : goal.decreases-loop-at
decreases-loop-at g l = place_of l.at (nodes_of l.self.chains l.list)
