use Rattle.std.proofs.Common.{ℕ, ◌-◌, ◌<◌, ◌≤◌, length}
use Rattle.pgq_tables.specs.Kept.{txid_at}
use Rattle.pgq_tables.proofs.index.halve.Given as goal

abbrev pub invariant-loop-low : goal.invariant-loop-low
invariant-loop-low l =
    (l.low ≤ l.high)
    × (l.high ≤ length l.places)
    × ((j : ℕ) → j < l.low → txid_at l.places j ≤ l.txid)
    × ((j : ℕ) → l.high ≤ j → j < length l.places → l.txid < txid_at l.places j)

abbrev pub decreases-loop-low : goal.decreases-loop-low
decreases-loop-low l = l.high - l.low
