use Rattle.std.proofs.Common.{◌≡◌, ℕ, ◌<◌, ◌≤◌, false, get_or}
use Rattle.sky_txid.specs.Snapshot.{sees}
use Rattle.sky_txid.proofs.snapshot.Snapshot.covers.Given as goal

abbrev pub invariant-loop-id : goal.invariant-loop-id
invariant-loop-id l = (k : ℕ) → k < l.id-index → sees l.other (get_or l.id-items k 0) ≡ false

abbrev pub invariant-loop-later : goal.invariant-loop-later
invariant-loop-later l = (t : ℕ) → l.self.xmax ≤ t → t < l.later → sees l.other t ≡ false
