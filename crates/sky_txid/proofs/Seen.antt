-- What a snapshot sees, by its next id and its list alone.
use Rattle.std.proofs.Common.{◌≡◌, ℕ, ◌<◌, ◌≤◌, true, false, arith}
use Rattle.std.proofs.lemmas.Bool.Decides.{nat_tests}
use Rattle.sky_txid.specs.Ids.{contains, rises_within}
use Rattle.sky_txid.specs.Snapshot.{SnapshotView, is_snapshot, sees}
use Rattle.sky_txid.proofs.Rising.{contains-below}

-- what is true of every snapshot, part by part
pub record Sound (s : SnapshotView) : Type 0 where
  pub nonzero : 0 < s.xmin
  pub ordered : s.xmin ≤ s.xmax
  pub rises : rises_within s.xmin s.xmax s.xip ≡ true

pub sound : (s : SnapshotView) → is_snapshot s ≡ true → Sound s
sound s h = record { nonzero = grind (arith, nat_tests, h); ordered = grind (arith, nat_tests, h); rises = grind (arith, nat_tests, h) }

-- a snapshot sees what is below its next id and not in its list
pub record Seen (s : SnapshotView) (t : ℕ) : Type 0 where
  pub below : t < s.xmax
  pub absent : contains t s.xip ≡ false

pub seen : (s : SnapshotView) (t : ℕ) → is_snapshot s ≡ true → sees s t ≡ true → Seen s t
seen s t is_sound h =
    let parts = sound s is_sound in
    let ordered = parts.ordered in
    record { below = grind (arith, nat_tests, h); absent = grind (arith, nat_tests, h, contains-below s.xmin s.xmax t s.xip parts.rises) }

pub seen_from : (s : SnapshotView) (t : ℕ) → t < s.xmax → contains t s.xip ≡ false → sees s t ≡ true
seen_from s t below absent = grind (arith, nat_tests)
