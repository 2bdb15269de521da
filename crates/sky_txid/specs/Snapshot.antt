-- Snapshots, and which transactions they see.
use Rattle.std.specs.Prelude.{◌≡◌, ℕ, Bool, true, not, ◌&&◌, ◌||◌, nat_lt, nat_le, List}
use Rattle.sky_txid.specs.Ids.{contains, rises_within, first_or}

-- the next id to be assigned, the rising list of the ids below it that are running, and a bound below which none is running
pub record SnapshotView : Type 0 where
  pub xmin : ℕ
  pub xmax : ℕ
  pub xip : List ℕ

-- what is true of every snapshot: no bound is 0, and the list rises from the lower bound on and below the upper
abbrev pub is_snapshot : SnapshotView → Bool
is_snapshot s = nat_lt 0 s.xmin && (nat_le s.xmin s.xmax && rises_within s.xmin s.xmax s.xip)

-- the snapshot of the next id and the rising list of the running ids: the lower bound is the least of them
abbrev pub snapshot_of : ℕ → List ℕ → SnapshotView
snapshot_of next running = record { xmin = first_or next running; xmax = next; xip = running }

-- whether a snapshot sees a transaction: if so, that transaction had ended
abbrev pub sees : SnapshotView → ℕ → Bool
sees s t = nat_lt t s.xmin || (nat_lt t s.xmax && not (contains t s.xip))

-- whether `a` sees each transaction that `b` sees
abbrev pub Covers : SnapshotView → SnapshotView → Type 0
Covers a b = (t : ℕ) → sees b t ≡ true → sees a t ≡ true
