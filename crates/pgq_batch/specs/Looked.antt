-- Which events of each table are looked at for a batch.
use Rattle.std.specs.Prelude.{◌≡◌, ℕ, ◌+◌, ◌<◌, ◌++◌, nat_lt, true, List, [], map, filter, length, drop, take, slice_get, slice_index_or, Some}
use Rattle.std.specs.Borrow.{Bor}
use Rattle.sky_val.specs.declared.event.Event.{Event}
use Rattle.sky_txid.specs.Snapshot.{SnapshotView, is_snapshot}
use Rattle.pgq_tables.specs.Tables.{Stored, Tables}
use Rattle.pgq_tables.specs.Views.{LookedView}

-- how many events of a table are below a transaction
abbrev pub count_below : ℕ → List Stored → ℕ
count_below t list = length (filter (λ s. nat_lt s.event.ev_txid t) list)

-- of a table those from the lower bound of one snapshot on and below the upper bound of another, in order of transactions
abbrev pub looked_in : (from to : SnapshotView) → (table : ℕ) → List Stored → LookedView
looked_in from to table list = record { table = table; first = count_below from.xmin list; end = count_below to.xmax list }

-- the tables, the oldest first
abbrev pub ages : Tables → List (List Stored)
ages ts = drop (ts.current + 1) ts.lists ++ take (ts.current + 1) ts.lists

-- a look is at the events of the table of this age, those between the two bounds
pub record IsLookedAt (from to : SnapshotView) (ts : Tables) (turn : ℕ) (l : LookedView) : Type 0 where
  pub within : l.table < length ts.lists
  pub table : slice_index_or (ages ts) turn [] ≡ slice_index_or ts.lists l.table []
  pub ends : l ≡ looked_in from to l.table (slice_index_or ts.lists l.table [])
  pub sound : is_snapshot to ≡ true

-- there is one look at each table, from the oldest on
pub record AreLookedAt (from to : SnapshotView) (ts : Tables) (looks : List LookedView) : Type 0 where
  pub count : length looks ≡ length ts.lists
  pub each : (turn : ℕ) (l : LookedView) → slice_get looks turn ≡ Some l → IsLookedAt from to ts turn l

-- the events that are lent
abbrev pub lent_events : List (Bor Stored) → List Event
lent_events found = map (λ s. s.now.event) found

-- with their places
abbrev pub placed_events : List (ℕ × Bor Stored) → List (ℕ × Event)
placed_events found = map (λ x. (x.0, x.1.now.event)) found
