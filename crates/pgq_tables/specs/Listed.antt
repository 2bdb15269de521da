-- Which stored events a batch lists.
use Rattle.std.specs.Prelude.{ℕ, ◌==◌, Bool, true, not, ◌&&◌, List, map, filter, Option, Some, None}
use Rattle.sky_val.specs.declared.event.Event.{Event}
use Rattle.sky_txid.specs.Snapshot.{SnapshotView, sees}
use Rattle.pgq_tables.specs.Tables.{Stored, Tables, by_age}
use Rattle.pgq_tables.specs.ById.{by_id}

-- an event without an owner is for each subscription, one with an owner for that alone
abbrev pub is_for : ℕ → Option ℕ → Bool
is_for sub None = true
is_for sub (Some owner) = owner == sub

-- whether a stored event isn't dead, is for a subscription, and its transaction is seen by the later of two snapshots and not by the earlier
abbrev pub is_listed : (from to : SnapshotView) → ℕ → Stored → Bool
is_listed from to sub s = sees to s.event.ev_txid && not (sees from s.event.ev_txid) && not s.dead && is_for sub s.event.ev_owner

-- those events of tables, in the order of storing
abbrev pub listed_in : (from to : SnapshotView) → ℕ → Tables → List Event
listed_in from to sub ts = map Stored.event (filter (is_listed from to sub) (by_age ts))

-- and by id
abbrev pub listed : (from to : SnapshotView) → ℕ → Tables → List Event
listed from to sub ts = by_id (listed_in from to sub ts)
