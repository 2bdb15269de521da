-- A batch by the snapshots of its two ticks.
use Rattle.std.specs.Prelude.{ℕ, Bool, not, ◌&&◌, List, [], filter, Option, Some, None}
use Rattle.sky_val.specs.declared.event.Event.{Event}
use Rattle.sky_txid.specs.Snapshot.{SnapshotView, snapshot_of, sees}
use Rattle.pgq_tables.specs.Tables.{Tables}
use Rattle.pgq_tables.specs.Listed.{is_for, listed}
use Rattle.sky_model.specs.History.{Batch}
use Rattle.sky_model.specs.Queues.{Tick, tick}
use Rattle.sky_model.specs.State.{Queue, Database}

-- the snapshot of a tick; without a tick, the one before anything happened
abbrev pub snapshot_at : Option Tick → SnapshotView
snapshot_at None = snapshot_of 3 []
snapshot_at (Some t) = t.snapshot

-- whether an event is between two ticks, for a subscription, and wasn't rolled back
abbrev pub is_selected : (ℕ → Bool) → SnapshotView → SnapshotView → ℕ → Event → Bool
is_selected undone from to sub e = sees to e.ev_txid && not (sees from e.ev_txid) && not (undone e.ev_txid) && is_for sub e.ev_owner

-- the events whose transaction the closing tick's snapshot sees and the opening one's doesn't
abbrev pub selected_of : (ℕ → Bool) → List Tick → List Event → Batch → List Event
selected_of undone ticks events b = filter (is_selected undone (snapshot_at (tick b.prev ticks)) (snapshot_at (tick b.cur ticks)) b.sub) events

-- of those that event tables have, by id, if both ticks are kept
abbrev pub listed_between : (from to : Option Tick) → ℕ → Tables → List Event
listed_between (Some from) (Some to) sub ts = listed from.snapshot to.snapshot sub ts
listed_between _ _ sub ts = []

-- of those that a queue keeps
abbrev pub selected_in : Queue → Batch → List Event
selected_in q b = listed_between (tick b.prev q.tick_list) (tick b.cur q.tick_list) b.sub q.event_tables

abbrev pub selected : Database → Batch → List Event
selected d b = selected_in (d.queue b.queue) b
