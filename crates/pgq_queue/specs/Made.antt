-- A queue as it is made.
use Rattle.std.specs.Prelude.{ℕ, ℤ, [], ◌∷◌}
use Rattle.sky_txid.specs.Snapshot.{SnapshotView}
use Rattle.sky_model.specs.Config.{default_config}
use Rattle.pgq_tables.specs.Tables.{new_tables}
use Rattle.pgq_sub.specs.Seen.{no_subs}
use Rattle.pgq_queue.specs.Views.{QueueView}

-- by a transaction, at a moment, with its first tick, which has this snapshot
abbrev pub new_queue : ℕ → ℤ → SnapshotView → QueueView
new_queue t now snapshot = record {
  config = default_config;
  seq = 0;
  event_tables = record { tables = new_tables t now; reads = 0 };
  ticks = record { id = 1; time = now; snapshot = snapshot; seq = 0 } ∷ [];
  subs = no_subs;
}
