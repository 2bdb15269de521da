-- What the code keeps of the world, read as the definitions' world.
use Rattle.std.specs.Prelude.{[], None, map, slice_index_or}
use Rattle.std.specs.Ordering.{nat_cmp}
use Rattle.std.specs.BTreeMap.{is_at}
use Rattle.std.specs.Map.{lookup}
use Rattle.sky_model.specs.State.{Database, database_of}
use Rattle.sky_model.specs.World.{World}
use Rattle.sky_databases.specs.Hands.{hand_at, batch_at}
use Rattle.sky_world.specs.Views.{StateView, WorldView}

-- a database that isn't made
abbrev pub no_database : Database
no_database = database_of []

-- the world that a state shows, by what each of its databases shows
abbrev pub seen_state : {D : Type 0} → (D → Database) → StateView D → World
seen_state seen w = record {
  now = w.now;
  sessions = w.sessions.names;
  databases = w.databases.names;
  homes = λ who. slice_index_or w.sessions.values who None;
  database = λ d. slice_index_or (map seen w.databases.values) d no_database;
  daemons = λ d. lookup (is_at (nat_cmp d)) w.daemons;
  nodes = w.nodes;
  hands = hand_at w.hands;
  batches = batch_at w.batches;
}

-- of the world it is what is kept of its state
abbrev pub seen_world : {D : Type 0} → (D → Database) → WorldView D → World
seen_world seen w = seen_state seen w.state
