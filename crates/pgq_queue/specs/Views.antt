-- What contracts see of a queue, as the code keeps it.
use Rattle.std.specs.Prelude.{ℕ, List}
use Rattle.sky_names.specs.Named.{NamedView}
use Rattle.pgq_tables.specs.Views.{TablesView}
use Rattle.sky_model.specs.Config.{Config}
use Rattle.sky_model.specs.Queues.{Tick}
use Rattle.pgq_sub.specs.Views.{SubView}

pub record QueueView : Type 0 where
  pub config : Config
  pub seq : ℕ
  pub event_tables : TablesView
  pub ticks : List Tick
  -- by their consumers, in the order of registering
  pub subs : NamedView SubView
