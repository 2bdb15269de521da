-- What contracts see of a database, as the code keeps it.
use Rattle.sky_state.specs.Views.{RowStateView}
use Rattle.pgq_queues.specs.Views.{QueuesView}
-- what a database keeps for sets of replicated tables: its node, if it has one; the copies that run in it; and the snapshots that it holds
pub use Rattle.pgq_parts.specs.declared.node_part.NodePart.{NodePart}

pub record DbView : Type 0 where
  pub rows : RowStateView
  pub queues : QueuesView
  pub node : NodePart
