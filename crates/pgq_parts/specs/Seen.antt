-- The readings of the definitions, in what the code keeps of a database.
use Rattle.std.specs.Prelude.{[], None}
use Rattle.sky_model.specs.State.{RowPart, Database}
use Rattle.sky_state.specs.Seen.{seen}
use Rattle.pgq_queues.specs.Seen.{Beside, seen_with}
use Rattle.pgq_parts.specs.Views.{NodePart, DbView}

-- a row part, and what is kept for sets of replicated tables
abbrev pub with_node : NodePart → RowPart → Beside
with_node node part = record { part = part; node = node.own; copies = node.copies; holds = node.holds }

abbrev pub seen_database : DbView → Database
seen_database d = seen_with (with_node d.node (seen d.rows)) d.queues

-- a database without a node
abbrev pub no_node : NodePart
no_node = record { own = None; copies = []; holds = [] }
