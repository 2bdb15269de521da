use Rattle.sky_laws_replicas.proofs.LeafTables.{leaf_tables_are_provided}
use Rattle.sky_laws_replicas.proofs.laws.leaf_tables_are_provided.Goals as goal

pub returns : goal.returns
returns c = leaf_tables_are_provided
