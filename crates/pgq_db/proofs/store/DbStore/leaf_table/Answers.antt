use Rattle.pgq_parts.specs.Seen.{seen_database}
use Rattle.pgq_parts.proofs.NodeSteps.{table-not, leaf-there}
use Rattle.pgq_db.proofs.store.DbStore.leaf_table.Goals as goal

pub unreachable-requires : goal.unreachable-requires
unreachable-requires g c = table-not _ _ c.args.name.now c.self.view_is c.in-None.ensures (leaf-there (seen_database c.args.self.now) c.requires.made c.args.name.now c.requires.among)
