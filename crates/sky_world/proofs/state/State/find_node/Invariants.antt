use Rattle.std.proofs.Common.{◌≡◌, drop}
use Rattle.sky_model.specs.NodesOfWorld.{node_among, node_called}
use Rattle.sky_world.specs.Seen.{seen_state}
use Rattle.sky_world.proofs.state.State.find_node.Given as goal

-- the node of the name is among those that are left
abbrev pub invariant-loop-database : goal.invariant-loop-database
invariant-loop-database g l = record {
  items : l.database-items ≡ l.self.nodes;
  left : node_called (seen_state g.D.Store.seen l.self) l.name ≡ node_among (λ d. ((seen_state g.D.Store.seen l.self).database d).node) l.name (drop l.database-index l.database-items);
}
