use Rattle.std.proofs.Common.{◌≡◌, drop, find, option_map}
use Rattle.sky_model.specs.NodesOfWorld.{uses, name_in, first_user}
use Rattle.sky_world.specs.Seen.{seen_state}
use Rattle.sky_world.proofs.state.State.first_user.Given as goal

-- the first that uses the table is among those that are left
abbrev pub invariant-loop-database : goal.invariant-loop-database
invariant-loop-database g l = record {
  items : l.database-items ≡ l.self.nodes;
  left : first_user (seen_state g.D.Store.seen l.self) l.provider l.table
      ≡ option_map (name_in (seen_state g.D.Store.seen l.self)) (find (λ d. uses l.provider l.table ((seen_state g.D.Store.seen l.self).database d).node) (drop l.database-index l.database-items));
}
