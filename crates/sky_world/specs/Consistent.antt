-- What always holds of the state of a world, also once memory has run out.
use Rattle.std.specs.Prelude.{ℕ, ℤ, List, Option}
use Rattle.sky_model.specs.Moment.{IsTime}
use Rattle.sky_world.specs.Homes.{HomesWithin, NodesWithin}
use Rattle.sky_world.specs.Daemons.{StartedBy}

-- by the moment of its clock, how many databases it has, which of them sessions have open, the daemons that are on, and the databases that have a node
pub record IsConsistent (now : ℤ) (databases : ℕ) (homes : List (Option ℕ)) (daemons : List (ℕ × ℤ)) (nodes : List ℕ) : Type 0 where
  pub time : IsTime now
  pub homes_within : HomesWithin databases homes
  pub started : StartedBy now daemons
  pub nodes_within : NodesWithin databases nodes
