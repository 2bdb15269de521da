-- What contracts see of the world, as the code keeps it: its state, and whether memory has run out.
use Rattle.std.specs.Prelude.{ℕ, ℤ, Bool, List, Option}
use Rattle.sky_names.specs.Named.{NamedView}
use Rattle.sky_model.specs.Hands.{BatchHand}
use Rattle.sky_databases.specs.Hands.{HandAt}

-- of a world whose databases are kept as `D`
pub record StateView (D : Type 0) : Type 0 where
  pub now : ℤ
  -- the database that each session has open
  pub sessions : NamedView (Option ℕ)
  pub databases : NamedView D
  -- the databases whose daemon is on, each with the moment at which it was started
  pub daemons : List (ℕ × ℤ)
  -- the databases that have a node, in the order in which they got it
  pub nodes : List ℕ
  -- the workers that copy tables, in the order of their first moves, each with what it has in hand
  pub hands : List HandAt
  -- the databases whose leaf's worker has a batch in hand, each with it
  pub batches : List (ℕ × BatchHand)

pub record WorldView (D : Type 0) : Type 0 where
  pub state : StateView D
  -- whether memory ran out once
  pub has_failed : Bool
