-- What contracts see of the database of a leaf.
use Rattle.std.specs.Prelude.{Bool}

pub record ReplicaView (D : Type 0) : Type 0 where
  pub db : D
  -- whether memory ran out in one of its calls
  pub has_failed : Bool
