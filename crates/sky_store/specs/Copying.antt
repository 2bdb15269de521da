-- Copies of tables: which table one may be of.
use Rattle.std.specs.Prelude.{◌≡◌, ℕ, List, Some, true}
use Rattle.sky_model.specs.State.{Database}
use Rattle.sky_model.specs.StepNode.{table_number, may_copy}

-- the table of a number is one of the leaf's, in the state in which it is copied
pub record MayCopy (d : Database) (table : ℕ) : Type 0 where
  pub name : List ℕ
  pub number : table_number d name ≡ Some table
  pub may : may_copy name d.node ≡ true
