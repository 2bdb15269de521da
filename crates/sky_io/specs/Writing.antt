-- A sink over a writer, as its callers see it.
use Rattle.std.specs.Prelude.{ℕ}

-- the writer, and the count of faults
pub record Writing (W : Type 0) : Type 0 where
  pub writer : W
  pub faults : ℕ
