-- A source over a reader, as its callers see it.
use Rattle.std.specs.Prelude.{ℕ}

-- the reader, and the count of faults
pub record Reading (R : Type 0) : Type 0 where
  pub reader : R
  pub faults : ℕ
