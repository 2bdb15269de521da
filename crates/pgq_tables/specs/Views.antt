-- What contracts see of event tables.
use Rattle.std.specs.Prelude.{ℕ, ◌+◌, ◌^◌, ◌-◌, nat_lt, min, if◌then◌else◌}
use Rattle.pgq_tables.specs.Tables.{Tables}

-- the tables, and how many stored events were ever looked at, as far as that can be counted
pub record TablesView : Type 0 where
  pub tables : Tables
  pub reads : ℕ

-- which events of a table, in order of transactions, were looked at and not lent yet
pub record LookedView : Type 0 where
  pub table : ℕ
  pub first : ℕ
  pub end : ℕ

-- after one more was lent, if one is left
abbrev pub one_lent : LookedView → LookedView
one_lent l = if nat_lt l.first l.end then record l { first = l.first + 1 } else l

-- a count of looks after so many more: it stops at its last value
abbrev pub so_many_more : ℕ → ℕ → ℕ
so_many_more many reads = reads + min many (2 ^ 64 - 1 - reads)
