-- A source over bytes in memory, as its callers see it.
use Rattle.std.specs.Prelude.{ℕ, List, Contains, length, min, drop}
use Rattle.sky_io.specs.Faults.{raised}

-- the bytes still to come, the most that a call gives, the numbers of the calls that fail, and the counts of calls and faults
pub record Supply : Type 0 where
  pub left : List ℕ
  pub most : ℕ
  pub failing : List ℕ
  pub calls : ℕ
  pub faults : ℕ

-- the next call is one of those that fail
abbrev pub FailsNext : Supply → Type 0
FailsNext source = Contains source.failing (raised source.calls)

-- how many bytes a call gives into this much room
abbrev pub given_count : Supply → ℕ → ℕ
given_count source room = min source.most (min room (length source.left))

-- the source after a call that gave this many bytes
abbrev pub after_giving : Supply → ℕ → Supply
after_giving source count = record source { left = drop count source.left; calls = raised source.calls }

-- the source after a call that failed
abbrev pub after_failing : Supply → Supply
after_failing source = record source { calls = raised source.calls; faults = raised source.faults }
