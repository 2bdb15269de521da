-- A sink that keeps its bytes in memory, as its callers see it.
use Rattle.std.specs.Prelude.{ℕ, List, Contains, ◌++◌}
use Rattle.sky_io.specs.Faults.{raised}

-- the bytes written, the numbers of the calls that fail, and the counts of calls and faults
pub record Store : Type 0 where
  pub held : List ℕ
  pub failing : List ℕ
  pub calls : ℕ
  pub faults : ℕ

-- the next call is one of those that fail
abbrev pub FailsNext : Store → Type 0
FailsNext sink = Contains sink.failing (raised sink.calls)

-- the sink after a call that wrote this piece
abbrev pub after_writing : Store → List ℕ → Store
after_writing sink piece = record sink { held = sink.held ++ piece; calls = raised sink.calls }

-- the sink after a call that failed
abbrev pub after_failing : Store → Store
after_failing sink = record sink { calls = raised sink.calls; faults = raised sink.faults }

-- the sink after a call that ran out of memory
abbrev pub after_no_memory : Store → Store
after_no_memory sink = record sink { calls = raised sink.calls }
