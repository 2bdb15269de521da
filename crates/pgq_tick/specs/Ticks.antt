-- Lists of ticks, as a queue keeps them.
use Rattle.std.specs.Prelude.{ℕ, ◌+◌, ℤ, pos, neg_ℤ, ◌≤◌, ◌≤ℤ◌, nat_lt, Bool, List, [], ◌∷◌, Option, option_map, find, filter}
use Rattle.sky_model.specs.Moment.{last_moment, IsTime}
use Rattle.sky_model.specs.Queues.{Tick, is_above}

-- a time from one moment of the clock to another
abbrev pub IsSpan : ℤ → Type 0
IsSpan time = (neg_ℤ last_moment ≤ℤ time) × (time ≤ℤ last_moment)

-- rising ids, the first at least this one, at moments of the clock
abbrev pub AreTicks : ℕ → List Tick → Type 0
AreTicks least [] = Unit {0}
AreTicks least (t ∷ ts) = (least ≤ t.id) × IsTime t.time × AreTicks (t.id + 1) ts

-- the least id of the ticks above a transaction id: that of the first such tick, since ids rise
abbrev pub least_above : ℕ → List Tick → Option ℕ
least_above txid ts = option_map Tick.id (find (is_above txid) ts)
