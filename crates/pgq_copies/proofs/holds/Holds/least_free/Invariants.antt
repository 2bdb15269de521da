use Rattle.std.proofs.Common.{map, ◌≤◌}
use Rattle.sky_model.specs.Copies.{Hold, least_free}
use Rattle.pgq_copies.proofs.holds.Holds.least_free.Given as goal

-- the least free number isn't behind
abbrev pub invariant-loop-number : goal.invariant-loop-number
invariant-loop-number l = l.number ≤ least_free (map Hold.number l.self)
