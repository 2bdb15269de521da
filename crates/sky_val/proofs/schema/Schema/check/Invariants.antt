use Rattle.std.proofs.Common.{◌≡◌}
use Rattle.sky_val.specs.Schemas.{values_fault}
use Rattle.sky_val.proofs.schema.Schema.check.Given as goal

-- the first fault from here on is that of the row
abbrev pub invariant-loop-place : goal.invariant-loop-place
invariant-loop-place l = values_fault l.place-iterator.count l.place-iterator.iter.a.rest.now l.place-iterator.iter.b.rest.now ≡ values_fault 0 l.self l.row
