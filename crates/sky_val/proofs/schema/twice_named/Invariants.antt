use Rattle.std.proofs.Common.{◌≡◌, [], take, drop}
use Rattle.sky_val.specs.Schemas.{twice_named}
use Rattle.sky_val.proofs.schema.twice_named.Given as goal

-- what is found among the columns from here on is what is found among all
abbrev pub invariant-loop-place : goal.invariant-loop-place
invariant-loop-place l = twice_named (take l.place l.columns) (drop l.place l.columns) ≡ twice_named [] l.columns
