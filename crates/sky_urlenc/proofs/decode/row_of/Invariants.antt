use Rattle.std.proofs.Common.{◌≡◌, ◌++◌, length, Ok}
use Rattle.sky_urlenc.specs.ReadRow.{◌>>=◌, values_from}
use Rattle.sky_urlenc.proofs.decode.row_of.Given as goal

-- the values so far, with those still to come, are the row's
abbrev pub invariant-loop-value : goal.invariant-loop-value
invariant-loop-value l = values_from (length l.values.items) l.value-iterator.rest.items >>= (λ more. Ok (l.values.items ++ more)) ≡ values_from 0 l.fn.given.items
