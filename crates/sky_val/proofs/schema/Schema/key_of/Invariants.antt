use Rattle.std.proofs.Common.{◌≡◌, ◌++◌}
use Rattle.sky_val.specs.Schemas.{key_of}
use Rattle.sky_val.proofs.schema.Schema.key_of.Given as goal

-- the key so far, with that of what is left, is the key of the row
abbrev pub invariant-loop-column : goal.invariant-loop-column
invariant-loop-column l = l.values.items ++ key_of l.column-iterator.a.rest.now l.column-iterator.b.rest.now ≡ key_of l.self l.row
