use Rattle.std.proofs.Common.{◌≡◌, ◌++◌, map}
use Rattle.pgq_parts.specs.Copying.{under_key}
use Rattle.pgq_parts.proofs.copies.under_keys.Given as goal

-- those so far, with those still to come, are all
abbrev pub invariant-loop-row : goal.invariant-loop-row
invariant-loop-row l = l.keyed.items ++ map (under_key l.schema) l.row-iterator.rest.items ≡ map (under_key l.schema) l.fn.rows.items
