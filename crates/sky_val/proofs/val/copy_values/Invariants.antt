use Rattle.std.proofs.Common.{◌≡◌, take, length}
use Rattle.std.specs.Vec.{vec_len, vec_capacity}
use Rattle.sky_val.proofs.val.copy_values.Given as goal

abbrev pub invariant-loop-value : goal.invariant-loop-value
invariant-loop-value l = (l.copies.items ≡ take l.value-index l.values) × (vec_len l.copies ≡ l.value-index) × (vec_capacity l.copies ≡ length l.values)
