use Rattle.std.proofs.Common.{ℕ, [], None, refl, arith, ◌<◌, ◌^◌}
use Rattle.sky_chain.specs.Links.{AreKept, nowhere}
use Rattle.sky_chain.proofs.chains.Chains.new.Goals as goal

none_kept : (capacity : ℕ) → capacity < 2 ^ 63 → AreKept [] [] nowhere nowhere 0 0 capacity (λ list. None) []
none_kept capacity small = record {
  keeps = λ list. refl;
  spares_are = tt;
  free_node_is = refl;
  numbers = [];
  numbers_are = tt;
  free_number_is = refl;
  spare_is = refl;
  made = omega arith;
  room = omega arith;
  small = small;
  few = omega arith;
}

pub invariant_of-result : goal.invariant_of-result
invariant_of-result c =
    rw (c.new.ensures.items, c.new-2.ensures.items) (λ list. None, [], none_kept _ c.new.result.small)
