use Rattle.std.proofs.Common.{vec_capacity}
use Rattle.sky_locks.proofs.ListedLemmas.{listed_none}
use Rattle.sky_locks.proofs.locks.Locks.new.Goals as goal

pub invariant_of-result : goal.invariant_of-result
invariant_of-result c = listed_none c.new.result.held c.new.result.waiting c.new-2.result.items (vec_capacity c.new-2.result) c.new.ensures.waiting c.new-2.ensures.items
