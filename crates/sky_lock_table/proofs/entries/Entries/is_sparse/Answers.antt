use Rattle.std.proofs.Common.{◌≡◌, length, arith}
use Rattle.sky_lock_table.specs.Waiters.{waiting_in}
use Rattle.sky_lock_table.proofs.EntryLemmas.{few_wait}
use Rattle.sky_lock_table.proofs.entries.Entries.is_sparse.Goals as goal

pub overflow_sub-result : goal.overflow_sub-result
overflow_sub-result c =
    let few = few_wait c.self.inside.items.items in
    let count : c.self.inside.count ≡ length (waiting_in c.self.inside.items.items) = c.self.invariant in
    omega (arith, c.self.inside.items.ok, c.len.ensures)
