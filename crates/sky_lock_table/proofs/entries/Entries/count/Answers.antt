use Rattle.std.proofs.Common.{◌≡◌, length, arith}
use Rattle.sky_lock_table.specs.Waiters.{waiting_in}
use Rattle.sky_lock_table.proofs.EntryLemmas.{few_wait}
use Rattle.sky_lock_table.proofs.entries.Entries.count.Goals as goal

pub returns-clause-small : goal.returns-clause-small
returns-clause-small c =
    let few = few_wait c.self.inside.items.items in
    let count : c.self.inside.count ≡ length (waiting_in c.self.inside.items.items) = c.self.invariant in
    omega (arith, c.self.inside.items.ok, c.self.inside.items.small)
