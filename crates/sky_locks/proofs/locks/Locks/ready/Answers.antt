use Rattle.std.proofs.Common.{◌∙◌, ap, vec_capacity}
use Rattle.std.specs.Prelude.{find}
use Rattle.sky_keys.specs.Waits.{ready}
use Rattle.sky_lock_table.specs.Waiters.{key_of, is_among}
use Rattle.sky_locks.specs.Locks.{LocksView, holder}
use Rattle.sky_locks.proofs.ListedLemmas.{ready_is}
use Rattle.sky_locks.proofs.locks.Locks.ready.Goals as goal

pub returns : goal.returns
returns c =
    c.first_of.ensures
    ∙ ap (λ freed. find (λ w. is_among freed (key_of w)) c.self.inside.table.waiting) c.deref.ensures.value
    ∙ ready_is c.self.inside.table.held c.self.inside.table.waiting c.self.inside.freed.items (vec_capacity c.self.inside.freed) c.self.invariant
    ∙ ap (λ (l : LocksView). ready (holder l) l.waiting) c.self.view_is
