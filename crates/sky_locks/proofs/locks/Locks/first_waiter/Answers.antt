use Rattle.std.proofs.Common.{◌∙◌, ap, sym}
use Rattle.std.specs.Prelude.{find, option_map}
use Rattle.sky_keys.specs.Waits.{first_waiter}
use Rattle.sky_lock_table.specs.Waiters.{key_of}
use Rattle.sky_lock_table.proofs.Orders.{lock_ties-symm, is_same_key-ties}
use Rattle.sky_locks.specs.Locks.{LocksView}
use Rattle.sky_locks.proofs.locks.Locks.first_waiter.Goals as goal

pub returns : goal.returns
returns c =
    c.first.ensures
    ∙ (λ i. option_map (λ w. w.who) (find (λ w. (lock_ties-symm (key_of w) c.args.key.now ∙ sym (is_same_key-ties c.args.key.now (key_of w))) i) c.self.inside.table.waiting))
    ∙ ap (λ (l : LocksView). first_waiter c.args.key.now.table c.args.key.now.key l.waiting) c.self.view_is
