use Rattle.std.proofs.Common.{◌∙◌, ap}
use Rattle.std.specs.Prelude.{slice_get, find, option_map}
use Rattle.std.specs.Ordering.{eq_by_cmp}
use Rattle.sky_keys.specs.Waits.{Waiting}
use Rattle.sky_lock_table.specs.Order.{lock_cmp}
use Rattle.sky_lock_table.specs.Waiters.{key_of, waiting_in}
use Rattle.sky_lock_table.proofs.QueueLemmas.{queue-first}
use Rattle.sky_lock_table.specs.Table.{TableView}
use Rattle.sky_lock_table.proofs.lock_table.LockTable.first.Goals as goal

pub returns : goal.returns
returns c =
    c.first.ensures
    ∙ ap (λ ks. slice_get ks 0) (c.self.invariant.kept.queued c.args.key.now)
    ∙ queue-first (waiting_in c.self.inside.entries) c.args.key.now
    ∙ ap (λ ws. option_map (λ (w : Waiting). w.who) (find (λ w. eq_by_cmp lock_cmp (key_of w) c.args.key.now) ws)) (ap (λ (v : TableView). v.waiting) c.self.view_is)
