use Rattle.std.proofs.Common.{◌≡◌, false, take}
use Rattle.std.specs.Prelude.{◌==◌}
use Rattle.std.specs.List.{list_any}
use Rattle.sky_lock_table.proofs.slots.unlink.Given as goal

abbrev pub invariant-loop-place : goal.invariant-loop-place
invariant-loop-place l = (list_any (λ s. s == l.fn.who) (take l.place l.fn.queue.items) ≡ false) × (l.queue.items ≡ l.fn.queue.items)
