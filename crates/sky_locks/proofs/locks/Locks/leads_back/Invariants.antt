use Rattle.std.proofs.Common.{◌≡◌, ◌-◌, length, is_some}
use Rattle.sky_keys.specs.Waits.{way_back}
use Rattle.sky_locks.specs.Locks.{waits_for_in}
use Rattle.sky_locks.proofs.locks.Locks.leads_back.Given as goal

abbrev pub invariant-loop-step : goal.invariant-loop-step
invariant-loop-step l =
    is_some (way_back (waits_for_in l.self) l.who (l._step-end - l._step) l.last)
    ≡ is_some (way_back (waits_for_in l.fn.self) l.fn.who (length l.fn.self.waiting) l.fn.other)
