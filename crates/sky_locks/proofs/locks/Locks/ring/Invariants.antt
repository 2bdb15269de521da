use Rattle.std.proofs.Common.{◌≡◌, ◌-◌, ◌++◌, ◌∷◌, length}
use Rattle.std.specs.Prelude.{option_map}
use Rattle.sky_keys.specs.Waits.{way_back}
use Rattle.sky_locks.specs.Locks.{waits_for_in}
use Rattle.sky_locks.proofs.locks.Locks.ring.Given as goal

abbrev pub invariant-loop-step : goal.invariant-loop-step
invariant-loop-step l =
    option_map (λ way. l.sessions.items ++ way) (way_back (waits_for_in l.self) l.who (l._step-end - l._step) l.last)
    ≡ option_map (λ way. l.fn.who ∷ way) (way_back (waits_for_in l.fn.self) l.fn.who (length l.fn.self.waiting) l.fn.other)
