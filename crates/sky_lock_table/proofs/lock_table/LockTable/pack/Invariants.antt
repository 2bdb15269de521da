use Rattle.std.proofs.Common.{◌≡◌, ◌<◌, ℕ, true, drop, length}
use Rattle.sky_lock_table.specs.Sessions.{arrival_of}
use Rattle.sky_lock_table.specs.Waiters.{entry_at, is_of}
use Rattle.sky_lock_table.proofs.PackLemmas.{renumbered}
use Rattle.sky_lock_table.proofs.lock_table.LockTable.pack.Given as goal

abbrev pub invariant-loop-arrival : goal.invariant-loop-arrival
invariant-loop-arrival l =
    ((s : ℕ) → renumbered (arrival_of l.self-inside.arrivals.numbers.items) l.arrival (drop l.arrival l.initial.self-inside.entries) s
    ≡ renumbered (arrival_of l.initial.self-inside.arrivals.numbers.items) 0 l.initial.self-inside.entries s)
    × ((s b : ℕ) → is_of s (entry_at l.initial.self-inside.entries b) ≡ true → s < length l.self-inside.arrivals.numbers.items)
    × (l.self-inside.entries ≡ l.initial.self-inside.entries)
    × (l.self-inside.slots ≡ l.initial.self-inside.slots)
    × (l.self-inside.listed ≡ l.initial.self-inside.listed)
