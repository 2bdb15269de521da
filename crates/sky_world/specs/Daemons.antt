-- The daemons that are on.
use Rattle.std.specs.Prelude.{ℕ, ℤ, pos, ◌≤ℤ◌, List, IfSome}
use Rattle.std.specs.Ordering.{nat_cmp}
use Rattle.std.specs.BTreeMap.{is_at}
use Rattle.std.specs.Map.{lookup}

-- each was started at a moment that isn't after this one
abbrev pub StartedBy : ℤ → List (ℕ × ℤ) → Type 0
StartedBy now daemons = (d : ℕ) → IfSome (lookup (is_at (nat_cmp d)) daemons) (λ start. (pos 0 ≤ℤ start) × (start ≤ℤ now))
