-- Who holds which key, as entries in the order of the keys.
use Rattle.std.specs.Prelude.{◌≡◌, ℕ, ◌==◌, Bool, false, if◌then◌else◌, List, Option, None, Some}
use Rattle.std.specs.Map.{lookup}
use Rattle.std.specs.BTreeMap.{is_at}
use Rattle.std.specs.Ordering.{eq_by_cmp}
use Rattle.sky_lock_table.specs.declared.lock_key.LockKey.{LockKey}
use Rattle.sky_lock_table.specs.Order.{lock_cmp}

-- the keys that are held, each with its holder
abbrev pub Held : Type 0
Held = List (LockKey × ℕ)

-- the holder of a key
abbrev pub holder_of : Held → LockKey → Option ℕ
holder_of held key = lookup (is_at (lock_cmp key)) held

-- whether it is this session
abbrev pub is_holder : ℕ → Option ℕ → Bool
is_holder who None = false
is_holder who (Some s) = who == s

-- a session held the key, which is free now; the others are held as before
pub record Frees (old : Held) (who : ℕ) (key : LockKey) (new : Held) : Type 0 where
  pub was : holder_of old key ≡ Some who
  pub free : (q : LockKey) → holder_of new q ≡ (if eq_by_cmp lock_cmp key q then None else holder_of old q)
