-- The keys that were given back and are waited for, as the code lists them.
use Rattle.std.specs.Prelude.{◌≡◌, ℕ, ◌≤◌, true, if◌then◌else◌, List, [], ◌∷◌, ◌++◌, length, None}
use Rattle.std.specs.List.{AllByRecursion, IsDistinct}
use Rattle.std.specs.Ordering.{eq_by_cmp}
use Rattle.sky_keys.specs.Waits.{Waiting}
use Rattle.sky_lock_table.specs.declared.lock_key.LockKey.{LockKey}
use Rattle.sky_lock_table.specs.Order.{lock_cmp}
use Rattle.sky_lock_table.specs.Holders.{Held, holder_of}
use Rattle.sky_lock_table.specs.Waiters.{key_of, is_among, is_waited}

-- the list once a key was given back
abbrev pub noted : List Waiting → LockKey → List LockKey → List LockKey
noted waiting key freed = if is_waited waiting key then freed ++ key ∷ [] else freed

-- each listed key is listed once, is free and is waited for; what is free and waited for is listed; and there is room for the key of each that
-- waits
pub record IsListed (held : Held) (waiting : List Waiting) (freed : List LockKey) (capacity : ℕ) : Type 0 where
  pub distinct : IsDistinct (eq_by_cmp lock_cmp) freed
  pub free : (q : LockKey) → is_among freed q ≡ true → holder_of held q ≡ None
  pub waited : (q : LockKey) → is_among freed q ≡ true → is_waited waiting q ≡ true
  pub complete : AllByRecursion (λ w. holder_of held (key_of w) ≡ None → is_among freed (key_of w) ≡ true) waiting
  pub room : length waiting ≤ capacity
