-- What holders and waiters together are seen as, and how the code keeps them.
use Rattle.std.specs.Prelude.{◌≡◌, ℕ, List, Option}
use Rattle.sky_keys.specs.Waits.{Waiting}
use Rattle.sky_lock_table.specs.declared.lock_key.LockKey.{LockKey}
use Rattle.sky_lock_table.specs.declared.entries.Waiter.{Waiter}
use Rattle.sky_lock_table.specs.Holders.{Held, is_holder}
use Rattle.sky_lock_table.specs.Sessions.{KeysBySession, has_key}
use Rattle.sky_lock_table.specs.Slots.{SlotsView, Places, holder_at, queue_at}
use Rattle.sky_lock_table.specs.Waiters.{IsKept}

-- the keys that are held, the wait queue, the keys as they are listed for each session, and where each key's slot is
pub record TableView : Type 0 where
  pub held : Held
  pub waiting : List Waiting
  pub listed : KeysBySession
  pub places : Places

-- the indexes record who holds each key, and who waits
pub record IsIndexed (slots : SlotsView) (entries : List (Option Waiter)) (listed : KeysBySession) (arrivals : List (Option ℕ)) : Type 0 where
  pub kept : IsKept entries arrivals (queue_at slots)
  pub holds : (s : ℕ) (q : LockKey) → has_key listed s q ≡ is_holder s (holder_at slots q)
