-- Holders and waiters together: what the one map and the indexes record.
use Rattle.std.proofs.Common.{◌≡◌, ℕ, cond, List, Option, Some, None, is_some, sym, ◌∙◌, ap}
use Rattle.std.specs.Prelude.{find, slice_get}
use Rattle.std.specs.Ordering.{eq_by_cmp}
use Rattle.sky_keys.specs.Waits.{Waiting}
use Rattle.sky_lock_table.specs.declared.lock_key.LockKey.{LockKey}
use Rattle.sky_lock_table.specs.Order.{lock_cmp}
use Rattle.sky_lock_table.specs.Holders.{Held, holder_of, Frees}
use Rattle.sky_lock_table.specs.Slots.{SlotsView, Queues, holder_at, held_in, IsFree, Holds, SameHolders}
use Rattle.sky_lock_table.specs.Waiters.{is_waited, key_of, waiting_in, IsKept}
use Rattle.sky_lock_table.proofs.Basics.{is_some-mapped}
use Rattle.sky_lock_table.proofs.EntryLemmas.{Entries}
use Rattle.sky_lock_table.proofs.QueueLemmas.{queue-first}
use Rattle.sky_lock_table.proofs.SlotLemmas.{held-is}

-- the queues are as they were
pub kept-queues : (es : Entries) (arrivals : List (Option ℕ)) (queues queues' : Queues) → IsKept es arrivals queues → ((q : LockKey) → queues' q ≡ queues q) → IsKept es arrivals queues'
kept-queues es arrivals queues queues' kept same = record { sessions = kept.sessions; queued = λ q. same q ∙ kept.queued q }

-- whether a key's queue has a first one is whether the key is waited for
pub waited-is : (es : Entries) (arrivals : List (Option ℕ)) (queues : Queues) (key : LockKey) → IsKept es arrivals queues → is_some (slice_get (queues key) 0) ≡ is_waited (waiting_in es) key
waited-is es arrivals queues key kept =
    ap (λ ks. is_some (slice_get ks 0)) (kept.queued key)
    ∙ ap is_some (queue-first (waiting_in es) key)
    ∙ is_some-mapped (λ (w : Waiting). w.who) (find (λ w. eq_by_cmp lock_cmp (key_of w) key) (waiting_in es))

-- the holder of a key, by the list of held keys that is seen
pub seen-holder : (slots : SlotsView) (held : Held) (q : LockKey) → held_in slots ≡ held → holder_at slots q ≡ holder_of held q
seen-holder slots held q seen = sym (held-is slots q) ∙ ap (λ (h : Held). holder_of h q) seen

pub held-frees : (old new : SlotsView) (view : Held) (who : ℕ) (key : LockKey) → held_in old ≡ view → holder_at old key ≡ Some who → IsFree old key new → Frees view who key (held_in new)
held-frees old new view who key seen was free = record {
  was = sym (seen-holder old view key seen) ∙ was;
  free = λ q. held-is new q ∙ free q ∙ ap (cond (eq_by_cmp lock_cmp key q) None) (seen-holder old view q seen);
}

pub held-holds : (old new : SlotsView) (view : Held) (who : ℕ) (key : LockKey) → held_in old ≡ view → Holds old who key new
    → (q : LockKey) → holder_of (held_in new) q ≡ cond (eq_by_cmp lock_cmp key q) (Some who) (holder_of view q)
held-holds old new view who key seen holds q = held-is new q ∙ holds q ∙ ap (cond (eq_by_cmp lock_cmp key q) (Some who)) (seen-holder old view q seen)

pub held-again : (old new : SlotsView) (view : Held) → held_in old ≡ view → SameHolders old new → (q : LockKey) → holder_of (held_in new) q ≡ holder_of view q
held-again old new view seen same q = held-is new q ∙ same q ∙ seen-holder old view q seen
