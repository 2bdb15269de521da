-- The queues of keys, as the wait queue has them.
use Rattle.std.proofs.Common.{◌≡◌, ℕ, Bool, true, false, cond, not, List, [], ◌∷◌, ◌++◌, map, Some, refl, sym, ◌∙◌, ap}
use Rattle.std.specs.Prelude.{◌==◌, filter, find, option_map, slice_get}
use Rattle.std.specs.Ordering.{eq_by_cmp}
use Rattle.sky_keys.specs.Waits.{Waiting, without}
use Rattle.sky_lock_table.specs.declared.lock_key.LockKey.{LockKey}
use Rattle.sky_lock_table.specs.Order.{lock_cmp}
use Rattle.sky_lock_table.specs.Waiters.{entry, key_of, queue_in}

-- one more comes to wait for a key
pub queue-more : (waiting : List Waiting) (who : ℕ) (key q : LockKey) → queue_in q (waiting ++ entry who key ∷ []) ≡ cond (eq_by_cmp lock_cmp key q) (queue_in q waiting ++ who ∷ []) (queue_in q waiting)
queue-more [] who key q = elim (eq_by_cmp lock_cmp key q) as (λ t. map (λ w. w.who) (cond t (entry who key ∷ []) []) ≡ cond t (who ∷ []) []) [ true ↦ refl | false ↦ refl ]
queue-more (w ∷ waiting) who key q = elim (eq_by_cmp lock_cmp (key_of w) q) as (λ b.
    map (λ w. w.who) (cond b (w ∷ filter (λ w. eq_by_cmp lock_cmp (key_of w) q) (waiting ++ entry who key ∷ [])) (filter (λ w. eq_by_cmp lock_cmp (key_of w) q) (waiting ++ entry who key ∷ [])))
    ≡ cond (eq_by_cmp lock_cmp key q) (map (λ w. w.who) (cond b (w ∷ filter (λ w. eq_by_cmp lock_cmp (key_of w) q) waiting) (filter (λ w. eq_by_cmp lock_cmp (key_of w) q) waiting)) ++ who ∷ []) (map (λ w. w.who) (cond b (w ∷ filter (λ w. eq_by_cmp lock_cmp (key_of w) q) waiting) (filter (λ w. eq_by_cmp lock_cmp (key_of w) q) waiting)))) [
      | true ↦ ap (λ s. w.who ∷ s) (queue-more waiting who key q) ∙ in_front (eq_by_cmp lock_cmp key q)
      | false ↦ queue-more waiting who key q
    ]
  where
    in_front : (b : Bool) → ◌≡◌ {A = List ℕ} (w.who ∷ cond b (queue_in q waiting ++ who ∷ []) (queue_in q waiting)) (cond b (w.who ∷ queue_in q waiting ++ who ∷ []) (w.who ∷ queue_in q waiting))
    in_front true = refl
    in_front false = refl

-- a session leaves all queues
pub queue-without : (waiting : List Waiting) (who : ℕ) (q : LockKey) → queue_in q (without who waiting) ≡ filter (λ s. not (s == who)) (queue_in q waiting)
queue-without [] who q = refl
queue-without (w ∷ waiting) who q = of (w.who == who) refl (eq_by_cmp lock_cmp (key_of w) q) refl (queue-without waiting who q)
  where
    of : (b : Bool) → (w.who == who) ≡ b → (t : Bool) → eq_by_cmp lock_cmp (key_of w) q ≡ t → queue_in q (without who waiting) ≡ filter (λ s. not (s == who)) (queue_in q waiting)
        → queue_in q (cond (not b) (w ∷ without who waiting) (without who waiting)) ≡ filter (λ s. not (s == who)) (map (λ w. w.who) (cond t (w ∷ filter (λ w. eq_by_cmp lock_cmp (key_of w) q) waiting) (filter (λ w. eq_by_cmp lock_cmp (key_of w) q) waiting)))
    of true is true tie rest = rest ∙ ap (λ b. cond (not b) (w.who ∷ filter (λ s. not (s == who)) (queue_in q waiting)) (filter (λ s. not (s == who)) (queue_in q waiting))) (sym is)
    of true is false apart rest = rest
    of false is true tie rest =
        ap (λ t. map (λ w. w.who) (cond t (w ∷ filter (λ w. eq_by_cmp lock_cmp (key_of w) q) (without who waiting)) (filter (λ w. eq_by_cmp lock_cmp (key_of w) q) (without who waiting)))) tie
        ∙ ap (λ s. w.who ∷ s) rest ∙ ap (λ b. cond (not b) (w.who ∷ filter (λ s. not (s == who)) (queue_in q waiting)) (filter (λ s. not (s == who)) (queue_in q waiting))) (sym is)
    of false is false apart rest =
        ap (λ t. map (λ w. w.who) (cond t (w ∷ filter (λ w. eq_by_cmp lock_cmp (key_of w) q) (without who waiting)) (filter (λ w. eq_by_cmp lock_cmp (key_of w) q) (without who waiting)))) apart
        ∙ rest

-- the first of a queue is the first that waits for its key
pub queue-first : (waiting : List Waiting) (q : LockKey) → slice_get (queue_in q waiting) 0 ≡ option_map (λ w. w.who) (find (λ w. eq_by_cmp lock_cmp (key_of w) q) waiting)
queue-first [] q = refl
queue-first (w ∷ waiting) q = elim (eq_by_cmp lock_cmp (key_of w) q) as (λ t. slice_get (map (λ w. w.who) (cond t (w ∷ filter (λ w. eq_by_cmp lock_cmp (key_of w) q) waiting) (filter (λ w. eq_by_cmp lock_cmp (key_of w) q) waiting))) 0
    ≡ option_map (λ w. w.who) (cond t (Some w) (find (λ w. eq_by_cmp lock_cmp (key_of w) q) waiting))) [
      | true ↦ refl
      | false ↦ queue-first waiting q
    ]
