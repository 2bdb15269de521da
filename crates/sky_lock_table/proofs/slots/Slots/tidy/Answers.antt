use Rattle.std.proofs.Common.{◌∙◌, ap, rules, subst, is_some}
use Rattle.std.specs.Map.{lookup, keys_of}
use Rattle.std.specs.BTreeMap.{is_at}
use Rattle.std.specs.Cmp.{eq_by_cmp_equiv}
use Rattle.std.proofs.lemmas.Map.Keys.{IsDistinct-from_sorted}
use Rattle.std.proofs.lemmas.Map.Made.{filter_same_pairs}
use Rattle.std.proofs.lemmas.Map.Entries.{lookup-filter-values}
use Rattle.slab.specs.Slab.{get as slab_get}
use Rattle.sky_lock_table.specs.Order.{lock_cmp}
use Rattle.sky_lock_table.specs.Slots.{SlotsView, slot_holder, slot_queue, SameHolders, SameQueues}
use Rattle.sky_lock_table.proofs.Orders.{lock_cmp-IsTotalOrder}
use Rattle.sky_lock_table.proofs.PlaceLemmas.{AreLeft, left_there, placed-left}
use Rattle.sky_lock_table.proofs.SlotLemmas.{is_busy, idle_holder, idle_queue, without_idle}
use Rattle.sky_lock_table.proofs.slots.Slots.tidy.Goals as goal

pub invariant_of-self : goal.invariant_of-self
invariant_of-self c =
    let kept = filter_same_pairs _ (λ e. is_some (slab_get c.retain.new.self e.1)) _ (λ k v b w f' t. search rules) _ _ c.retain-2.ensures.filtered in
    let left : AreLeft is_busy c.self.inside.places.entries c.self.inside.slots c.retain-2.new.self.entries c.retain.new.self = record {
      keys = λ q.
          ap (lookup (is_at (lock_cmp q))) kept
          ∙ lookup-filter-values (eq_by_cmp_equiv lock_cmp-IsTotalOrder) (λ n. is_some (slab_get c.retain.new.self n)) q c.self.inside.places.entries (IsDistinct-from_sorted lock_cmp (keys_of c.self.inside.places.entries) c.retain-2.ensures.was_ordered);
      there = left_there is_busy _ _ (λ key old keep new next called. search rules) c.self.inside.slots c.retain.new.self c.retain.ensures.retained;
    } in
    placed-left is_busy c.self.inside.places.entries c.retain-2.new.self.entries c.self.inside.slots c.retain.new.self c.self.invariant left

pub returns-clause-holders : goal.returns-clause-holders
returns-clause-holders c =
    let kept = filter_same_pairs _ (λ e. is_some (slab_get c.retain.new.self e.1)) _ (λ k v b w f' t. search rules) _ _ c.retain-2.ensures.filtered in
    let left : AreLeft is_busy c.self.inside.places.entries c.self.inside.slots c.retain-2.new.self.entries c.retain.new.self = record {
      keys = λ q.
          ap (lookup (is_at (lock_cmp q))) kept
          ∙ lookup-filter-values (eq_by_cmp_equiv lock_cmp-IsTotalOrder) (λ n. is_some (slab_get c.retain.new.self n)) q c.self.inside.places.entries (IsDistinct-from_sorted lock_cmp (keys_of c.self.inside.places.entries) c.retain-2.ensures.was_ordered);
      there = left_there is_busy _ _ (λ key old keep new next called. search rules) c.self.inside.slots c.retain.new.self c.retain.ensures.retained;
    } in
    let old : SlotsView = record { slots = c.self.inside.slots; places = c.self.inside.places.entries } in
    let new : SlotsView = record { slots = c.retain.new.self; places = c.retain-2.new.self.entries } in
    subst (λ (s : SlotsView). SameHolders s new) c.self.view_is (without_idle slot_holder old new left idle_holder)

pub returns-clause-queues : goal.returns-clause-queues
returns-clause-queues c =
    let kept = filter_same_pairs _ (λ e. is_some (slab_get c.retain.new.self e.1)) _ (λ k v b w f' t. search rules) _ _ c.retain-2.ensures.filtered in
    let left : AreLeft is_busy c.self.inside.places.entries c.self.inside.slots c.retain-2.new.self.entries c.retain.new.self = record {
      keys = λ q.
          ap (lookup (is_at (lock_cmp q))) kept
          ∙ lookup-filter-values (eq_by_cmp_equiv lock_cmp-IsTotalOrder) (λ n. is_some (slab_get c.retain.new.self n)) q c.self.inside.places.entries (IsDistinct-from_sorted lock_cmp (keys_of c.self.inside.places.entries) c.retain-2.ensures.was_ordered);
      there = left_there is_busy _ _ (λ key old keep new next called. search rules) c.self.inside.slots c.retain.new.self c.retain.ensures.retained;
    } in
    let old : SlotsView = record { slots = c.self.inside.slots; places = c.self.inside.places.entries } in
    let new : SlotsView = record { slots = c.retain.new.self; places = c.retain-2.new.self.entries } in
    subst (λ (s : SlotsView). SameQueues s new) c.self.view_is (without_idle slot_queue old new left idle_queue)
