use Rattle.std.proofs.Common.{◌≡◌, ◌∙◌, ap, sym, refl, not, subst, Some, is_some, nat_eq, length, vec_len, arith}
use Rattle.std.specs.Prelude.{◌==◌, filter, slice_get, option_and_then}
use Rattle.std.specs.List.{IsDistinct}
use Rattle.slab.specs.Slab.{with_value, get as slab_get}
use Rattle.sky_lock_table.specs.declared.slots.Slot.{Slot}
use Rattle.sky_lock_table.specs.Slots.{SlotsView, place_at, slot_holder, slot_queue, queue_at, Leaves, SameHolders}
use Rattle.sky_lock_table.proofs.PlaceLemmas.{found_place, has_slot, seen_slot, puts-written}
use Rattle.sky_lock_table.proofs.SlotLemmas.{puts-at, put-read, put-kept, put-absent, queue_filled}
use Rattle.sky_lock_table.proofs.slots.Slots.leave.Goals as goal

pub returns-in_default-clause-queues : goal.returns-in_default-clause-queues
returns-in_default-clause-queues c =
    put-absent slot_queue (filter (λ s. not (s == c.args.who))) c.args.self.now c.args.self.now c.args.key.now refl (ap (option_and_then (slab_get c.args.self.now.slots)) c.in_default.ensures) refl

pub index_mut-slot-requires : goal.index_mut-slot-requires
index_mut-slot-requires c =
    let old : SlotsView = record { slots = c.self.inside.slots; places = c.self.inside.places.entries } in
    let here : place_at old.places c.args.key.now ≡ Some c.in-Some.place = found_place old c.args.self.now c.args.key.now c.in-Some.place c.self.view_is c.in-Some.ensures in
    has_slot old.places old.slots c.self.invariant c.args.key.now c.in-Some.place here

pub unlink-requires : goal.unlink-requires
unlink-requires c =
    let old : SlotsView = record { slots = c.self.inside.slots; places = c.self.inside.places.entries } in
    let here : place_at old.places c.args.key.now ≡ Some c.in-Some.place = found_place old c.args.self.now c.args.key.now c.in-Some.place c.self.view_is c.in-Some.ensures in
    subst (IsDistinct nat_eq) (ap (λ (s : SlotsView). queue_at s c.args.key.now) (sym c.self.view_is) ∙ ap slot_queue (seen_slot old c.args.key.now c.in-Some.place c.index_mut-slot.result.now here c.index_mut-slot.ensures.value)) c.requires

pub returns-clause-queues : goal.returns-clause-queues
returns-clause-queues c =
    let old : SlotsView = record { slots = c.self.inside.slots; places = c.self.inside.places.entries } in
    let here : place_at old.places c.args.key.now ≡ Some c.in-Some.place = found_place old c.args.self.now c.args.key.now c.in-Some.place c.self.view_is c.in-Some.ensures in
    let was : Slot = c.index_mut-slot.result.now in
    let now : Slot = record { key = was.key; holder = was.holder; queue = c.unlink.new.queue } in
    let new : SlotsView = record { slots = with_value old.slots c.in-Some.place now; places = old.places } in
    let puts = puts-written old c.self.invariant c.args.key.now c.in-Some.place was now here c.index_mut-slot.ensures.value refl in
    subst (λ (s : SlotsView). Leaves (queue_at s) c.args.who c.args.key.now (queue_at new)) c.self.view_is (put-read slot_queue (filter (λ s. not (s == c.args.who))) old new c.args.key.now (Some now) puts
    (c.unlink.ensures ∙ ap (λ o. filter (λ s. not (s == c.args.who)) (slot_queue o)) (sym (seen_slot old c.args.key.now c.in-Some.place was here c.index_mut-slot.ensures.value))))

pub returns-clause-holders : goal.returns-clause-holders
returns-clause-holders c =
    let old : SlotsView = record { slots = c.self.inside.slots; places = c.self.inside.places.entries } in
    let here : place_at old.places c.args.key.now ≡ Some c.in-Some.place = found_place old c.args.self.now c.args.key.now c.in-Some.place c.self.view_is c.in-Some.ensures in
    let was : Slot = c.index_mut-slot.result.now in
    let now : Slot = record { key = was.key; holder = was.holder; queue = c.unlink.new.queue } in
    let new : SlotsView = record { slots = with_value old.slots c.in-Some.place now; places = old.places } in
    let puts = puts-written old c.self.invariant c.args.key.now c.in-Some.place was now here c.index_mut-slot.ensures.value refl in
    subst (λ (s : SlotsView). SameHolders s new) c.self.view_is (put-kept slot_holder old new c.args.key.now (Some now) puts
    (sym (ap slot_holder (seen_slot old c.args.key.now c.in-Some.place was here c.index_mut-slot.ensures.value))))

pub returns-clause-waited : goal.returns-clause-waited
returns-clause-waited c =
    let old : SlotsView = record { slots = c.self.inside.slots; places = c.self.inside.places.entries } in
    let here : place_at old.places c.args.key.now ≡ Some c.in-Some.place = found_place old c.args.self.now c.args.key.now c.in-Some.place c.self.view_is c.in-Some.ensures in
    let was : Slot = c.index_mut-slot.result.now in
    let now : Slot = record { key = was.key; holder = was.holder; queue = c.unlink.new.queue } in
    let new : SlotsView = record { slots = with_value old.slots c.in-Some.place now; places = old.places } in
    let puts = puts-written old c.self.invariant c.args.key.now c.in-Some.place was now here c.index_mut-slot.ensures.value refl in
    let count : length now.queue.items ≡ vec_len now.queue = omega (arith, now.queue.ok) in
    ap not c.is_empty.ensures
    ∙ queue_filled now.queue.items (vec_len now.queue) count
    ∙ ap (λ o. is_some (slice_get (slot_queue o) 0)) (sym (puts-at old new c.args.key.now (Some now) puts))
