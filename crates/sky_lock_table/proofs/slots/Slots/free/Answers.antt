use Rattle.std.proofs.Common.{◌≡◌, ◌∙◌, ap, sym, not, refl, subst, Some, None, is_some, length, vec_len, arith}
use Rattle.std.specs.Prelude.{slice_get, option_and_then}
use Rattle.slab.specs.Slab.{with_value, get as slab_get}
use Rattle.sky_lock_table.specs.declared.slots.Slot.{Slot}
use Rattle.sky_lock_table.specs.Slots.{SlotsView, place_at, slot_at, slot_holder, slot_queue, queue_at, IsFree, SameQueues}
use Rattle.sky_lock_table.proofs.PlaceLemmas.{found_place, has_slot, seen_slot, puts-written, removed, placed-changed, puts-changed}
use Rattle.sky_lock_table.proofs.SlotLemmas.{put-read, put-kept, put-absent, queue_filled}
use Rattle.sky_lock_table.proofs.slots.Slots.free.Goals as goal

pub returns-in_default-clause-holders : goal.returns-in_default-clause-holders
returns-in_default-clause-holders c = put-absent slot_holder (λ _. None) c.args.self.now c.args.self.now c.args.key.now refl (ap (option_and_then (slab_get c.args.self.now.slots)) c.in_default.ensures) refl

pub remove-requires-then-is_quiet : goal.remove-requires-then-is_quiet
remove-requires-then-is_quiet c =
    let old : SlotsView = record { slots = c.self.inside.slots; places = c.self.inside.places.entries } in
    let here : place_at old.places c.args.key.now ≡ Some c.in-Some.place = found_place old c.args.self.now c.args.key.now c.in-Some.place c.self.view_is c.in-Some.ensures in
    has_slot old.places old.slots c.self.invariant c.args.key.now c.in-Some.place here

pub index_mut-slot-requires : goal.index_mut-slot-requires
index_mut-slot-requires c =
    let old : SlotsView = record { slots = c.self.inside.slots; places = c.self.inside.places.entries } in
    let here : place_at old.places c.args.key.now ≡ Some c.in-Some.place = found_place old c.args.self.now c.args.key.now c.in-Some.place c.self.view_is c.in-Some.ensures in
    has_slot old.places old.slots c.self.invariant c.args.key.now c.in-Some.place here

pub invariant_of-self : goal.invariant_of-self
invariant_of-self c =
    let old : SlotsView = record { slots = c.self.inside.slots; places = c.self.inside.places.entries } in
    let here : place_at old.places c.args.key.now ≡ Some c.in-Some.place = found_place old c.args.self.now c.args.key.now c.in-Some.place c.self.view_is c.in-Some.ensures in
    placed-changed old.places c.remove.new.self.entries old.slots c.remove-then-is_quiet.new.self c.args.key.now c.in-Some.place None c.self.invariant
    (removed old.places c.remove.new.self.entries old.slots c.remove-then-is_quiet.new.self c.self.invariant c.args.key.now c.in-Some.place here c.remove.ensures.updates.0 c.remove-then-is_quiet.ensures.updates)

pub returns-then-is_quiet-clause-holders : goal.returns-then-is_quiet-clause-holders
returns-then-is_quiet-clause-holders c =
    let old : SlotsView = record { slots = c.self.inside.slots; places = c.self.inside.places.entries } in
    let here : place_at old.places c.args.key.now ≡ Some c.in-Some.place = found_place old c.args.self.now c.args.key.now c.in-Some.place c.self.view_is c.in-Some.ensures in
    let new : SlotsView = record { slots = c.remove-then-is_quiet.new.self; places = c.remove.new.self.entries } in
    let puts = puts-changed old new c.args.key.now c.in-Some.place None (removed old.places new.places old.slots new.slots c.self.invariant c.args.key.now c.in-Some.place here c.remove.ensures.updates.0 c.remove-then-is_quiet.ensures.updates) in
    subst (λ (s : SlotsView). IsFree s c.args.key.now new) c.self.view_is (put-read slot_holder (λ _. None) old new c.args.key.now None puts refl)

pub returns-then-is_quiet-clause-queues : goal.returns-then-is_quiet-clause-queues
returns-then-is_quiet-clause-queues c =
    let old : SlotsView = record { slots = c.self.inside.slots; places = c.self.inside.places.entries } in
    let here : place_at old.places c.args.key.now ≡ Some c.in-Some.place = found_place old c.args.self.now c.args.key.now c.in-Some.place c.self.view_is c.in-Some.ensures in
    let new : SlotsView = record { slots = c.remove-then-is_quiet.new.self; places = c.remove.new.self.entries } in
    let puts = puts-changed old new c.args.key.now c.in-Some.place None (removed old.places new.places old.slots new.slots c.self.invariant c.args.key.now c.in-Some.place here c.remove.ensures.updates.0 c.remove-then-is_quiet.ensures.updates) in
    subst (λ (s : SlotsView). SameQueues s new) c.self.view_is (put-kept slot_queue old new c.args.key.now None puts
    (sym (ap (λ (s : SlotsView). queue_at s c.args.key.now) c.self.view_is ∙ c.requires c.if-is_quiet.true)))

pub returns-clause-holders : goal.returns-clause-holders
returns-clause-holders c =
    let old : SlotsView = record { slots = c.self.inside.slots; places = c.self.inside.places.entries } in
    let here : place_at old.places c.args.key.now ≡ Some c.in-Some.place = found_place old c.args.self.now c.args.key.now c.in-Some.place c.self.view_is c.in-Some.ensures in
    let was : Slot = c.index_mut-slot.result.now in
    let now : Slot = record { key = was.key; holder = None; queue = was.queue } in
    let new : SlotsView = record { slots = with_value old.slots c.in-Some.place now; places = old.places } in
    let puts = puts-written old c.self.invariant c.args.key.now c.in-Some.place was now here c.index_mut-slot.ensures.value refl in
    subst (λ (s : SlotsView). IsFree s c.args.key.now new) c.self.view_is (put-read slot_holder (λ _. None) old new c.args.key.now (Some now) puts refl)

pub returns-clause-waited : goal.returns-clause-waited
returns-clause-waited c =
    let old : SlotsView = record { slots = c.self.inside.slots; places = c.self.inside.places.entries } in
    let here : place_at old.places c.args.key.now ≡ Some c.in-Some.place = found_place old c.args.self.now c.args.key.now c.in-Some.place c.self.view_is c.in-Some.ensures in
    let was : Slot = c.index_mut-slot.result.now in
    let count : length was.queue.items ≡ vec_len was.queue = omega (arith, was.queue.ok) in
    ap not c.is_empty.ensures
    ∙ queue_filled was.queue.items (vec_len was.queue) count
    ∙ ap (λ o. is_some (slice_get (slot_queue o) 0)) (sym (seen_slot old c.args.key.now c.in-Some.place was here c.index_mut-slot.ensures.value) ∙ ap (λ (s : SlotsView). slot_at s c.args.key.now) c.self.view_is)
