use Rattle.std.proofs.Common.{◌≡◌, ◌∙◌, ap, refl, sym, subst, Some, []}
use Rattle.std.specs.Prelude.{option_and_then}
use Rattle.slab.specs.Slab.{with_value, get as slab_get}
use Rattle.sky_lock_table.specs.declared.slots.Slot.{Slot}
use Rattle.sky_lock_table.specs.Slots.{SlotsView, place_at, slot_holder, slot_queue, queue_at, Holds}
use Rattle.sky_lock_table.proofs.PlaceLemmas.{found_place, has_slot, puts-written}
use Rattle.sky_lock_table.proofs.SlotLemmas.{put-read, same-there}
use Rattle.sky_lock_table.proofs.slots.Slots.hold_at.Goals as goal

pub returns-in_default-clause-queues : goal.returns-in_default-clause-queues
returns-in_default-clause-queues c =
    let none : [] ≡ queue_at c.args.self.now c.args.key.now = ap (λ o. slot_queue (option_and_then (slab_get c.args.self.now.slots) o)) (sym c.in_default.is ∙ c.requires) in
    same-there (queue_at c.args.self.now) (queue_at c.insert.new.self) c.args.key.now c.new.result.items c.in_ok-insert.ensures.queues (c.new.ensures.items ∙ none)

pub index_mut-slot-requires : goal.index_mut-slot-requires
index_mut-slot-requires c =
    let old : SlotsView = record { slots = c.self.inside.slots; places = c.self.inside.places.entries } in
    let here : place_at old.places c.args.key.now ≡ Some c.in-Some.place = found_place old c.args.self.now c.args.key.now c.in-Some.place c.self.view_is (sym c.in-Some.is ∙ c.requires) in
    has_slot old.places old.slots c.self.invariant c.args.key.now c.in-Some.place here

pub returns-clause-free : goal.returns-clause-free
returns-clause-free c =
    let old : SlotsView = record { slots = c.self.inside.slots; places = c.self.inside.places.entries } in
    let here : place_at old.places c.args.key.now ≡ Some c.in-Some.place = found_place old c.args.self.now c.args.key.now c.in-Some.place c.self.view_is (sym c.in-Some.is ∙ c.requires) in
    let was : Slot = c.index_mut-slot.result.now in
    let now : Slot = record { key = was.key; holder = Some c.args.who; queue = was.queue } in
    let new : SlotsView = record { slots = with_value old.slots c.in-Some.place now; places = old.places } in
    let puts = puts-written old c.self.invariant c.args.key.now c.in-Some.place was now here c.index_mut-slot.ensures.value refl in
    subst (λ (s : SlotsView). Holds s c.args.who c.args.key.now new) c.self.view_is (put-read slot_holder (λ _. Some c.args.who) old new c.args.key.now (Some now) puts refl)
