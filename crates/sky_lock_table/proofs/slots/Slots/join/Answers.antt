use Rattle.std.proofs.Common.{◌≡◌, ◌∙◌, ◌++◌, ◌∷◌, [], ap, sym, refl, subst, Some, None}
use Rattle.std.specs.Prelude.{option_and_then}
use Rattle.slab.specs.Slab.{with_value, get as slab_get}
use Rattle.sky_lock_table.specs.declared.slots.Slot.{Slot}
use Rattle.sky_lock_table.specs.Slots.{SlotsView, place_at, slot_holder, slot_queue, holder_at, queue_at, held_in, SameHolders, SameQueues, Joins}
use Rattle.sky_lock_table.proofs.Basics.{on_err_always, on_ok_then, either_way}
use Rattle.sky_lock_table.proofs.PlaceLemmas.{found_place, has_slot, puts-written}
use Rattle.sky_lock_table.proofs.SlotLemmas.{put-read, put-kept, same-there, joins-none, held-same}
use Rattle.sky_lock_table.proofs.slots.Slots.join.Goals as goal

pub returns-in_default-clause-ok : goal.returns-in_default-clause-ok
returns-in_default-clause-ok c =
    let none : [] ≡ queue_at c.args.self.now c.args.key.now = ap (λ o. slot_queue (option_and_then (slab_get c.args.self.now.slots) o)) c.in_default.ensures in
    on_ok_then c.insert.result (λ has. joins-none (queue_at c.args.self.now) (queue_at c.insert.new.self) c.args.key.now c.args.who c.push.new.self.items has
    (c.in_ok-push.ensures.items ∙ ap (λ ks. ks ++ c.args.who ∷ []) c.new-queue.ensures.items) (sym none)) c.insert.ensures.queues

pub returns-in_default-clause-holders : goal.returns-in_default-clause-holders
returns-in_default-clause-holders c =
    let none : None ≡ holder_at c.args.self.now c.args.key.now = ap (λ o. slot_holder (option_and_then (slab_get c.args.self.now.slots) o)) c.in_default.ensures in
    either_way c.insert.result (λ has. same-there (holder_at c.args.self.now) (holder_at c.insert.new.self) c.args.key.now None has none) (λ same. same.holders) c.insert.ensures.holders c.insert.ensures.held

pub index_mut-slot-requires : goal.index_mut-slot-requires
index_mut-slot-requires c =
    let old : SlotsView = record { slots = c.self.inside.slots; places = c.self.inside.places.entries } in
    let here : place_at old.places c.args.key.now ≡ Some c.in-Some.place = found_place old c.args.self.now c.args.key.now c.in-Some.place c.self.view_is c.in-Some.ensures in
    has_slot old.places old.slots c.self.invariant c.args.key.now c.in-Some.place here

pub returns-in_err-push-2-clause-held : goal.returns-in_err-push-2-clause-held
returns-in_err-push-2-clause-held c =
    let old : SlotsView = record { slots = c.self.inside.slots; places = c.self.inside.places.entries } in
    let here : place_at old.places c.args.key.now ≡ Some c.in-Some.place = found_place old c.args.self.now c.args.key.now c.in-Some.place c.self.view_is c.in-Some.ensures in
    let was : Slot = c.index_mut-slot.result.now in
    let now : Slot = record { key = was.key; holder = was.holder; queue = c.push-2.new.self } in
    let new : SlotsView = record { slots = with_value old.slots c.in-Some.place now; places = old.places } in
    let puts = puts-written old c.self.invariant c.args.key.now c.in-Some.place was now here c.index_mut-slot.ensures.value refl in
    on_err_always c.from_residual-in_err-push-2.result (subst (λ (s : SlotsView). held_in new ≡ held_in s) c.self.view_is (held-same old new refl
    (put-kept slot_holder old new c.args.key.now (Some now) puts (sym (ap (λ o. slot_holder (option_and_then (slab_get old.slots) o)) here ∙ ap slot_holder c.index_mut-slot.ensures.value)))))

pub returns-clause-ok : goal.returns-clause-ok
returns-clause-ok c =
    let old : SlotsView = record { slots = c.self.inside.slots; places = c.self.inside.places.entries } in
    let here : place_at old.places c.args.key.now ≡ Some c.in-Some.place = found_place old c.args.self.now c.args.key.now c.in-Some.place c.self.view_is c.in-Some.ensures in
    let was : Slot = c.index_mut-slot.result.now in
    let now : Slot = record { key = was.key; holder = was.holder; queue = c.push-2.new.self } in
    let new : SlotsView = record { slots = with_value old.slots c.in-Some.place now; places = old.places } in
    let puts = puts-written old c.self.invariant c.args.key.now c.in-Some.place was now here c.index_mut-slot.ensures.value refl in
    subst (λ (s : SlotsView). Joins (queue_at s) c.args.who c.args.key.now (queue_at new)) c.self.view_is (put-read slot_queue (λ ks. ks ++ c.args.who ∷ []) old new c.args.key.now (Some now) puts
    (c.in_ok-push-2.ensures.items ∙ sym (ap (λ o. slot_queue (option_and_then (slab_get old.slots) o) ++ c.args.who ∷ []) here ∙ ap (λ o. slot_queue o ++ c.args.who ∷ []) c.index_mut-slot.ensures.value)))

pub returns-in_err-push-2-clause-holders : goal.returns-in_err-push-2-clause-holders
returns-in_err-push-2-clause-holders c =
    let old : SlotsView = record { slots = c.self.inside.slots; places = c.self.inside.places.entries } in
    let here : place_at old.places c.args.key.now ≡ Some c.in-Some.place = found_place old c.args.self.now c.args.key.now c.in-Some.place c.self.view_is c.in-Some.ensures in
    let was : Slot = c.index_mut-slot.result.now in
    let now : Slot = record { key = was.key; holder = was.holder; queue = c.push-2.new.self } in
    let new : SlotsView = record { slots = with_value old.slots c.in-Some.place now; places = old.places } in
    let puts = puts-written old c.self.invariant c.args.key.now c.in-Some.place was now here c.index_mut-slot.ensures.value refl in
    subst (λ (s : SlotsView). SameHolders s new) c.self.view_is
    (put-kept slot_holder old new c.args.key.now (Some now) puts (sym (ap (λ o. slot_holder (option_and_then (slab_get old.slots) o)) here ∙ ap slot_holder c.index_mut-slot.ensures.value)))

pub returns-clause-holders : goal.returns-clause-holders
returns-clause-holders c =
    let old : SlotsView = record { slots = c.self.inside.slots; places = c.self.inside.places.entries } in
    let here : place_at old.places c.args.key.now ≡ Some c.in-Some.place = found_place old c.args.self.now c.args.key.now c.in-Some.place c.self.view_is c.in-Some.ensures in
    let was : Slot = c.index_mut-slot.result.now in
    let now : Slot = record { key = was.key; holder = was.holder; queue = c.push-2.new.self } in
    let new : SlotsView = record { slots = with_value old.slots c.in-Some.place now; places = old.places } in
    let puts = puts-written old c.self.invariant c.args.key.now c.in-Some.place was now here c.index_mut-slot.ensures.value refl in
    subst (λ (s : SlotsView). SameHolders s new) c.self.view_is
    (put-kept slot_holder old new c.args.key.now (Some now) puts (sym (ap (λ o. slot_holder (option_and_then (slab_get old.slots) o)) here ∙ ap slot_holder c.index_mut-slot.ensures.value)))

pub returns-in_err-push-2-clause-err : goal.returns-in_err-push-2-clause-err
returns-in_err-push-2-clause-err c =
    let old : SlotsView = record { slots = c.self.inside.slots; places = c.self.inside.places.entries } in
    let here : place_at old.places c.args.key.now ≡ Some c.in-Some.place = found_place old c.args.self.now c.args.key.now c.in-Some.place c.self.view_is c.in-Some.ensures in
    let was : Slot = c.index_mut-slot.result.now in
    let now : Slot = record { key = was.key; holder = was.holder; queue = c.push-2.new.self } in
    let new : SlotsView = record { slots = with_value old.slots c.in-Some.place now; places = old.places } in
    let puts = puts-written old c.self.invariant c.args.key.now c.in-Some.place was now here c.index_mut-slot.ensures.value refl in
    on_err_always c.from_residual-in_err-push-2.result (subst (λ (s : SlotsView). SameQueues s new) c.self.view_is
    (put-kept slot_queue old new c.args.key.now (Some now) puts (c.in_err-push-2.ensures.items ∙ sym (ap (λ o. slot_queue (option_and_then (slab_get old.slots) o)) here ∙ ap slot_queue c.index_mut-slot.ensures.value))))
