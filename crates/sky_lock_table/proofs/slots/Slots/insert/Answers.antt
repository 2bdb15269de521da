use Rattle.std.proofs.Common.{◌≡◌, ◌∙◌, ap, sym, refl, subst, cond, Some, None}
use Rattle.std.specs.Ordering.{eq_by_cmp}
use Rattle.slab.specs.Slab.{Slab, Updates, get as slab_get}
use Rattle.sky_lock_table.specs.declared.slots.Slot.{Slot}
use Rattle.sky_lock_table.specs.Order.{lock_cmp}
use Rattle.sky_lock_table.specs.Slots.{SlotsView, IsPlaced, place_at, slot_holder, slot_queue, holder_at, queue_at, SameHeld}
use Rattle.sky_lock_table.proofs.Basics.{on_err_always}
use Rattle.sky_lock_table.proofs.PlaceLemmas.{Changes, inserted, placed-same, placed-changed, puts-changed}
use Rattle.sky_lock_table.proofs.SlotLemmas.{put-read, held-untouched, slot-untouched}
use Rattle.sky_lock_table.proofs.slots.Slots.insert.Goals as goal

pub invariant_of-self : goal.invariant_of-self
invariant_of-self c =
    let old : SlotsView = record { slots = c.self.inside.slots; places = c.self.inside.places.entries } in
    let same : c.take_place.new.slots.slots ≡ old.slots.slots = ap (λ (s : Slab Slot). s.slots) c.take_place.ensures.slots in
    subst (λ es. IsPlaced es c.take_place.new.slots) (sym c.in_err-place.ensures.err) (placed-same old.places old.slots c.take_place.new.slots c.self.invariant same)

pub returns-in_err-place-clause-held : goal.returns-in_err-place-clause-held
returns-in_err-place-clause-held c =
    let old : SlotsView = record { slots = c.self.inside.slots; places = c.self.inside.places.entries } in
    let same : c.take_place.new.slots.slots ≡ old.slots.slots = ap (λ (s : Slab Slot). s.slots) c.take_place.ensures.slots in
    let new : SlotsView = record { slots = c.take_place.new.slots; places = c.take_place.new.places.entries } in
    on_err_always c.from_residual-in_err-place.result (subst (λ (s : SlotsView). SameHeld s new) c.self.view_is (held-untouched old new c.in_err-place.ensures.err same))

pub invariant_of-self-2 : goal.invariant_of-self-2
invariant_of-self-2 c =
    let old : SlotsView = record { slots = c.self.inside.slots; places = c.self.inside.places.entries } in
    let same : c.take_place.new.slots.slots ≡ old.slots.slots = ap (λ (s : Slab Slot). s.slots) c.take_place.ensures.slots in
    let now : Slot = record { key = c.in_ok-copy.field-0; holder = c.args.holder; queue = c.args.queue } in
    let mid : SlotsView = record { slots = c.take_place.new.slots; places = old.places } in
    let new : SlotsView = record { slots = c.insert_reserved.new.self; places = c.take_place.new.places.entries } in
    let placed : IsPlaced mid.places mid.slots = placed-same old.places old.slots mid.slots c.self.invariant same in
    let none : place_at old.places c.args.key.now ≡ None = ap (λ (s : SlotsView). place_at s.places c.args.key.now) c.self.view_is ∙ c.requires in
    let at : c.insert_reserved.result ≡ c.in_ok-place.place = c.insert_reserved.ensures.key ∙ sym c.in_ok-place.ensures.place in
    let changes : Changes mid.places mid.slots c.args.key.now c.in_ok-place.place (Some now) new.places new.slots =
    inserted mid.places new.places mid.slots new.slots placed c.args.key.now c.in_ok-place.place now none (ap (slab_get mid.slots) (sym at) ∙ c.insert_reserved.ensures.was_vacant) c.in_ok-copy.ensures
    c.in_ok-place.ensures.found
    (subst (λ n. Updates mid.slots new.slots n (Some now)) at c.insert_reserved.ensures.updates) in
    placed-changed mid.places new.places mid.slots new.slots c.args.key.now c.in_ok-place.place (Some now) placed changes

pub returns-clause-holders : goal.returns-clause-holders
returns-clause-holders c =
    let old : SlotsView = record { slots = c.self.inside.slots; places = c.self.inside.places.entries } in
    let same : c.take_place.new.slots.slots ≡ old.slots.slots = ap (λ (s : Slab Slot). s.slots) c.take_place.ensures.slots in
    let now : Slot = record { key = c.in_ok-copy.field-0; holder = c.args.holder; queue = c.args.queue } in
    let mid : SlotsView = record { slots = c.take_place.new.slots; places = old.places } in
    let new : SlotsView = record { slots = c.insert_reserved.new.self; places = c.take_place.new.places.entries } in
    let placed : IsPlaced mid.places mid.slots = placed-same old.places old.slots mid.slots c.self.invariant same in
    let none : place_at old.places c.args.key.now ≡ None = ap (λ (s : SlotsView). place_at s.places c.args.key.now) c.self.view_is ∙ c.requires in
    let at : c.insert_reserved.result ≡ c.in_ok-place.place = c.insert_reserved.ensures.key ∙ sym c.in_ok-place.ensures.place in
    let changes : Changes mid.places mid.slots c.args.key.now c.in_ok-place.place (Some now) new.places new.slots =
    inserted mid.places new.places mid.slots new.slots placed c.args.key.now c.in_ok-place.place now none (ap (slab_get mid.slots) (sym at) ∙ c.insert_reserved.ensures.was_vacant) c.in_ok-copy.ensures
    c.in_ok-place.ensures.found
    (subst (λ n. Updates mid.slots new.slots n (Some now)) at c.insert_reserved.ensures.updates) in
    let puts = puts-changed mid new c.args.key.now c.in_ok-place.place (Some now) changes in
    let before = held-untouched old mid refl same in λ q.
    c.tidy.ensures.holders q
    ∙ put-read slot_holder (λ _. c.args.holder) mid new c.args.key.now (Some now) puts refl q
    ∙ ap (cond (eq_by_cmp lock_cmp c.args.key.now q) c.args.holder) (before.holders q ∙ ap (λ (s : SlotsView). holder_at s q) c.self.view_is)

pub returns-clause-queues : goal.returns-clause-queues
returns-clause-queues c =
    let old : SlotsView = record { slots = c.self.inside.slots; places = c.self.inside.places.entries } in
    let same : c.take_place.new.slots.slots ≡ old.slots.slots = ap (λ (s : Slab Slot). s.slots) c.take_place.ensures.slots in
    let now : Slot = record { key = c.in_ok-copy.field-0; holder = c.args.holder; queue = c.args.queue } in
    let mid : SlotsView = record { slots = c.take_place.new.slots; places = old.places } in
    let new : SlotsView = record { slots = c.insert_reserved.new.self; places = c.take_place.new.places.entries } in
    let placed : IsPlaced mid.places mid.slots = placed-same old.places old.slots mid.slots c.self.invariant same in
    let none : place_at old.places c.args.key.now ≡ None = ap (λ (s : SlotsView). place_at s.places c.args.key.now) c.self.view_is ∙ c.requires in
    let at : c.insert_reserved.result ≡ c.in_ok-place.place = c.insert_reserved.ensures.key ∙ sym c.in_ok-place.ensures.place in
    let changes : Changes mid.places mid.slots c.args.key.now c.in_ok-place.place (Some now) new.places new.slots =
    inserted mid.places new.places mid.slots new.slots placed c.args.key.now c.in_ok-place.place now none (ap (slab_get mid.slots) (sym at) ∙ c.insert_reserved.ensures.was_vacant) c.in_ok-copy.ensures
    c.in_ok-place.ensures.found
    (subst (λ n. Updates mid.slots new.slots n (Some now)) at c.insert_reserved.ensures.updates) in
    let puts = puts-changed mid new c.args.key.now c.in_ok-place.place (Some now) changes in λ q.
    c.tidy.ensures.queues q
    ∙ put-read slot_queue (λ _. c.args.queue.items) mid new c.args.key.now (Some now) puts refl q
    ∙ ap (cond (eq_by_cmp lock_cmp c.args.key.now q) c.args.queue.items) (ap slot_queue (slot-untouched old mid refl same q) ∙ ap (λ (s : SlotsView). queue_at s q) c.self.view_is)
