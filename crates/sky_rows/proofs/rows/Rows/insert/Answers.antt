use Rattle.std.proofs.Common.{◌≡◌, ◌∙◌, ap, sym, subst, cond, Some, None}
use Rattle.std.specs.Prelude.{option_map}
use Rattle.std.specs.Ordering.{eq_by_cmp}
use Rattle.std.specs.BTreeMap.{insert_entry}
use Rattle.slab.specs.Slab.{Updates}
use Rattle.sky_val.specs.Order.{key_cmp}
use Rattle.sky_rows.specs.declared.rows.Slot.{Slot}
use Rattle.sky_rows.specs.Rows.{RowsView, IsPlaced, place_at, rows_of, rows_in}
use Rattle.sky_rows.proofs.PlaceLemmas.{placed-same, rows-same, lack_vacant, rows-insert, inserted_placed}
use Rattle.sky_rows.proofs.rows.Rows.insert.Goals as goal

pub invariant_of-self : goal.invariant_of-self
invariant_of-self c = placed-same c.self.inside.slots c.reserve.new.self c.self.inside.places.entries c.reserve.ensures.rest_kept c.self.invariant

pub invariant_of-self-in_err-copy : goal.invariant_of-self-in_err-copy
invariant_of-self-in_err-copy c = placed-same c.self.inside.slots c.reserve.new.self c.self.inside.places.entries c.reserve.ensures.rest_kept c.self.invariant

pub invariant_of-self-in_err-insert : goal.invariant_of-self-in_err-insert
invariant_of-self-in_err-insert c =
    subst (λ es. IsPlaced c.reserve.new.self es) (sym c.in_err-insert.ensures.err)
    (placed-same c.self.inside.slots c.reserve.new.self c.self.inside.places.entries c.reserve.ensures.rest_kept c.self.invariant)

pub invariant_of-self-then-len : goal.invariant_of-self-then-len
invariant_of-self-then-len c =
    let places = c.self.inside.places.entries in
    let now : Slot = record { key = c.args.key; kept = c.args.kept } in
    let none : place_at places c.args.key ≡ None = ap (λ (r : RowsView). place_at r.places c.args.key) c.self.view_is ∙ c.requires in
    let updates : Updates c.reserve.new.self c.insert_reserved.new.self c.vacant_key-place.result (Some now) =
    subst (λ n. Updates c.reserve.new.self c.insert_reserved.new.self n (Some now)) (c.insert_reserved.ensures.key ∙ sym c.vacant_key-place.ensures.value) c.insert_reserved.ensures.updates in
    inserted_placed c.reserve.new.self c.insert_reserved.new.self c.vacant_key-place.result now places c.insert.new.self.entries
    (placed-same c.self.inside.slots c.reserve.new.self places c.reserve.ensures.rest_kept c.self.invariant)
    c.vacant_key-place.ensures.vacant none updates
    (c.in_ok-insert.ensures.entries ∙ ap (λ k. insert_entry key_cmp places k c.vacant_key-place.result) c.in_ok-copy.ensures)
    c.in_ok-insert.ensures.ordered
    (λ q. c.in_ok-insert.ensures.updates.0 q ∙ ap (λ k. cond (eq_by_cmp key_cmp k q) (Some c.vacant_key-place.result) (place_at places q)) c.in_ok-copy.ensures)

pub invariant_of-self-else-len : goal.invariant_of-self-else-len
invariant_of-self-else-len c =
    let places = c.self.inside.places.entries in
    let now : Slot = record { key = c.args.key; kept = c.args.kept } in
    let none : place_at places c.args.key ≡ None = ap (λ (r : RowsView). place_at r.places c.args.key) c.self.view_is ∙ c.requires in
    let updates : Updates c.reserve.new.self c.insert_reserved.new.self c.vacant_key-place.result (Some now) =
    subst (λ n. Updates c.reserve.new.self c.insert_reserved.new.self n (Some now)) (c.insert_reserved.ensures.key ∙ sym c.vacant_key-place.ensures.value) c.insert_reserved.ensures.updates in
    inserted_placed c.reserve.new.self c.insert_reserved.new.self c.vacant_key-place.result now places c.insert.new.self.entries
    (placed-same c.self.inside.slots c.reserve.new.self places c.reserve.ensures.rest_kept c.self.invariant)
    c.vacant_key-place.ensures.vacant none updates
    (c.in_ok-insert.ensures.entries ∙ ap (λ k. insert_entry key_cmp places k c.vacant_key-place.result) c.in_ok-copy.ensures)
    c.in_ok-insert.ensures.ordered
    (λ q. c.in_ok-insert.ensures.updates.0 q ∙ ap (λ k. cond (eq_by_cmp key_cmp k q) (Some c.vacant_key-place.result) (place_at places q)) c.in_ok-copy.ensures)

pub returns-else-len-clause-ok : goal.returns-else-len-clause-ok
returns-else-len-clause-ok c =
    let places = c.self.inside.places.entries in
    let old = c.reserve.new.self in
    let new = c.insert_reserved.new.self in
    let p = c.vacant_key-place.result in
    let now : Slot = record { key = c.args.key; kept = c.args.kept } in
    let updates : Updates old new p (Some now) = subst (λ n. Updates old new n (Some now)) (c.insert_reserved.ensures.key ∙ sym c.vacant_key-place.ensures.value) c.insert_reserved.ensures.updates in
    let placed = placed-same c.self.inside.slots old places c.reserve.ensures.rest_kept c.self.invariant in
    ap (rows_of new) (c.in_ok-insert.ensures.entries ∙ ap (λ k. insert_entry key_cmp places k p) c.in_ok-copy.ensures)
    ∙ rows-insert old new p updates.others c.args.key c.args.kept (ap (option_map (λ (s : Slot). s.kept)) updates.changed) places (lack_vacant old p places (ap (option_map (λ (s : Slot). s.key)) c.vacant_key-place.ensures.vacant) placed.there)
    ∙ ap (λ es. insert_entry key_cmp es c.args.key c.args.kept) (rows-same c.self.inside.slots old places c.reserve.ensures.rest_kept ∙ ap rows_in c.self.view_is)

pub returns-then-len-clause-ok : goal.returns-then-len-clause-ok
returns-then-len-clause-ok c =
    let places = c.self.inside.places.entries in
    let old = c.reserve.new.self in
    let new = c.insert_reserved.new.self in
    let p = c.vacant_key-place.result in
    let now : Slot = record { key = c.args.key; kept = c.args.kept } in
    let updates : Updates old new p (Some now) = subst (λ n. Updates old new n (Some now)) (c.insert_reserved.ensures.key ∙ sym c.vacant_key-place.ensures.value) c.insert_reserved.ensures.updates in
    let placed = placed-same c.self.inside.slots old places c.reserve.ensures.rest_kept c.self.invariant in
    ap rows_in c.hint_all.ensures
    ∙ ap (rows_of new) (c.in_ok-insert.ensures.entries ∙ ap (λ k. insert_entry key_cmp places k p) c.in_ok-copy.ensures)
    ∙ rows-insert old new p updates.others c.args.key c.args.kept (ap (option_map (λ (s : Slot). s.kept)) updates.changed) places (lack_vacant old p places (ap (option_map (λ (s : Slot). s.key)) c.vacant_key-place.ensures.vacant) placed.there)
    ∙ ap (λ es. insert_entry key_cmp es c.args.key c.args.kept) (rows-same c.self.inside.slots old places c.reserve.ensures.rest_kept ∙ ap rows_in c.self.view_is)
