use Rattle.std.proofs.Common.{ap, sym, subst, refl}
use Rattle.std.specs.Prelude.{IsSome}
use Rattle.std.specs.List.Sorted.{IsStrictlySortedBy}
use Rattle.std.specs.Map.{keys_of, set_value}
use Rattle.std.specs.BTreeMap.{is_at}
use Rattle.sky_val.specs.Order.{key_cmp}
use Rattle.sky_rows.specs.Kept.{versions_of}
use Rattle.sky_rows.specs.Rows.{RowsView, rows_in}
use Rattle.sky_rows.proofs.KeptLemmas.{none_if}
use Rattle.sky_rows.proofs.PlaceLemmas.{rows_order, its_there, at_its_key, own_found, own_placed, own_set, own_gone, gone_placed, written_there}
use Rattle.sky_rows.proofs.RowChanges.{used_at, one_at, forget_own, forget_left, forget_last, forget_last_own}
use Rattle.sky_rows.proofs.rows.Rows.forget.Goals as goal

pub returns-in_default-clause-order : goal.returns-in_default-clause-order
returns-in_default-clause-order c = subst (λ (r : RowsView). IsStrictlySortedBy key_cmp (keys_of (rows_in r))) c.self.view_is (rows_order c.self.inside.slots c.self.inside.places.entries c.self.invariant)

pub returns-then-outlives-clause-order : goal.returns-then-outlives-clause-order
returns-then-outlives-clause-order c = subst (λ (r : RowsView). IsStrictlySortedBy key_cmp (keys_of (rows_in r))) c.self.view_is (rows_order c.self.inside.slots c.self.inside.places.entries c.self.invariant)

pub returns-clause-order : goal.returns-clause-order
returns-clause-order c = subst (λ (r : RowsView). IsStrictlySortedBy key_cmp (keys_of (rows_in r))) c.self.view_is (rows_order c.self.inside.slots c.self.inside.places.entries c.self.invariant)

pub outlives-requires-clause-used : goal.outlives-requires-clause-used
outlives-requires-clause-used c = used_at c.args.older.now c.in-Some.slot.now.key (rows_in c.args.self.now) c.in-Some.slot.now.kept c.requires (own_found c.self.inside.slots c.self.inside.places.entries c.args.self.now c.self.view_is c.self.invariant c.args.place c.in-Some.slot.now (sym c.in-Some.ensures.value) c.in-Some.slot.now.key (its_there c.self.inside.slots c.args.self.now c.args.place c.in-Some.slot.now (ap (λ (r : RowsView). r.slots) c.self.view_is) (sym c.in-Some.ensures.value)))

pub outlives-requires-clause-one : goal.outlives-requires-clause-one
outlives-requires-clause-one c = one_at c.args.older.now c.in-Some.slot.now.key (rows_in c.args.self.now) c.in-Some.slot.now.kept c.requires (own_found c.self.inside.slots c.self.inside.places.entries c.args.self.now c.self.view_is c.self.invariant c.args.place c.in-Some.slot.now (sym c.in-Some.ensures.value) c.in-Some.slot.now.key (its_there c.self.inside.slots c.args.self.now c.args.place c.in-Some.slot.now (ap (λ (r : RowsView). r.slots) c.self.view_is) (sym c.in-Some.ensures.value)))

pub invariant_of-self-then-outlives : goal.invariant_of-self-then-outlives
invariant_of-self-then-outlives c = own_placed c.self.inside.slots c.self.inside.places.entries c.args.self.now c.self.view_is c.self.invariant c.args.place c.in-Some.slot.now (sym c.in-Some.ensures.value) c.in-Some.slot.now.key (its_there c.self.inside.slots c.args.self.now c.args.place c.in-Some.slot.now (ap (λ (r : RowsView). r.slots) c.self.view_is) (sym c.in-Some.ensures.value)) c.outlives.new.self

pub returns-then-outlives-clause-entries : goal.returns-then-outlives-clause-entries
returns-then-outlives-clause-entries c = at_its_key c.args.self.now c.args.place c.in-Some.slot.now.key (its_there c.self.inside.slots c.args.self.now c.args.place c.in-Some.slot.now (ap (λ (r : RowsView). r.slots) c.self.view_is) (sym c.in-Some.ensures.value)) _
    (forget_left c.args.txid c.in-Some.slot.now.key c.args.older.now c.outlives.new.older (rows_in c.args.self.now) c.in-Some.slot.now.kept c.outlives.new.self c.requires (own_found c.self.inside.slots c.self.inside.places.entries c.args.self.now c.self.view_is c.self.invariant c.args.place c.in-Some.slot.now (sym c.in-Some.ensures.value) c.in-Some.slot.now.key (its_there c.self.inside.slots c.args.self.now c.args.place c.in-Some.slot.now (ap (λ (r : RowsView). r.slots) c.self.view_is) (sym c.in-Some.ensures.value)))
    c.outlives.ensures.moves c.outlives.ensures.value _ (own_set c.self.inside.slots c.self.inside.places.entries c.args.self.now c.self.view_is c.self.invariant c.args.place c.in-Some.slot.now (sym c.in-Some.ensures.value) c.in-Some.slot.now.key (its_there c.self.inside.slots c.args.self.now c.args.place c.in-Some.slot.now (ap (λ (r : RowsView). r.slots) c.self.view_is) (sym c.in-Some.ensures.value)) c.outlives.new.self) (c.outlives.ensures.left.0 c.if-outlives.true))

pub returns-then-outlives-clause-own : goal.returns-then-outlives-clause-own
returns-then-outlives-clause-own c = forget_own c.args.txid c.in-Some.slot.now.key c.args.older.now c.outlives.new.older (rows_in c.args.self.now) c.in-Some.slot.now.kept c.outlives.new.self c.requires (own_found c.self.inside.slots c.self.inside.places.entries c.args.self.now c.self.view_is c.self.invariant c.args.place c.in-Some.slot.now (sym c.in-Some.ensures.value) c.in-Some.slot.now.key (its_there c.self.inside.slots c.args.self.now c.args.place c.in-Some.slot.now (ap (λ (r : RowsView). r.slots) c.self.view_is) (sym c.in-Some.ensures.value)))
    c.outlives.ensures.moves c.outlives.ensures.value _ (own_set c.self.inside.slots c.self.inside.places.entries c.args.self.now c.self.view_is c.self.invariant c.args.place c.in-Some.slot.now (sym c.in-Some.ensures.value) c.in-Some.slot.now.key (its_there c.self.inside.slots c.args.self.now c.args.place c.in-Some.slot.now (ap (λ (r : RowsView). r.slots) c.self.view_is) (sym c.in-Some.ensures.value)) c.outlives.new.self)

pub invariant_of-self-2 : goal.invariant_of-self-2
invariant_of-self-2 c = gone_placed c.self.inside.slots c.self.inside.places.entries c.args.self.now c.self.view_is c.self.invariant c.args.place c.in-Some.slot.now (sym c.in-Some.ensures.value) c.in-Some.slot.now.key (its_there c.self.inside.slots c.args.self.now c.args.place c.in-Some.slot.now (ap (λ (r : RowsView). r.slots) c.self.view_is) (sym c.in-Some.ensures.value)) c.outlives.new.self
    c.remove-slot.new.self c.remove.new.self.entries c.remove-slot.result c.remove-slot.ensures.value c.remove-slot.ensures.updates c.remove.ensures.entries c.remove.ensures.ordered c.remove.ensures.updates.0

pub returns-clause-entries : goal.returns-clause-entries
returns-clause-entries c = at_its_key c.args.self.now c.args.place c.in-Some.slot.now.key (its_there c.self.inside.slots c.args.self.now c.args.place c.in-Some.slot.now (ap (λ (r : RowsView). r.slots) c.self.view_is) (sym c.in-Some.ensures.value)) _
    (forget_last c.args.txid c.in-Some.slot.now.key c.args.older.now c.outlives.new.older (rows_in c.args.self.now) c.in-Some.slot.now.kept c.outlives.new.self c.requires (own_found c.self.inside.slots c.self.inside.places.entries c.args.self.now c.self.view_is c.self.invariant c.args.place c.in-Some.slot.now (sym c.in-Some.ensures.value) c.in-Some.slot.now.key (its_there c.self.inside.slots c.args.self.now c.args.place c.in-Some.slot.now (ap (λ (r : RowsView). r.slots) c.self.view_is) (sym c.in-Some.ensures.value)))
    c.outlives.ensures.moves c.outlives.ensures.value (set_value (is_at (key_cmp c.in-Some.slot.now.key)) (rows_in c.args.self.now) c.outlives.new.self) refl _ (own_gone c.self.inside.slots c.self.inside.places.entries c.args.self.now c.self.view_is c.self.invariant c.args.place c.in-Some.slot.now (sym c.in-Some.ensures.value) c.in-Some.slot.now.key (its_there c.self.inside.slots c.args.self.now c.args.place c.in-Some.slot.now (ap (λ (r : RowsView). r.slots) c.self.view_is) (sym c.in-Some.ensures.value)) c.outlives.new.self
    c.remove-slot.new.self c.remove.new.self.entries c.remove-slot.result c.remove-slot.ensures.value c.remove-slot.ensures.updates c.remove.ensures.entries)
    (none_if (versions_of c.outlives.new.older c.outlives.new.self) c.outlives.result c.outlives.ensures.left c.if-outlives.false))

pub returns-clause-own : goal.returns-clause-own
returns-clause-own c = forget_last_own c.args.txid c.in-Some.slot.now.key c.args.older.now c.outlives.new.older (rows_in c.args.self.now) c.in-Some.slot.now.kept c.outlives.new.self c.requires (own_found c.self.inside.slots c.self.inside.places.entries c.args.self.now c.self.view_is c.self.invariant c.args.place c.in-Some.slot.now (sym c.in-Some.ensures.value) c.in-Some.slot.now.key (its_there c.self.inside.slots c.args.self.now c.args.place c.in-Some.slot.now (ap (λ (r : RowsView). r.slots) c.self.view_is) (sym c.in-Some.ensures.value)))
    c.outlives.ensures.moves c.outlives.ensures.value (set_value (is_at (key_cmp c.in-Some.slot.now.key)) (rows_in c.args.self.now) c.outlives.new.self) refl _ (own_gone c.self.inside.slots c.self.inside.places.entries c.args.self.now c.self.view_is c.self.invariant c.args.place c.in-Some.slot.now (sym c.in-Some.ensures.value) c.in-Some.slot.now.key (its_there c.self.inside.slots c.args.self.now c.args.place c.in-Some.slot.now (ap (λ (r : RowsView). r.slots) c.self.view_is) (sym c.in-Some.ensures.value)) c.outlives.new.self
    c.remove-slot.new.self c.remove.new.self.entries c.remove-slot.result c.remove-slot.ensures.value c.remove-slot.ensures.updates c.remove.ensures.entries)

pub remove-slot-requires : goal.remove-slot-requires
remove-slot-requires c =
    let was = c.in-Some.slot.now in
    subst IsSome (sym (written_there c.self.inside.slots c.args.place was (record { key = was.key; kept = c.outlives.new.self }) (sym c.in-Some.ensures.value) refl)) refl
