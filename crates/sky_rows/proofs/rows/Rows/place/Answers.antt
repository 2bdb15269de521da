use Rattle.std.proofs.Common.{◌≡◌, ◌∙◌, ap, sym, subst, Some}
use Rattle.std.specs.Prelude.{IfSome}
use Rattle.std.specs.List.Sorted.{IsStrictlySortedBy}
use Rattle.std.specs.Map.{keys_of}
use Rattle.sky_val.specs.Order.{key_cmp}
use Rattle.sky_rows.specs.Rows.{RowsView, place_at, key_at, rows_in}
use Rattle.sky_rows.proofs.PlaceLemmas.{its_key, if_there, rows_order}
use Rattle.sky_rows.proofs.rows.Rows.place.Goals as goal

pub returns-then-is_at-clause-there : goal.returns-then-is_at-clause-there
returns-then-is_at-clause-there c =
    ap (λ (r : RowsView). key_at r.slots c.in-Some.hint.now) (sym c.self.view_is)
    ∙ its_key c.self.inside.slots c.self.inside.places.entries c.args.key.now c.in-Some.hint.now c.self.invariant
    (ap (λ (r : RowsView). place_at r.places c.args.key.now) c.self.view_is ∙ c.is_at.ensures c.if-is_at.true)

pub returns-then-is_at-clause-order : goal.returns-then-is_at-clause-order
returns-then-is_at-clause-order c =
    subst (λ (r : RowsView). IsStrictlySortedBy key_cmp (keys_of (rows_in r))) c.self.view_is (rows_order c.self.inside.slots c.self.inside.places.entries c.self.invariant)

pub returns-clause-there : goal.returns-clause-there
returns-clause-there c =
    subst (λ (r : RowsView). IfSome c.search.result (λ place. key_at r.slots place ≡ Some c.args.key.now)) c.self.view_is
    (if_there c.self.inside.slots c.self.inside.places.entries c.args.key.now c.search.result c.self.invariant (c.search.ensures ∙ ap (λ (r : RowsView). place_at r.places c.args.key.now) (sym c.self.view_is)))

pub returns-clause-order : goal.returns-clause-order
returns-clause-order c =
    subst (λ (r : RowsView). IsStrictlySortedBy key_cmp (keys_of (rows_in r))) c.self.view_is (rows_order c.self.inside.slots c.self.inside.places.entries c.self.invariant)
