use Rattle.std.proofs.Common.{◌≡◌, ◌+◌, ◌<◌, ◌≤◌, ℕ, [], true, nat_lt, Some, length, filter, map, take, slice_get, slice_index_or, refl, ap, sym, subst, ◌∙◌, arith, if◌then◌else◌}
use Rattle.std.proofs.lemmas.Bool.{ltb-true, ltb-false}
use Rattle.pgq_tables.specs.Tables.{Stored}
use Rattle.pgq_tables.specs.Order.{by_txid}
use Rattle.pgq_tables.specs.Listed.{is_listed}
use Rattle.pgq_tables.specs.Views.{LookedView, one_lent}
use Rattle.pgq_batch.specs.Placed.{with_place}
use Rattle.pgq_batch.specs.Looked.{placed_events, count_below}
use Rattle.pgq_batch.proofs.Between.{below_len, Gathered, gathered, passed_over, listed_between, none_before, none_after}
use Rattle.pgq_batch.proofs.Lent.{placed-push}
use Rattle.pgq_batch.proofs.table.collect.Goals as goal

-- one was left, so it was lent
one-left : (l next : LookedView) → true ≡ nat_lt l.first l.end → next ≡ one_lent l → (l.first < l.end) × (next ≡ record l { first = l.first + 1 })
one-left l next left lent = (ltb-true l.first l.end (sym left), lent ∙ ap (λ b. if b then record l { first = l.first + 1 } else l) (sym left))

pub loop-place-init : goal.loop-place-init
loop-place-init c =
    let list = slice_index_or c.args.tables.now.tables.lists c.args.looked.table [] in
    let first : c.args.looked.first ≡ count_below c.args.prev.now.xmin list = ap LookedView.first c.requires.ends in
    let none = none_before c.args.prev.now c.args.cur.now (is_listed c.args.prev.now c.args.cur.now c.args.sub) list (listed_between c.args.prev.now c.args.cur.now c.args.sub c.requires.sound) in (
      ap placed_events c.in_ok-found.ensures.items ∙ ap (λ xs. map with_place xs) (sym none) ∙ ap (λ k. map with_place (filter (λ x. is_listed c.args.prev.now c.args.cur.now c.args.sub x.1) (take k (by_txid list)))) (sym first),
      refl,
      ap LookedView.end c.requires.ends,
    )

pub next_looked-requires-clause-table : goal.next_looked-requires-clause-table
next_looked-requires-clause-table c = subst (λ n. n < length c.args.tables.now.tables.lists) (sym c.loop-place.invariant.1) c.requires.table

pub next_looked-requires-clause-end : goal.next_looked-requires-clause-end
next_looked-requires-clause-end c =
    let most = below_len c.args.cur.now.xmax (slice_index_or c.args.tables.now.tables.lists c.args.looked.table []) in
    let end = c.loop-place.invariant.2 in
    let same = ap (λ n. length (slice_index_or c.args.tables.now.tables.lists n [])) c.loop-place.invariant.1 in
    omega arith

pub loop-place-smaller : goal.loop-place-smaller
loop-place-smaller c =
    let one = one-left c.loop-place.looked c.next_looked.new.looked c.in-Some.ensures.left c.next_looked.ensures.lent in
    let less = one.0 in
    let first = ap LookedView.first one.1 in
    let end = ap LookedView.end one.1 in
    omega arith

pub loop-place-smaller-in-Continue-branch-2 : goal.loop-place-smaller-in-Continue-branch-2
loop-place-smaller-in-Continue-branch-2 c =
    let one = one-left c.loop-place.looked c.next_looked.new.looked c.in-Some.ensures.left c.next_looked.ensures.lent in
    let less = one.0 in
    let first = ap LookedView.first one.1 in
    let end = ap LookedView.end one.1 in
    omega arith

pub loop-place-preserved : goal.loop-place-preserved
loop-place-preserved c =
    let list = slice_index_or c.args.tables.now.tables.lists c.args.looked.table [] in
    let q = is_listed c.args.prev.now c.args.cur.now c.args.sub in
    let inv = c.loop-place.invariant in
    let index : ℕ = c.loop-place.looked.first in
    let stored : Stored = c.in-Some.stored.now in
    let one = one-left c.loop-place.looked c.next_looked.new.looked c.in-Some.ensures.left c.next_looked.ensures.lent in
    let within : index < length list = let most = below_len c.args.cur.now.xmax list in let end = inv.2 in let less = one.0 in omega arith in
    let look : slice_get (by_txid list) index ≡ Some (c.in-Some.place, stored) = subst (λ n. slice_get (by_txid (slice_index_or c.args.tables.now.tables.lists n [])) index ≡ Some (c.in-Some.place, stored)) inv.1 c.in-Some.ensures.event in
    subst (λ (l : LookedView). Gathered with_place q list l.first [] (placed_events c.loop-place.found.items) × (l.table ≡ c.args.looked.table) × (l.end ≡ count_below c.args.cur.now.xmax list)) (sym one.1) (
      passed_over with_place q list index (c.in-Some.place, stored) [] _ within look (sym c.if-is_listed.ensures) inv.0,
      inv.1,
      inv.2,
    )

pub loop-place-preserved-in-Continue-branch-2 : goal.loop-place-preserved-in-Continue-branch-2
loop-place-preserved-in-Continue-branch-2 c =
    let list = slice_index_or c.args.tables.now.tables.lists c.args.looked.table [] in
    let q = is_listed c.args.prev.now c.args.cur.now c.args.sub in
    let inv = c.loop-place.invariant in
    let index : ℕ = c.loop-place.looked.first in
    let stored : Stored = c.in-Some.stored.now in
    let one = one-left c.loop-place.looked c.next_looked.new.looked c.in-Some.ensures.left c.next_looked.ensures.lent in
    let within : index < length list = let most = below_len c.args.cur.now.xmax list in let end = inv.2 in let less = one.0 in omega arith in
    let look : slice_get (by_txid list) index ≡ Some (c.in-Some.place, stored) = subst (λ n. slice_get (by_txid (slice_index_or c.args.tables.now.tables.lists n [])) index ≡ Some (c.in-Some.place, stored)) inv.1 c.in-Some.ensures.event in
    subst (λ (l : LookedView). Gathered with_place q list l.first [] (placed_events c.push.new.self.items) × (l.table ≡ c.args.looked.table) × (l.end ≡ count_below c.args.cur.now.xmax list)) (sym one.1) (
      gathered with_place q list index (c.in-Some.place, stored) (c.in-Some.place, stored.event) [] _ _ within look (sym c.if-is_listed.ensures) refl
          (ap placed_events c.in_ok-push.ensures.items ∙ placed-push c.loop-place.found.items (c.in-Some.place, c.in-Some.stored)) inv.0,
      inv.1,
      inv.2,
    )

pub returns : goal.returns
returns c =
    let list = slice_index_or c.args.tables.now.tables.lists c.args.looked.table [] in
    let q = is_listed c.args.prev.now c.args.cur.now c.args.sub in
    let inv = c.loop-place.invariant in
    let past : count_below c.args.cur.now.xmax list ≤ c.loop-place.looked.first = let end = inv.2 in let none = ltb-false c.loop-place.looked.first c.loop-place.looked.end (sym c.in_default.ensures.left) in omega arith in
    inv.0 ∙ ap (λ xs. map with_place xs) (none_after c.args.prev.now c.args.cur.now q c.loop-place.looked.first list (listed_between c.args.prev.now c.args.cur.now c.args.sub c.requires.sound) past)
