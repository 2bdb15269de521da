use Rattle.std.proofs.Common.{ℕ, ◌<◌, ◌≤◌, ◌∙◌, map, length, ap, sym, subst, refl, arith}
use Rattle.pgq_tables.specs.Tables.{marked_dead}
use Rattle.pgq_tables.specs.Kept.{AreInOrder, txid_at, places_of}
use Rattle.pgq_tables.proofs.Places.{in_order}
use Rattle.pgq_tables.proofs.Marking.{marking_begun, marked_all, read_within, marked_read, marked_to, places-marked}
use Rattle.pgq_tables.proofs.table.Table.mark_dead.Goals as goal

pub count_below-first-requires : goal.count_below-first-requires
count_below-first-requires c = subst AreInOrder (sym c.deref.ensures.value) (in_order c.self.inside.events.items c.self.inside.places.items c.self.invariant)

pub loop-index-init : goal.loop-index-init
loop-index-init c = (
  marking_begun c.args.txid c.self.inside.events.items c.self.inside.places.items c.count_below-first.result c.self.invariant (λ j less. subst (λ ps. txid_at ps j < c.args.txid) c.deref.ensures.value (c.count_below-first.ensures.below j less)),
  refl,
)

pub invariant_of-self : goal.invariant_of-self
invariant_of-self c =
    let marked = marked_all c.args.txid c.self.inside.events.items c.loop-index.self-inside.events.items c.self.inside.places.items c.loop-index.index c.self.invariant c.loop-index.invariant.0 (omega (arith, c.loop-index-test.false, c.len-index-end.ensures)) in
    ap (λ v. v.items) c.loop-index.invariant.1 ∙ c.self.invariant ∙ sym (places-marked c.args.txid c.self.inside.events.items) ∙ ap places_of (sym marked)

pub invariant_of-self-then-placed-txid : goal.invariant_of-self-then-placed-txid
invariant_of-self-then-placed-txid c =
    let marked = marked_to c.args.txid c.self.inside.events.items c.loop-index.self-inside.events.items c.self.inside.places.items c.loop-index.self-inside.places.items c.loop-index.index c.index-placed.result.now
    c.self.invariant c.loop-index.invariant.0 (omega (arith, c.loop-index-test.true, c.len-index-end.ensures)) (ap (λ v. v.items) c.loop-index.invariant.1) c.index-placed.ensures
    c.count_below-first.result c.loop-index.auto.index (subst (λ ps. (j : ℕ) → c.count_below-first.result ≤ j → j < length ps → c.args.txid ≤ txid_at ps j) c.deref.ensures.value c.count_below-first.ensures.above) c.if-placed-txid.true in
    ap (λ v. v.items) c.loop-index.invariant.1 ∙ c.self.invariant ∙ sym (places-marked c.args.txid c.self.inside.events.items) ∙ ap places_of (sym marked)

pub index_mut-requires : goal.index_mut-requires
index_mut-requires c =
    let within = read_within c.args.txid c.self.inside.events.items c.loop-index.self-inside.events.items c.self.inside.places.items c.loop-index.self-inside.places.items c.loop-index.index c.index-placed.result.now
    c.self.invariant c.loop-index.invariant.0 (omega (arith, c.loop-index-test.true, c.len-index-end.ensures)) (ap (λ v. v.items) c.loop-index.invariant.1) c.index-placed.ensures in
    omega arith

pub loop-index-preserved : goal.loop-index-preserved
loop-index-preserved c = (
  marked_read c.args.txid c.self.inside.events.items c.loop-index.self-inside.events.items c.self.inside.places.items c.loop-index.self-inside.places.items c.loop-index.index c.index-placed.result.now
      c.self.invariant c.loop-index.invariant.0 (omega (arith, c.loop-index-test.true, c.len-index-end.ensures)) (ap (λ v. v.items) c.loop-index.invariant.1) c.index-placed.ensures
      c.index_mut.result.now c.mark_dead.new.self c.index_mut.ensures.value c.mark_dead.ensures c.if-placed-txid.false,
  c.loop-index.invariant.1,
)

pub returns-after-loop-index : goal.returns-after-loop-index
returns-after-loop-index c =
    let marked = marked_all c.args.txid c.self.inside.events.items c.loop-index.self-inside.events.items c.self.inside.places.items c.loop-index.index c.self.invariant c.loop-index.invariant.0 (omega (arith, c.loop-index-test.false, c.len-index-end.ensures)) in
    marked ∙ ap (map (marked_dead c.args.txid)) c.self.view_is

pub returns-then-placed-txid : goal.returns-then-placed-txid
returns-then-placed-txid c =
    let marked = marked_to c.args.txid c.self.inside.events.items c.loop-index.self-inside.events.items c.self.inside.places.items c.loop-index.self-inside.places.items c.loop-index.index c.index-placed.result.now
    c.self.invariant c.loop-index.invariant.0 (omega (arith, c.loop-index-test.true, c.len-index-end.ensures)) (ap (λ v. v.items) c.loop-index.invariant.1) c.index-placed.ensures
    c.count_below-first.result c.loop-index.auto.index (subst (λ ps. (j : ℕ) → c.count_below-first.result ≤ j → j < length ps → c.args.txid ≤ txid_at ps j) c.deref.ensures.value c.count_below-first.ensures.above) c.if-placed-txid.true in
    marked ∙ ap (map (marked_dead c.args.txid)) c.self.view_is
