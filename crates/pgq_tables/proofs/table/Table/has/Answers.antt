use Rattle.std.proofs.Common.{◌≡◌, ℕ, ◌≤◌, ◌-◌, false, ◌∙◌, ap, sym, subst, get_or, arith}
use Rattle.std.specs.Prelude.{nat_lt, ◌==◌}
use Rattle.std.specs.List.{list_any}
use Rattle.std.proofs.lemmas.List.{get_or_read}
use Rattle.pgq_tables.specs.Kept.{no_place, AreInOrder}
use Rattle.pgq_tables.specs.declared.index.Placed.{Placed}
use Rattle.pgq_tables.proofs.Places.{in_order, Counts, has_none, has_last}
use Rattle.pgq_tables.proofs.table.Table.has.Goals as goal

pub count_up_to-count-requires : goal.count_up_to-count-requires
count_up_to-count-requires c = subst AreInOrder (sym c.deref.ensures.value) (in_order c.self.inside.events.items c.self.inside.places.items c.self.invariant)

pub returns-then-count-gt0 : goal.returns-then-count-gt0
returns-then-count-gt0 c =
    let counts : Counts c.args.txid c.self.inside.places.items c.count_up_to-count.result = subst (λ ps. Counts c.args.txid ps c.count_up_to-count.result) c.deref.ensures.value (c.count_up_to-count.ensures.within, c.count_up_to-count.ensures.below, c.count_up_to-count.ensures.above) in
    let within = counts.0 in
    let here : c.index.result.now ≡ get_or c.self.inside.places.items (c.count_up_to-count.result - 1) no_place =
    get_or_read c.self.inside.places.items (c.count_up_to-count.result - 1) c.index.result.now (omega (arith, c.if-count-gt0.true)) c.index.ensures no_place in
    ap (λ (p : Placed). p.txid == c.args.txid) here
    ∙ has_last c.self.inside.events.items c.self.inside.places.items c.self.invariant c.args.txid c.count_up_to-count.result c.if-count-gt0.true counts
    ∙ ap (list_any (λ s. s.event.ev_txid == c.args.txid)) c.self.view_is

pub returns-else-count-gt0 : goal.returns-else-count-gt0
returns-else-count-gt0 c =
    let counts : Counts c.args.txid c.self.inside.places.items c.count_up_to-count.result = subst (λ ps. Counts c.args.txid ps c.count_up_to-count.result) c.deref.ensures.value (c.count_up_to-count.ensures.within, c.count_up_to-count.ensures.below, c.count_up_to-count.ensures.above) in
    no_less c.count_up_to-count.result c.if-count-gt0.false
    ∙ sym (has_none c.self.inside.events.items c.self.inside.places.items c.self.invariant c.args.txid c.count_up_to-count.result c.if-count-gt0.false counts)
    ∙ ap (list_any (λ s. s.event.ev_txid == c.args.txid)) c.self.view_is
  where
    no_less : (n : ℕ) → n ≤ 0 → nat_lt 0 n ≡ false
    no_less n le = grind arith
