use Rattle.std.proofs.Common.{◌∙◌, sym, subst, arith}
use Rattle.pgq_tables.specs.Kept.{AreInOrder}
use Rattle.pgq_tables.proofs.Places.{in_order, taken_off}
use Rattle.pgq_tables.proofs.table.Table.take_back.Goals as goal

pub count_up_to-at-requires : goal.count_up_to-at-requires
count_up_to-at-requires c = subst AreInOrder (sym c.deref.ensures.value) (in_order c.self.inside.events.items c.self.inside.places.items c.self.invariant)

pub overflow_sub-at : goal.overflow_sub-at
overflow_sub-at c =
    let taken = taken_off c.self.inside.events.items c.pop.new.self.items c.self.inside.places.items c.deref.result.now c.in-Some.stored c.txid.result c.count_up_to-at.result
    c.self.invariant c.in-Some.ensures.items c.deref.ensures.value c.txid.ensures (c.count_up_to-at.ensures.within, c.count_up_to-at.ensures.below, c.count_up_to-at.ensures.above) in
    taken.counted

pub remove-requires : goal.remove-requires
remove-requires c =
    let taken = taken_off c.self.inside.events.items c.pop.new.self.items c.self.inside.places.items c.deref.result.now c.in-Some.stored c.txid.result c.count_up_to-at.result
    c.self.invariant c.in-Some.ensures.items c.deref.ensures.value c.txid.ensures (c.count_up_to-at.ensures.within, c.count_up_to-at.ensures.below, c.count_up_to-at.ensures.above) in
    omega (arith, taken.counted, c.count_up_to-at.ensures.within, c.deref.ensures.len)

pub invariant_of-self : goal.invariant_of-self
invariant_of-self c =
    let taken = taken_off c.self.inside.events.items c.pop.new.self.items c.self.inside.places.items c.deref.result.now c.in-Some.stored c.txid.result c.count_up_to-at.result
    c.self.invariant c.in-Some.ensures.items c.deref.ensures.value c.txid.ensures (c.count_up_to-at.ensures.within, c.count_up_to-at.ensures.below, c.count_up_to-at.ensures.above) in
    c.remove.ensures.items ∙ taken.left_is

pub invariant_of-self-in-Some-2 : goal.invariant_of-self-in-Some-2
invariant_of-self-in-Some-2 c =
    let taken = taken_off c.self.inside.events.items c.pop.new.self.items c.self.inside.places.items c.deref.result.now c.in-Some.stored c.txid.result c.count_up_to-at.result
    c.self.invariant c.in-Some.ensures.items c.deref.ensures.value c.txid.ensures (c.count_up_to-at.ensures.within, c.count_up_to-at.ensures.below, c.count_up_to-at.ensures.above) in
    c.remove.ensures.items ∙ taken.left_is
