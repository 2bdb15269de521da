use Rattle.std.proofs.Common.{◌≡◌, ◌∙◌, ap, sym, subst, length, arith, ◌++◌, ◌∷◌, []}
use Rattle.std.specs.List.{insert}
use Rattle.pgq_tables.specs.Kept.{places_of, AreInOrder}
use Rattle.pgq_tables.proofs.Places.{in_order, Counts, pushed}
use Rattle.pgq_tables.proofs.table.Table.push_stored.Goals as goal

pub count_up_to-at-requires : goal.count_up_to-at-requires
count_up_to-at-requires c = subst AreInOrder (sym (c.deref.ensures.value ∙ c.in_ok-reserve-2.ensures.items)) (in_order c.self.inside.events.items c.self.inside.places.items c.self.invariant)

pub invariant_of-self-2 : goal.invariant_of-self-2
invariant_of-self-2 c =
    let places_are : c.reserve-2.new.self.items ≡ c.self.inside.places.items = c.in_ok-reserve-2.ensures.items in
    let events_are : c.reserve.new.self.items ≡ c.self.inside.events.items = c.in_ok-reserve.ensures.items in
    let place : c.len-place.result ≡ length c.self.inside.events.items = let same = ap length events_are in omega (arith, c.len-place.ensures, c.in_ok-reserve.ensures.len) in
    let txid : c.args.stored.event.ev_txid ≡ c.txid-txid.result = sym c.txid-txid.ensures in
    let counts : Counts c.txid-txid.result c.self.inside.places.items c.count_up_to-at.result =
    subst (λ ps. Counts c.txid-txid.result ps c.count_up_to-at.result) (c.deref.ensures.value ∙ places_are) (c.count_up_to-at.ensures.within, c.count_up_to-at.ensures.below, c.count_up_to-at.ensures.above) in
    let at_end = pushed c.self.inside.events.items c.self.inside.places.items c.args.stored c.count_up_to-at.result c.self.invariant (subst (λ t. Counts t c.self.inside.places.items c.count_up_to-at.result) (sym txid) counts) in
    let inserted : c.insert_reserved.new.places.items ≡ insert c.reserve-2.new.self.items c.count_up_to-at.result (record { txid = c.txid-txid.result; place = c.len-place.result }) = c.insert_reserved.ensures in
    let appended : c.push_reserved.new.self.items ≡ c.reserve.new.self.items ++ c.args.stored ∷ [] = c.push_reserved.ensures.items in
    inserted
    ∙ (λ i. insert (places_are i) c.count_up_to-at.result (record { txid = sym txid i; place = place i }))
    ∙ at_end
    ∙ ap (λ es. places_of (es ++ c.args.stored ∷ [])) (sym events_are)
    ∙ ap places_of (sym appended)
