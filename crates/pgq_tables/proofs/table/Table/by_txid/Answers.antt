use Rattle.std.proofs.Common.{◌≡◌, ◌∙◌, Some, ap, sym, length, get_or, arith}
use Rattle.std.specs.Prelude.{slice_get}
use Rattle.std.proofs.lemmas.List.{get_or_read}
use Rattle.std.proofs.lemmas.Option.{slice_get_within, get_or_from_slice_get}
use Rattle.pgq_tables.specs.Kept.{no_place}
use Rattle.pgq_tables.specs.Order.{by_txid}
use Rattle.pgq_tables.specs.declared.index.Placed.{Placed}
use Rattle.pgq_tables.proofs.Places.{entry_at, same_length}
use Rattle.pgq_tables.proofs.table.Table.by_txid.Goals as goal

pub index-requires : goal.index-requires
index-requires c =
    let long = same_length c.self.inside.events.items c.self.inside.places.items c.self.invariant in
    let same = ap length c.self.view_is in
    omega (arith, c.requires)

pub index-requires-2 : goal.index-requires-2
index-requires-2 c =
    let long = same_length c.self.inside.events.items c.self.inside.places.items c.self.invariant in
    let same = ap length c.self.view_is in
    let one = entry_at c.self.inside.events.items c.self.inside.places.items c.args.index c.self.invariant (omega (arith, c.requires)) in
    let here : c.index.result.now ≡ get_or c.self.inside.places.items c.args.index no_place = get_or_read c.self.inside.places.items c.args.index c.index.result.now (omega (arith, c.requires)) c.index.ensures no_place in
    let place = ap (λ (p : Placed). p.place) (here ∙ one.placed_is) in
    let within = slice_get_within c.self.inside.events.items one.entry.0 one.entry.1 one.stands in
    omega arith

pub returns : goal.returns
returns c =
    let long = same_length c.self.inside.events.items c.self.inside.places.items c.self.invariant in
    let same = ap length c.self.view_is in
    let one = entry_at c.self.inside.events.items c.self.inside.places.items c.args.index c.self.invariant (omega (arith, c.requires)) in
    let here : c.index.result.now ≡ get_or c.self.inside.places.items c.args.index no_place = get_or_read c.self.inside.places.items c.args.index c.index.result.now (omega (arith, c.requires)) c.index.ensures no_place in
    let place : c.index.result.now.place ≡ one.entry.0 = ap (λ (p : Placed). p.place) (here ∙ one.placed_is) in
    let stored : c.index-2.result.now ≡ one.entry.1 = c.index-2.ensures ∙ ap (λ n. get_or c.self.inside.events.items n c.index-2.result.now) place ∙ get_or_from_slice_get c.self.inside.events.items one.entry.0 one.entry.1 c.index-2.result.now one.stands in
    ap (λ es. slice_get (by_txid es) c.args.index) (sym c.self.view_is) ∙ one.found ∙ (λ i. Some (sym place i, sym stored i))
