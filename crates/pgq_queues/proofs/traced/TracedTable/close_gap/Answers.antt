use Rattle.std.proofs.Common.{rules, arith, ◌≡◌, ◌∙◌, ap, map, ◌==◌}
use Rattle.std.specs.Prelude.{not}
use Rattle.std.specs.Vec.{with_items}
use Rattle.std.proofs.lemmas.Fn.{filter_same}
use Rattle.std.proofs.lemmas.List.{with_items_is}
use Rattle.pgq_queues.specs.Views.{TracedTableView}
use Rattle.pgq_queues.specs.Traced.{place_after, places_without}
use Rattle.pgq_queues.proofs.Places.{map-step, map-whole}
use Rattle.pgq_queues.proofs.traced.TracedTable.close_gap.Goals as goal

pub loop-place-preserved : goal.loop-place-preserved
loop-place-preserved c =
    map-step (place_after c.args.gone) c.deref_mut-place-items.result.now c.loop-place.place-items c.loop-place.place-index 0 c.place_after.result (omega arith) c.loop-place.invariant c.place_after.ensures

pub returns : goal.returns
returns c =
    let filtered = filter_same _ (λ p. not (p == c.args.gone)) _ (λ p b f' called. search rules) _ _ c.retain.ensures.filtered in
    let places : (with_items c.retain.new.self c.loop-place.place-items).items ≡ places_without c.args.gone c.self.inside.places.items =
    with_items_is c.retain.new.self c.loop-place.place-items (c.loop-place.auto.place-items ∙ c.deref_mut-place-items.ensures.len)
    ∙ c.loop-place.invariant
    ∙ map-whole (place_after c.args.gone) c.deref_mut-place-items.result.now c.loop-place.place-index c.loop-place-test.false
    ∙ ap (map (place_after c.args.gone)) (c.deref_mut-place-items.ensures.value ∙ filtered) in
    (λ i. record { name = c.self.inside.name; columns = c.self.inside.schema; places = places i })
    ∙ ap (λ (t : TracedTableView). record { name = t.name; columns = t.columns; places = places_without c.args.gone t.places }) c.self.view_is
