use Rattle.std.proofs.Common.{◌≡◌, ◌<◌, ◌≤◌, ◌∙◌, ◌++◌, ◌∷◌, [], ap, sym, refl, false, take, get_or, Some, length, arith}
use Rattle.std.specs.Prelude.{◌==◌, ◌||◌, slice_get}
use Rattle.std.specs.List.{list_any, remove}
use Rattle.std.proofs.lemmas.Bool.{ne_eqb}
use Rattle.std.proofs.lemmas.List.{take_more, take_all}
use Rattle.std.proofs.lemmas.List.Folds.{list_any-append}
use Rattle.std.proofs.lemmas.Option.{slice_get_read}
use Rattle.sky_lock_table.proofs.Basics.{unlinked, not_there}
use Rattle.sky_lock_table.proofs.slots.unlink.Goals as goal

pub returns-then-index-who : goal.returns-then-index-who
returns-then-index-who c =
    let within : c.loop-place.place < length c.args.queue.now.items = omega (arith, c.args.queue.now.ok, c.len-place-end.ensures) in
    let here : slice_get c.args.queue.now.items c.loop-place.place ≡ Some c.args.who =
    slice_get_read c.args.queue.now.items (length c.args.queue.now.items) c.loop-place.place c.index.result.now refl within
    (c.index.ensures ∙ ap (λ xs. get_or xs c.loop-place.place c.index.result.now) c.loop-place.invariant.1)
    ∙ ap Some c.if-index-who.true in
    c.remove.ensures.items
    ∙ ap (λ xs. remove xs c.loop-place.place) c.loop-place.invariant.1
    ∙ unlinked c.args.queue.now.items c.loop-place.place c.args.who here c.requires

pub loop-place-preserved : goal.loop-place-preserved
loop-place-preserved c =
    let within : c.loop-place.place < length c.args.queue.now.items = omega (arith, c.args.queue.now.ok, c.len-place-end.ensures) in
    let at : c.index.result.now ≡ get_or c.args.queue.now.items c.loop-place.place c.index.result.now =
    c.index.ensures ∙ ap (λ xs. get_or xs c.loop-place.place c.index.result.now) c.loop-place.invariant.1 in
    let other : (c.index.result.now == c.args.who) ≡ false = ne_eqb c.index.result.now c.args.who c.if-index-who.false in (
      ap (list_any (λ s. s == c.args.who)) (take_more c.args.queue.now.items c.loop-place.place c.index.result.now within ∙ ap (λ k. take c.loop-place.place c.args.queue.now.items ++ k ∷ []) (sym at))
          ∙ list_any-append (λ s. s == c.args.who) (take c.loop-place.place c.args.queue.now.items) (c.index.result.now ∷ [])
          ∙ ap (λ b. b || list_any (λ s. s == c.args.who) (c.index.result.now ∷ [])) c.loop-place.invariant.0
          ∙ ap (λ b. b || false) other,
      c.loop-place.invariant.1,
    )

pub returns : goal.returns
returns c =
    let past : length c.args.queue.now.items ≤ c.loop-place.place = omega (arith, c.args.queue.now.ok, c.len-place-end.ensures) in
    c.loop-place.invariant.1
    ∙ not_there c.args.queue.now.items c.args.who (ap (list_any (λ s. s == c.args.who)) (sym (take_all c.loop-place.place c.args.queue.now.items past)) ∙ c.loop-place.invariant.0)
