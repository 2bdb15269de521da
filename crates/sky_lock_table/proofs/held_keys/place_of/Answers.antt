use Rattle.std.proofs.Common.{◌≡◌, ◌<◌, ◌∙◌, ◌++◌, ◌∷◌, [], ap, sym, refl, true, false, take, Some, length, arith}
use Rattle.std.specs.Prelude.{◌||◌}
use Rattle.std.specs.Ordering.{eq_by_cmp}
use Rattle.std.proofs.lemmas.List.{take_more}
use Rattle.std.proofs.lemmas.Option.{slice_get_read}
use Rattle.sky_lock_table.specs.Order.{lock_cmp}
use Rattle.sky_lock_table.specs.Waiters.{is_among}
use Rattle.sky_lock_table.proofs.Orders.{lock_eq-ties, lock_ties-is}
use Rattle.sky_lock_table.proofs.HeldLemmas.{among-push}
use Rattle.sky_lock_table.proofs.held_keys.place_of.Goals as goal

pub returns-then-eq-clause-some : goal.returns-then-eq-clause-some
returns-then-eq-clause-some c =
    let within : c.loop-place.place < length c.args.keys.now = omega arith in
    let tie : eq_by_cmp lock_cmp c.index-keys-place.result c.args.key.now ≡ true = sym (lock_eq-ties c.index-keys-place.result c.args.key.now) ∙ sym c.if-eq.ensures in
    (within, slice_get_read c.args.keys.now (length c.args.keys.now) c.loop-place.place c.index-keys-place.result refl within c.index-keys-place.is ∙ ap Some (lock_ties-is c.index-keys-place.result c.args.key.now tie))

pub loop-place-preserved : goal.loop-place-preserved
loop-place-preserved c =
    let within : c.loop-place.place < length c.args.keys.now = omega arith in
    let apart : eq_by_cmp lock_cmp c.index-keys-place.result c.args.key.now ≡ false = sym (lock_eq-ties c.index-keys-place.result c.args.key.now) ∙ sym c.if-eq.ensures in
    ap (λ ks. is_among ks c.args.key.now) (take_more c.args.keys.now c.loop-place.place c.index-keys-place.result within ∙ ap (λ k. take c.loop-place.place c.args.keys.now ++ k ∷ []) (sym c.index-keys-place.is))
    ∙ among-push (take c.loop-place.place c.args.keys.now) c.index-keys-place.result c.args.key.now
    ∙ ap (λ b. b || eq_by_cmp lock_cmp c.index-keys-place.result c.args.key.now) c.loop-place.invariant
    ∙ apart
