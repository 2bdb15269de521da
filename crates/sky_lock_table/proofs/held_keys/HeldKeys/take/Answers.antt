use Rattle.std.proofs.Common.{◌≡◌, ◌<◌, ◌≤◌, ◌∙◌, ap, sym, subst, false, cond, Some, length, slice_set, arith}
use Rattle.std.specs.Prelude.{slice_get}
use Rattle.std.specs.Ordering.{eq_by_cmp}
use Rattle.std.proofs.lemmas.Option.{get_or_from_slice_get}
use Rattle.sky_lock_table.specs.Order.{lock_cmp}
use Rattle.sky_lock_table.specs.Sessions.{KeysBySession, has_key, ChangesKey}
use Rattle.sky_lock_table.specs.Waiters.{is_among}
use Rattle.sky_lock_table.proofs.HeldLemmas.{AreOnce, keys-set, keys-read, keys-past, all_once, keys_changed, keys_lacking, among_at, removed_once, removed_is, if_none_always}
use Rattle.sky_lock_table.proofs.held_keys.HeldKeys.take.Goals as goal

pub returns-then-who-len-clause-none : goal.returns-then-who-len-clause-none
returns-then-who-len-clause-none c =
    let past : length c.self.inside.keys.items ≤ c.args.who = omega (arith, c.self.inside.keys.ok, c.len.ensures) in
    ap (λ (ks : KeysBySession). has_key ks c.args.who c.args.key.now) (sym c.self.view_is)
    ∙ ap (λ ks. is_among ks c.args.key.now) (keys-past c.self.inside.keys.items c.args.who past)

pub returns-then-who-len-clause-others : goal.returns-then-who-len-clause-others
returns-then-who-len-clause-others c =
    let past : length c.self.inside.keys.items ≤ c.args.who = omega (arith, c.self.inside.keys.ok, c.len.ensures) in
    subst (λ (ks : KeysBySession). ChangesKey ks c.args.who c.args.key.now false ks) c.self.view_is
    (keys_lacking c.self.inside.keys.items c.args.who c.args.key.now (ap (λ ks. is_among ks c.args.key.now) (keys-past c.self.inside.keys.items c.args.who past)))

pub returns-in_err-place-clause-none : goal.returns-in_err-place-clause-none
returns-in_err-place-clause-none c =
    let within : c.args.who < length c.self.inside.keys.items = omega (arith, c.self.inside.keys.ok, c.len.ensures) in
    if_none_always c.from_residual.result
    (ap (λ (ks : KeysBySession). has_key ks c.args.who c.args.key.now) (sym c.self.view_is)
    ∙ ap (λ ks. is_among ks c.args.key.now) (keys-read c.self.inside.keys.items c.args.who c.index.result.now within c.index.ensures ∙ sym c.deref.ensures.value)
    ∙ c.in_err-place.ensures.none)

pub returns-in_err-place-clause-others : goal.returns-in_err-place-clause-others
returns-in_err-place-clause-others c =
    let within : c.args.who < length c.self.inside.keys.items = omega (arith, c.self.inside.keys.ok, c.len.ensures) in
    subst (λ (ks : KeysBySession). ChangesKey ks c.args.who c.args.key.now false ks) c.self.view_is
    (keys_lacking c.self.inside.keys.items c.args.who c.args.key.now
    (ap (λ ks. is_among ks c.args.key.now) (keys-read c.self.inside.keys.items c.args.who c.index.result.now within c.index.ensures ∙ sym c.deref.ensures.value)
    ∙ c.in_err-place.ensures.none))

pub invariant_of-self : goal.invariant_of-self
invariant_of-self c =
    let within : c.args.who < length c.self.inside.keys.items = omega (arith, c.self.inside.keys.ok, c.len.ensures) in
    let its = keys-read c.self.inside.keys.items c.args.who c.index_mut.result.now within c.index_mut.ensures.value in
    all_once c.self.inside.keys.items (slice_set c.self.inside.keys.items c.args.who c.remove.new.self) c.args.who c.remove.new.self.items (keys-set c.self.inside.keys.items c.args.who c.remove.new.self within)
    (subst AreOnce (sym c.remove.ensures.items) (removed_once c.index_mut.result.now.items c.in_ok-place.place (subst AreOnce its (c.self.invariant c.args.who))))
    c.self.invariant

pub returns-clause-some : goal.returns-clause-some
returns-clause-some c =
    let within : c.args.who < length c.self.inside.keys.items = omega (arith, c.self.inside.keys.ok, c.len.ensures) in
    let its = keys-read c.self.inside.keys.items c.args.who c.index_mut.result.now within c.index_mut.ensures.value in
    let read = keys-read c.self.inside.keys.items c.args.who c.index.result.now within c.index.ensures in
    let here : slice_get c.index_mut.result.now.items c.in_ok-place.place ≡ Some c.args.key.now =
    ap (λ ks. slice_get ks c.in_ok-place.place) (sym its ∙ read ∙ sym c.deref.ensures.value) ∙ c.in_ok-place.ensures.some.1 in (
      c.remove.ensures.value ∙ get_or_from_slice_get c.index_mut.result.now.items c.in_ok-place.place c.args.key.now c.remove.result here,
      ap (λ (ks : KeysBySession). has_key ks c.args.who c.args.key.now) (sym c.self.view_is)
          ∙ ap (λ ks. is_among ks c.args.key.now) its
          ∙ among_at c.index_mut.result.now.items c.in_ok-place.place c.args.key.now here,
    )

pub returns-clause-others : goal.returns-clause-others
returns-clause-others c =
    let within : c.args.who < length c.self.inside.keys.items = omega (arith, c.self.inside.keys.ok, c.len.ensures) in
    let its = keys-read c.self.inside.keys.items c.args.who c.index_mut.result.now within c.index_mut.ensures.value in
    let read = keys-read c.self.inside.keys.items c.args.who c.index.result.now within c.index.ensures in
    let here : slice_get c.index_mut.result.now.items c.in_ok-place.place ≡ Some c.args.key.now =
    ap (λ ks. slice_get ks c.in_ok-place.place) (sym its ∙ read ∙ sym c.deref.ensures.value) ∙ c.in_ok-place.ensures.some.1 in
    subst (λ (ks : KeysBySession). ChangesKey ks c.args.who c.args.key.now false (slice_set c.self.inside.keys.items c.args.who c.remove.new.self)) c.self.view_is
    (keys_changed c.self.inside.keys.items (slice_set c.self.inside.keys.items c.args.who c.remove.new.self) c.args.who c.remove.new.self.items c.args.key.now false
    (keys-set c.self.inside.keys.items c.args.who c.remove.new.self within)
    (λ q. ap (λ ks. is_among ks q) c.remove.ensures.items
    ∙ removed_is c.index_mut.result.now.items c.in_ok-place.place c.args.key.now q here (subst AreOnce its (c.self.invariant c.args.who))
    ∙ ap (λ ks. cond (eq_by_cmp lock_cmp c.args.key.now q) false (is_among ks q)) (sym its)))
