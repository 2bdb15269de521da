use Rattle.std.proofs.lemmas.Bool.{eq-eqb}
use Rattle.std.proofs.Common.{cond, refl, ◌≡◌, ◌<◌, ◌≤◌, ◌∙◌, ap, sym, subst, true, false, length, vec_len, slice_set, arith}
use Rattle.std.specs.Prelude.{IfNone, IfSome}
use Rattle.sky_lock_table.specs.declared.lock_key.LockKey.{LockKey}
use Rattle.sky_lock_table.specs.Sessions.{KeysBySession, keys_of, has_key, KeepsKeys, ChangesKey}
use Rattle.sky_lock_table.specs.Waiters.{is_among}
use Rattle.sky_lock_table.proofs.HeldLemmas.{keys-set, keys-read, keys-past, all_once, rest_once, none_popped, none_left, popped_same, popped_had, popped_others, popped_fewer}
use Rattle.sky_lock_table.proofs.held_keys.HeldKeys.pop.Goals as goal

pub returns-then-who-len-clause-none : goal.returns-then-who-len-clause-none
returns-then-who-len-clause-none c = λ q.
    let past : length c.self.inside.keys.items ≤ c.args.who = omega (arith, c.self.inside.keys.ok, c.len.ensures) in
    ap (λ (ks : KeysBySession). is_among (keys_of ks c.args.who) q) (sym c.self.view_is)
    ∙ ap (λ ks. is_among ks q) (keys-past c.self.inside.keys.items c.args.who past)

pub invariant_of-self : goal.invariant_of-self
invariant_of-self c =
    let within : c.args.who < length c.self.inside.keys.items = omega (arith, c.self.inside.keys.ok, c.len.ensures) in
    let its = keys-read c.self.inside.keys.items c.args.who c.index_mut.result.now within c.index_mut.ensures.value ∙ c.pop.ensures.items in
    all_once c.self.inside.keys.items (_) c.args.who c.pop.new.self.items (keys-set c.self.inside.keys.items c.args.who c.pop.new.self within)
    (rest_once (keys_of c.self.inside.keys.items c.args.who) c.pop.new.self.items c.pop.result its (c.self.invariant c.args.who))
    c.self.invariant

pub returns-clause-none : goal.returns-clause-none
returns-clause-none c =
    let within : c.args.who < length c.self.inside.keys.items = omega (arith, c.self.inside.keys.ok, c.len.ensures) in
    let its = keys-read c.self.inside.keys.items c.args.who c.index_mut.result.now within c.index_mut.ensures.value ∙ c.pop.ensures.items in
    let left : length c.pop.new.self.items ≡ vec_len c.pop.new.self = omega (arith, c.pop.new.self.ok) in
    subst (λ (ks : KeysBySession). IfNone c.pop.result ((q : LockKey) → has_key ks c.args.who q ≡ false)) c.self.view_is
    (none_popped (keys_of c.self.inside.keys.items c.args.who) c.pop.new.self.items c.pop.result its (none_left c.pop.result c.pop.new.self.items _ _ _ c.pop.ensures.cases left))

pub returns-clause-same : goal.returns-clause-same
returns-clause-same c =
    let within : c.args.who < length c.self.inside.keys.items = omega (arith, c.self.inside.keys.ok, c.len.ensures) in
    let its = keys-read c.self.inside.keys.items c.args.who c.index_mut.result.now within c.index_mut.ensures.value ∙ c.pop.ensures.items in
    subst (λ (ks : KeysBySession). IfNone c.pop.result (KeepsKeys ks (slice_set c.self.inside.keys.items c.args.who c.pop.new.self))) c.self.view_is
    (popped_same c.self.inside.keys.items _ c.args.who c.pop.new.self.items c.pop.result (keys-set c.self.inside.keys.items c.args.who c.pop.new.self within) its)

pub returns-clause-some : goal.returns-clause-some
returns-clause-some c =
    let within : c.args.who < length c.self.inside.keys.items = omega (arith, c.self.inside.keys.ok, c.len.ensures) in
    let its = keys-read c.self.inside.keys.items c.args.who c.index_mut.result.now within c.index_mut.ensures.value ∙ c.pop.ensures.items in
    subst (λ (ks : KeysBySession). IfSome c.pop.result (λ key. has_key ks c.args.who key ≡ true)) c.self.view_is
    (popped_had (keys_of c.self.inside.keys.items c.args.who) c.pop.new.self.items c.pop.result its)

pub returns-clause-others : goal.returns-clause-others
returns-clause-others c =
    let within : c.args.who < length c.self.inside.keys.items = omega (arith, c.self.inside.keys.ok, c.len.ensures) in
    let its = keys-read c.self.inside.keys.items c.args.who c.index_mut.result.now within c.index_mut.ensures.value ∙ c.pop.ensures.items in
    subst (λ (ks : KeysBySession). IfSome c.pop.result (λ key. ChangesKey ks c.args.who key false (slice_set c.self.inside.keys.items c.args.who c.pop.new.self))) c.self.view_is
    (popped_others c.self.inside.keys.items _ c.args.who c.pop.new.self.items c.pop.result (keys-set c.self.inside.keys.items c.args.who c.pop.new.self within) its (c.self.invariant c.args.who))

pub returns-clause-fewer : goal.returns-clause-fewer
returns-clause-fewer c =
    let within : c.args.who < length c.self.inside.keys.items = omega (arith, c.self.inside.keys.ok, c.len.ensures) in
    let its = keys-read c.self.inside.keys.items c.args.who c.index_mut.result.now within c.index_mut.ensures.value ∙ c.pop.ensures.items in
    popped_fewer (keys_of c.args.self.now c.args.who) (keys_of (slice_set c.self.inside.keys.items c.args.who c.pop.new.self) c.args.who) c.pop.new.self.items c.pop.result
    (ap (λ (ks : KeysBySession). keys_of ks c.args.who) (sym c.self.view_is) ∙ its)
    (keys-set c.self.inside.keys.items c.args.who c.pop.new.self within c.args.who
    ∙ ap (λ b. cond b c.pop.new.self.items (keys_of c.self.inside.keys.items c.args.who)) (eq-eqb c.args.who c.args.who refl))
