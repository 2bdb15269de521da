use Rattle.std.proofs.Common.{◌<◌, ◌∙◌, ◌++◌, ◌∷◌, [], ap, sym, subst, true, cond, length, slice_set, arith}
use Rattle.std.specs.Ordering.{eq_by_cmp}
use Rattle.sky_lock_table.specs.Order.{lock_cmp}
use Rattle.sky_lock_table.specs.Sessions.{KeysBySession, keys_of, has_key, has_room, ChangesKey}
use Rattle.sky_lock_table.specs.Waiters.{is_among}
use Rattle.sky_lock_table.proofs.HeldLemmas.{AreOnce, keys-set, keys-read, all_once, keys_changed, pushed_is, pushed_once, room_within, room_there}
use Rattle.sky_lock_table.proofs.held_keys.HeldKeys.add.Goals as goal

pub index_mut-requires : goal.index_mut-requires
index_mut-requires c =
    let within : c.args.who < length c.self.inside.keys.items = room_within c.self.inside.keys.items c.args.who (ap (λ (ks : KeysBySession). has_room ks c.args.who) c.self.view_is ∙ c.requires.room) in
    omega (arith, c.self.inside.keys.ok)

pub push_reserved-requires : goal.push_reserved-requires
push_reserved-requires c =
    room_there c.self.inside.keys.items c.args.who c.index_mut.result.now (ap (λ (ks : KeysBySession). has_room ks c.args.who) c.self.view_is ∙ c.requires.room) c.index_mut.ensures.value

pub invariant_of-self : goal.invariant_of-self
invariant_of-self c =
    let within : c.args.who < length c.self.inside.keys.items = room_within c.self.inside.keys.items c.args.who (ap (λ (ks : KeysBySession). has_room ks c.args.who) c.self.view_is ∙ c.requires.room) in
    let its = keys-read c.self.inside.keys.items c.args.who c.index_mut.result.now within c.index_mut.ensures.value in
    all_once c.self.inside.keys.items (slice_set c.self.inside.keys.items c.args.who c.push_reserved.new.self) c.args.who c.push_reserved.new.self.items
    (keys-set c.self.inside.keys.items c.args.who c.push_reserved.new.self within)
    (subst AreOnce (sym (c.push_reserved.ensures.items ∙ ap (λ ks. ks ++ c.args.key ∷ []) (sym its)))
    (pushed_once (keys_of c.self.inside.keys.items c.args.who) c.args.key (c.self.invariant c.args.who) (ap (λ (ks : KeysBySession). has_key ks c.args.who c.args.key) c.self.view_is ∙ c.requires.new))) c.self.invariant

pub returns : goal.returns
returns c =
    let within : c.args.who < length c.self.inside.keys.items = room_within c.self.inside.keys.items c.args.who (ap (λ (ks : KeysBySession). has_room ks c.args.who) c.self.view_is ∙ c.requires.room) in
    let its = keys-read c.self.inside.keys.items c.args.who c.index_mut.result.now within c.index_mut.ensures.value in
    subst (λ (ks : KeysBySession). ChangesKey ks c.args.who c.args.key true (slice_set c.self.inside.keys.items c.args.who c.push_reserved.new.self)) c.self.view_is
    (keys_changed c.self.inside.keys.items (slice_set c.self.inside.keys.items c.args.who c.push_reserved.new.self) c.args.who c.push_reserved.new.self.items c.args.key true
    (keys-set c.self.inside.keys.items c.args.who c.push_reserved.new.self within)
    (λ q. ap (λ ks. is_among ks q) c.push_reserved.ensures.items
    ∙ pushed_is c.index_mut.result.now.items c.args.key q
    ∙ ap (λ ks. cond (eq_by_cmp lock_cmp c.args.key q) true (is_among ks q)) (sym its)))
