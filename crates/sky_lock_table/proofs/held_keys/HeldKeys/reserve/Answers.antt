use Rattle.std.proofs.Common.{◌<◌, ◌∙◌, ap, sym, subst, length, slice_set, arith}
use Rattle.std.specs.Prelude.{vec_len, vec_capacity}
use Rattle.sky_lock_table.specs.Sessions.{KeysBySession, has_key}
use Rattle.sky_lock_table.proofs.Basics.{on_ok_always}
use Rattle.sky_lock_table.proofs.HeldLemmas.{AreOnce, keys-set, keys-read, all_once, keys_kept, room_made}
use Rattle.sky_lock_table.proofs.held_keys.HeldKeys.reserve.Goals as goal

pub invariant_of-self : goal.invariant_of-self
invariant_of-self c =
    let within : c.args.who < length c.self.inside.keys.items = subst (λ (ks : KeysBySession). c.args.who < length ks) (sym c.self.view_is) c.in_ok-make_room.ensures.room in
    let its = keys-read c.self.inside.keys.items c.args.who c.index_mut.result.now within c.index_mut.ensures.value in
    let sets = keys-set c.self.inside.keys.items c.args.who c.reserve.new.self within in
    all_once c.self.inside.keys.items (slice_set c.self.inside.keys.items c.args.who c.reserve.new.self) c.args.who c.reserve.new.self.items sets
    (subst AreOnce (its ∙ sym c.reserve.ensures.items) (c.self.invariant c.args.who)) c.self.invariant

pub returns-in_err-reserve-clause-same : goal.returns-in_err-reserve-clause-same
returns-in_err-reserve-clause-same c = λ s q.
    let within : c.args.who < length c.self.inside.keys.items = subst (λ (ks : KeysBySession). c.args.who < length ks) (sym c.self.view_is) c.in_ok-make_room.ensures.room in
    let its = keys-read c.self.inside.keys.items c.args.who c.index_mut.result.now within c.index_mut.ensures.value in
    let sets = keys-set c.self.inside.keys.items c.args.who c.reserve.new.self within in
    keys_kept c.self.inside.keys.items (slice_set c.self.inside.keys.items c.args.who c.reserve.new.self) c.args.who c.reserve.new.self.items sets (c.reserve.ensures.items ∙ sym its) s q
    ∙ ap (λ (ks : KeysBySession). has_key ks s q) c.self.view_is
    ∙ c.in_ok-make_room.ensures.same s q

pub invariant_of-self-2 : goal.invariant_of-self-2
invariant_of-self-2 c =
    let within : c.args.who < length c.self.inside.keys.items = subst (λ (ks : KeysBySession). c.args.who < length ks) (sym c.self.view_is) c.in_ok-make_room.ensures.room in
    let its = keys-read c.self.inside.keys.items c.args.who c.index_mut.result.now within c.index_mut.ensures.value in
    let sets = keys-set c.self.inside.keys.items c.args.who c.reserve.new.self within in
    all_once c.self.inside.keys.items (slice_set c.self.inside.keys.items c.args.who c.reserve.new.self) c.args.who c.reserve.new.self.items sets
    (subst AreOnce (its ∙ sym c.reserve.ensures.items) (c.self.invariant c.args.who)) c.self.invariant

pub returns-clause-room : goal.returns-clause-room
returns-clause-room c =
    let within : c.args.who < length c.self.inside.keys.items = subst (λ (ks : KeysBySession). c.args.who < length ks) (sym c.self.view_is) c.in_ok-make_room.ensures.room in
    let room : vec_len c.reserve.new.self < vec_capacity c.reserve.new.self = omega (arith, c.in_ok-reserve.ensures.ok) in
    on_ok_always c.copy.result (room_made c.self.inside.keys.items c.args.who c.reserve.new.self within room)

pub returns-clause-same : goal.returns-clause-same
returns-clause-same c = λ s q.
    let within : c.args.who < length c.self.inside.keys.items = subst (λ (ks : KeysBySession). c.args.who < length ks) (sym c.self.view_is) c.in_ok-make_room.ensures.room in
    let its = keys-read c.self.inside.keys.items c.args.who c.index_mut.result.now within c.index_mut.ensures.value in
    let sets = keys-set c.self.inside.keys.items c.args.who c.reserve.new.self within in
    keys_kept c.self.inside.keys.items (slice_set c.self.inside.keys.items c.args.who c.reserve.new.self) c.args.who c.reserve.new.self.items sets (c.reserve.ensures.items ∙ sym its) s q
    ∙ ap (λ (ks : KeysBySession). has_key ks s q) c.self.view_is
    ∙ c.in_ok-make_room.ensures.same s q
