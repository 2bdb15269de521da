use Rattle.std.proofs.Common.{◌<◌, ◌∙◌, ◌++◌, ◌∷◌, [], ap, sym, subst, cond, length, arith, vec_capacity}
use Rattle.sky_keys.specs.Waits.{given_back}
use Rattle.sky_lock_table.specs.declared.lock_key.LockKey.{LockKey}
use Rattle.sky_lock_table.specs.Holders.{Frees}
use Rattle.sky_locks.specs.Locks.{LocksView, holder}
use Rattle.sky_locks.proofs.ListedLemmas.{room_for, listed_noted, listed_waiting}
use Rattle.sky_locks.proofs.LockLemmas.{given_back_is, not_held_is}
use Rattle.sky_locks.proofs.locks.Locks.give_back.Goals as goal

pub note-requires : goal.note-requires
note-requires c waited =
    let room : length c.self.inside.freed.items < vec_capacity c.self.inside.freed =
    room_for c.self.inside.table.held c.give_back.new.self.held c.self.inside.table.waiting c.self.inside.freed.items (vec_capacity c.self.inside.freed) c.args.who c.in-Some.key
    c.self.invariant (subst (λ (k : LockKey). Frees c.self.inside.table.held c.args.who k c.give_back.new.self.held) (sym c.in-Some.ensures.freed.0) c.in-Some.ensures.freed.1)
    (sym c.in-Some.ensures.waited ∙ waited) in
    omega (arith, c.self.inside.freed.ok)

pub invariant_of-self : goal.invariant_of-self
invariant_of-self c =
    listed_waiting c.give_back.new.self.held c.self.inside.table.waiting c.give_back.new.self.waiting c.note.new.freed.items (vec_capacity c.note.new.freed)
    (listed_noted c.self.inside.table.held c.give_back.new.self.held c.self.inside.table.waiting c.self.inside.freed.items c.note.new.freed.items (vec_capacity c.self.inside.freed) (vec_capacity c.note.new.freed) c.args.who c.in-Some.key
    c.self.invariant (subst (λ (k : LockKey). Frees c.self.inside.table.held c.args.who k c.give_back.new.self.held) (sym c.in-Some.ensures.freed.0) c.in-Some.ensures.freed.1)
    (c.note.ensures.items ∙ ap (λ b. cond b (c.self.inside.freed.items ++ c.in-Some.key ∷ []) c.self.inside.freed.items) c.in-Some.ensures.waited) c.note.ensures.capacity)
    c.give_back.ensures.waiting

pub returns-in-Some-clause-held : goal.returns-in-Some-clause-held
returns-in-Some-clause-held c =
    given_back_is c.self.inside.table.held c.give_back.new.self.held c.args.who c.args.key.now c.in-Some.ensures.freed.1
    ∙ ap (λ (l : LocksView). given_back c.args.who c.args.key.now.table c.args.key.now.key (holder l)) c.self.view_is

pub returns-in_default-clause-held : goal.returns-in_default-clause-held
returns-in_default-clause-held c =
    not_held_is c.self.inside.table.held c.give_back.new.self.held c.args.who c.args.key.now c.in_default.ensures.other c.in_default.ensures.same
    ∙ ap (λ (l : LocksView). given_back c.args.who c.args.key.now.table c.args.key.now.key (holder l)) c.self.view_is
