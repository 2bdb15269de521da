use Rattle.std.proofs.Common.{◌<◌, ◌∙◌, ◌++◌, ◌∷◌, [], ap, sym, cond, length, arith, vec_capacity}
use Rattle.sky_keys.specs.Waits.{released}
use Rattle.sky_locks.specs.Locks.{LocksView, holder}
use Rattle.sky_locks.proofs.ListedLemmas.{room_for, listed_noted, listed_waiting}
use Rattle.sky_locks.proofs.LockLemmas.{holders, released_step, released_is}
use Rattle.sky_locks.proofs.locks.Locks.release.Goals as goal

pub note-requires : goal.note-requires
note-requires c waited =
    let room : length c.loop-key.self-inside.freed.items < vec_capacity c.loop-key.self-inside.freed =
    room_for c.loop-key.self-inside.table.held c.pop.new.self.held c.loop-key.self-inside.table.waiting c.loop-key.self-inside.freed.items (vec_capacity c.loop-key.self-inside.freed) c.args.who c.in-Some.key
    c.loop-key.invariant.0 c.in-Some.ensures.freed (sym c.in-Some.ensures.waited ∙ waited) in
    omega (arith, c.loop-key.self-inside.freed.ok)

pub loop-key-preserved : goal.loop-key-preserved
loop-key-preserved c = (
  listed_waiting c.pop.new.self.held c.loop-key.self-inside.table.waiting c.pop.new.self.waiting c.note.new.freed.items (vec_capacity c.note.new.freed)
      (listed_noted c.loop-key.self-inside.table.held c.pop.new.self.held c.loop-key.self-inside.table.waiting c.loop-key.self-inside.freed.items c.note.new.freed.items (vec_capacity c.loop-key.self-inside.freed) (vec_capacity c.note.new.freed) c.args.who c.in-Some.key
      c.loop-key.invariant.0 c.in-Some.ensures.freed
      (c.note.ensures.items ∙ ap (λ b. cond b (c.loop-key.self-inside.freed.items ++ c.in-Some.key ∷ []) c.loop-key.self-inside.freed.items) c.in-Some.ensures.waited) c.note.ensures.capacity)
      c.pop.ensures.waiting,
  released_step c.loop-key.self-inside.table.held c.pop.new.self.held c.args.who c.in-Some.key c.in-Some.ensures.freed ∙ c.loop-key.invariant.1,
  c.pop.ensures.waiting ∙ c.loop-key.invariant.2,
)

pub loop-key-smaller : goal.loop-key-smaller
loop-key-smaller c = c.in-Some.ensures.fewer

pub returns-clause-held : goal.returns-clause-held
returns-clause-held c =
    ap holders c.in_default.ensures.same
    ∙ released_is c.loop-key.self-inside.table.held c.args.who c.in_default.ensures.none
    ∙ c.loop-key.invariant.1
    ∙ ap (λ (l : LocksView). released c.args.who (holder l)) c.self.view_is
