use Rattle.std.proofs.Common.{◌≡◌, ◌∙◌, ap, sym, subst, refl, not, rules, cond, false, Option, Some, None, is_some, vec_capacity}
use Rattle.std.specs.Prelude.{filter, IfNone, OnSome}
use Rattle.std.specs.Ordering.{eq_by_cmp}
use Rattle.std.proofs.lemmas.Fn.{filter_same}
use Rattle.sky_lock_table.specs.declared.lock_key.LockKey.{LockKey}
use Rattle.sky_lock_table.specs.Order.{lock_cmp}
use Rattle.sky_lock_table.specs.Holders.{holder_of}
use Rattle.sky_lock_table.proofs.Orders.{lock_eq-ties}
use Rattle.sky_lock_table.specs.contracts.lock_key.LockKeyPartialEq.TheImpl as equality
use Rattle.sky_locks.specs.Locks.{LocksView}
use Rattle.sky_locks.proofs.ListedLemmas.{listed_taken, listed_waiting}
use Rattle.sky_locks.proofs.LockLemmas.{holders, taken_again, held_itself}
use Rattle.sky_locks.proofs.locks.Locks.take_at.Goals as goal

none-is : {X : Type 0} (o : Option X) → is_some o ≡ false → o ≡ None
none-is None none = refl
none-is (Some x) none = absurd (cc none)

pub invariant_of-self-then-is_none : goal.invariant_of-self-then-is_none
invariant_of-self-then-is_none c =
    let kept = filter_same _ (λ f. not (equality.ghosts.eq f c.args.key.now)) _ (λ x b f' t. search rules) _ _ c.retain.ensures.filtered in
    let none = none-is c.in_ok-hold_at.field-0 (c.is_none.ensures ∙ ap not c.if-is_none.true) in
    let holds =
    subst (λ before. IfNone before ((q : LockKey) → holder_of c.hold_at.new.self.held q ≡ cond (eq_by_cmp lock_cmp c.args.key.now q) (Some c.args.who) (holder_of c.self.inside.table.held q)))
    none c.in_ok-hold_at.ensures.free in
    listed_waiting c.hold_at.new.self.held c.self.inside.table.waiting c.hold_at.new.self.waiting c.retain.new.self.items (vec_capacity c.retain.new.self)
    (listed_taken c.self.inside.table.held c.hold_at.new.self.held c.self.inside.table.waiting c.self.inside.freed.items c.retain.new.self.items (vec_capacity c.self.inside.freed) (vec_capacity c.retain.new.self) c.args.who c.args.key.now c.self.invariant
    holds
    (kept ∙ (λ i. filter (λ f. not (lock_eq-ties f c.args.key.now i)) c.self.inside.freed.items))
    c.retain.ensures.capacity) c.hold_at.ensures.waiting

pub returns-else-is_none-clause-ok : goal.returns-else-is_none-clause-ok
returns-else-is_none-clause-ok c =
    let before : c.in_ok-hold_at.field-0 ≡ holder_of c.args.self.now.held c.args.key.now = c.in_ok-hold_at.ensures.before ∙ ap (λ (l : LocksView). holder_of l.held c.args.key.now) c.self.view_is in
    let own : holder_of c.args.self.now.held c.args.key.now ≡ Some c.args.who =
    held_itself c.args.who (holder_of c.args.self.now.held c.args.key.now) c.requires.free (ap is_some (sym before) ∙ c.is_none.ensures ∙ ap not c.if-is_none.false) in
    let same : c.hold_at.new.self.held ≡ c.self.inside.table.held = subst (λ before. OnSome before (c.hold_at.new.self.held ≡ c.self.inside.table.held)) (before ∙ own) c.in_ok-hold_at.ensures.same in
    record {
      free = c.requires.free;
      held = ap holders (same ∙ ap (λ (l : LocksView). l.held) c.self.view_is) ∙ taken_again c.args.self.now.held c.args.who c.args.key.now own;
      waiting = c.hold_at.ensures.waiting ∙ ap (λ (l : LocksView). l.waiting) c.self.view_is;
    }
