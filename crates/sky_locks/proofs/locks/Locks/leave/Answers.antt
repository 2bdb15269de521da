use Rattle.std.proofs.Common.{◌∙◌, ap, sym, not, rules, vec_capacity}
use Rattle.std.specs.Prelude.{filter, option_map}
use Rattle.std.proofs.lemmas.Fn.{filter_same}
use Rattle.sky_lock_table.specs.Waiters.{entry}
use Rattle.sky_lock_table.proofs.Orders.{lock_eq-ties}
use Rattle.sky_lock_table.specs.contracts.lock_key.LockKeyPartialEq.TheImpl as equality
use Rattle.sky_locks.proofs.ListedLemmas.{listed_unchanged, listed_left, listed_dropped, listed_held}
use Rattle.sky_locks.proofs.locks.Locks.leave.Goals as goal

pub invariant_of-self : goal.invariant_of-self
invariant_of-self c =
    listed_held c.self.inside.table.held c.leave.new.self.held c.leave.new.self.waiting c.self.inside.freed.items (vec_capacity c.self.inside.freed)
    (listed_unchanged c.self.inside.table.held c.self.inside.table.waiting c.leave.new.self.waiting c.self.inside.freed.items (vec_capacity c.self.inside.freed) c.args.who c.self.invariant
    (sym c.leave.ensures.left ∙ ap (option_map (λ left. entry c.args.who left.0)) c.in_default.is) c.leave.ensures.others)
    c.leave.ensures.holders

pub invariant_of-self-then-not-is_waited : goal.invariant_of-self-then-not-is_waited
invariant_of-self-then-not-is_waited c =
    let kept = filter_same _ (λ f. not (equality.ghosts.eq f c.in-Some.key)) _ (λ x b f' t. search rules) _ _ c.retain.ensures.filtered in
    listed_held c.self.inside.table.held c.leave.new.self.held c.leave.new.self.waiting c.retain.new.self.items (vec_capacity c.retain.new.self)
    (listed_dropped c.self.inside.table.held c.self.inside.table.waiting c.leave.new.self.waiting c.self.inside.freed.items c.retain.new.self.items (vec_capacity c.self.inside.freed) (vec_capacity c.retain.new.self) c.args.who c.in-Some.key
    c.self.invariant c.leave.ensures.others c.in-Some.ensures.own
    (sym c.in-Some.ensures.waited ∙ c.if-not-is_waited.true)
    (kept ∙ (λ i. filter (λ f. not (lock_eq-ties f c.in-Some.key i)) c.self.inside.freed.items))
    c.retain.ensures.capacity)
    c.leave.ensures.holders

pub invariant_of-self-else-not-is_waited : goal.invariant_of-self-else-not-is_waited
invariant_of-self-else-not-is_waited c =
    listed_held c.self.inside.table.held c.leave.new.self.held c.leave.new.self.waiting c.self.inside.freed.items (vec_capacity c.self.inside.freed)
    (listed_left c.self.inside.table.held c.self.inside.table.waiting c.leave.new.self.waiting c.self.inside.freed.items (vec_capacity c.self.inside.freed) c.args.who c.in-Some.key c.self.invariant c.leave.ensures.others
    c.in-Some.ensures.own
    (sym c.in-Some.ensures.waited ∙ c.if-not-is_waited.false))
    c.leave.ensures.holders
