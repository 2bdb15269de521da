use Rattle.std.proofs.Common.{◌≡◌, ◌∙◌, ap, sym, subst, true, cond, None}
use Rattle.std.specs.Prelude.{◌==◌, ◌&&◌, IfNone}
use Rattle.std.specs.Ordering.{eq_by_cmp}
use Rattle.sky_lock_table.specs.Order.{lock_cmp}
use Rattle.sky_lock_table.specs.Sessions.{has_key}
use Rattle.sky_lock_table.specs.Slots.{holder_at, queue_at, Holds}
use Rattle.sky_lock_table.specs.Table.{TableView}
use Rattle.sky_lock_table.proofs.HolderLemmas.{index-held}
use Rattle.sky_lock_table.proofs.TableLemmas.{kept-queues, seen-holder, held-holds}
use Rattle.sky_lock_table.proofs.lock_table.LockTable.hold_at.Goals as goal

pub invariant_of-self-in-None : goal.invariant_of-self-in-None
invariant_of-self-in-None c =
    let none : holder_at c.self.inside.slots c.args.key.now ≡ None = sym (sym c.in-None.is ∙ c.in_ok-holder.ensures.before) in
    let holds = subst (λ before. IfNone before (Holds c.self.inside.slots c.args.who c.args.key.now c.hold_at.new.self)) c.in-None.is c.in_ok-holder.ensures.free in
    record {
      kept = kept-queues c.self.inside.entries c.self.inside.arrivals.numbers.items (queue_at c.self.inside.slots) (queue_at c.hold_at.new.self) c.self.invariant.kept c.hold_at.ensures.queues;
      holds = index-held (has_key c.self.inside.listed) (has_key c.add.new.self) (holder_at c.self.inside.slots) (holder_at c.hold_at.new.self) c.args.who c.args.key.now
          (λ s q. c.add.ensures s q
          ∙ ap (cond (s == c.args.who && eq_by_cmp lock_cmp c.in_ok-listed.listed q) true) (c.reserve.ensures.same s q)
          ∙ ap (λ k. cond (s == c.args.who && eq_by_cmp lock_cmp k q) true (has_key c.self.inside.listed s q)) c.in_ok-listed.ensures.copy)
          holds none c.self.invariant.holds;
    }

pub returns-in-Some-clause-before : goal.returns-in-Some-clause-before
returns-in-Some-clause-before c =
    sym c.in-Some.is ∙ c.in_ok-holder.ensures.before ∙ seen-holder c.self.inside.slots c.args.self.now.held c.args.key.now (ap (λ (v : TableView). v.held) c.self.view_is)

pub returns-in-None-clause-before : goal.returns-in-None-clause-before
returns-in-None-clause-before c =
    sym c.in-None.is ∙ c.in_ok-holder.ensures.before ∙ seen-holder c.self.inside.slots c.args.self.now.held c.args.key.now (ap (λ (v : TableView). v.held) c.self.view_is)

pub returns-in-None-clause-free : goal.returns-in-None-clause-free
returns-in-None-clause-free c =
    held-holds c.self.inside.slots c.hold_at.new.self c.args.self.now.held c.args.who c.args.key.now (ap (λ (v : TableView). v.held) c.self.view_is)
    (subst (λ before. IfNone before (Holds c.self.inside.slots c.args.who c.args.key.now c.hold_at.new.self)) c.in-None.is c.in_ok-holder.ensures.free)
