use Rattle.std.proofs.Common.{◌≡◌, ◌∙◌, ap, sym, subst}
use Rattle.sky_lock_table.specs.Holders.{holder_of, is_holder}
use Rattle.sky_lock_table.specs.Sessions.{has_key}
use Rattle.sky_lock_table.specs.Slots.{holder_at, queue_at, IsFree}
use Rattle.sky_lock_table.specs.Waiters.{is_waited}
use Rattle.sky_lock_table.specs.Table.{TableView}
use Rattle.sky_lock_table.specs.declared.lock_key.LockKey.{LockKey}
use Rattle.sky_lock_table.proofs.HeldLemmas.{if_none_always}
use Rattle.sky_lock_table.proofs.HolderLemmas.{index-freed, holder_from_index, other_from_index, lacking}
use Rattle.sky_lock_table.proofs.TableLemmas.{kept-queues, waited-is, seen-holder, held-frees}
use Rattle.sky_lock_table.proofs.lock_table.LockTable.give_back.Goals as goal

pub invariant_of-self : goal.invariant_of-self
invariant_of-self c = record {
  kept = c.self.invariant.kept;
  holds = λ s q.
      c.in_err-key.ensures.others s q
      ∙ lacking c.args.who c.args.key.now (has_key c.self.inside.listed) c.in_err-key.ensures.none s q
      ∙ c.self.invariant.holds s q;
}

pub returns-in_err-key-clause-other : goal.returns-in_err-key-clause-other
returns-in_err-key-clause-other c = if_none_always c.from_residual.result
    (other_from_index c.args.who (holder_of c.args.self.now.held c.args.key.now)
    (ap (is_holder c.args.who) (sym (seen-holder c.self.inside.slots c.args.self.now.held c.args.key.now (ap (λ (v : TableView). v.held) c.self.view_is)))
    ∙ sym (c.self.invariant.holds c.args.who c.args.key.now) ∙ c.in_err-key.ensures.none))

pub invariant_of-self-2 : goal.invariant_of-self-2
invariant_of-self-2 c =
    let key : c.in_ok-key.key ≡ c.args.key.now = c.in_ok-key.ensures.some.0 in
    let was = holder_from_index c.args.who (holder_at c.self.inside.slots c.args.key.now) (sym (c.self.invariant.holds c.args.who c.args.key.now) ∙ c.in_ok-key.ensures.some.1) in
    record {
      kept = kept-queues c.self.inside.entries c.self.inside.arrivals.numbers.items (queue_at c.self.inside.slots) (queue_at c.free-is_waited.new.self) c.self.invariant.kept c.free-is_waited.ensures.queues;
      holds = index-freed (has_key c.self.inside.listed) (has_key c.take.new.self) (holder_at c.self.inside.slots) (holder_at c.free-is_waited.new.self) c.args.who c.args.key.now
          c.in_ok-key.ensures.others (subst (λ (k : LockKey). IsFree c.self.inside.slots k c.free-is_waited.new.self) key c.free-is_waited.ensures.holders) was c.self.invariant.holds;
    }

pub returns-clause-freed : goal.returns-clause-freed
returns-clause-freed c =
    let key : c.in_ok-key.key ≡ c.args.key.now = c.in_ok-key.ensures.some.0 in
    let was = holder_from_index c.args.who (holder_at c.self.inside.slots c.args.key.now) (sym (c.self.invariant.holds c.args.who c.args.key.now) ∙ c.in_ok-key.ensures.some.1) in (
      key,
      held-frees c.self.inside.slots c.free-is_waited.new.self c.args.self.now.held c.args.who c.args.key.now (ap (λ (v : TableView). v.held) c.self.view_is) was
          (subst (λ (k : LockKey). IsFree c.self.inside.slots k c.free-is_waited.new.self) key c.free-is_waited.ensures.holders),
    )

pub returns-clause-waited : goal.returns-clause-waited
returns-clause-waited c =
    c.free-is_waited.ensures.waited
    ∙ waited-is c.self.inside.entries c.self.inside.arrivals.numbers.items (queue_at c.self.inside.slots) c.in_ok-key.key c.self.invariant.kept
    ∙ ap (λ (v : TableView). is_waited v.waiting c.in_ok-key.key) c.self.view_is
