use Rattle.std.proofs.Common.{◌∙◌, ap, sym}
use Rattle.sky_lock_table.specs.Holders.{holder_of, is_holder}
use Rattle.sky_lock_table.specs.Sessions.{has_key}
use Rattle.sky_lock_table.specs.Slots.{holder_at, queue_at}
use Rattle.sky_lock_table.specs.Waiters.{is_waited}
use Rattle.sky_lock_table.specs.Table.{TableView}
use Rattle.sky_lock_table.proofs.HeldLemmas.{if_none_always}
use Rattle.sky_lock_table.proofs.HolderLemmas.{index-freed, holder_from_index, other_from_index}
use Rattle.sky_lock_table.proofs.TableLemmas.{kept-queues, waited-is, seen-holder, held-frees}
use Rattle.sky_lock_table.proofs.lock_table.LockTable.pop.Goals as goal

pub returns-in_err-key-clause-none : goal.returns-in_err-key-clause-none
returns-in_err-key-clause-none c = if_none_always c.from_residual.result (λ q.
    other_from_index c.args.who (holder_of c.args.self.now.held q)
    (ap (is_holder c.args.who) (sym (seen-holder c.self.inside.slots c.args.self.now.held q (ap (λ (v : TableView). v.held) c.self.view_is)))
    ∙ sym (c.self.invariant.holds c.args.who q) ∙ c.in_err-key.ensures.none q))

pub invariant_of-self-2 : goal.invariant_of-self-2
invariant_of-self-2 c =
    let was = holder_from_index c.args.who (holder_at c.self.inside.slots c.in_ok-key.key) (sym (c.self.invariant.holds c.args.who c.in_ok-key.key) ∙ c.in_ok-key.ensures.some) in
    record {
      kept = kept-queues c.self.inside.entries c.self.inside.arrivals.numbers.items (queue_at c.self.inside.slots) (queue_at c.free-is_waited.new.self) c.self.invariant.kept c.free-is_waited.ensures.queues;
      holds = index-freed (has_key c.self.inside.listed) (has_key c.pop.new.self) (holder_at c.self.inside.slots) (holder_at c.free-is_waited.new.self) c.args.who c.in_ok-key.key
          c.in_ok-key.ensures.others c.free-is_waited.ensures.holders was c.self.invariant.holds;
    }

pub returns-clause-freed : goal.returns-clause-freed
returns-clause-freed c =
    let was = holder_from_index c.args.who (holder_at c.self.inside.slots c.in_ok-key.key) (sym (c.self.invariant.holds c.args.who c.in_ok-key.key) ∙ c.in_ok-key.ensures.some) in
    held-frees c.self.inside.slots c.free-is_waited.new.self c.args.self.now.held c.args.who c.in_ok-key.key (ap (λ (v : TableView). v.held) c.self.view_is) was c.free-is_waited.ensures.holders

pub returns-clause-waited : goal.returns-clause-waited
returns-clause-waited c =
    c.free-is_waited.ensures.waited
    ∙ waited-is c.self.inside.entries c.self.inside.arrivals.numbers.items (queue_at c.self.inside.slots) c.in_ok-key.key c.self.invariant.kept
    ∙ ap (λ (v : TableView). is_waited v.waiting c.in_ok-key.key) c.self.view_is
