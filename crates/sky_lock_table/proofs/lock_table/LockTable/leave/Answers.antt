use Rattle.std.proofs.Common.{◌≡◌, ◌∙◌, ap, sym, subst, true, None, slice_set}
use Rattle.std.specs.Prelude.{◌==◌}
use Rattle.std.specs.List.{AllByRecursion}
use Rattle.std.proofs.lemmas.List.Elements.{All-from_recursion}
use Rattle.sky_keys.specs.Waits.{entry_of, without}
use Rattle.sky_lock_table.specs.Sessions.{arrival_of}
use Rattle.sky_lock_table.specs.Waiters.{waiting_in, key_of, is_waited}
use Rattle.sky_lock_table.proofs.EntryLemmas.{entry-none, entry-one, without-none, without-one, own-one}
use Rattle.sky_lock_table.proofs.IndexLemmas.{queues-once, none-told, one-told, not_gone, kept-less}
use Rattle.sky_lock_table.specs.Slots.{queue_at}
use Rattle.sky_lock_table.specs.Table.{TableView}
use Rattle.sky_lock_table.specs.Holders.{is_holder}
use Rattle.sky_lock_table.proofs.TableLemmas.{held-again, waited-is}
use Rattle.sky_lock_table.proofs.lock_table.LockTable.leave.Goals as goal

pub returns-in_err-arrival-clause-left : goal.returns-in_err-arrival-clause-left
returns-in_err-arrival-clause-left c = rw c.from_residual.ensures (
    sym (entry-none c.self.inside.entries c.args.who (none-told c.self.inside.entries (arrival_of c.self.inside.arrivals.numbers.items) c.args.who c.self.invariant.kept.sessions (sym c.in_err-arrival.ensures.value)))
    ∙ ap (entry_of c.args.who) (ap (λ (v : TableView). v.waiting) c.self.view_is))

pub returns-in_err-arrival-clause-others : goal.returns-in_err-arrival-clause-others
returns-in_err-arrival-clause-others c =
    sym (without-none c.self.inside.entries c.args.who (none-told c.self.inside.entries (arrival_of c.self.inside.arrivals.numbers.items) c.args.who c.self.invariant.kept.sessions (sym c.in_err-arrival.ensures.value)))
    ∙ ap (without c.args.who) (ap (λ (v : TableView). v.waiting) c.self.view_is)

pub returns-in_err-waiter-clause-left : goal.returns-in_err-waiter-clause-left
returns-in_err-waiter-clause-left c =
    let one = one-told c.self.inside.entries (arrival_of c.self.inside.arrivals.numbers.items) c.args.who c.in_ok-arrival.arrival c.self.invariant.kept.sessions (sym c.in_ok-arrival.ensures.value) in
    absurd (not_gone c.self.inside.entries c.args.who c.in_ok-arrival.arrival one (sym c.in_err-waiter.ensures.value))

pub returns-in_err-waiter-clause-others : goal.returns-in_err-waiter-clause-others
returns-in_err-waiter-clause-others c =
    let one = one-told c.self.inside.entries (arrival_of c.self.inside.arrivals.numbers.items) c.args.who c.in_ok-arrival.arrival c.self.invariant.kept.sessions (sym c.in_ok-arrival.ensures.value) in
    absurd (not_gone c.self.inside.entries c.args.who c.in_ok-arrival.arrival one (sym c.in_err-waiter.ensures.value))

pub invariant_of-self-in_err-waiter : goal.invariant_of-self-in_err-waiter
invariant_of-self-in_err-waiter c =
    let one = one-told c.self.inside.entries (arrival_of c.self.inside.arrivals.numbers.items) c.args.who c.in_ok-arrival.arrival c.self.invariant.kept.sessions (sym c.in_ok-arrival.ensures.value) in
    absurd (not_gone c.self.inside.entries c.args.who c.in_ok-arrival.arrival one (sym c.in_err-waiter.ensures.value))

pub invariant_of-self-2 : goal.invariant_of-self-2
invariant_of-self-2 c = rw c.take-2.ensures.others (
    record {
      kept = kept-less c.self.inside.entries c.self.inside.arrivals.numbers.items c.take.new.self.numbers.items (queue_at c.self.inside.slots) (queue_at c.leave-is_waited.new.self) c.args.who c.in_ok-arrival.arrival c.in_ok-waiter.waiter c.self.invariant.kept
          (sym c.in_ok-arrival.ensures.value) (sym c.in_ok-waiter.ensures.value) c.take.ensures.updates c.leave-is_waited.ensures.queues;
      holds = λ s q. c.self.invariant.holds s q ∙ ap (is_holder s) (sym (c.leave-is_waited.ensures.holders q));
    })

pub returns-clause-left : goal.returns-clause-left
returns-clause-left c =
    let one = one-told c.self.inside.entries (arrival_of c.self.inside.arrivals.numbers.items) c.args.who c.in_ok-arrival.arrival c.self.invariant.kept.sessions (sym c.in_ok-arrival.ensures.value) in
    sym (entry-one c.self.inside.entries c.args.who c.in_ok-arrival.arrival c.in_ok-waiter.waiter one (sym c.in_ok-waiter.ensures.value))
    ∙ ap (entry_of c.args.who) (ap (λ (v : TableView). v.waiting) c.self.view_is)

pub returns-clause-own : goal.returns-clause-own
returns-clause-own c =
    let one = one-told c.self.inside.entries (arrival_of c.self.inside.arrivals.numbers.items) c.args.who c.in_ok-arrival.arrival c.self.invariant.kept.sessions (sym c.in_ok-arrival.ensures.value) in
    All-from_recursion (λ w. (w.who == c.args.who) ≡ true → key_of w ≡ c.in_ok-waiter.waiter.key) c.args.self.now.waiting
    (subst (AllByRecursion (λ w. (w.who == c.args.who) ≡ true → key_of w ≡ c.in_ok-waiter.waiter.key)) (ap (λ (v : TableView). v.waiting) c.self.view_is)
    (own-one c.self.inside.entries c.args.who c.in_ok-arrival.arrival c.in_ok-waiter.waiter one (sym c.in_ok-waiter.ensures.value)))

pub returns-clause-others : goal.returns-clause-others
returns-clause-others c =
    let one = one-told c.self.inside.entries (arrival_of c.self.inside.arrivals.numbers.items) c.args.who c.in_ok-arrival.arrival c.self.invariant.kept.sessions (sym c.in_ok-arrival.ensures.value) in
    ap waiting_in c.take-2.ensures.others
    ∙ without-one c.self.inside.entries c.args.who c.in_ok-arrival.arrival one
    ∙ ap (without c.args.who) (ap (λ (v : TableView). v.waiting) c.self.view_is)

pub returns-clause-waited : goal.returns-clause-waited
returns-clause-waited c =
    c.leave-is_waited.ensures.waited
    ∙ waited-is (slice_set c.self.inside.entries c.in_ok-arrival.arrival None) c.take.new.self.numbers.items (queue_at c.leave-is_waited.new.self) c.in_ok-waiter.waiter.key
    (kept-less c.self.inside.entries c.self.inside.arrivals.numbers.items c.take.new.self.numbers.items (queue_at c.self.inside.slots) (queue_at c.leave-is_waited.new.self) c.args.who c.in_ok-arrival.arrival c.in_ok-waiter.waiter c.self.invariant.kept
    (sym c.in_ok-arrival.ensures.value) (sym c.in_ok-waiter.ensures.value) c.take.ensures.updates c.leave-is_waited.ensures.queues)
    ∙ ap (λ es. is_waited (waiting_in es) c.in_ok-waiter.waiter.key) (sym c.take-2.ensures.others)

pub returns-clause-holders : goal.returns-clause-holders
returns-clause-holders c = held-again c.self.inside.slots c.leave-is_waited.new.self c.args.self.now.held (ap (λ (v : TableView). v.held) c.self.view_is) c.leave-is_waited.ensures.holders

pub leave-is_waited-requires : goal.leave-is_waited-requires
leave-is_waited-requires c = queues-once c.self.inside.entries c.self.inside.arrivals.numbers.items (queue_at c.self.inside.slots) c.in_ok-waiter.waiter.key c.self.invariant.kept
