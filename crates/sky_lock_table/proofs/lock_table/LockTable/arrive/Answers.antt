use Rattle.std.proofs.Common.{◌≡◌, ◌∙◌, ◌++◌, ◌∷◌, [], ap, sym, cond, None, Some, length, slice_set}
use Rattle.std.specs.Ordering.{nat_cmp, eq_by_cmp}
use Rattle.sky_keys.specs.Waits.{is_waiting}
use Rattle.sky_lock_table.specs.declared.entries.Waiter.{Waiter}
use Rattle.sky_lock_table.specs.Sessions.{arrival_of}
use Rattle.sky_lock_table.specs.Waiters.{entry, waiting_in}
use Rattle.sky_lock_table.proofs.Basics.{set-last}
use Rattle.sky_lock_table.proofs.EntryLemmas.{none-idle, waiting-append}
use Rattle.sky_lock_table.proofs.IndexLemmas.{kept-more, kept-again, waiting-again}
use Rattle.sky_lock_table.specs.Slots.{queue_at}
use Rattle.sky_lock_table.specs.Table.{TableView}
use Rattle.sky_lock_table.specs.Holders.{is_holder}
use Rattle.sky_lock_table.proofs.TableLemmas.{held-again}
use Rattle.sky_lock_table.proofs.lock_table.LockTable.arrive.Goals as goal

pub invariant_of-self-in_default : goal.invariant_of-self-in_default
invariant_of-self-in_default c =
    let waiter : Waiter = record { who = c.args.who; key = c.in_ok-copy.field-0 } in
    let taken : c.take.new.self ≡ c.self.inside.entries ++ None ∷ [] =
    c.take.ensures.others
    ∙ ap (λ es. slice_set es c.in_ok-arrival.arrival None) c.in_ok-arrival.ensures.ok
    ∙ ap (λ n. slice_set (c.self.inside.entries ++ Some waiter ∷ []) n None) c.in_ok-arrival.ensures.arrival
    ∙ set-last c.self.inside.entries (Some waiter) None in
    record {
      kept = kept-again c.self.inside.entries c.take.new.self c.self.inside.arrivals.numbers.items c.make_room.new.self.numbers.items (queue_at c.self.inside.slots) (queue_at c.join.new.self)
          c.self.invariant.kept taken c.in_ok-make_room.ensures.same c.in_default.ensures.err;
      holds = λ s q. c.self.invariant.holds s q ∙ ap (is_holder s) (sym (c.join.ensures.holders q));
    }

pub returns-in_default-clause-err : goal.returns-in_default-clause-err
returns-in_default-clause-err c =
    let waiter : Waiter = record { who = c.args.who; key = c.in_ok-copy.field-0 } in
    let taken : c.take.new.self ≡ c.self.inside.entries ++ None ∷ [] =
    c.take.ensures.others
    ∙ ap (λ es. slice_set es c.in_ok-arrival.arrival None) c.in_ok-arrival.ensures.ok
    ∙ ap (λ n. slice_set (c.self.inside.entries ++ Some waiter ∷ []) n None) c.in_ok-arrival.ensures.arrival
    ∙ set-last c.self.inside.entries (Some waiter) None in
    waiting-again c.self.inside.entries c.take.new.self taken ∙ ap (λ (v : TableView). v.waiting) (c.self.view_is ∙ c.pack.ensures)

pub invariant_of-self-2 : goal.invariant_of-self-2
invariant_of-self-2 c = rw c.in_ok-arrival.ensures.ok (
    record {
      kept = kept-more c.self.inside.entries c.self.inside.arrivals.numbers.items c.set.new.self.numbers.items (queue_at c.self.inside.slots) (queue_at c.join.new.self) c.args.who c.args.key.now c.in_ok-copy.field-0
          c.self.invariant.kept (none-idle c.self.inside.entries c.args.who (ap (is_waiting c.args.who) (ap (λ (v : TableView). v.waiting) (c.self.view_is ∙ c.pack.ensures)) ∙ c.requires)) c.in_ok-copy.ensures
          (λ s. c.set.ensures.set s
          ∙ ap (λ n. cond (eq_by_cmp nat_cmp c.args.who s) (Some n) (arrival_of c.make_room.new.self.numbers.items s)) c.in_ok-arrival.ensures.arrival
          ∙ ap (cond (eq_by_cmp nat_cmp c.args.who s) (Some (length c.self.inside.entries))) (c.in_ok-make_room.ensures.same s))
          c.in-Ok.ensures.ok;
      holds = λ s q. c.self.invariant.holds s q ∙ ap (is_holder s) (sym (c.join.ensures.holders q));
    })

pub returns-clause-ok : goal.returns-clause-ok
returns-clause-ok c =
    let waiter : Waiter = record { who = c.args.who; key = c.in_ok-copy.field-0 } in
    ap waiting_in c.in_ok-arrival.ensures.ok
    ∙ waiting-append c.self.inside.entries (Some waiter ∷ [])
    ∙ ap (λ waiting. waiting ++ entry c.args.who c.in_ok-copy.field-0 ∷ []) (ap (λ (v : TableView). v.waiting) (c.self.view_is ∙ c.pack.ensures))
    ∙ ap (λ key. c.args.self.now.waiting ++ entry c.args.who key ∷ []) c.in_ok-copy.ensures

pub returns-clause-holders : goal.returns-clause-holders
returns-clause-holders c = held-again c.self.inside.slots c.join.new.self c.args.self.now.held (ap (λ (v : TableView). v.held) (c.self.view_is ∙ c.pack.ensures)) c.join.ensures.holders
