use Rattle.std.proofs.Common.{◌∙◌, ap, sym}
use Rattle.sky_keys.specs.Waits.{entry_of}
use Rattle.sky_lock_table.specs.Sessions.{arrival_of}
use Rattle.sky_lock_table.proofs.EntryLemmas.{entry-none, entry-one}
use Rattle.sky_lock_table.proofs.IndexLemmas.{none-told, one-told, not_gone}
use Rattle.sky_lock_table.specs.Table.{TableView}
use Rattle.sky_lock_table.proofs.lock_table.LockTable.key.Goals as goal

pub returns-in_err-arrival : goal.returns-in_err-arrival
returns-in_err-arrival c = rw c.from_residual.ensures (
    sym (entry-none c.self.inside.entries c.args.who (none-told c.self.inside.entries (arrival_of c.self.inside.arrivals.numbers.items) c.args.who c.self.invariant.kept.sessions (sym c.in_err-arrival.ensures)))
    ∙ ap (entry_of c.args.who) (ap (λ (v : TableView). v.waiting) c.self.view_is))

pub returns-in_err-waiter : goal.returns-in_err-waiter
returns-in_err-waiter c =
    let one = one-told c.self.inside.entries (arrival_of c.self.inside.arrivals.numbers.items) c.args.who c.in_ok-arrival.arrival c.self.invariant.kept.sessions (sym c.in_ok-arrival.ensures) in
    absurd (not_gone c.self.inside.entries c.args.who c.in_ok-arrival.arrival one (sym c.in_err-waiter.ensures))

pub returns : goal.returns
returns c =
    let one = one-told c.self.inside.entries (arrival_of c.self.inside.arrivals.numbers.items) c.args.who c.in_ok-arrival.arrival c.self.invariant.kept.sessions (sym c.in_ok-arrival.ensures) in
    sym (entry-one c.self.inside.entries c.args.who c.in_ok-arrival.arrival c.in_ok-waiter.waiter.now one (sym c.in_ok-waiter.ensures))
    ∙ ap (entry_of c.args.who) (ap (λ (v : TableView). v.waiting) c.self.view_is)
