use Rattle.std.proofs.Common.{◌<◌, ◌≤◌, ◌∙◌, ap, sym, None, Option, length, arith}
use Rattle.std.proofs.lemmas.Bool.Decides.{nat_tests}
use Rattle.sky_lock_table.specs.declared.entries.Waiter.{Waiter}
use Rattle.sky_lock_table.specs.Waiters.{entry_at}
use Rattle.sky_lock_table.proofs.EntryLemmas.{Entries}
use Rattle.sky_lock_table.proofs.SessionVectors.{at-read, at-past}
use Rattle.sky_lock_table.proofs.entries.Entries.get.Goals as goal

pub returns-in_err-get : goal.returns-in_err-get
returns-in_err-get c = rw c.from_residual.ensures (
    let past : length c.deref.result.now ≤ c.args.arrival = grind (arith, nat_tests, c.in_err-get.ensures.lookup.0) in
    sym (at-past (λ (w : Option Waiter). w) None c.deref.result.now c.args.arrival past)
    ∙ ap (λ (es : Entries). entry_at es c.args.arrival) (c.deref.ensures.value ∙ c.self.view_is))

pub returns : goal.returns
returns c =
    let within : c.args.arrival < length c.deref.result.now = grind (arith, nat_tests, c.in_ok-get.ensures.lookup.0) in
    c.as_ref.ensures.value
    ∙ sym (at-read (λ (w : Option Waiter). w) None c.deref.result.now c.args.arrival c.in_ok-get.field-0.now _ within c.in_ok-get.ensures.lookup.1)
    ∙ ap (λ (es : Entries). entry_at es c.args.arrival) (c.deref.ensures.value ∙ c.self.view_is)
