use Rattle.std.proofs.Common.{◌≡◌, ◌<◌, ◌≤◌, ◌-◌, ◌∙◌, ap, sym, Some, None, Option, length, slice_set, arith}
use Rattle.sky_lock_table.specs.declared.entries.Waiter.{Waiter}
use Rattle.sky_lock_table.specs.Waiters.{entry_at, waiting_in}
use Rattle.sky_lock_table.proofs.EntryLemmas.{Entries, one_less}
use Rattle.sky_lock_table.proofs.SessionVectors.{at-read, at-past}
use Rattle.sky_lock_table.proofs.entries.Entries.take.Goals as goal

pub returns-then-arrival-len-clause-value : goal.returns-then-arrival-len-clause-value
returns-then-arrival-len-clause-value c =
    let past : length c.self.inside.items.items ≤ c.args.arrival = omega (arith, c.self.inside.items.ok, c.len.ensures) in
    sym (at-past (λ (w : Option Waiter). w) None c.self.inside.items.items c.args.arrival past)
    ∙ ap (λ (es : Entries). entry_at es c.args.arrival) c.self.view_is

pub returns-in_err-waiter-clause-value : goal.returns-in_err-waiter-clause-value
returns-in_err-waiter-clause-value c = rw c.from_residual.ensures (
    let within : c.args.arrival < length c.self.inside.items.items = omega (arith, c.self.inside.items.ok, c.len.ensures) in
    c.in_err-waiter.ensures.value
    ∙ sym (at-read (λ (w : Option Waiter). w) None c.self.inside.items.items c.args.arrival c.index_mut.result.now _ within c.index_mut.ensures.value)
    ∙ ap (λ (es : Entries). entry_at es c.args.arrival) c.self.view_is)

pub overflow_sub-self : goal.overflow_sub-self
overflow_sub-self c =
    let within : c.args.arrival < length c.self.inside.items.items = omega (arith, c.self.inside.items.ok, c.len.ensures) in
    let here : entry_at c.self.inside.items.items c.args.arrival ≡ Some c.in_ok-waiter.waiter =
    at-read (λ (w : Option Waiter). w) None c.self.inside.items.items c.args.arrival c.index_mut.result.now _ within c.index_mut.ensures.value ∙ sym c.in_ok-waiter.ensures.value in
    let less = one_less c.self.inside.items.items c.args.arrival c.in_ok-waiter.waiter here in
    let count : c.self.inside.count ≡ length (waiting_in c.self.inside.items.items) = c.self.invariant in
    omega arith

pub invariant_of-self-2 : goal.invariant_of-self-2
invariant_of-self-2 c =
    let within : c.args.arrival < length c.self.inside.items.items = omega (arith, c.self.inside.items.ok, c.len.ensures) in
    let here : entry_at c.self.inside.items.items c.args.arrival ≡ Some c.in_ok-waiter.waiter =
    at-read (λ (w : Option Waiter). w) None c.self.inside.items.items c.args.arrival c.index_mut.result.now _ within c.index_mut.ensures.value ∙ sym c.in_ok-waiter.ensures.value in
    let less = one_less c.self.inside.items.items c.args.arrival c.in_ok-waiter.waiter here in
    let count : c.self.inside.count ≡ length (waiting_in c.self.inside.items.items) = c.self.invariant in
    let fewer : c.self.inside.count - 1 ≡ length (waiting_in (slice_set c.self.inside.items.items c.args.arrival None)) = omega arith in
    fewer ∙ ap (λ e. length (waiting_in (slice_set c.self.inside.items.items c.args.arrival e))) (sym c.take.ensures.after)

pub returns-clause-value : goal.returns-clause-value
returns-clause-value c =
    let within : c.args.arrival < length c.self.inside.items.items = omega (arith, c.self.inside.items.ok, c.len.ensures) in
    c.in_ok-waiter.ensures.value
    ∙ sym (at-read (λ (w : Option Waiter). w) None c.self.inside.items.items c.args.arrival c.index_mut.result.now _ within c.index_mut.ensures.value)
    ∙ ap (λ (es : Entries). entry_at es c.args.arrival) c.self.view_is
