use Rattle.std.proofs.Common.{◌≡◌, ◌+◌, ◌∙◌, ◌∷◌, [], ap, sym, Some, length, arith}
use Rattle.std.proofs.lemmas.List.{length-append}
use Rattle.sky_lock_table.specs.Waiters.{entry, waiting_in}
use Rattle.sky_lock_table.proofs.EntryLemmas.{few_wait, waiting-append}
use Rattle.sky_lock_table.proofs.entries.Entries.add.Goals as goal

pub overflow_add-self : goal.overflow_add-self
overflow_add-self c =
    let few = few_wait c.self.inside.items.items in
    let count : c.self.inside.count ≡ length (waiting_in c.self.inside.items.items) = c.self.invariant in
    omega (arith, c.self.inside.items.ok, c.self.inside.items.small)

pub invariant_of-self-2 : goal.invariant_of-self-2
invariant_of-self-2 c =
    ap (λ n. n + 1) c.self.invariant
    ∙ sym (ap (λ es. length (waiting_in es)) c.in_ok-push.ensures.items
    ∙ ap length (waiting-append c.self.inside.items.items (Some c.args.waiter ∷ []))
    ∙ length-append (waiting_in c.self.inside.items.items) (entry c.args.waiter.who c.args.waiter.key ∷ []))
