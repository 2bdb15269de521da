use Rattle.std.proofs.Common.{◌<◌, ◌∙◌, ◌++◌, ◌∷◌, [], ap, sym, take, arith, length}
use Rattle.std.proofs.lemmas.List.{take_more, take_all}
use Rattle.std.specs.Prelude.{find}
use Rattle.sky_lock_table.specs.Waiters.{key_of, is_among, earlier}
use Rattle.sky_lock_table.proofs.FirstLemmas.{first_among, first_among-none, first_among-more, first-none, first-there, first-not_gone}
use Rattle.sky_lock_table.proofs.IndexLemmas.{first-arrival}
use Rattle.sky_lock_table.specs.Slots.{queue_at}
use Rattle.sky_lock_table.specs.Table.{TableView}
use Rattle.sky_lock_table.proofs.lock_table.LockTable.first_of.Goals as goal

pub loop-key-init : goal.loop-key-init
loop-key-init c = sym (first_among-none c.self.inside.entries)

pub loop-key-preserved : goal.loop-key-preserved
loop-key-preserved c =
    c.earlier-first.ensures
    ∙ ap (λ o. earlier o c.first_arrival.result) c.loop-key.invariant
    ∙ ap (earlier (first_among (take c.loop-key.key-index c.args.keys.now) c.self.inside.entries))
    (c.first_arrival.ensures ∙ first-arrival c.self.inside.entries c.self.inside.arrivals.numbers.items (queue_at c.self.inside.slots) c.key-item.result c.self.invariant.kept)
    ∙ first_among-more (take c.loop-key.key-index c.args.keys.now) c.key-item.result c.self.inside.entries
    ∙ (let within : c.loop-key.key-index < length c.args.keys.now = omega arith in
    sym (ap (λ ks. first_among ks c.self.inside.entries) (take_more c.args.keys.now c.loop-key.key-index c.key-item.result within ∙ ap (λ k. take c.loop-key.key-index c.args.keys.now ++ k ∷ []) (sym c.key-item.is))))

pub returns-in_err-first : goal.returns-in_err-first
returns-in_err-first c = rw c.from_residual.ensures (
    sym (first-none (λ w. is_among c.args.keys.now (key_of w)) c.self.inside.entries
    (sym (sym c.in_err-first.was ∙ c.loop-key.invariant ∙ ap (λ ks. first_among ks c.self.inside.entries) (take_all c.loop-key.key-index c.args.keys.now c.loop-key-test.false))))
    ∙ ap (find (λ w. is_among c.args.keys.now (key_of w))) (ap (λ (v : TableView). v.waiting) c.self.view_is))

pub returns-in_err-waiter : goal.returns-in_err-waiter
returns-in_err-waiter c = absurd (first-not_gone (λ w. is_among c.args.keys.now (key_of w)) c.self.inside.entries c.in_ok-first.field-0
    (sym (sym c.in_ok-first.was ∙ c.loop-key.invariant ∙ ap (λ ks. first_among ks c.self.inside.entries) (take_all c.loop-key.key-index c.args.keys.now c.loop-key-test.false)))
    c.in_err-waiter.ensures)

pub returns : goal.returns
returns c =
    first-there (λ w. is_among c.args.keys.now (key_of w)) c.self.inside.entries c.in_ok-first.field-0 _
    (sym (sym c.in_ok-first.was ∙ c.loop-key.invariant ∙ ap (λ ks. first_among ks c.self.inside.entries) (take_all c.loop-key.key-index c.args.keys.now c.loop-key-test.false)))
    c.in_ok-waiter.ensures
    ∙ ap (find (λ w. is_among c.args.keys.now (key_of w))) (ap (λ (v : TableView). v.waiting) c.self.view_is)
