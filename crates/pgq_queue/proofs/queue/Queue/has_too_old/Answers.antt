use Rattle.std.proofs.Common.{◌<◌, ℕ, List, [], length, get_or, is_some, sym, ◌∙◌, ap, arith}
use Rattle.pgq_queue.specs.Views.{QueueView}
use Rattle.pgq_queue.specs.Seen.{seen_queue}
use Rattle.pgq_queue.proofs.HeldBack.{consumer-there, held-next, held-some, holds-if, holds-none}
use Rattle.pgq_queue.proofs.queue.Queue.has_too_old.Goals as goal

pub returns-then-is_some : goal.returns-then-is_some
returns-then-is_some c =
    let members = c.args.self.now.subs.names in
    let many = ap (λ (v : QueueView). length v.subs.names) c.self.view_is in
    let inside : c.loop-place.place < length members = omega (arith, c.loop-place-test.true, c.len-place-end.ensures, many) in
    let consumer : List ℕ = get_or members c.loop-place.place [] in
    let there = consumer-there members c.loop-place.place inside in
    let holds = holds-if c.args.txid (seen_queue c.args.self.now) consumer c.too_old.result _ _ c.is_some.ensures (c.too_old.ensures consumer there) in
    sym (ap is_some (sym c.loop-place.invariant) ∙ held-some c.args.txid (seen_queue c.args.self.now) members c.loop-place.place consumer there (sym holds ∙ c.if-is_some.true))

pub loop-place-preserved : goal.loop-place-preserved
loop-place-preserved c =
    let members = c.args.self.now.subs.names in
    let many = ap (λ (v : QueueView). length v.subs.names) c.self.view_is in
    let inside : c.loop-place.place < length members = omega (arith, c.loop-place-test.true, c.len-place-end.ensures, many) in
    let consumer : List ℕ = get_or members c.loop-place.place [] in
    let there = consumer-there members c.loop-place.place inside in
    let holds = holds-if c.args.txid (seen_queue c.args.self.now) consumer c.too_old.result _ _ c.is_some.ensures (c.too_old.ensures consumer there) in
    held-next c.args.txid (seen_queue c.args.self.now) members c.loop-place.place consumer there (holds-none c.args.txid (seen_queue c.args.self.now) consumer _ holds c.if-is_some.false) ∙ c.loop-place.invariant
