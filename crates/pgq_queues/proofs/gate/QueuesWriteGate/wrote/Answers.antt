use Rattle.std.proofs.Common.{◌<◌, List, Some, length, sym, ◌∙◌, subst, arith, option_copied, to_z, of_z, w64}
use Rattle.std.specs.List.{All}
use Rattle.std.proofs.lemmas.Int.{to_z-of_z}
use Rattle.sky_model.specs.Triggers.{TableTrigger}
use Rattle.pgq_queues.specs.Seen.{Stands}
use Rattle.pgq_queues.specs.Views.{QueuesView}
use Rattle.pgq_queues.specs.EventRule.{table_events, events_at, sequences, ids_left}
use Rattle.pgq_queues.proofs.TracedLists.{placed-at, placed-within, traced-found, found-within, within-still}
use Rattle.pgq_queues.proofs.Telling.{wrote-as}
use Rattle.pgq_queues.proofs.Waiting.{retried-told}
use Rattle.pgq_queues.proofs.gate.QueuesWriteGate.wrote.Goals as goal

pub new-traced-requires : goal.new-traced-requires
new-traced-requires c =
    subst (λ (ts : List TableTrigger). All (λ place. place < length ts) c.in-Some.table.now.places) (sym c.as_slice.ensures.value)
    (placed-within c.self.inside.triggers.items c.args.table c.in-Some.table.now.places
    (placed-at c.self.inside.triggers.items c.self.inside.traced_tables.entries c.args.table (Some c.in-Some.table.now) c.in-Some.ensures.value c.self.invariant.1.1.1.places))

pub tell-requires-clause-within : goal.tell-requires-clause-within
tell-requires-clause-within c =
    subst (λ (v : QueuesView). All (λ (x : TableTrigger). Stands v.queues x.trigger.queue) c.new-traced.result.triggers) (sym c.self.view_is)
    (found-within _ _ c.args.table _ c.in-Some.table.now _ c.self.view_is c.as_slice.ensures.value c.in-Some.ensures.value c.new-traced.ensures c.self.invariant.1.1.1)

pub tell-requires-clause-room : goal.tell-requires-clause-room
tell-requires-clause-room c =
    let old = option_copied c.args.old in
    let new = option_copied c.args.new in
    (λ i. ids_left (sequences (c.self.view_is i).queues) (events_at (traced-found _ _ c.args.table _ c.in-Some.table.now _ c.self.view_is c.as_slice.ensures.value c.in-Some.ensures.value c.new-traced.ensures c.self.invariant.1.1.1.places i)
    (record { table = c.args.table; old = old; new = new })))
    ∙ c.requires.room

pub invariant_of-self : goal.invariant_of-self
invariant_of-self c =
    ((c.self.invariant.0.0, retried-told c.tell.result (to_z w64 (of_z w64 c.self.inside.time)) c.args.txid (table_events c.new-traced.result (option_copied c.args.old) (option_copied c.args.new)) c.self.inside.slots c.tell.new.queues c.self.inside.retries c.tell.ensures.stand c.tell.ensures.ok c.tell.ensures.err c.self.invariant.0.1), within-still c.self.inside.names c.self.inside.slots c.tell.new.queues c.self.inside.batches.entries c.self.inside.triggers.items c.self.inside.traced_tables.entries c.tell.ensures.stand c.self.invariant.1)

pub returns-clause-ok : goal.returns-clause-ok
returns-clause-ok c =
    wrote-as c.tell.result _ c.args.self.now c.tell.new.queues (to_z w64 (of_z w64 c.self.inside.time)) c.args.txid c.args.table (option_copied c.args.old) (option_copied c.args.new) c.new-traced.result c.self.view_is
    (to_z-of_z w64 c.self.inside.time (record { sfits = omega arith }))
    (traced-found _ _ c.args.table _ c.in-Some.table.now _ c.self.view_is c.as_slice.ensures.value c.in-Some.ensures.value c.new-traced.ensures c.self.invariant.1.1.1.places) c.tell.ensures.ok
