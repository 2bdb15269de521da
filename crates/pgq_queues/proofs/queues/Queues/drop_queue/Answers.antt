use Rattle.std.proofs.Common.{◌≡◌, [], false, ◌==◌, get_or, ◌∙◌, ap, sym, subst}
use Rattle.std.specs.List.{All}
use Rattle.sky_model.specs.Triggers.{TableTrigger}
use Rattle.pgq_queues.specs.Views.{QueuesView}
use Rattle.pgq_queue.specs.Seen.{no_queue, seen_queue}
use Rattle.pgq_queues.specs.Seen.{queue_at}
use Rattle.pgq_queues.proofs.Marked.{dropped-as}
use Rattle.pgq_queues.proofs.NumberedQueues.{number-none, number-there, stands-there}
use Rattle.pgq_queues.proofs.TracedLists.{there, within-dropped}
use Rattle.pgq_queues.proofs.Waiting.{retried-dropped}
use Rattle.pgq_queues.proofs.queues.Queues.drop_queue.Goals as goal

pub unreachable-requires : goal.unreachable-requires
unreachable-requires c = cc (number-none _ _ c.args.name.now c.number.result c.self.view_is c.self.invariant.1.0.each c.in-None.is c.number.ensures.number ∙ c.requires.found)

pub remove-requires-2 : goal.remove-requires-2
remove-requires-2 c =
    let at = number-there _ _ c.args.name.now c.in-Some.place c.args.number c.self.view_is c.self.invariant.1.0.each c.in-Some.ensures.number c.requires.found in
    there c.self.inside.slots c.args.number (stands-there c.self.inside.names c.self.inside.slots c.in-Some.place c.args.number c.self.invariant.1.0 at)

pub invariant_of-self : goal.invariant_of-self
invariant_of-self c =
    let at = number-there _ _ c.args.name.now c.in-Some.place c.args.number c.self.view_is c.self.invariant.1.0.each c.in-Some.ensures.number c.requires.found in
    let none : (seen_queue (get_or c.self.inside.slots c.args.number no_queue)).members ≡ [] = ap (λ (w : QueuesView). (queue_at w c.args.number).members) c.self.view_is ∙ c.requires.consumers in
    let untold : All (λ (t : TableTrigger). (t.trigger.queue == c.args.number) ≡ false) c.self.inside.triggers.items =
    subst (λ (w : QueuesView). All (λ (t : TableTrigger). (t.trigger.queue == c.args.number) ≡ false) w.triggers) (sym c.self.view_is) c.requires.triggers in (
      (
        c.self.invariant.0.0,
        retried-dropped _ _ c.args.number c.self.inside.retries c.remove-2.ensures (there c.self.inside.slots c.args.number (stands-there c.self.inside.names c.self.inside.slots c.in-Some.place c.args.number c.self.invariant.1.0 at)) none c.self.invariant.0.1,
      ),
      within-dropped c.self.inside.names c.args.number c.in-Some.place c.self.inside.slots c.remove-2.new.self c.remove.new.self c.self.inside.batches.entries c.self.inside.triggers.items c.self.inside.traced_tables.entries
          c.remove.ensures c.remove-2.ensures c.in-Some.ensures.within at none untold c.self.invariant.1,
    )

pub returns-clause-mark : goal.returns-clause-mark
returns-clause-mark c = λ beside.
    let at = number-there _ _ c.args.name.now c.in-Some.place c.args.number c.self.view_is c.self.invariant.1.0.each c.in-Some.ensures.number c.requires.found in
    let low = there c.self.inside.slots c.args.number (stands-there c.self.inside.names c.self.inside.slots c.in-Some.place c.args.number c.self.invariant.1.0 at) in
    dropped-as _ _ c.remove.new.self c.remove-2.new.self c.args.number c.in-Some.place c.self.view_is c.remove.ensures c.remove-2.ensures c.self.invariant.1.0.each c.self.invariant.1.0.rise at low c.requires.consumers beside
