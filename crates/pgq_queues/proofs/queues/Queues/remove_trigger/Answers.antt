use Rattle.std.proofs.Common.{rules, ◌<◌, length, sym, subst}
use Rattle.std.proofs.lemmas.Map.Made.{map_same_pairs}
use Rattle.pgq_queues.specs.Views.{QueuesView}
use Rattle.pgq_queues.proofs.TracedLists.{moved, traced-removed, tables-removed}
use Rattle.pgq_queues.proofs.queues.Queues.remove_trigger.Goals as goal

pub invariant_of-self : goal.invariant_of-self
invariant_of-self c =
    let moves = map_same_pairs _ (moved c.args.place) _ (λ k v b w f' t. search rules) _ _ c.retain.ensures.filtered in
    let low = subst (λ (v : QueuesView). c.args.place < length v.triggers) (sym c.self.view_is) c.requires in (
      c.self.invariant.0,
      (
        c.self.invariant.1.0,
        (
          c.self.invariant.1.1.0,
          traced-removed c.self.inside.slots c.self.inside.triggers.items c.remove.new.self.items c.args.place c.self.inside.traced_tables.entries c.retain.new.self.entries c.remove.ensures.items low moves
              c.self.invariant.1.1.1,
        ),
      ),
    )

pub returns-clause-tables : goal.returns-clause-tables
returns-clause-tables c =
    let moves = map_same_pairs _ (moved c.args.place) _ (λ k v b w f' t. search rules) _ _ c.retain.ensures.filtered in
    tables-removed _ _ c.remove.new.self.items c.args.place c.retain.new.self.entries c.self.view_is c.remove.ensures.items moves
