use Rattle.std.proofs.Common.{ℕ, sym, ◌∙◌, ap, subst}
use Rattle.std.proofs.lemmas.Result.{IfOk-from_err}
use Rattle.pgq_queues.specs.Views.{QueuesView, TracedTableView}
use Rattle.pgq_queues.specs.Seen.{kept}
use Rattle.pgq_queues.specs.Traced.{TracedWithin, IsTraced}
use Rattle.pgq_queues.proofs.Marked.{shown-as, tables-kept}
use Rattle.pgq_queues.proofs.TracedLists.{goes-same, traced-new, tables-new, kept-there}
use Rattle.pgq_queues.proofs.queues.Queues.keep_table.Goals as goal

pub invariant_of-self : goal.invariant_of-self
invariant_of-self c =
    (c.self.invariant.0, (c.self.invariant.1.0, (c.self.invariant.1.1.0, subst (TracedWithin c.self.inside.slots c.self.inside.triggers.items) (sym c.in_err-insert.ensures.err) c.self.invariant.1.1.1)))

pub invariant_of-self-2 : goal.invariant_of-self-2
invariant_of-self-2 c = (
  c.self.invariant.0,
  (
    c.self.invariant.1.0,
    (
      c.self.invariant.1.1.0,
      traced-new c.self.inside.slots c.self.inside.triggers.items c.self.inside.traced_tables.entries c.insert.new.self.entries c.args.number c.in_ok-table.table c.in_ok-insert.ensures.updates.0
          (sym c.contains_key.ensures ∙ c.if-contains_key.false) (ap TracedTableView.places c.in_ok-table.ensures) c.self.invariant.1.1.1,
    ),
  ),
)

pub returns-in_err-insert-clause-same : goal.returns-in_err-insert-clause-same
returns-in_err-insert-clause-same c = shown-as _ _ c.self.view_is

pub returns-in_err-insert-clause-stand : goal.returns-in_err-insert-clause-stand
returns-in_err-insert-clause-stand c = goes-same _ _ (ap QueuesView.queues c.self.view_is)

pub returns-in_err-insert-clause-kept : goal.returns-in_err-insert-clause-kept
returns-in_err-insert-clause-kept c = IfOk-from_err _ _ c.from_residual-in_err-insert.ensures.0

pub returns-in_err-insert-clause-tables : goal.returns-in_err-insert-clause-tables
returns-in_err-insert-clause-tables c = λ part here are.
    subst (λ all. (n : ℕ) → IsTraced part n c.self.inside.triggers.items (kept all n)) (sym c.in_err-insert.ensures.err) (tables-kept _ _ c.self.view_is part are)

pub returns-in_err-insert-clause-rounds : goal.returns-in_err-insert-clause-rounds
returns-in_err-insert-clause-rounds c = ap QueuesView.rounds c.self.view_is

pub returns-clause-same : goal.returns-clause-same
returns-clause-same c = shown-as _ _ c.self.view_is

pub returns-clause-stand : goal.returns-clause-stand
returns-clause-stand c = goes-same _ _ (ap QueuesView.queues c.self.view_is)

pub returns-clause-kept : goal.returns-clause-kept
returns-clause-kept c = kept-there c.self.inside.traced_tables.entries c.insert.new.self.entries c.args.number c.in_ok-table.table c.in_ok-insert.ensures.updates.0

pub returns-clause-tables : goal.returns-clause-tables
returns-clause-tables c =
    tables-new _ _ c.insert.new.self.entries c.args.number c.in_ok-table.table c.args.name.now c.args.schema.now c.self.view_is c.in_ok-insert.ensures.updates.0 (ap TracedTableView.name c.in_ok-table.ensures)
    (ap TracedTableView.columns c.in_ok-table.ensures)

pub returns-clause-rounds : goal.returns-clause-rounds
returns-clause-rounds c = ap QueuesView.rounds c.self.view_is
