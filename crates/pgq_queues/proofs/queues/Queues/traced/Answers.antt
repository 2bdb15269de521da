use Rattle.std.proofs.Common.{◌<◌, List, Some, None, length, refl, sym, subst}
use Rattle.std.specs.List.{All}
use Rattle.sky_model.specs.Triggers.{TableTrigger}
use Rattle.pgq_queues.proofs.TracedLists.{placed-at, placed-within, traced-found, found-within, none-found, if-none}
use Rattle.pgq_queues.proofs.queues.Queues.traced.Goals as goal

pub new-requires : goal.new-requires
new-requires c =
    subst (λ (ts : List TableTrigger). All (λ place. place < length ts) c.in_ok-traced.traced.now.places) (sym c.as_slice.ensures.value)
    (placed-within c.self.inside.triggers.items c.args.table c.in_ok-traced.traced.now.places
    (placed-at c.self.inside.triggers.items c.self.inside.traced_tables.entries c.args.table (Some c.in_ok-traced.traced.now) c.in_ok-traced.ensures.value c.self.invariant.1.1.1.places))

pub returns-clause-traced : goal.returns-clause-traced
returns-clause-traced c = traced-found _ _ c.args.table _ c.in_ok-traced.traced.now _ c.self.view_is c.as_slice.ensures.value c.in_ok-traced.ensures.value c.new.ensures c.self.invariant.1.1.1.places

pub returns-clause-within : goal.returns-clause-within
returns-clause-within c = found-within _ _ c.args.table _ c.in_ok-traced.traced.now _ c.self.view_is c.as_slice.ensures.value c.in_ok-traced.ensures.value c.new.ensures c.self.invariant.1.1.1

pub returns-in_err-traced-clause-none : goal.returns-in_err-traced-clause-none
returns-in_err-traced-clause-none c = if-none _ _ (none-found _ _ c.args.table None c.self.view_is c.in_err-traced.ensures.value refl c.self.invariant.1.1.1.places)
