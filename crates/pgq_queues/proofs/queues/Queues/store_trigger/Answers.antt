use Rattle.std.proofs.Common.{rules, Some, is_some, sym, ap, ◌≡◌, ℕ, List, true, subst, ◌∙◌, ◌∷◌, [], ◌++◌}
use Rattle.sky_model.specs.Triggers.{TableTrigger}
use Rattle.pgq_queues.proofs.Unchanged.{triggers-same}
use Rattle.pgq_queues.proofs.TracedLists.{Updated, traced-kept, traced-more, stands-kept, tables-still, tables-more}
use Rattle.std.proofs.lemmas.Result.{IfOk-from_err}
use Rattle.pgq_queues.specs.Views.{QueuesView, TracedTableView}
use Rattle.pgq_queues.specs.Seen.{kept}
use Rattle.pgq_queues.specs.Traced.{TracedWithin, IsTraced}
use Rattle.pgq_queues.proofs.Marked.{on-err, tables-kept, traced-as}
use Rattle.pgq_queues.proofs.queues.Queues.store_trigger.Goals as goal

pub invariant_of-self-in_err-add-in-Some : goal.invariant_of-self-in_err-add-in-Some
invariant_of-self-in_err-add-in-Some c =
    let old = c.self.inside.traced_tables.entries in
    let new = (c.get_mut.follows.lender c.add.new.self).entries in
    let updates : Updated old new c.trigger.inside.table (Some c.add.new.self) = ((c.get_mut.follows.holds c.add.new.self).3 (sym (ap is_some c.in-Some.ensures.value))).0 in (
      c.self.invariant.0,
      (
        c.self.invariant.1.0,
        (
          c.self.invariant.1.1.0,
          traced-kept c.self.inside.slots c.reserve.new.self.items c.self.inside.triggers.items old new c.trigger.inside.table c.add.new.self c.in-Some.table.now
              c.in_ok-reserve.ensures.items updates c.in-Some.ensures.value c.in_err-add-in-Some.ensures.err c.self.invariant.1.1.1,
        ),
      ),
    )

pub invariant_of-self-2 : goal.invariant_of-self-2
invariant_of-self-2 c =
    let old = c.self.inside.traced_tables.entries in
    let new = (c.get_mut.follows.lender c.add.new.self).entries in
    let updates : Updated old new c.trigger.inside.table (Some c.add.new.self) = ((c.get_mut.follows.holds c.add.new.self).3 (sym (ap is_some c.in-Some.ensures.value))).0 in
    let low = stands-kept _ _ c.args.trigger.trigger.queue c.self.view_is c.requires.queue in (
      c.self.invariant.0,
      (
        c.self.invariant.1.0,
        (
          c.self.invariant.1.1.0,
          traced-more c.self.inside.slots c.self.inside.triggers.items c.reserve.new.self.items c.push_reserved.new.self.items c.args.trigger old new c.trigger.inside.table c.len-place.result
              c.add.new.self c.in-Some.table.now c.in_ok-reserve.ensures.items c.push_reserved.ensures.items updates (sym (ap TableTrigger.table c.trigger.view_is)) c.in-Some.ensures.value c.in_ok-add-in-Some.ensures.ok (search rules) low
              c.self.invariant.1.1.1,
        ),
      ),
    )

pub invariant_of-self : goal.invariant_of-self
invariant_of-self c =
    (c.self.invariant.0, (c.self.invariant.1.0, (c.self.invariant.1.1.0, subst (λ (ts : List TableTrigger). TracedWithin c.self.inside.slots ts c.self.inside.traced_tables.entries) (sym c.in_err-reserve.ensures.items) c.self.invariant.1.1.1)))

pub unreachable-requires : goal.unreachable-requires
unreachable-requires c =
    let there : is_some (kept c.self.inside.traced_tables.entries c.trigger.inside.table) ≡ true = (λ j. is_some (kept (c.self.view_is j).traced_tables (c.trigger.view_is j).table)) ∙ c.requires.table in
    let nothing = ap is_some c.in-None.ensures.value in
    cc

pub returns-in_err-reserve-clause-ok : goal.returns-in_err-reserve-clause-ok
returns-in_err-reserve-clause-ok c = IfOk-from_err _ _ c.from_residual.ensures.0

pub returns-in_err-reserve-clause-err : goal.returns-in_err-reserve-clause-err
returns-in_err-reserve-clause-err c = on-err _ _ (triggers-same _ _ c.reserve.new.self.items c.self.view_is c.in_err-reserve.ensures.items)

pub returns-in_err-reserve-clause-tables : goal.returns-in_err-reserve-clause-tables
returns-in_err-reserve-clause-tables c = λ part are.
    subst (λ (ts : List TableTrigger). (m : ℕ) → IsTraced part m ts (kept c.self.inside.traced_tables.entries m)) (sym c.in_err-reserve.ensures.items) (tables-kept _ _ c.self.view_is part are)

pub returns-in_err-reserve-clause-rounds : goal.returns-in_err-reserve-clause-rounds
returns-in_err-reserve-clause-rounds c = ap QueuesView.rounds c.self.view_is

pub returns-in_err-add-in-Some-clause-ok : goal.returns-in_err-add-in-Some-clause-ok
returns-in_err-add-in-Some-clause-ok c = IfOk-from_err _ _ c.from_residual-in_err-add-in-Some.ensures.0

pub returns-in_err-add-in-Some-clause-err : goal.returns-in_err-add-in-Some-clause-err
returns-in_err-add-in-Some-clause-err c = on-err _ _ (triggers-same _ _ c.reserve.new.self.items c.self.view_is c.in_ok-reserve.ensures.items)

pub returns-in_err-add-in-Some-clause-tables : goal.returns-in_err-add-in-Some-clause-tables
returns-in_err-add-in-Some-clause-tables c =
    let updates : Updated c.self.inside.traced_tables.entries (c.get_mut.follows.lender c.add.new.self).entries c.trigger.inside.table (Some c.add.new.self) = ((c.get_mut.follows.holds c.add.new.self).3 (sym (ap is_some c.in-Some.ensures.value))).0 in
    tables-still _ _ c.reserve.new.self.items (c.get_mut.follows.lender c.add.new.self).entries c.trigger.inside.table c.add.new.self c.in-Some.table.now c.self.view_is c.in_ok-reserve.ensures.items updates c.in-Some.ensures.value c.in_err-add-in-Some.ensures.err

pub returns-in_err-add-in-Some-clause-rounds : goal.returns-in_err-add-in-Some-clause-rounds
returns-in_err-add-in-Some-clause-rounds c = ap QueuesView.rounds c.self.view_is

pub returns : goal.returns
returns c =
    let is : c.push_reserved.new.self.items ≡ c.self.inside.triggers.items ++ c.args.trigger ∷ [] = c.push_reserved.ensures.items ∙ ap (λ (ts : List TableTrigger). ts ++ c.args.trigger ∷ []) c.in_ok-reserve.ensures.items in
    let updates : Updated c.self.inside.traced_tables.entries (c.get_mut.follows.lender c.add.new.self).entries c.trigger.inside.table (Some c.add.new.self) = ((c.get_mut.follows.holds c.add.new.self).3 (sym (ap is_some c.in-Some.ensures.value))).0 in record {
      ok = traced-as _ _ c.push_reserved.new.self.items (c.get_mut.follows.lender c.add.new.self).entries c.args.trigger c.self.view_is is;
      err = tt;
      tables = tables-more _ _ c.push_reserved.new.self.items (c.get_mut.follows.lender c.add.new.self).entries c.trigger.inside.table c.args.trigger c.add.new.self c.in-Some.table.now c.self.view_is is
          (sym (ap TableTrigger.table c.trigger.view_is)) updates c.in-Some.ensures.value (ap TracedTableView.name c.in_ok-add-in-Some.ensures.ok) (ap TracedTableView.columns c.in_ok-add-in-Some.ensures.ok);
      rounds = ap QueuesView.rounds c.self.view_is;
    }
