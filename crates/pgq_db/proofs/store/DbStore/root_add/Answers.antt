use Rattle.std.proofs.Common.{◌≡◌, ◌<◌, ◌≤◌, Some, true, length, refl, sym, ap, ◌∙◌, subst, arith}
use Rattle.sky_model.specs.History.{queued, traced, set_added, set_removed}
use Rattle.sky_model.specs.Nodes.{after_node}
use Rattle.sky_model.specs.ShownRows.{least_writer}
use Rattle.sky_model.specs.State.{after_mark}
use Rattle.sky_model.specs.StepNode.{listing, may_serve}
use Rattle.sky_model.specs.Triggers.{TableTrigger, triggers_of}
use Rattle.sky_state.specs.Seen.{seen}
use Rattle.pgq_queues.specs.Seen.{seen_with}
use Rattle.pgq_parts.specs.Views.{DbView}
use Rattle.pgq_parts.specs.Seen.{seen_database}
use Rattle.sky_store.specs.Served.{RootRefused}
use Rattle.pgq_parts.proofs.Databases.{table-there, table-low}
use Rattle.pgq_parts.proofs.Tables.{is-table}
use Rattle.pgq_parts.proofs.Agreeing.{agree-traced}
use Rattle.pgq_parts.proofs.NodeSteps.{set_added-back, back-as, serves-by, steps-unless, listing-nowhere, list-full, list-busy, list-does, set_added-as}
use Rattle.sky_store.proofs.Serving.{serves-steps}
use Rattle.pgq_db.proofs.store.DbStore.root_add.Goals as goal

pub returns-in_default-clause-serves : goal.returns-in_default-clause-serves
returns-in_default-clause-serves g c = listing-nowhere (seen_database c.args.self.now) c.args.table.now c.requires.may (sym c.in_default.ensures.queue)

pub returns-in_default-clause-steps : goal.returns-in_default-clause-steps
returns-in_default-clause-steps g c =
    serves-steps (seen_database c.args.self.now) _ (listing c.args.table.now) (listing-nowhere (seen_database c.args.self.now) c.args.table.now c.requires.may (sym c.in_default.ensures.queue))

pub schema-schema-requires : goal.schema-schema-requires
schema-schema-requires g c = table-low _ _ c.args.table.now c.args.number c.self.view_is c.requires.number

pub returns-then-trigger_count-most-clause-fault : goal.returns-then-trigger_count-most-clause-fault
returns-then-trigger_count-most-clause-fault g c =
    let number = c.args.number in
    let many : 8 ≤ c.trigger_count.result = omega (arith, c.most.ensures, c.if-trigger_count-most.true) in
    record {
      refused = list-full (seen_database c.args.self.now) c.in-Some.queue c.args.table.now number c.requires.may (sym c.in-Some.ensures.queue) c.requires.number c.trigger_count.result
          (c.trigger_count.ensures ∙ ap (λ (v : DbView). length (triggers_of number v.queues.triggers)) c.self.view_is) many;
      same = refl;
    }

pub returns-in-Some-least_writer-clause-serves : goal.returns-in-Some-least_writer-clause-serves
returns-in-Some-least_writer-clause-serves g c =
    let d = seen_database c.args.self.now in
    let name = c.args.table.now in
    let number = c.args.number in
    let count = c.trigger_count.ensures ∙ ap (λ (v : DbView). length (triggers_of number v.queues.triggers)) c.self.view_is in
    let few : c.trigger_count.result < 8 = omega (arith, c.most.ensures, c.if-trigger_count-most.false) in
    record {
      refused = list-busy d c.in-Some.queue name number c.requires.may (sym c.in-Some.ensures.queue) c.requires.number c.trigger_count.result c.in-Some-least_writer.txid count few
          (c.in-Some-least_writer.ensures ∙ ap (λ (v : DbView). least_writer (seen v.rows) number) c.self.view_is);
      same = refl;
    }

pub returns-in-Some-least_writer-clause-steps : goal.returns-in-Some-least_writer-clause-steps
returns-in-Some-least_writer-clause-steps g c =
    let d = seen_database c.args.self.now in
    let name = c.args.table.now in
    let number = c.args.number in
    let count = c.trigger_count.ensures ∙ ap (λ (v : DbView). length (triggers_of number v.queues.triggers)) c.self.view_is in
    let few : c.trigger_count.result < 8 = omega (arith, c.most.ensures, c.if-trigger_count-most.false) in
    steps-unless d d (listing name) (Some c.in-Some-least_writer.txid) (record {
      refused = list-busy d c.in-Some.queue name number c.requires.may (sym c.in-Some.ensures.queue) c.requires.number c.trigger_count.result c.in-Some-least_writer.txid count few
          (c.in-Some-least_writer.ensures ∙ ap (λ (v : DbView). least_writer (seen v.rows) number) c.self.view_is);
      same = refl;
    })

pub invariant_of-self-in-Err : goal.invariant_of-self-in-Err
invariant_of-self-in-Err g c = λ e.
    let there = table-there _ _ c.args.table.now c.args.number c.self.view_is c.requires.number in
    let at = there ∙ ap Some (sym (ap TableTrigger.table c.set_trigger-trigger.ensures)) in
    agree-traced (seen (g.R.RowStore.state c.self.inside.rows)) c.self.inside.queues c.trace.new.self c.trace.ensures.rounds
    (c.trace.ensures.tables (seen (g.R.RowStore.state c.self.inside.rows)) (is-table (seen (g.R.RowStore.state c.self.inside.rows)) c.args.table.now c.set_trigger-trigger.result.table _ _ at there c.schema-schema.ensures) (c.self.invariant e).tables) (c.self.invariant e)

pub invariant_of-self-in_default-trace : goal.invariant_of-self-in_default-trace
invariant_of-self-in_default-trace g c = λ e.
    let there = table-there _ _ c.args.table.now c.args.number c.self.view_is c.requires.number in
    let at = there ∙ ap Some (sym (ap TableTrigger.table c.set_trigger-trigger.ensures)) in
    agree-traced (seen (g.R.RowStore.state c.self.inside.rows)) c.self.inside.queues c.trace.new.self c.trace.ensures.rounds
    (c.trace.ensures.tables (seen (g.R.RowStore.state c.self.inside.rows)) (is-table (seen (g.R.RowStore.state c.self.inside.rows)) c.args.table.now c.set_trigger-trigger.result.table _ _ at there c.schema-schema.ensures) (c.self.invariant e).tables) (c.self.invariant e)

pub returns-clause-serves : goal.returns-clause-serves
returns-clause-serves g c =
    let d = seen_database c.args.self.now in
    let name = c.args.table.now in
    let number = c.args.number in
    let count = c.trigger_count.ensures ∙ ap (λ (v : DbView). length (triggers_of number v.queues.triggers)) c.self.view_is in
    let few : c.trigger_count.result < 8 = omega (arith, c.most.ensures, c.if-trigger_count-most.false) in
    serves-by d _ (listing name) _
    (list-does d c.in-Some.queue name number c.requires.may (sym c.in-Some.ensures.queue) c.requires.number c.trigger_count.result count few
    (c.in_default-least_writer.ensures ∙ ap (λ (v : DbView). least_writer (seen v.rows) number) c.self.view_is))
    (set_added-as _ _ c.trace.new.self c.add_root_table.new.node c.in-Some.queue number name c.self.view_is
    (λ beside. c.in_default-trace.ensures.ok beside ∙ ap (λ (t : TableTrigger). after_mark (seen_with beside c.self.inside.queues) (queued (traced t.table t.name t.trigger))) c.set_trigger-trigger.ensures)
    (c.in_ok-add_root_table.ensures.ok ∙ ap (λ n. after_node (set_added n) c.self.inside.node.own) c.in_ok-name.ensures))

pub returns-clause-steps : goal.returns-clause-steps
returns-clause-steps g c =
    let d = seen_database c.args.self.now in
    let name = c.args.table.now in
    let number = c.args.number in
    let count = c.trigger_count.ensures ∙ ap (λ (v : DbView). length (triggers_of number v.queues.triggers)) c.self.view_is in
    let few : c.trigger_count.result < 8 = omega (arith, c.most.ensures, c.if-trigger_count-most.false) in
    serves-steps d _ (listing name)
    (serves-by d _ (listing name) _
    (list-does d c.in-Some.queue name number c.requires.may (sym c.in-Some.ensures.queue) c.requires.number c.trigger_count.result count few
    (c.in_default-least_writer.ensures ∙ ap (λ (v : DbView). least_writer (seen v.rows) number) c.self.view_is))
    (set_added-as _ _ c.trace.new.self c.add_root_table.new.node c.in-Some.queue number name c.self.view_is
    (λ beside. c.in_default-trace.ensures.ok beside ∙ ap (λ (t : TableTrigger). after_mark (seen_with beside c.self.inside.queues) (queued (traced t.table t.name t.trigger))) c.set_trigger-trigger.ensures)
    (c.in_ok-add_root_table.ensures.ok ∙ ap (λ n. after_node (set_added n) c.self.inside.node.own) c.in_ok-name.ensures)))

pub returns-in-Err-clause-fault : goal.returns-in-Err-clause-fault
returns-in-Err-clause-fault g c =
    let name = c.args.table.now in
    let v = c.self.inside in
    subst (λ fault. RootRefused fault (seen_database c.args.self.now) (seen_database (record { rows = g.R.RowStore.state v.rows; queues = c.trace.new.self; node = record v.node { own = c.remove_root_table.new.node } })) name) (sym c.from.ensures)
    (back-as _ _ c.trace.new.self c.remove_root_table.new.node c.self.view_is c.in-Err.ensures.err
    (c.remove_root_table.ensures ∙ ap (after_node (set_removed name)) (c.in_ok-add_root_table.ensures.ok ∙ ap (λ n. after_node (set_added n) v.node.own) c.in_ok-name.ensures)
    ∙ set_added-back v.node.own name (subst (λ (w : DbView). may_serve (listing name) w.node.own ≡ true) (sym c.self.view_is) c.requires.may)))
