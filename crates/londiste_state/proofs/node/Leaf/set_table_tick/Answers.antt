use Rattle.std.proofs.Common.{arith, sym, ◌∙◌, ap}
use Rattle.std.specs.Prelude.{bytes_eq}
use Rattle.londiste_state.specs.Nodes.{with_tick}
use Rattle.londiste_state.proofs.TableLists.{changed-step, same-step}
use Rattle.londiste_state.proofs.node.Leaf.set_table_tick.Goals as goal
use Rattle.londiste_state.proofs.node.Leaf.set_table_tick.Goals.{then-eq, else-eq}

pub loop-table-preserved : goal.loop-table-preserved
loop-table-preserved c =
    let name = c.args.name.now in
    let change = with_tick c.args.tick in
    let tables = c.deref_mut-table-items.result.now in
    let items = c.loop-table.table-items in
    let tested = ap (bytes_eq name) (sym c.name.ensures) ∙ sym c.eq.ensures in
    elim c.if-eq.branch [
      | then-eq w ↦ w.table-items-is ∙ changed-step name change tables items c.loop-table.table-index c.table-item.result w.set_tick.new.self (omega arith) c.loop-table.invariant (tested ∙ w.if-eq.true) w.set_tick.ensures
      | else-eq w ↦ w.table-items-is ∙ same-step name change tables items c.loop-table.table-index c.table-item.result (omega arith) c.loop-table.invariant (tested ∙ w.if-eq.false)
    ]
