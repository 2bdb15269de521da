use Rattle.sky_rows.specs.Rows.{rows_in}
use Rattle.sky_rows.proofs.RowChanges.{in_order}
use Rattle.sky_rows.proofs.Visited.{none_visited, next_visited, all_visited}
use Rattle.sky_rows.proofs.table.forget_everywhere.Goals as goal

pub loop-place-init : goal.loop-place-init
loop-place-init c = none_visited c.args.txid c.end-place-end.result c.args.older.now c.args.rows.now c.end-place-end.ensures.above c.end-place-end.ensures.there c.requires.kept c.requires.own

pub forget-requires : goal.forget-requires
forget-requires c = c.loop-place.invariant.own

pub loop-place-preserved : goal.loop-place-preserved
loop-place-preserved c =
    next_visited c.args.txid _ _ c.loop-place.older c.forget.new.older c.loop-place.rows c.forget.new.self c.loop-place.place c.end-place-end.result c.loop-place.invariant
    c.forget.ensures.entries c.forget.ensures.none (in_order c.loop-place.older (rows_in c.loop-place.rows) c.forget.ensures.order) c.forget.ensures.others c.forget.ensures.own

pub returns-clause-entries : goal.returns-clause-entries
returns-clause-entries c = all_visited _ _ _ _ _ _ _ c.loop-place.invariant c.loop-place-test.false

pub returns-clause-own : goal.returns-clause-own
returns-clause-own c = c.loop-place.invariant.own
