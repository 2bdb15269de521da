use Rattle.std.proofs.Common.{◌≡◌, ◌∙◌, sym, ap, arith}
use Rattle.sky_model.specs.CopyMoves.{copy_consumer}
use Rattle.sky_model.specs.StepNode.{table_number}
use Rattle.londiste_copy.proofs.CatchingUp.{leaves-moves}
use Rattle.londiste_copy.proofs.catching_up.hand_over.Goals as goal

pub returns-clause-moves : goal.returns-clause-moves
returns-clause-moves g c =
    let p = g.D.Store.seen c.args.provider.now in
    let come : c.args.reached ≡ c.args.at = grind (arith, c.if-reached-at.false) in
    leaves-moves p (g.D.Store.seen c.part.new.self) (g.D.Store.seen c.args.replica.now) (g.D.Store.seen c.move_table.new.replica) c.args.table.now.name.now c.in_ok-consumer.consumer c.in_ok-name.name c.args.at c.move_table.new.replies.items
    (sym c.requires.reached ∙ come) (c.in_ok-consumer.ensures ∙ ap copy_consumer c.node.ensures) c.in_ok-name.ensures c.part.ensures.serves (c.in_ok-move_table.ensures p)

pub move_table-requires-clause-number : goal.move_table-requires-clause-number
move_table-requires-clause-number g c = ap (table_number (g.D.Store.seen c.args.replica.now)) c.in_ok-name.ensures ∙ c.requires.number
