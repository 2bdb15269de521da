use Rattle.std.proofs.Common.{◌∙◌, None, sym, ap, subst}
use Rattle.londiste_state.specs.declared.state.TableState.TheVariants.{WannaSync}
use Rattle.sky_model.specs.WorkerMoves.{moves_to}
use Rattle.sky_model.specs.CopyMoves.{has_caught_up}
use Rattle.sky_model.specs.StepNode.{table_number}
use Rattle.londiste_batches.specs.Moved.{MovesBy}
use Rattle.londiste_copy.specs.CatchingUp.{the_table}
use Rattle.londiste_copy.proofs.CatchingUp.{name-of, waits-now}
use Rattle.londiste_copy.proofs.catching_up.catch_up.Goals as goal

pub returns-then-has_caught_up-clause-moves : goal.returns-then-has_caught_up-clause-moves
returns-then-has_caught_up-clause-moves g c =
    let p = g.D.Store.seen c.args.provider.now in
    let r = g.D.Store.seen c.args.replica.now in
    let table = c.args.table.now.name.now in
    let t = the_table table r.node in
    let caught = sym (c.has_caught_up.ensures ∙ ap (λ n. has_caught_up p (the_table table n)) c.node.ensures) ∙ c.if-has_caught_up.true in
    let name = c.in_ok-name.ensures ∙ sym (name-of table r.node) in
    subst (λ checked. MovesBy checked p p r (g.D.Store.seen c.move_table.new.replica) c.move_table.new.replies.items None)
    ((λ i. moves_to (WannaSync (c.requires.reached i)) (name i)) ∙ sym (waits-now p r t caught))
    (c.in_ok-move_table.ensures p)

pub move_table-requires-clause-number : goal.move_table-requires-clause-number
move_table-requires-clause-number g c = ap (table_number (g.D.Store.seen c.args.replica.now)) c.in_ok-name.ensures ∙ c.requires.number
