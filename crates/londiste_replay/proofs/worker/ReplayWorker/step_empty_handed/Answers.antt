use Rattle.std.proofs.Common.{rules, ◌∙◌, sym, ap, subst, IfOk, None}
use Rattle.std.specs.Prelude.{IfErr}
use Rattle.londiste_state.specs.declared.state.TableState.TheVariants.{InCopy, DoSync}
use Rattle.londiste_state.specs.Nodes.{is_among}
use Rattle.sky_model.specs.Nodes.{leaf_tables}
use Rattle.sky_model.specs.StepNode.{may_move}
use Rattle.sky_model.specs.WorkerMoves.{moves_to}
use Rattle.sky_model.specs.ReplayMoves.{empty_handed_move, is_handed_over, is_met}
use Rattle.londiste_batches.specs.Moved.{MovesBy, MoveRefused}
use Rattle.londiste_replay.proofs.Going.{none-found, one-leaf, goes-met, goes-copy, takes-as}
use Rattle.londiste_replay.proofs.TableNames.{has-first, has-next, may-hand_over, may-copy_next}
use Rattle.londiste_replay.proofs.worker.ReplayWorker.step_empty_handed.Goals as goal

pub leaf_table-number-requires-clause-among : goal.leaf_table-number-requires-clause-among
leaf_table-number-requires-clause-among g c =
    (λ i. is_among (c.in_ok-table.ensures i) (leaf_tables (g.D.Store.seen c.args.replica.now).node))
    ∙ has-first (g.D.Store.seen c.args.replica.now) c.requires.1.0 c.leaf_in-leaf.result.now (sym c.node.ensures ∙ c.leaf_in-leaf.ensures) (is_met c.leaf_in-leaf.result.now.tick) c.in-Some-first_in.table.now
    (sym (c.in-Some-first_in.ensures (is_met c.leaf_in-leaf.result.now.tick) (λ state b post. search (rules, post))))

pub leaf_table-number-requires-in-Some-next_to_copy-clause-among : goal.leaf_table-number-requires-in-Some-next_to_copy-clause-among
leaf_table-number-requires-in-Some-next_to_copy-clause-among g c =
    (λ i. is_among (c.in_ok-table-2.ensures i) (leaf_tables (g.D.Store.seen c.args.replica.now).node))
    ∙ has-next (g.D.Store.seen c.args.replica.now) c.requires.1.0 c.leaf_in-leaf.result.now (sym c.node.ensures ∙ c.leaf_in-leaf.ensures) c.in-Some-next_to_copy.table.now (sym c.in-Some-next_to_copy.ensures)

pub move_table-requires-clause-may : goal.move_table-requires-clause-may
move_table-requires-clause-may g c =
    (λ i. may_move (c.in_ok-table.ensures i) (DoSync (c.tick.ensures i)) (g.D.Store.seen c.args.replica.now).node)
    ∙ may-hand_over (g.D.Store.seen c.args.replica.now) c.requires.1.0 c.leaf_in-leaf.result.now (sym c.node.ensures ∙ c.leaf_in-leaf.ensures) c.in-Some-first_in.table.now (sym (c.in-Some-first_in.ensures (is_met c.leaf_in-leaf.result.now.tick) (λ state b post. search (rules, post))))

pub returns-in-Some-first_in-clause-moves : goal.returns-in-Some-first_in-clause-moves
returns-in-Some-first_in-clause-moves g c =
    let p = g.D.Store.seen c.args.provider.now in
    let leaf = c.leaf_in-leaf.result.now in
    let free = none-found c.first_in.result _ (c.first_in.ensures is_handed_over (λ state b post. search (rules, post))) c.in_default.not-Some in
    subst (λ checked. MovesBy checked p p (g.D.Store.seen c.args.replica.now) (g.D.Store.seen c.move_table.new.replica) c.move_table.new.replies.items None)
    ((λ i. moves_to (DoSync (c.tick.ensures i)) (c.in_ok-table.ensures i)) ∙ sym (goes-met p leaf free c.in-Some-first_in.table.now (sym (c.in-Some-first_in.ensures (is_met c.leaf_in-leaf.result.now.tick) (λ state b post. search (rules, post)))))
    ∙ ap (empty_handed_move p) (one-leaf leaf g.leaf _ (sym c.node.ensures ∙ c.leaf_in-leaf.ensures) c.requires.1.1.1.0))
    (c.in_ok-move_table.ensures p)

pub move_table-requires-in-Some-next_to_copy-clause-may : goal.move_table-requires-in-Some-next_to_copy-clause-may
move_table-requires-in-Some-next_to_copy-clause-may g c =
    (λ i. may_move (c.in_ok-table-2.ensures i) InCopy (g.D.Store.seen c.args.replica.now).node)
    ∙ may-copy_next (g.D.Store.seen c.args.replica.now) c.requires.1.0 c.leaf_in-leaf.result.now (sym c.node.ensures ∙ c.leaf_in-leaf.ensures) c.in-Some-next_to_copy.table.now (sym c.in-Some-next_to_copy.ensures)

pub returns-in-Some-next_to_copy-clause-moves : goal.returns-in-Some-next_to_copy-clause-moves
returns-in-Some-next_to_copy-clause-moves g c =
    let p = g.D.Store.seen c.args.provider.now in
    let leaf = c.leaf_in-leaf.result.now in
    let free = none-found c.first_in.result _ (c.first_in.ensures is_handed_over (λ state b post. search (rules, post))) c.in_default.not-Some in
    let unmet = none-found c.first_in-2.result _ (c.first_in-2.ensures (is_met leaf.tick) (λ state b post. search (rules, post))) c.in_default-first_in.not-Some in
    subst (λ checked. MovesBy checked p p (g.D.Store.seen c.args.replica.now) (g.D.Store.seen c.move_table-in-Some-next_to_copy.new.replica) c.move_table-in-Some-next_to_copy.new.replies.items None)
    (ap (moves_to InCopy) c.in_ok-table-2.ensures ∙ sym (goes-copy p leaf free unmet c.in-Some-next_to_copy.table.now (sym c.in-Some-next_to_copy.ensures))
    ∙ ap (empty_handed_move p) (one-leaf leaf g.leaf _ (sym c.node.ensures ∙ c.leaf_in-leaf.ensures) c.requires.1.1.1.0))
    (c.in_ok-move_table-2.ensures p)

pub returns-clause-moves : goal.returns-clause-moves
returns-clause-moves g c =
    let p = g.D.Store.seen c.args.provider.now in
    let leaf = c.leaf_in-leaf.result.now in
    let same = one-leaf leaf g.leaf _ (sym c.node.ensures ∙ c.leaf_in-leaf.ensures) c.requires.1.1.1.0 in
    let free = none-found c.first_in.result _ (c.first_in.ensures is_handed_over (λ state b post. search (rules, post))) c.in_default.not-Some in
    let unmet = none-found c.first_in-2.result _ (c.first_in-2.ensures (is_met leaf.tick) (λ state b post. search (rules, post))) c.in_default-first_in.not-Some in
    let none = none-found c.next_to_copy.result _ c.next_to_copy.ensures c.in_default-next_to_copy.not-Some in
    subst (λ checked. IfOk c.take_leaf_batch.result (λ now. MovesBy checked p (g.D.Store.seen c.take_leaf_batch.new.provider) (g.D.Store.seen c.args.replica.now) (g.D.Store.seen c.args.replica.now) c.take_leaf_batch.new.replies.items now))
    (takes-as p leaf g.leaf same free unmet none) c.take_leaf_batch.ensures.moves

pub returns-clause-fault : goal.returns-clause-fault
returns-clause-fault g c =
    let p = g.D.Store.seen c.args.provider.now in
    let leaf = c.leaf_in-leaf.result.now in
    let same = one-leaf leaf g.leaf _ (sym c.node.ensures ∙ c.leaf_in-leaf.ensures) c.requires.1.1.1.0 in
    let free = none-found c.first_in.result _ (c.first_in.ensures is_handed_over (λ state b post. search (rules, post))) c.in_default.not-Some in
    let unmet = none-found c.first_in-2.result _ (c.first_in-2.ensures (is_met leaf.tick) (λ state b post. search (rules, post))) c.in_default-first_in.not-Some in
    let none = none-found c.next_to_copy.result _ c.next_to_copy.ensures c.in_default-next_to_copy.not-Some in
    subst (λ checked. IfErr c.take_leaf_batch.result (λ fault. MoveRefused fault checked p (g.D.Store.seen c.take_leaf_batch.new.provider) (g.D.Store.seen c.args.replica.now) (g.D.Store.seen c.args.replica.now) None None))
    (takes-as p leaf g.leaf same free unmet none) c.take_leaf_batch.ensures.fault
