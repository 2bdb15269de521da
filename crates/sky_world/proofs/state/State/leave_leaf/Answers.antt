use Rattle.std.proofs.Common.{◌∙◌, ap, is_some, option_copied}
use Rattle.londiste_state.specs.Nodes.{is_among}
use Rattle.sky_model.specs.Nodes.{leaf_tables}
use Rattle.sky_model.specs.State.{Database}
use Rattle.sky_model.specs.StepNode.{set_queue, table_number}
use Rattle.sky_world.specs.Seen.{seen_state}
use Rattle.sky_world.specs.Workers.{lets_go_with, parts_with}
use Rattle.sky_world.proofs.LeavesLeaf.{hand-happened, other-happened, queue-happened, left-leaf}
use Rattle.sky_world.proofs.state.State.leave_leaf.Goals as goal

pub part_if-requires-clause-root : goal.part_if-requires-clause-root
part_if-requires-clause-root g c =
    queue-happened c.take_hand-hold.new.self c.let_go_if.new.self c.args.provider c.take_hand-hold.result c.let_go_if.ensures
    (ap (λ (d : Database). is_some (set_queue d)) (hand-happened c.args.self.now c.take_hand-hold.new.self c.args.database c.args.table.now c.args.provider c.take_hand-hold.ensures.happened) ∙ c.requires.root)

pub drop_from_leaf-requires-clause-may : goal.drop_from_leaf-requires-clause-may
drop_from_leaf-requires-clause-may g c =
    ap (λ (d : Database). is_among c.args.table.now (leaf_tables d.node))
    (other-happened c.let_go_if.new.self c.part_if.new.self c.args.provider c.args.database (parts_with (option_copied c.args.consumer)) c.requires.apart c.part_if.ensures
    ∙ other-happened c.take_hand-hold.new.self c.let_go_if.new.self c.args.provider c.args.database (lets_go_with c.take_hand-hold.result) c.requires.apart c.let_go_if.ensures
    ∙ hand-happened c.args.self.now c.take_hand-hold.new.self c.args.database c.args.table.now c.args.database c.take_hand-hold.ensures.happened)
    ∙ c.requires.may

pub drop_from_leaf-requires-clause-number : goal.drop_from_leaf-requires-clause-number
drop_from_leaf-requires-clause-number g c =
    ap (λ d. table_number d c.args.table.now)
    (other-happened c.let_go_if.new.self c.part_if.new.self c.args.provider c.args.database (parts_with (option_copied c.args.consumer)) c.requires.apart c.part_if.ensures
    ∙ other-happened c.take_hand-hold.new.self c.let_go_if.new.self c.args.provider c.args.database (lets_go_with c.take_hand-hold.result) c.requires.apart c.let_go_if.ensures
    ∙ hand-happened c.args.self.now c.take_hand-hold.new.self c.args.database c.args.table.now c.args.database c.take_hand-hold.ensures.happened)
    ∙ c.requires.number

pub returns : goal.returns
returns g c =
    left-leaf c.args.self.now c.take_hand-hold.new.self c.let_go_if.new.self c.part_if.new.self c.drop_from_leaf.new.self c.args.provider c.args.database c.args.table.now c.take_hand-hold.result (option_copied c.args.consumer)
    ((seen_state g.D.Store.seen c.args.self.now).hands c.args.database c.args.table.now) c.take_hand-hold.ensures.hold c.take_hand-hold.ensures.happened c.let_go_if.ensures c.part_if.ensures c.drop_from_leaf.ensures
