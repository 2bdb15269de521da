use Rattle.std.proofs.Common.{rules, ◌≡◌, true}
use Rattle.sky_model.specs.StepNode.{may_copy}
use Rattle.sky_histories.proofs.CopyCalls.{leafs}
use Rattle.londiste_copy.proofs.copying.give_up.Goals as goal

pub leaf_table-number-requires-clause-among : goal.leaf_table-number-requires-clause-among
leaf_table-number-requires-clause-among g c =
    let may : may_copy c.args.table.now (g.D.Store.seen c.args.replica.now).node ≡ true = search rules in (leafs (g.D.Store.seen c.args.replica.now).node c.args.table.now may).among
