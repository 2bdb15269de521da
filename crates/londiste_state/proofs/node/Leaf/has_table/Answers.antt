use Rattle.std.proofs.Common.{◌∙◌}
use Rattle.londiste_state.proofs.TableLists.{among-lent}
use Rattle.londiste_state.proofs.node.Leaf.has_table.Goals as goal

pub returns : goal.returns
returns c = c.is_some.ensures ∙ among-lent c.args.name.now c.args.self.now.tables c.table.result c.table.ensures
