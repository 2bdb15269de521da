use Rattle.std.proofs.Common.{[], sym, ◌∙◌}
use Rattle.sky_chain.proofs.Apart.{first_is_between}
use Rattle.sky_chain.proofs.chains.Chains.pop_front.Goals as goal

pub unlink-requires : goal.unlink-requires
unlink-requires c = (c.args.list, [], _, first_is_between c.args.self.now _ _ c.requires (sym c.first.ensures ∙ c.in_ok-node.was))

pub returns-clause-lists : goal.returns-clause-lists
returns-clause-lists c = c.unlink.ensures.lists c.args.list [] _ (first_is_between c.args.self.now _ _ c.requires (sym c.first.ensures ∙ c.in_ok-node.was))
