use Rattle.std.proofs.Common.{[]}
use Rattle.sky_chain.specs.Chains.{nodes_of}
use Rattle.sky_chain.proofs.Reading.{front_place}
use Rattle.sky_chain.proofs.chains.Chains.push_front.Goals as goal

pub push-requires-clause-place : goal.push-requires-clause-place
push-requires-clause-place c = ([], nodes_of c.args.self.now c.args.list, front_place c.self.invariant.2 _ c.self.view_is _ _ c.requires.list c.index.ensures)

pub returns-clause-lists : goal.returns-clause-lists
returns-clause-lists c = c.push.ensures.lists [] (nodes_of c.args.self.now c.args.list) (front_place c.self.invariant.2 _ c.self.view_is _ _ c.requires.list c.index.ensures)
