use Rattle.pgq_parts.specs.Seen.{seen_database}
use Rattle.sky_model.specs.StepNode.{making_leaf}
use Rattle.pgq_parts.proofs.NodeSteps.{leaf-if, steps-if}
use Rattle.pgq_db.proofs.store.DbStore.make_leaf.Goals as goal

pub returns-clause-serves : goal.returns-clause-serves
returns-clause-serves g c = leaf-if _ _ c.make_leaf.new.node c.args.name.now c.args.provider.now c.args.tick c.make_leaf.result c.self.view_is c.requires c.make_leaf.ensures.ok

pub returns-clause-steps : goal.returns-clause-steps
returns-clause-steps g c =
    steps-if c.make_leaf.result (seen_database c.args.self.now) _ (making_leaf c.args.name.now c.args.provider.now c.args.tick)
    (leaf-if _ _ c.make_leaf.new.node c.args.name.now c.args.provider.now c.args.tick c.make_leaf.result c.self.view_is c.requires c.make_leaf.ensures.ok)
