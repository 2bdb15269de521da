use Rattle.sky_model.specs.StepNode.{giving_up_copy}
use Rattle.pgq_parts.specs.Seen.{seen_database}
use Rattle.pgq_parts.proofs.CopySteps.{may-named, drop-does, runs-now}
use Rattle.sky_store.proofs.Serving.{serves-steps}
use Rattle.pgq_db.proofs.store.DbStore.copy_drop.Goals as goal

pub give_up_copy-requires : goal.give_up_copy-requires
give_up_copy-requires g c = runs-now (seen_database c.args.self.now) c.requires.made c.args.table

pub returns-clause-serves : goal.returns-clause-serves
returns-clause-serves g c = λ name number.
    drop-does c.args.self.now name c.args.table (may-named (seen_database c.args.self.now) c.args.table c.requires.may name number) number (seen_database c.give_up_copy.new.self) (c.give_up_copy.ensures name)

pub returns-clause-steps : goal.returns-clause-steps
returns-clause-steps g c = λ name number.
    serves-steps (seen_database c.args.self.now) _ (giving_up_copy name)
    (drop-does c.args.self.now name c.args.table (may-named (seen_database c.args.self.now) c.args.table c.requires.may name number) number (seen_database c.give_up_copy.new.self) (c.give_up_copy.ensures name))
