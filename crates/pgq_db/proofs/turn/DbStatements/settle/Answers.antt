use Rattle.std.proofs.Common.{w64}
use Rattle.std.proofs.lemmas.Int.{to_z-of_z}
use Rattle.pgq_db.proofs.turn.DbStatements.settle.Goals as goal

pub returns-clause-adds : goal.returns-clause-adds
returns-clause-adds g c = rw (to_z-of_z w64 c.args.now c.ranges.now) at c.run_rows.ensures.adds

pub returns-clause-moments : goal.returns-clause-moments
returns-clause-moments g c = rw (to_z-of_z w64 c.args.now c.ranges.now) at c.run_rows.ensures.moments
