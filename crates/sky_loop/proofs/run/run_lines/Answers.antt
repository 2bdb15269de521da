use Rattle.sky_loop.proofs.RunningLemmas.{Goes-start}
use Rattle.sky_loop.proofs.run.run_lines.Goals as goal

pub returns-in-Ok-clause-ends : goal.returns-in-Ok-clause-ends
returns-in-Ok-clause-ends g c = λ bytes told. c.finish-end.ensures.ends _ bytes (Goes-start g.D.Store.seen c.in-Ok.fresh _ _ bytes c.in-Ok.ensures told)
