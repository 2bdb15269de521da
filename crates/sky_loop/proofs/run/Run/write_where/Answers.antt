use Rattle.std.proofs.lemmas.Result.{on_ok_weaker, IfErr-weaker}
use Rattle.sky_loop.proofs.RunningLemmas.{Goes-written}
use Rattle.sky_loop.proofs.EndLemmas.{GoesOn-cut}
use Rattle.sky_loop.proofs.run.Run.write_where.Goals as goal

pub returns-then-wanted-clause-goes : goal.returns-then-wanted-clause-goes
returns-then-wanted-clause-goes g c = on_ok_weaker c.write.result
    (λ appends source first bytes goes. Goes-written g.D.Store.seen c.args.self.now c.write.new.self source first _ _ bytes c.write.ensures.same c.write.ensures.emptied appends goes)
    c.write.ensures.ok

pub returns-then-wanted-clause-ends : goal.returns-then-wanted-clause-ends
returns-then-wanted-clause-ends g c = IfErr-weaker c.write.result _ _
    (λ end is_cut source after first bytes goes. GoesOn-cut end after _ c.write.ensures.prefix is_cut goes)
    c.write.ensures.cut
