use Rattle.std.proofs.lemmas.Result.{err_from_is_err_and, on_ok_weaker, IfErr-weaker}
use Rattle.sky_loop.proofs.EndLemmas.{Ends-written, Ends-cut}
use Rattle.sky_loop.proofs.run.Run.turn.Goals as goal

pub returns-in_err-write_where-clause-ends : goal.returns-in_err-write_where-clause-ends
returns-in_err-write_where-clause-ends g c =
    let p = err_from_is_err_and c.from_residual.result c.from_residual.ensures.1 in
    rw (p.1, p.2) (λ first bytes goes. c.in_err-write_where.ensures.ends _ _ first bytes goes)

pub returns-in_err-write-in-Err-clause-ends : goal.returns-in_err-write-in-Err-clause-ends
returns-in_err-write-in-Err-clause-ends g c =
    let p = err_from_is_err_and c.from_residual-in_err-write-in-Err.result c.from_residual-in_err-write-in-Err.ensures.1 in
    let written = c.in_err-write-in-Err.ensures in
    rw (p.1, p.2) (λ first bytes goes. Ends-cut c.in_err-write-in-Err.field-0.0 _ _
    (c.in-Err.ensures.ends first _ bytes (c.in_ok-write_where.ensures.goes _ first bytes goes)) written.prefix written.cut)

pub returns-in_ok-write-in-Err-clause-ends : goal.returns-in_ok-write-in-Err-clause-ends
returns-in_ok-write-in-Err-clause-ends g c = λ first bytes goes.
    Ends-written _ (c.in-Err.ensures.ends first _ bytes (c.in_ok-write_where.ensures.goes _ first bytes goes)) c.in_ok-write-in-Err.ensures.ok

pub returns-in-Ok-clause-goes : goal.returns-in-Ok-clause-goes
returns-in-Ok-clause-goes g c =
    on_ok_weaker c.write_where-in-Ok.result
    (λ more first bytes goes. more _ first bytes (c.in-Ok.ensures.goes first _ bytes (c.in_ok-write_where.ensures.goes _ first bytes goes)))
    c.write_where-in-Ok.ensures.goes

pub returns-in-Ok-clause-ends : goal.returns-in-Ok-clause-ends
returns-in-Ok-clause-ends g c =
    IfErr-weaker c.write_where-in-Ok.result _ _
    (λ end ends first bytes goes. ends _ _ first bytes (c.in-Ok.ensures.goes first _ bytes (c.in_ok-write_where.ensures.goes _ first bytes goes)))
    c.write_where-in-Ok.ensures.ends
