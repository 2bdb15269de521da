use Rattle.std.proofs.Common.{Ok, Err, ap}
use Rattle.sky_loop.proofs.ParsedLemmas.{OnOk-both, IfErr-both}
use Rattle.sky_loop.proofs.RunningLemmas.{GoesOn-line}
use Rattle.sky_loop.proofs.EndLemmas.{GoesOn-bad_line, GoesOn-fault}
use Rattle.sky_loop.proofs.run.Run.line.Goals as goal

pub returns-in-Ok-true-clause-goes : goal.returns-in-Ok-true-clause-goes
returns-in-Ok-true-clause-goes g c =
    let takes = c.in-Ok-true.ensures.line (ap Ok c.in-Ok-true.field-0-test) in
    OnOk-both c.answer.result c.answer.ensures.answers c.answer.ensures.number
    (λ answers number first held bytes goes. rw (number, c.answer.ensures.reader)
    (GoesOn-line c.args.self.now.reader c.advance.new.self (g.S.Source.left c.advance.new.src) c.advance.new.self.line takes answers goes))

pub returns-in-Ok-true-clause-ends : goal.returns-in-Ok-true-clause-ends
returns-in-Ok-true-clause-ends g c =
    let takes = c.in-Ok-true.ensures.line (ap Ok c.in-Ok-true.field-0-test) in
    IfErr-both c.answer.result _ _ c.answer.ensures.bad c.answer.ensures.err
    (λ end is_bad kept first held bytes goes. rw kept
    (GoesOn-bad_line end c.args.self.now.reader c.advance.new.self (g.S.Source.left c.advance.new.src) c.advance.new.self.line takes is_bad goes))

pub returns-in-Err-clause-ends : goal.returns-in-Err-clause-ends
returns-in-Err-clause-ends g c = λ first held bytes goes. rw c.end_of.ensures
    (GoesOn-fault c.in-Err.fault c.args.self.now.reader c.advance.new.self (g.S.Source.left c.advance.new.src)
    (λ left told. c.in-Err.ensures.bad left told c.requires.counts.sound)
    (λ is_read left told. c.in-Err.ensures.read (ap Err is_read) left told c.requires.counts.sound)
    goes)
