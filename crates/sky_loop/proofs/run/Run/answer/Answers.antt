use Rattle.std.proofs.Common.{Err, refl}
use Rattle.sky_loop.proofs.ParsedLemmas.{Tells-parsed, said_in-utf8, said_in-not_utf8}
use Rattle.sky_loop.proofs.run.Run.answer.Goals as goal

pub returns-in_default-clause-bad : goal.returns-in_default-clause-bad
returns-in_default-clause-bad g c = (refl, said_in-not_utf8 c.args.self.now.reader.line c.in_default.ensures)

pub returns-in-Ok-clause-answers : goal.returns-in-Ok-clause-answers
returns-in-Ok-clause-answers g c =
    let says = said_in-utf8 c.in-Some.line.now c.in-Ok.ensures.utf8 in
    let line_says = rw c.in-Some.ensures at says in
    let answers = rw c.in-Some.ensures at c.in-Ok.ensures.answers in
    rw line_says answers

pub returns-in-Err-clause-bad : goal.returns-in-Err-clause-bad
returns-in-Err-clause-bad g c =
    let says = Tells-parsed c.args.self.now.number c.in-Some.line.now (Err c.in-Err.cause) c.in-Err.ensures.utf8 c.in-Err.ensures.bad in
    rw c.end_by.ensures (rw c.in-Some.ensures at says)
