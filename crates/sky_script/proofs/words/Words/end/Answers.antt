use Rattle.std.proofs.Common.{ap, subst, is_some}
use Rattle.sky_model.proofs.FirstWords.{HasFirst}
use Rattle.sky_script.proofs.ReadingLemmas.{has_first_in, stop_goes_on}
use Rattle.sky_script.proofs.words.Words.end.Goals as goal

pub returns-in-Some-clause-err : goal.returns-in-Some-clause-err
returns-in-Some-clause-err c = λ stmt.
    let some = has_first_in c.self.inside.rest (ap is_some c.in-Some.is) in
    rw c.missing.ensures (stop_goes_on stmt _ (subst HasFirst (ap (λ at. at.left) c.self.view_is) some))
