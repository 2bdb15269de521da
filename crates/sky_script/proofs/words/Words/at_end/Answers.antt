use Rattle.std.proofs.Common.{ap, subst, ◌∙◌, not}
use Rattle.sky_model.proofs.FirstWords.{HasFirst}
use Rattle.sky_script.proofs.ReadingLemmas.{has_first_in, some_left, either_goes_on}
use Rattle.sky_script.proofs.words.Words.at_end.Goals as goal

pub returns-clause-goes_on : goal.returns-clause-goes_on
returns-clause-goes_on c = λ more r stmt row rest.
    let some = has_first_in c.self.inside.rest (c.is_none.ensures ∙ ap not more) in
    either_goes_on r stmt row _ (subst HasFirst (ap (λ at. at.left) c.self.view_is) some) rest

pub returns-clause-some : goal.returns-clause-some
returns-clause-some c = λ more.
    let some = has_first_in c.self.inside.rest (c.is_none.ensures ∙ ap not more) in
    some_left _ (subst HasFirst (ap (λ at. at.left) c.self.view_is) some)
