use Rattle.std.proofs.Common.{◌∷◌, subst}
use Rattle.sky_model.specs.Grammar.{statement_of}
use Rattle.sky_script.specs.Reading.{IsAnswer}
use Rattle.sky_script.proofs.FormLemmas.{states}
use Rattle.sky_script.proofs.words.Words.statement.Goals as goal

pub returns : goal.returns
returns c =
    subst (λ first. IsAnswer c.read_form.result (statement_of (first ∷ c.args.self.now.left))) c.as_bytes.ensures.value
    (states _ _ _ c.requires c.read_form.ensures)
