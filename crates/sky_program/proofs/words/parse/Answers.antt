use Rattle.std.proofs.Common.{ap, ◌∙◌}
use Rattle.std.proofs.lemmas.Result.{IfErr-weaker}
use Rattle.clap.specs.Words.{takes}
use Rattle.sky_program.specs.Statuses.{texts}
use Rattle.sky_program.proofs.words.parse.Goals as goal

pub returns-clause-err : goal.returns-clause-err
returns-clause-err c =
    IfErr-weaker c.try_get_matches_from.result _ _ (λ e h taken. h (ap (λ a. takes a (texts c.args.words.now)) c.in_ok-command.ensures ∙ taken)) c.try_get_matches_from.ensures.passes
