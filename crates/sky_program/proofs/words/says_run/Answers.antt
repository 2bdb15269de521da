use Rattle.std.proofs.Common.{◌∙◌}
use Rattle.clap.specs.Words.{found_of}
use Rattle.sky_program.proofs.WordsLemmas.{says_run-found}
use Rattle.sky_program.proofs.words.says_run.Goals as goal

pub returns-in-Some-None : goal.returns-in-Some-None
returns-in-Some-None c = c.eq.ensures ∙ says_run-found (found_of c.args.matches.now) _ _ c.in-Some-None.ensures c.in-Some-None.ensures'

pub returns-in_default : goal.returns-in_default
returns-in_default c = says_run-found (found_of c.args.matches.now) _ _ c.in_default.ensures c.in_default.ensures'

pub returns-in_default-2 : goal.returns-in_default-2
returns-in_default-2 c = says_run-found (found_of c.args.matches.now) _ _ c.in_default.ensures c.get_strs.ensures
