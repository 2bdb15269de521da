use Rattle.std.proofs.Common.{option_map, ap, sym, ◌∙◌}
use Rattle.sky_model.specs.declared.reply.Refusal.TheVariants.{Serialize}
use Rattle.sky_model.specs.Outcome.{refused_by}
use Rattle.sky_row_statements.proofs.row_statements.check_seen.Goals as goal

pub returns-in-Some-clause-err : goal.returns-in-Some-clause-err
returns-in-Some-clause-err c = ap (λ unseen. refused_by (option_map Serialize unseen)) (sym c.unseen.ensures ∙ c.in-Some.is)

pub returns-in-None-clause-ok : goal.returns-in-None-clause-ok
returns-in-None-clause-ok c = ap (λ unseen. refused_by (option_map Serialize unseen)) (sym c.unseen.ensures ∙ c.in-None.is)
