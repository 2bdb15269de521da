use Rattle.std.proofs.Common.{rules, arith, Some, Ok, subst, sym}
use Rattle.sky_model.specs.Grammar as grammar
use Rattle.sky_script.specs.Reading.{Answers}
use Rattle.sky_script.proofs.ReadingLemmas.{answers_memory}
use Rattle.sky_script.proofs.queue_forms.extra.Goals as goal

pub returns : goal.returns
returns c queue ev_type ev_data =
    subst (λ extra. Answers (Ok (grammar.inserted_event queue ev_type ev_data (Some extra))) (grammar.extra_row queue ev_type ev_data) c.args.words.now)
    (sym c.in_ok-new.ensures) (search rules)

pub returns-in_err-new : goal.returns-in_err-new
returns-in_err-new c = grind (arith, answers_memory)
