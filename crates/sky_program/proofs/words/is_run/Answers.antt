use Rattle.std.proofs.Common.{ap, ◌∙◌, sym, true≢false}
use Rattle.sky_model.specs.Transcript.{is_run}
use Rattle.sky_program.specs.Statuses.{texts}
use Rattle.sky_program.specs.Words.{mode_in, says_run, values_in}
use Rattle.sky_program.proofs.WordsLemmas.{app_is_simple, not_run, refused_texts, says_run_texts}
use Rattle.sky_program.proofs.words.is_run.Goals as goal

pub returns-then-is_refused : goal.returns-then-is_refused
returns-then-is_refused c =
    refused_texts c.as_slice-words.result.now (sym c.is_refused.ensures ∙ c.if-is_refused.true)
    ∙ ap (λ words. is_run (texts words)) c.as_slice-words.ensures.value

pub returns-in-Ok : goal.returns-in-Ok
returns-in-Ok c =
    c.says_run.ensures ∙ ap (λ rows. says_run (mode_in rows) (values_in rows)) (c.in-Ok.ensures.ok app_is_simple).0
    ∙ says_run_texts c.as_slice-words.result.now (sym c.is_refused.ensures ∙ c.if-is_refused.false)
    ∙ ap (λ words. is_run (texts words)) c.as_slice-words.ensures.value

pub returns-in-Err-2 : goal.returns-in-Err-2
returns-in-Err-2 c =
    not_run (texts c.as_slice-words.result.now) (λ taken. true≢false (sym (rw (c.kind.ensures ∙ c.in-Err.ensures.err taken) at c.eq.ensures) ∙ c.if-eq.false))
    ∙ ap (λ words. is_run (texts words)) c.as_slice-words.ensures.value
