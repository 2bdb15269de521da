use Rattle.std.proofs.Common.{ap, sym, ◌∙◌}
use Rattle.sky_model.specs.Grammar.{line_of_words, statement_of}
use Rattle.sky_loop.proofs.ParsedLemmas.{run_in_form}
use Rattle.sky_loop.proofs.calls.answer_text.Goals as goal

pub returns-clause-utf8 : goal.returns-clause-utf8
returns-clause-utf8 g c = c.utf8.line

pub answer_words-requires-clause-form : goal.answer_words-requires-clause-form
answer_words-requires-clause-form g c =
    run_in_form c.args.line.now c.in-Ok.who.now (statement_of c.session.new.self.left) (c.is_blank.ensures.run c.if-is_blank.false ∙ ap (λ w. line_of_words w.left) (sym c.new-words.ensures) ∙ c.in-Ok.ensures.ok)
