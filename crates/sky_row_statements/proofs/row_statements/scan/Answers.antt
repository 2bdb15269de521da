-- The rows are those that the session sees.
use Rattle.std.proofs.Common.{◌≡◌, ℕ, [], ◌∷◌, ◌++◌, Ok, refl, sym, ◌∙◌, ap, map, subst}
use Rattle.sky_model.specs.declared.reply.Reply.{Reply}
use Rattle.sky_model.specs.declared.reply.Reply.TheVariants.{Rows}
use Rattle.sky_model.specs.State.{RowPart}
use Rattle.sky_model.specs.ShownRows.{rows_by}
use Rattle.sky_model.specs.Outcome.{Checked, ◌>>=◌, answers}
use Rattle.sky_model.specs.StepRows.{table_called}
use Rattle.sky_state.specs.Seen.{seen}
use Rattle.sky_row_store.specs.declared.row_step.RowStep.{RowStep}
use Rattle.sky_row_store.specs.Effects.{with_effects}
use Rattle.sky_row_statements.specs.Ran.{Does}
use Rattle.sky_row_statements.proofs.row_statements.scan.Goals as goal

-- an answer on a table that changes nothing
does-answer : (d : RowPart) (before after : RowStep) (who table : ℕ) (found : Checked ℕ) (reply : ℕ → Reply) → found ≡ Ok table → after.replies ≡ before.replies ++ (who, reply table) ∷ []
    → after.effects ≡ with_effects before.effects [] → Does d d before after who (found >>= (λ t. answers (reply t)))
does-answer d before after who table found reply is replied silent =
    subst (λ checked. Does d d before after who (checked >>= (λ t. answers (reply t)))) (sym is) (record { accepted = refl; replied = replied; told = silent; changed = refl })

pub returns : goal.returns
returns c =
    let d = seen c.args.state.now in
    does-answer d c.args.step.now c.answer.new.self c.args.who c.in_ok-table.table (table_called c.args.table.now d) (λ t. Rows (map (λ e. e.1) ((rows_by d).rows c.args.who t))) c.in_ok-table.ensures.ok
    (c.in_ok-answer.ensures.replied ∙ ap (λ rows. c.args.step.now.replies ++ (c.args.who, Rows rows) ∷ []) (c.new.ensures ∙ c.in_ok-rows.ensures)) c.in_ok-answer.ensures.told
