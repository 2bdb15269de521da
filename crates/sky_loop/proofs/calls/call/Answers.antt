use Rattle.std.proofs.Common.{ℕ, List, ◌∷◌, [], ◌++◌, ◌≤◌, All, length, sym, ap, ◌∙◌, subst}
use Rattle.std.proofs.lemmas.Result.{on_ok_weaker}
use Rattle.sky_model.specs.declared.reply.Reply.{Reply}
use Rattle.sky_model.specs.Printed.{printed}
use Rattle.sky_world.proofs.Worlds.{added-alone}
use Rattle.sky_loop.proofs.calls.call.Goals as goal

pub print_answers-requires : goal.print_answers-requires
print_answers-requires g c =
    let alone = added-alone _ _ _ _ _ c.clear.ensures c.in-Ok.ensures.adds in
    record {
      numbered = subst (λ (names : List (List ℕ)). All (λ (answer : ℕ × Reply). answer.0 ≤ length names) c.step_into.new.replies) (sym c.session_names.ensures) alone.1;
      moments = alone.2;
    }

pub returns-clause-answers : goal.returns-clause-answers
returns-clause-answers g c =
    on_ok_weaker c.print_answers.result (λ prints. record {
      replies = c.step_into.new.replies;
      in_form = (c.requires.name, c.requires.form);
      steps = (added-alone _ _ _ _ _ c.clear.ensures c.in-Ok.ensures.adds).0;
      prints = prints ∙ ap (λ (names : List (List ℕ)). c.args.into.now.items ++ printed (names ++ c.args.who.now ∷ []) c.step_into.new.replies) c.session_names.ensures;
    }) c.print_answers.ensures.ok
