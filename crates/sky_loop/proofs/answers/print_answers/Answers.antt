use Rattle.std.proofs.Common.{[], ◌∷◌, ◌++◌, sym, ap, ◌∙◌}
use Rattle.std.proofs.lemmas.Result.{on_ok_weaker}
use Rattle.sky_model.proofs.Naming.{printed-named}
use Rattle.sky_loop.proofs.answers.print_answers.Goals as goal

pub returns-then-have_names-clause-ok : goal.returns-then-have_names-clause-ok
returns-then-have_names-clause-ok c =
    let same = printed-named c.args.names.now (c.args.who.now ∷ []) c.args.replies.now (c.have_names.ensures.0 c.if-have_names.true) in
    on_ok_weaker c.print_replies.result (λ e. e ∙ ap (λ text. c.args.into.now.items ++ text) (sym same)) c.print_replies.ensures.ok
