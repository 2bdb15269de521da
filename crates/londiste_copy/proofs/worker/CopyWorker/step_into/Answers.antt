use Rattle.std.proofs.Common.{◌∙◌, [], ◌∷◌, ◌++◌, refl, sym, ap}
use Rattle.sky_model.specs.declared.reply.Reply.TheVariants.{AwaitsTable}
use Rattle.londiste_copy.specs.CatchingUp.{progress_of, the_table}
use Rattle.londiste_copy.specs.declared.table.Progress.{Progress}
use Rattle.londiste_copy.proofs.CatchingUp.{awaits}
use Rattle.londiste_copy.proofs.worker.CopyWorker.step_into.Goals as goal

pub returns-in_ok-add_reply-in_default-clause-moves : goal.returns-in_ok-add_reply-in_default-clause-moves
returns-in_ok-add_reply-in_default-clause-moves g c =
    awaits (g.D.Store.seen c.args.provider.now) (g.D.Store.seen c.args.replica.now) c.args.table.now.name.now c.args.self.now _ _ refl
    (c.in_ok-add_reply-in_default.ensures ∙ ap (λ replies. replies ++ AwaitsTable c.in_ok-copy-in_default.field-0 ∷ []) c.requires.nothing ∙ ap (λ name. AwaitsTable name ∷ []) c.in_ok-copy-in_default.ensures)
    c.progress_of-progress.result.state (sym (ap Progress.state (c.progress_of-progress.ensures ∙ ap (λ n. progress_of (the_table c.args.table.now.name.now n)) c.node.ensures)))
    c.in_default.not-InCopy c.in_default.not-CatchingUp c.in_default.not-DoSync c.in_default.not-Synced

pub step_batches-requires-clause-number : goal.step_batches-requires-clause-number
step_batches-requires-clause-number g c = c.requires.same.here
