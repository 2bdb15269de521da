use Rattle.std.proofs.Common.{◌∙◌, [], ◌∷◌, ◌++◌, refl, sym, ap, option_map}
use Rattle.sky_model.specs.declared.reply.Reply.TheVariants.{AwaitsTable}
use Rattle.sky_model.specs.CopyMoves.{goes_through_or}
use Rattle.sky_model.specs.Hands as model
use Rattle.londiste_copy.specs.CatchingUp.{the_table, without_batch}
use Rattle.londiste_copy.specs.Hands.{hand_of}
use Rattle.londiste_copy.specs.declared.table.Progress.{Progress}
use Rattle.londiste_copy.proofs.CatchingUp.{awaits-copy, batch-moves, may-apply-to, move-following}
use Rattle.londiste_copy.proofs.worker.CopyWorker.step_batches.Goals as goal

pub returns-then-not-progress-clause-moves : goal.returns-then-not-progress-clause-moves
returns-then-not-progress-clause-moves g c =
    let p = g.D.Store.seen c.args.provider.now in
    let r = g.D.Store.seen c.args.replica.now in
    let table = c.args.table.now.name.now in
    let t = the_table table r.node in
    awaits-copy p r table c.args.self.now _ _ refl
    (c.in_ok-add_reply.ensures ∙ ap (λ replies. replies ++ AwaitsTable c.in_ok-copy.field-0 ∷ []) c.requires.nothing ∙ ap (λ name. AwaitsTable name ∷ []) c.in_ok-copy.ensures)
    (goes_through_or p r t (model.batch_in c.args.self.now) (without_batch c.args.progress.state p r t))
    (move-following p r table c.args.self.now c.args.progress.state (sym (ap Progress.state c.requires.progress)) c.requires.state)
    (sym (ap Progress.is_copied c.requires.progress) ∙ c.if-not-progress.true)

pub follow-requires-clause-may : goal.follow-requires-clause-may
follow-requires-clause-may g c = may-apply-to c.args.table.now.name.now (g.D.Store.seen c.args.replica.now).node (sym (ap Progress.is_copied c.requires.progress) ∙ c.if-not-progress.false)

pub returns-clause-moves : goal.returns-clause-moves
returns-clause-moves g c =
    let p = g.D.Store.seen c.args.provider.now in
    let r = g.D.Store.seen c.args.replica.now in
    let table = c.args.table.now.name.now in
    let t = the_table table r.node in
    batch-moves p (g.D.Store.seen c.follow.new.provider) r (g.D.Store.seen c.follow.new.replica) table c.args.self.now (option_map hand_of c.of_batch.result) c.batch_in-hand.result c.in_ok-hand.hand
    (without_batch c.args.progress.state p r t) c.follow.new.replies.items
    (move-following p r table c.args.self.now c.args.progress.state (sym (ap Progress.state c.requires.progress)) c.requires.state)
    (sym (ap Progress.is_copied c.requires.progress) ∙ c.if-not-progress.false)
    (c.batch_in-hand.ensures ∙ ap model.batch_in c.self.view_is) c.of_batch.ensures c.in_ok-hand.ensures.moves
