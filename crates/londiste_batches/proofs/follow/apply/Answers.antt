use Rattle.std.proofs.Common.{◌∙◌, [], ◌∷◌, ◌++◌, ap, refl, subst}
use Rattle.sky_model.specs.BatchMoves.{events_of_batch}
use Rattle.sky_model.specs.declared.reply.Reply.TheVariants.{Idle}
use Rattle.londiste_calls.specs.Picks.{pick_of}
use Rattle.sky_store.specs.Applying.{ApplyRefused}
use Rattle.londiste_batches.proofs.Batches.{stays-moves}
use Rattle.londiste_batches.proofs.follow.apply.Goals as goal

pub returns-in_ok-add_reply-in-Err-BadEvent-clause-moves : goal.returns-in_ok-add_reply-in-Err-BadEvent-clause-moves
returns-in_ok-add_reply-in-Err-BadEvent-clause-moves g c consumer tick =
    stays-moves (g.D.Store.seen c.args.provider.now) (g.D.Store.seen c.apply_batch.new.provider) (g.D.Store.seen c.args.replica.now) (g.D.Store.seen c.apply_batch.new.self) c.requires.replica_made
    (record { consumer = consumer; tick = tick; pick = pick_of c.args.pick.now }) c.requires.may c.apply_batch.ensures.provider c.in-Err-BadEvent.field-0-0 c.add_reply-in-Err-BadEvent.new.replies.items
    (c.in_ok-add_reply-in-Err-BadEvent.ensures ∙ ap (λ replies. replies ++ Idle ∷ []) c.requires.nothing) _ c.args.hand c.hand.view_is (events_of_batch (g.D.Store.seen c.args.provider.now) c.hand.inside.batch.id)
    refl
    (subst (λ fault. ApplyRefused fault (g.D.Store.seen c.args.replica.now) (g.D.Store.seen c.apply_batch.new.self) (events_of_batch (g.D.Store.seen c.args.provider.now) c.hand.inside.batch.id) (pick_of c.args.pick.now) c.hand.inside.batch.cur) c.in-Err-BadEvent.field-0-is c.in-Err-BadEvent.ensures.fault)
