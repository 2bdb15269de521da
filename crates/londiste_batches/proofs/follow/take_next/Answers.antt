use Rattle.std.proofs.Common.{◌∙◌, ◌∷◌, [], ◌++◌, ap, subst}
use Rattle.sky_model.specs.declared.reply.Reply.TheVariants.{BatchTaken}
use Rattle.sky_store.specs.Served.{Fetched}
use Rattle.londiste_batches.proofs.Taking.{taken-moves}
use Rattle.londiste_batches.proofs.follow.take_next.Goals as goal

pub returns-in_ok-add_reply-in-Ok-Some-clause-moves : goal.returns-in_ok-add_reply-in-Ok-Some-clause-moves
returns-in_ok-add_reply-in-Ok-Some-clause-moves g c r tick pick =
    taken-moves (g.D.Store.seen c.args.provider.now) (g.D.Store.seen c.fetch.new.self) r (record { consumer = c.args.consumer.now; tick = tick; pick = pick }) c.in-Ok-Some.batch c.in-Ok-Some.ensures.serves
    (subst (λ batch. Fetched batch (g.D.Store.seen c.args.provider.now) (g.D.Store.seen c.fetch.new.self) c.args.consumer.now) c.in-Ok-Some.field-0-is c.in-Ok-Some.ensures.batch) c.add_reply-in-Ok-Some.new.replies.items c.new.result
    (c.in_ok-add_reply-in-Ok-Some.ensures ∙ ap (λ replies. replies ++ BatchTaken c.in-Ok-Some.batch.id c.in-Ok-Some.batch.prev c.in-Ok-Some.batch.cur ∷ []) c.requires.nothing) c.new.ensures
