use Rattle.sky_model.specs.History.{dropped}
use Rattle.sky_model.specs.declared.reply.Reply.TheVariants.{Number}
use Rattle.pgq_parts.proofs.Databases.{marked-as}
use Rattle.pgq_parts.proofs.Decided.{does-mark}
use Rattle.pgq_db.proofs.db.Db.drop_queue.Goals as goal

pub returns : goal.returns
returns g c =
    let mark = marked-as _ _ c.drop_queue.new.self (λ _. dropped c.in_ok-queue.queue) c.self.view_is c.drop_queue.ensures.mark in
    does-mark _ _ _ _ c.args.who (Number 1) (dropped c.in_ok-queue.queue) _ c.in_ok-queue.ensures.drops mark c.in_ok-push.ensures.ok tt
