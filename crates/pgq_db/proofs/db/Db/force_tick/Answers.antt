use Rattle.sky_model.specs.History.{raised}
use Rattle.sky_model.specs.declared.reply.Reply.TheVariants.{Number}
use Rattle.pgq_parts.proofs.Databases.{marked-as}
use Rattle.pgq_parts.proofs.Decided.{does-mark}
use Rattle.pgq_db.proofs.db.Db.force_tick.Goals as goal

pub returns : goal.returns
returns g c =
    let f = c.in_ok-queue.field-0 in
    let mark = marked-as _ _ c.raise.new.self (λ _. raised f.queue f.seq) c.self.view_is c.raise.ensures.mark in
    does-mark _ _ _ _ c.args.who (Number f.newest) (raised f.queue f.seq) _ c.in_ok-queue.ensures.raises mark c.in_ok-push.ensures.ok tt
