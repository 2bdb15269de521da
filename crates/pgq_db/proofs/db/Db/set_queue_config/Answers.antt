use Rattle.pgq_parts.proofs.Configuring.{gives-config}
use Rattle.pgq_db.proofs.db.Db.set_queue_config.Goals as goal

pub returns : goal.returns
returns g c = record {
  ran = gives-config _ _ c.args.who c.args.setting.now c.in_ok-queue.queue _ _ c.in_ok-queue.ensures.ok c.in_ok-configure.ensures.mark c.in_ok-push.ensures.ok;
}
