use Rattle.sky_rows.proofs.Standing.{key-pushed}
use Rattle.sky_rows.proofs.log.index_or_log.Goals as goal

pub returns-in_ok-push-in-Some-clause-logged : goal.returns-in_ok-push-in-Some-clause-logged
returns-in_ok-push-in-Some-clause-logged c = key-pushed c.args.txid _ c.args.key c.in-Some.log.keys.items c.push.new.self.items c.in_ok-push-in-Some.ensures.items
