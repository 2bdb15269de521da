use Rattle.sky_rows.proofs.Standing.{key-pushed}
use Rattle.sky_rows.proofs.log.begin.Goals as goal

pub returns-clause-logged : goal.returns-clause-logged
returns-clause-logged c = key-pushed c.args.txid _ c.args.key c.new-keys.result.items c.push.new.self.items c.in_ok-push.ensures.items
