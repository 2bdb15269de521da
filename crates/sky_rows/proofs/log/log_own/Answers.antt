use Rattle.std.proofs.Common.{◌∙◌, ap, ◌++◌, ◌∷◌, []}
use Rattle.sky_rows.proofs.Standing.{key-pushed}
use Rattle.sky_rows.proofs.log.log_own.Goals as goal

pub returns-in_ok-push-in-Some-clause-logged : goal.returns-in_ok-push-in-Some-clause-logged
returns-in_ok-push-in-Some-clause-logged c = key-pushed c.args.txid _ c.args.key.now c.in-Some.log.keys.items c.push.new.self.items
    (c.in_ok-push-in-Some.ensures.items ∙ ap (λ key. c.in-Some.log.keys.items ++ key ∷ []) c.in_ok-key-in-Some.ensures)
