use Rattle.std.proofs.Common.{◌∙◌, ap, Some}
use Rattle.pgq_sub.proofs.SubLists.{sub-gone, sub-absent, kept-there}
use Rattle.pgq_sub.proofs.subs.Subs.unregister.Goals as goal

pub returns-in_err-number-clause-gone : goal.returns-in_err-number-clause-gone
returns-in_err-number-clause-gone c = sub-absent _ _ c.args.consumer.now c.self.view_is c.in_err-number.ensures.number

pub returns-clause-gone : goal.returns-clause-gone
returns-clause-gone c = sub-gone _ _ c.remove.new.self c.args.consumer.now _ c.self.view_is c.names.ensures.distinct c.in_ok-number.ensures.number c.remove.ensures

pub returns-clause-was : goal.returns-clause-was
returns-clause-was c = ap Some c.copy-sub.ensures ∙ kept-there _ _ c.args.consumer.now _ c.get.result.now c.self.view_is c.in_ok-number.ensures.number c.get.ensures.within c.get.ensures.value
