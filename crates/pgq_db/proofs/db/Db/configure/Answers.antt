use Rattle.pgq_parts.proofs.Configuring.{configures-as, refuses-as}
use Rattle.pgq_db.proofs.db.Db.configure.Goals as goal

pub returns-in-Err-clause-stops : goal.returns-in-Err-clause-stops
returns-in-Err-clause-stops g c =
    refuses-as _ _ c.configure.new.self c.args.queue c.args.param.now c.args.value.now _ _ c.in-Err.fault _ c.self.view_is c.bytes.ensures.value c.bytes-2.ensures.value c.in-Err.ensures.fault c.in-Err.ensures.err
    c.in_ok-refusal.ensures

pub returns-clause-mark : goal.returns-clause-mark
returns-clause-mark g c =
    configures-as _ _ c.configure.new.self c.args.queue c.args.param.now c.args.value.now _ _ c.self.view_is c.bytes.ensures.value c.bytes-2.ensures.value c.in_default.ensures.set c.in_default.ensures.mark
