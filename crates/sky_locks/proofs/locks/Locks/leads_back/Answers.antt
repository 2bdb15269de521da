use Rattle.std.proofs.Common.{◌≡◌, ◌-◌, ◌+◌, suc, false, sym, arith}
use Rattle.std.specs.Prelude.{◌==◌}
use Rattle.std.proofs.lemmas.Bool.{ne_eqb}
use Rattle.sky_locks.specs.Locks.{waits_for_in}
use Rattle.sky_locks.proofs.RingLemmas.{way_goes_on}
use Rattle.sky_locks.proofs.locks.Locks.leads_back.Goals as goal

pub loop-step-preserved : goal.loop-step-preserved
loop-step-preserved c =
    let count : c.count-step-end.result - c.loop-step._step ≡ suc (c.count-step-end.result - (c.loop-step._step + 1)) = omega arith in
    let apart : (c.in-Some.next == c.args.who) ≡ false = ne_eqb c.in-Some.next c.args.who c.if-next-who.false in
    way_goes_on (waits_for_in c.args.self.now) c.args.who (c.count-step-end.result - c.loop-step._step) (c.count-step-end.result - (c.loop-step._step + 1)) c.loop-step.last c.in-Some.next _ count c.loop-step.invariant (sym c.in-Some.ensures) apart
