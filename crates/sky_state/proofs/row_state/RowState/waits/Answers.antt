-- A session that waits is the last of the queue, or would wait for itself.
use Rattle.std.proofs.Common.{◌<◌, Some, length, refl, ap, sym, ◌∙◌, subst}
use Rattle.std.specs.Prelude.{IfNone, IfSome}
use Rattle.sky_keys.specs.Waits.{LeadsBack}
use Rattle.sky_locks.specs.Locks.{waits_for_in, WaitsForKey, ClosesRing}
use Rattle.sky_state.specs.Views.{RowStateView}
use Rattle.sky_state.specs.Seen.{seen}
use Rattle.sky_state.proofs.Owning.{within-kept, within-push}
use Rattle.sky_state.proofs.WaitLemmas.{ring-none, ring-found, wait-as}
use Rattle.sky_state.proofs.row_state.RowState.waits.Goals as goal

pub invariant_of-self-in_err-set : goal.invariant_of-self-in_err-set
invariant_of-self-in_err-set c =
    let w : WaitsForKey c.self.inside.locks c.args.who c.args.key.now.table c.args.key.now.key c.args.holder c.wait.new.self
    = subst (λ ring. IfNone ring (WaitsForKey c.self.inside.locks c.args.who c.args.key.now.table c.args.key.now.key c.args.holder c.wait.new.self)) c.in_default.is c.in_ok-ring.ensures.waits in
    let within = subst (λ (v : RowStateView). c.args.key.now.table < length v.tables.names) (sym c.self.view_is) c.requires.within in
    (c.self.invariant.0, (c.self.invariant.1.0, within-kept _ _ _ _ refl w.waiting (within-push _ _ _ within c.self.invariant.1.1)))

pub invariant_of-self-2 : goal.invariant_of-self-2
invariant_of-self-2 c =
    let w : WaitsForKey c.self.inside.locks c.args.who c.args.key.now.table c.args.key.now.key c.args.holder c.wait.new.self
    = subst (λ ring. IfNone ring (WaitsForKey c.self.inside.locks c.args.who c.args.key.now.table c.args.key.now.key c.args.holder c.wait.new.self)) c.in_default.is c.in_ok-ring.ensures.waits in
    let within = subst (λ (v : RowStateView). c.args.key.now.table < length v.tables.names) (sym c.self.view_is) c.requires.within in
    (c.self.invariant.0, (c.self.invariant.1.0, within-kept _ _ _ _ refl w.waiting (within-push _ _ _ within c.self.invariant.1.1)))

pub returns-clause-ring : goal.returns-clause-ring
returns-clause-ring c =
    let w : WaitsForKey c.self.inside.locks c.args.who c.args.key.now.table c.args.key.now.key c.args.holder c.wait.new.self
    = subst (λ ring. IfNone ring (WaitsForKey c.self.inside.locks c.args.who c.args.key.now.table c.args.key.now.key c.args.holder c.wait.new.self)) c.in_default.is c.in_ok-ring.ensures.waits in
    sym (ring-none (seen c.args.self.now) c.args.who c.args.holder
    (λ way leads. w.apart way (subst (λ (v : RowStateView). LeadsBack (waits_for_in v.locks) c.args.who c.args.holder way) (sym c.self.view_is) leads)))

pub returns-clause-mark : goal.returns-clause-mark
returns-clause-mark c =
    let w : WaitsForKey c.self.inside.locks c.args.who c.args.key.now.table c.args.key.now.key c.args.holder c.wait.new.self
    = subst (λ ring. IfNone ring (WaitsForKey c.self.inside.locks c.args.who c.args.key.now.table c.args.key.now.key c.args.holder c.wait.new.self)) c.in_default.is c.in_ok-ring.ensures.waits in
    wait-as _ _ c.wait.new.self c.set.new.self c.args.who c.args.key.now.table c.args.key.now.key c.args.attempt c.self.view_is w.held w.waiting c.in_ok-set.ensures.ok

pub returns-in-Some-clause-ring : goal.returns-in-Some-clause-ring
returns-in-Some-clause-ring c =
    let r : ClosesRing c.self.inside.locks c.args.who c.args.key.now.table c.args.key.now.key c.args.holder c.in-Some.ring c.wait.new.self
    = subst (λ ring. IfSome ring (λ ring. ClosesRing c.self.inside.locks c.args.who c.args.key.now.table c.args.key.now.key c.args.holder ring c.wait.new.self)) c.in-Some.is c.in_ok-ring.ensures.closes in
    let leads : LeadsBack (waits_for_in c.args.self.now.locks) c.args.who c.args.holder r.way
    = subst (λ (v : RowStateView). LeadsBack (waits_for_in v.locks) c.args.who c.args.holder r.way) c.self.view_is r.leads in
    ap Some (c.new.ensures ∙ c.into_sessions.ensures ∙ r.closed) ∙ sym (ring-found (seen c.args.self.now) c.args.who c.args.holder r.way leads)
