use Rattle.std.proofs.Common.{◌≡◌, subst, arith, w64, to_z, of_z}
use Rattle.std.proofs.lemmas.Int.{ints, to_z-of_z}
use Rattle.sky_histories.proofs.NextDue.{next_due_is_first}
use Rattle.sky_world.specs.Views.{StateView}
use Rattle.sky_world.proofs.Clocks.{IsGoing, going-next, going-skipped, going-none, going-late}
use Rattle.sky_world.proofs.state.State.work_until.Goals as goal
use Rattle.sky_world.proofs.state.State.work_until.Goals.{in-Some+then-moment-last, in_default}

pub loop-moment-preserved : goal.loop-moment-preserved
loop-moment-preserved g c =
    let moment_is : to_z w64 (of_z w64 c.in-Some.moment) ≡ c.in-Some.moment = to_z-of_z w64 c.in-Some.moment (omega (arith, ints, c.in-Some.ensures.time.0, c.in-Some.ensures.time.1)) in
    let reach_is : to_z w64 (of_z w64 c.skip_idle-reach.result) ≡ c.skip_idle-reach.result =
    to_z-of_z w64 c.skip_idle-reach.result (omega (arith, ints, c.skip_idle-reach.ensures.reach.0, c.skip_idle-reach.ensures.reach.1)) in record {
      going = going-skipped next_due_is_first _ _ _ _
          (going-next _ _ _ _ c.in-Some.moment _ c.loop-moment.invariant.going c.in-Some.ensures.next c.in-Some.ensures.later moment_is (omega (arith, ints, c.if-moment-last.false, moment_is))
          c.in_ok-work_at.ensures.changed c.in_ok-work_at.ensures.now c.in_ok-work_at.ensures.sessions c.in_ok-work_at.ensures.whole)
          c.skip_idle-reach.ensures.skips c.skip_idle-reach.ensures.since;
      reach = (omega (arith, ints, reach_is, c.skip_idle-reach.ensures.reach.0), omega (arith, ints, reach_is, c.skip_idle-reach.ensures.reach.1));
    }

pub returns-clause-changed : goal.returns-clause-changed
returns-clause-changed g c =
    let last_is : to_z w64 (of_z w64 c.args.last) ≡ c.args.last = to_z-of_z w64 c.args.last c.ranges.last in
    let cur : StateView g.row.D.Denot = c.loop-moment.self in
    let stands : c.stand_at.new.self ≡ record cur { now = c.args.last } = subst (λ t. c.stand_at.new.self ≡ record cur { now = t }) last_is c.stand_at.ensures in
    let going : IsGoing g.D.Store.seen c.args.self.now cur c.args.last = subst (λ last. IsGoing g.D.Store.seen c.args.self.now cur last) last_is c.loop-moment.invariant.going in
    elim c.match-next_due.branch [
      | in-Some+then-moment-last w ↦ (let moment_is : to_z w64 (of_z w64 w.in-Some.moment) ≡ w.in-Some.moment = to_z-of_z w64 w.in-Some.moment (omega (arith, ints, w.in-Some.ensures.time.0, w.in-Some.ensures.time.1)) in
          going-late _ _ _ c.args.last w.in-Some.moment going w.in-Some.ensures.next (omega (arith, ints, w.if-moment-last.true, moment_is, last_is)) stands)
      | in_default w ↦ going-none _ _ _ c.args.last going w.in_default.ensures.next stands
    ]
