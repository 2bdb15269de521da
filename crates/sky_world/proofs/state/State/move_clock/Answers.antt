use Rattle.std.proofs.Common.{◌≡◌, ℤ, ◌+ℤ◌, ◌≤ℤ◌, ◌∙◌, sym, ap, arith, w64, to_z, of_z, false, int_lt}
use Rattle.std.proofs.lemmas.Int.{ints, to_z-of_z}
use Rattle.sky_model.specs.Moment.{IsTime, last_moment}
use Rattle.sky_model.specs.Kinds.{Advance}
use Rattle.sky_model.specs.InForm.{IsOf}
use Rattle.sky_world.specs.Views.{StateView}
use Rattle.sky_world.proofs.Clocks.{clock-spent, clock-moved}
use Rattle.sky_world.proofs.state.State.move_clock.Goals as goal

-- the moment to which the clock is moved, as the code computes it
moved : (clock time : ℤ) → IsTime clock → IsOf Advance time → to_z w64 (of_z w64 (to_z w64 (of_z w64 clock) +ℤ to_z w64 (of_z w64 time))) ≡ clock +ℤ time
moved clock time now on =
    let clock_read : to_z w64 (of_z w64 clock) ≡ clock = to_z-of_z w64 clock (omega (arith, ints, now.0, now.1)) in
    let time_read : to_z w64 (of_z w64 time) ≡ time = to_z-of_z w64 time (omega (arith, ints, on.0, on.1)) in
    ap (λ t. to_z w64 (of_z w64 t)) (λ i. clock_read i +ℤ time_read i)
    ∙ to_z-of_z w64 (clock +ℤ time) (omega (arith, ints, now.0, now.1, on.0, on.1))

-- it isn't before the present one
later : (clock time now to : ℤ) → IsOf Advance time → to ≡ clock +ℤ time → clock ≡ now → now ≤ℤ to
later clock time now to on is same = omega (arith, ints, on.0)

-- and the clock can show it, unless it is past its last moment
time-after : (clock time to : ℤ) → IsTime clock → IsOf Advance time → to ≡ clock +ℤ time → int_lt last_moment to ≡ false → IsTime to
time-after clock time to now on is past = (omega (arith, ints, now.0, on.0), omega (arith, ints))

pub work_until-requires-clause-last : goal.work_until-requires-clause-last
work_until-requires-clause-last g c = time-after c.self.inside.clock c.args.time _ c.self.invariant.time c.requires.time (moved _ _ c.self.invariant.time c.requires.time) c.if-to-gt-LAST_MOMENT.false

pub work_until-requires-clause-later : goal.work_until-requires-clause-later
work_until-requires-clause-later g c = later c.self.inside.clock c.args.time _ _ c.requires.time (moved _ _ c.self.invariant.time c.requires.time) (ap (λ (w : StateView g.row.D.Denot). w.now) c.self.view_is)

pub returns-then-to-gt-LAST_MOMENT : goal.returns-then-to-gt-LAST_MOMENT
returns-then-to-gt-LAST_MOMENT g c =
    let clock_is : c.self.inside.clock ≡ c.args.self.now.now = ap (λ (w : StateView g.row.D.Denot). w.now) c.self.view_is in
    let sum_is : to_z w64 (of_z w64 (c.self.inside.clock +ℤ c.args.time)) ≡ c.self.inside.clock +ℤ c.args.time = to_z-of_z w64 (c.self.inside.clock +ℤ c.args.time) (omega (arith, ints, c.self.invariant.time.0, c.self.invariant.time.1, c.requires.time.0, c.requires.time.1)) in
    clock-spent _ c.args.who c.args.time _ _ _ _ c.requires.whole c.requires.who (sym c.if-is_waiting.false ∙ c.is_waiting.ensures) (sum_is ∙ ap (λ t. t +ℤ c.args.time) clock_is) (omega (arith, ints, c.if-to-gt-LAST_MOMENT.true))
    c.in_ok-push-2.ensures.ok

pub returns : goal.returns
returns g c =
    let clock_is : c.self.inside.clock ≡ c.args.self.now.now = ap (λ (w : StateView g.row.D.Denot). w.now) c.self.view_is in
    let clock_read : to_z w64 (of_z w64 c.self.inside.clock) ≡ c.self.inside.clock = to_z-of_z w64 c.self.inside.clock (omega (arith, ints, c.self.invariant.time.0, c.self.invariant.time.1)) in
    let time_read : to_z w64 (of_z w64 c.args.time) ≡ c.args.time = to_z-of_z w64 c.args.time c.ranges.time in
    let sum_is : to_z w64 (of_z w64 (to_z w64 (of_z w64 c.self.inside.clock) +ℤ to_z w64 (of_z w64 c.args.time))) ≡ c.self.inside.clock +ℤ c.args.time =
    ap (λ t. to_z w64 (of_z w64 t)) (λ i. clock_read i +ℤ time_read i)
    ∙ to_z-of_z w64 (c.self.inside.clock +ℤ c.args.time) (omega (arith, ints, c.self.invariant.time.0, c.self.invariant.time.1, c.requires.time.0, c.requires.time.1)) in
    clock-moved c.args.self.now c.work_until.new.self c.args.who c.args.time _ _ c.args.replies.now _ c.requires.who (sym c.if-is_waiting.false ∙ c.is_waiting.ensures) (sum_is ∙ ap (λ t. t +ℤ c.args.time) clock_is)
    (omega (arith, ints, c.if-to-gt-LAST_MOMENT.false)) (omega (arith, ints, sum_is, c.self.invariant.time.0, c.requires.time.0), omega (arith, ints, c.if-to-gt-LAST_MOMENT.false))
    c.in_ok-work_until.ensures.changed c.in_ok-work_until.ensures.sessions c.in_ok-work_until.ensures.whole c.in_ok-push-3.ensures.ok
