use Rattle.std.proofs.Common.{◌≡◌, ℤ, ◌+ℤ◌, ◌≤ℤ◌, ◌∙◌, ap, arith, w64, to_z, of_z, false, int_lt}
use Rattle.std.proofs.lemmas.Int.{ints, to_z-of_z}
use Rattle.sky_model.specs.Moment.{IsTime, last_moment}
use Rattle.sky_world.specs.Idle.{IsLeap}
use Rattle.sky_world.specs.Views.{StateView}
use Rattle.sky_world.proofs.Skipping.{skips-none, skips-to}
use Rattle.sky_world.proofs.state.State.skip.Goals as goal

-- the moment after a leap, as the code computes it
leapt : (clock leap : ℤ) → IsTime clock → IsLeap leap → to_z w64 (of_z w64 (to_z w64 (of_z w64 clock) +ℤ to_z w64 (of_z w64 leap))) ≡ clock +ℤ leap
leapt clock leap time long =
    let clock_read : to_z w64 (of_z w64 clock) ≡ clock = to_z-of_z w64 clock (omega (arith, ints, time.0, time.1)) in
    let leap_read : to_z w64 (of_z w64 leap) ≡ leap = to_z-of_z w64 leap (omega (arith, ints, long.0, long.1)) in
    ap (λ t. to_z w64 (of_z w64 t)) (λ i. clock_read i +ℤ leap_read i)
    ∙ to_z-of_z w64 (clock +ℤ leap) (omega (arith, ints, time.0, time.1, long.0, long.1))

-- it isn't before the present one
later : (clock leap now to : ℤ) → IsLeap leap → to ≡ clock +ℤ leap → clock ≡ now → now ≤ℤ to
later clock leap now to long is same = omega (arith, ints, long.0)

-- nor after the last one that is allowed
most : (to last read : ℤ) → read ≡ last → int_lt read to ≡ false → to ≤ℤ last
most to last read is past = omega (arith, ints)

time-after : (clock leap to last : ℤ) → IsTime clock → IsLeap leap → to ≡ clock +ℤ leap → to ≤ℤ last → IsTime last → IsTime to
time-after clock leap to last time long is le end = (omega (arith, ints, time.0, long.0), omega (arith, ints, end.1))

-- so the leap isn't longer than the time that the clock can show
short : (clock leap to last : ℤ) → IsTime clock → to ≡ clock +ℤ leap → to ≤ℤ last → IsTime last → leap ≤ℤ last_moment
short clock leap to last time is le end = omega (arith, ints, time.0, end.1)

pub is_idle_until-requires : goal.is_idle_until-requires
is_idle_until-requires g c =
    time-after c.self.inside.clock c.args.leap _ c.args.last c.self.invariant.time c.requires.leap (leapt _ _ c.self.invariant.time c.requires.leap)
    (most _ _ _ (to_z-of_z w64 c.args.last c.ranges.last) c.if-to-last.false) c.requires.last

pub stand_at-requires-clause-time : goal.stand_at-requires-clause-time
stand_at-requires-clause-time g c =
    time-after c.self.inside.clock c.args.leap _ c.args.last c.self.invariant.time c.requires.leap (leapt _ _ c.self.invariant.time c.requires.leap)
    (most _ _ _ (to_z-of_z w64 c.args.last c.ranges.last) c.if-to-last.false) c.requires.last

pub stand_at-requires-clause-later : goal.stand_at-requires-clause-later
stand_at-requires-clause-later g c =
    later c.self.inside.clock c.args.leap _ _ c.requires.leap (leapt _ _ c.self.invariant.time c.requires.leap) (ap (λ (w : StateView g.row.D.Denot). w.now) c.self.view_is)

pub returns-then-to-last-clause-skips : goal.returns-then-to-last-clause-skips
returns-then-to-last-clause-skips g c = skips-none c.args.self.now c.args.last c.requires.later

pub returns-clause-skips : goal.returns-clause-skips
returns-clause-skips g c =
    skips-to c.args.self.now c.stand_at.new.self _ c.args.last c.stand_at.ensures
    (later c.self.inside.clock c.args.leap _ _ c.requires.leap (leapt _ _ c.self.invariant.time c.requires.leap) (ap (λ (w : StateView g.row.D.Denot). w.now) c.self.view_is))
    (most _ _ _ (to_z-of_z w64 c.args.last c.ranges.last) c.if-to-last.false)
    (c.is_idle_until.ensures c.if-not-is_idle_until.false)

pub returns-clause-moved : goal.returns-clause-moved
returns-clause-moved g c =
    let clock_is : c.self.inside.clock ≡ c.args.self.now.now = ap (λ (w : StateView g.row.D.Denot). w.now) c.self.view_is in
    λ _. ap (λ (w : StateView g.row.D.Denot). w.now) c.stand_at.ensures ∙ leapt _ _ c.self.invariant.time c.requires.leap ∙ ap (λ t. t +ℤ c.args.leap) clock_is

pub returns-clause-short : goal.returns-clause-short
returns-clause-short g c = λ _.
    short c.self.inside.clock c.args.leap _ c.args.last c.self.invariant.time (leapt _ _ c.self.invariant.time c.requires.leap)
    (most _ _ _ (to_z-of_z w64 c.args.last c.ranges.last) c.if-to-last.false) c.requires.last
