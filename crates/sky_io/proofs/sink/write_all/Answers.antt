use Rattle.std.proofs.Common.{arith, ℕ, ap, length, length-drop, refl}
use Rattle.std.proofs.lemmas.List.{take_rest}
use Rattle.std.proofs.KnownBytes.{Appends-kept}
use Rattle.sky_io.proofs.AppendsLemmas.{Appends-taken, AppendsPrefix-taken}
use Rattle.sky_io.proofs.sink.write_all.Goals as goal

pub returns-in_err-written-clause-prefix : goal.returns-in_err-written-clause-prefix
returns-in_err-written-clause-prefix g c =
    AppendsPrefix-taken _ _ c.loop-written.written _
    (Appends-kept _ _ _ _ c.loop-written.invariant.appends c.in_err-written.ensures.appends)

pub loop-written-preserved : goal.loop-written-preserved
loop-written-preserved g c =
    let wrote = c.in_ok-written.ensures in
    let rest = take_rest c.args.piece.now c.loop-written.written in
    record {
      in_range = omega (arith, wrote.at_most, length-drop {A = ℕ});
      appends = Appends-taken _ _ _ c.loop-written.written c.in_ok-written.field-0 c.args.piece.now c.loop-written.invariant.appends (rw rest at wrote.appends);
      never_falls = omega arith;
      stays = λ sure. wrote.stays (c.loop-written.invariant.stays sure);
      untouched = λ none. absurd (omega (arith, wrote.at_least));
    }

pub returns-clause-empty : goal.returns-clause-empty
returns-clause-empty g c = λ empty. (refl, c.loop-written.invariant.untouched (omega (arith, ap length empty)))
