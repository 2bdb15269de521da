use Rattle.std.proofs.Common.{List, map, not, length, ap, ◌∙◌, arith}
use Rattle.sky_model.specs.Copies.{Hold}
use Rattle.pgq_copies.proofs.FreeNumbers.{few, further, found, lent}
use Rattle.pgq_copies.proofs.holds.Holds.least_free.Goals as goal

pub returns-then-is_none : goal.returns-then-is_none
returns-then-is_none c =
    found (map Hold.number c.args.self.now) c.loop-number.number c.loop-number.invariant
    (lent c.loop-number.number c.args.self.now c.get.result _ c.get.ensures (c.is_none.ensures ∙ ap not c.if-is_none.true))

pub loop-number-preserved : goal.loop-number-preserved
loop-number-preserved c =
    further (map Hold.number c.args.self.now) c.loop-number.number c.loop-number.invariant
    (lent c.loop-number.number c.args.self.now c.get.result _ c.get.ensures (c.is_none.ensures ∙ ap not c.if-is_none.false))

pub returns : goal.returns
returns c =
    let bound = few c.args.self.now in
    let same = ap (λ (holds : List Hold). length holds) c.self.view_is in
    omega (arith, bound, same, c.len-count.ensures, c.loop-number.invariant, c.loop-number-test.false, c.loop-number.auto.number-end)
