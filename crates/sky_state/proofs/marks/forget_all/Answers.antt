use Rattle.std.proofs.Common.{◌≡◌, ◌<◌, false, arith, nat_lt, length, refl, sym, subst, ap, ◌∙◌}
use Rattle.std.proofs.lemmas.Bool.Decides.{nat_tests}
use Rattle.sky_state.specs.Seen.{table_of}
use Rattle.sky_state.proofs.SessionLists.{unplaced, forgetting, forgot-columns, forgot-versions, forgets-next}
use Rattle.sky_state.proofs.marks.forget_all.Goals as goal

pub loop-number-init : goal.loop-number-init
loop-number-init c = (
  refl,
  λ n.
      let none : nat_lt n 0 ≡ false = grind (arith, nat_tests) in
      ap (λ b. forgetting c.args.txid b (unplaced (table_of c.args.tables.now.values n))) (sym none),
)

pub get_mut-requires : goal.get_mut-requires
get_mut-requires c = subst (λ names. c.loop-number.number < length names) (sym c.loop-number.invariant.0) (omega (arith, c.loop-number-test.true, c.len-number-end.ensures.len))

pub loop-number-preserved : goal.loop-number-preserved
loop-number-preserved c = (
  c.loop-number.invariant.0,
  forgets-next c.args.txid c.loop-number.number c.loop-number.tables.values _ c.get_mut.result.now c.forget.new.self
      c.get_mut.ensures.within c.get_mut.ensures.value (ap unplaced c.forget.ensures) c.loop-number.invariant.1,
)

pub returns-clause-names : goal.returns-clause-names
returns-clause-names c = c.loop-number.invariant.0

pub returns-clause-columns : goal.returns-clause-columns
returns-clause-columns c =
    (λ i n. (c.loop-number.invariant.1 n i).columns) ∙ (λ i n. forgot-columns c.args.txid (nat_lt n c.loop-number.number) (unplaced (table_of c.args.tables.now.values n)) i)

pub returns-clause-versions : goal.returns-clause-versions
returns-clause-versions c =
    (λ i n. (c.loop-number.invariant.1 n i).versions)
    ∙ (λ i n. forgot-versions c.args.txid n c.loop-number.number c.args.tables.now.values (omega (arith, c.loop-number-test.false, c.len-number-end.ensures.len, c.len-number-end.ensures.values)) i)
