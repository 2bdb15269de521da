use Rattle.std.proofs.Common.{rules, ◌≡◌, ◌∷◌, length, refl, ap, arith}
use Rattle.std.specs.Vec.Iter.{into_iter_items}
use Rattle.sky_state.specs.Seen.{seen}
use Rattle.pgq_parts.specs.Copying.{deletion}
use Rattle.pgq_parts.proofs.CopySteps.{between-next, between-done}
use Rattle.pgq_parts.proofs.copies.delete_all.Goals as goal

pub loop-key-init : goal.loop-key-init
loop-key-init g c = (record { may = c.requires; left = refl; agree = λ q are. are }, search rules)

pub write-requires : goal.write-requires
write-requires g c = c.loop-key.invariant.0.may

pub loop-key-preserved : goal.loop-key-preserved
loop-key-preserved g c =
    let at = c.loop-key in
    let steps : into_iter_items at.key-iterator ≡ c.in-Some.key ∷ into_iter_items c.next.new.self = c.in-Some.ensures.steps.0 in (
      between-next deletion _ (seen (g.R.RowStore.state at.rows)) c.args.table c.args.txid _ _ at.invariant.0 (seen (g.R.RowStore.state c.write.new.rows)) (into_iter_items c.next.new.self) c.in-Some.key steps c.in_ok-write.ensures.mark c.write.ensures.may c.write.ensures.agree,
      let was = at.invariant.1 in
          let gone = c.in-Some.ensures.steps.1 in
          let short = ap length steps in
          omega arith,
    )

pub returns-clause-marks : goal.returns-clause-marks
returns-clause-marks g c =
    between-done deletion _ (seen (g.R.RowStore.state c.loop-key.rows)) c.args.table c.args.txid _ _ c.loop-key.invariant.0 _ c.loop-key.invariant.1 c.in-None.ensures.steps.0 _ c.into_iter-key-iterator.ensures.into_iter_gives.0

pub returns-clause-agree : goal.returns-clause-agree
returns-clause-agree g c = c.loop-key.invariant.0.agree

pub returns-in_err-write-clause-agree : goal.returns-in_err-write-clause-agree
returns-in_err-write-clause-agree g c = λ q are. c.write.ensures.agree q (c.loop-key.invariant.0.agree q are)
