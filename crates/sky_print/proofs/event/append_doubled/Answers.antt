-- A quote is written twice, and any other byte once.
use Rattle.std.proofs.Common.{◌≡◌, ◌<◌, [], ◌∷◌, ◌++◌, length, arith, ◌∙◌}
use Rattle.sky_print.proofs.Doubling.{doubled-quote, doubled-plain}
use Rattle.sky_print.proofs.Keeping.{Keeps-grown, ok-failed, kept-failed, kept-stopped}
use Rattle.sky_print.proofs.event.append_doubled.Goals as goal
use Rattle.sky_print.proofs.event.append_doubled.Goals.{then-byte-eq39+in_ok-push, else-byte-eq39}

pub loop-byte-preserved : goal.loop-byte-preserved
loop-byte-preserved c =
    let i = c.loop-byte.byte-index in
    let within : i < length c.args.text.now = omega arith in
    elim c.if-byte-eq39.branch [
      | then-byte-eq39+in_ok-push w ↦
          let first : c.if-byte-eq39.into.items ≡ c.loop-byte.into.items ++ 39 ∷ [] = cc (w.into-is, w.in_ok-push.ensures.items) in
          doubled-quote c.args.text.now i _ _ _ _ within c.loop-byte.invariant w.if-byte-eq39.true first c.in_ok-push-2.ensures.items
      | else-byte-eq39 w ↦
          let same : c.if-byte-eq39.into.items ≡ c.loop-byte.into.items = cc w.into-is in
          doubled-plain c.args.text.now i _ _ _ _ within c.loop-byte.invariant w.if-byte-eq39.false same c.in_ok-push-2.ensures.items
    ]

pub returns-in_err-push-clause-ok : goal.returns-in_err-push-clause-ok
returns-in_err-push-clause-ok c = ok-failed c.from_residual.result _ c.from_residual.ensures.0

pub returns-in_err-push-clause-kept : goal.returns-in_err-push-clause-kept
returns-in_err-push-clause-kept c = kept-stopped c.from_residual.result _ _ _ (c.in_err-push.ensures.items ∙ c.loop-byte.invariant)

pub returns-in_err-push-2-clause-ok : goal.returns-in_err-push-2-clause-ok
returns-in_err-push-2-clause-ok c = ok-failed c.from_residual-in_err-push-2.result _ c.from_residual-in_err-push-2.ensures.0

pub returns-in_err-push-2-clause-kept : goal.returns-in_err-push-2-clause-kept
returns-in_err-push-2-clause-kept c =
    let stopped = c.from_residual-in_err-push-2.result in
    elim c.if-byte-eq39.branch [
      | then-byte-eq39+in_ok-push w ↦
          let quote : c.if-byte-eq39.into.items ≡ c.loop-byte.into.items ++ 39 ∷ [] = cc (w.into-is, w.in_ok-push.ensures.items) in
          kept-failed stopped _ _ _ _ c.loop-byte.invariant (Keeps-grown _ _ _ (c.in_err-push-2.ensures.items ∙ quote))
      | else-byte-eq39 w ↦
          let same : c.if-byte-eq39.into.items ≡ c.loop-byte.into.items = cc w.into-is in
          kept-stopped stopped _ _ _ (c.in_err-push-2.ensures.items ∙ same ∙ c.loop-byte.invariant)
    ]
