-- One more id is appended, after a comma unless it is the first. Where that fails, what was there before is left.
use Rattle.std.proofs.Common.{◌∙◌, arith}
use Rattle.sky_txid.proofs.Texts.{kept_by, kept_under, where_failed, next_behind_comma, next_as_first}
use Rattle.sky_txid.proofs.text.append_list.Goals as goal
use Rattle.sky_txid.proofs.text.append_list.Goals.{then-place-gt0+in_ok-push, else-place-gt0}

pub loop-place-preserved : goal.loop-place-preserved
loop-place-preserved c =
    elim c.if-place-gt0.branch [
      | then-place-gt0+in_ok-push w ↦
          next_behind_comma _ _ _ _ c.args.ids.now c.loop-place.place c.loop-place.invariant w.in_ok-push.ensures.items
          (rw (← w.into-is) c.in_ok-append_number.ensures.ok) w.if-place-gt0.true (omega arith)
      | else-place-gt0 w ↦
          next_as_first _ _ _ c.args.ids.now c.loop-place.place c.loop-place.invariant
          (rw (← w.into-is) c.in_ok-append_number.ensures.ok) w.if-place-gt0.false (omega arith)
    ]

pub returns-in_err-push-clause-kept : goal.returns-in_err-push-clause-kept
returns-in_err-push-clause-kept c = where_failed c.from_residual.result (kept_under _ _ _ (c.in_err-push.ensures.items ∙ c.loop-place.invariant))

pub returns-in_err-append_number-clause-kept : goal.returns-in_err-append_number-clause-kept
returns-in_err-append_number-clause-kept c =
    elim c.if-place-gt0.branch [
      | then-place-gt0+in_ok-push w ↦
          where_failed c.from_residual-in_err-append_number.result
          (kept_by _ _ _ _ c.loop-place.invariant (kept_under _ _ _ (rw (w.into-is) at c.in_err-append_number.ensures.err ∙ w.in_ok-push.ensures.items)))
      | else-place-gt0 w ↦
          where_failed c.from_residual-in_err-append_number.result
          (kept_under _ _ _ (rw (w.into-is) at c.in_err-append_number.ensures.err ∙ c.loop-place.invariant))
    ]
