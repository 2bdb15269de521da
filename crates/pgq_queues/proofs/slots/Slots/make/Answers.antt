use Rattle.std.proofs.Common.{◌++◌, ◌∷◌, [], ℤ, map, slice_index_or, sym, ◌∙◌, ap, subst, arith, w64}
use Rattle.std.proofs.lemmas.Int.{to_z-of_z}
use Rattle.std.proofs.lemmas.Result.{IfOk-from_err}
use Rattle.sky_model.specs.Moment.{IsTime}
use Rattle.pgq_queue.specs.Seen.{no_queue}
use Rattle.pgq_queue.specs.Made.{new_queue}
use Rattle.pgq_queues.proofs.Marked.{on-err}
use Rattle.pgq_queues.proofs.Slotted.{slot-more}
use Rattle.pgq_queues.proofs.slots.Slots.make.Goals as goal

pub new-requires : goal.new-requires
new-requires c = subst IsTime (sym (to_z-of_z w64 c.args.now c.ranges.now)) c.requires

pub push_reserved-requires : goal.push_reserved-requires
push_reserved-requires c = omega (arith, c.in_ok-slot.ensures.len, c.in_ok-slot.ensures.capacity)

pub push_reserved-requires-2 : goal.push_reserved-requires-2
push_reserved-requires-2 c = omega (arith, c.in_ok-reserve.ensures.ok)

pub returns : goal.returns
returns c = record {
  ok = slot-more (λ slot. slot.items) c.self.inside.slots.items c.push_reserved-2.new.self.items c.push_reserved.new.self c.args.self.now _ (new_queue c.args.txid c.args.now c.args.snapshot) c.self.view_is
      (c.push_reserved-2.ensures.items ∙ ap (λ slots. slots ++ c.push_reserved.new.self ∷ []) c.in_ok-reserve.ensures.items) (c.push_reserved.ensures.items ∙ ap (λ slot. slot ++ c.in_ok-new.field-0 ∷ []) c.in_ok-slot.ensures.items)
      (c.in_ok-new.ensures ∙ ap (λ (t : ℤ). new_queue c.args.txid t c.args.snapshot) (to_z-of_z w64 c.args.now c.ranges.now));
  err = tt;
}

pub returns-in_err-reserve-clause-ok : goal.returns-in_err-reserve-clause-ok
returns-in_err-reserve-clause-ok c = IfOk-from_err _ _ c.from_residual.ensures.0

pub returns-in_err-reserve-clause-err : goal.returns-in_err-reserve-clause-err
returns-in_err-reserve-clause-err c = on-err _ _ (ap (map (λ slot. slice_index_or slot.items 0 no_queue)) c.in_err-reserve.ensures.items ∙ c.self.view_is)

pub returns-in_err-slot-clause-ok : goal.returns-in_err-slot-clause-ok
returns-in_err-slot-clause-ok c = IfOk-from_err _ _ c.from_residual-in_err-slot.ensures.0

pub returns-in_err-slot-clause-err : goal.returns-in_err-slot-clause-err
returns-in_err-slot-clause-err c = on-err _ _ (ap (map (λ slot. slice_index_or slot.items 0 no_queue)) c.in_ok-reserve.ensures.items ∙ c.self.view_is)

pub returns-in_err-new-clause-ok : goal.returns-in_err-new-clause-ok
returns-in_err-new-clause-ok c = IfOk-from_err _ _ c.from_residual-in_err-new.ensures.0

pub returns-in_err-new-clause-err : goal.returns-in_err-new-clause-err
returns-in_err-new-clause-err c = on-err _ _ (ap (map (λ slot. slice_index_or slot.items 0 no_queue)) c.in_ok-reserve.ensures.items ∙ c.self.view_is)
