use Rattle.std.proofs.Common.{◌≡◌, ℕ, ℤ, w64, arith, ap, sym, subst, refl, ◌∙◌, [], ◌∷◌, ◌++◌}
use Rattle.std.proofs.lemmas.Int.{to_z-of_z}
use Rattle.sky_names.specs.Named.{NamedView}
use Rattle.pgq_queues.specs.Numbers.{AreNumbers}
use Rattle.pgq_queue.specs.Stored.{RetriedAtMost}
use Rattle.pgq_queue.specs.Made.{new_queue}
use Rattle.pgq_queue.proofs.AllStored.{stored-new}
use Rattle.pgq_queues.proofs.Marked.{made-as, on-err}
use Rattle.pgq_queues.proofs.NumberedQueues.{number-new, length-shown}
use Rattle.pgq_queues.proofs.TracedLists.{goes-same, within-still, within-made}
use Rattle.pgq_queues.proofs.Waiting.{retried-same, retried-made}
use Rattle.pgq_queues.proofs.Unchanged.{rest-kept, slots-same}
use Rattle.pgq_queues.proofs.queues.Queues.make.Goals.{In-Ok}
use Rattle.std.proofs.lemmas.Result.{IfOk-from_err}
use Rattle.sky_model.specs.Moment.{IsTime}
use Rattle.pgq_queues.proofs.queues.Queues.make.Goals as goal

pub invariant_of-self : goal.invariant_of-self
invariant_of-self c = (
  (c.self.invariant.0.0, retried-same _ _ c.self.inside.retries c.in_err-make.ensures.err c.self.invariant.0.1),
  within-still c.self.inside.names c.self.inside.slots c.make.new.self c.self.inside.batches.entries c.self.inside.triggers.items c.self.inside.traced_tables.entries (goes-same _ _ c.in_err-make.ensures.err) c.self.invariant.1,
)

pub add-requires-clause-new : goal.add-requires-clause-new
add-requires-clause-new c = number-new _ _ _ c.self.view_is c.self.invariant.1.0.each c.requires.new

pub add-requires-clause-room : goal.add-requires-clause-room
add-requires-clause-room c = let same = length-shown _ _ c.self.view_is c.self.invariant.1.0.each in omega (arith, same, c.requires.room)

-- the new queue was made at the moment
come : (c : In-Ok) → c.make.new.self ≡ c.self.inside.slots ++ new_queue c.args.txid c.args.now c.args.snapshot ∷ []
come c = c.in_ok-make.ensures.ok ∙ ap (λ (t : ℤ). c.self.inside.slots ++ new_queue c.args.txid t c.args.snapshot ∷ []) (to_z-of_z w64 c.args.now c.ranges.now)

pub invariant_of-self-in-Ok : goal.invariant_of-self-in-Ok
invariant_of-self-in-Ok c = (
  (
    c.self.invariant.0.0,
    retried-made c.self.inside.slots _ (new_queue c.args.txid c.args.now c.args.snapshot) c.self.inside.retries (come c) (stored-new (RetriedAtMost c.self.inside.rounds) c.args.txid c.args.now) refl c.self.invariant.0.1,
  ),
  within-made c.self.inside.names _ c.len-number.result c.self.inside.slots (new_queue c.args.txid c.args.now c.args.snapshot) c.add.new.self c.make.new.self c.self.inside.batches.entries c.self.inside.triggers.items
      c.self.inside.traced_tables.entries c.in-Ok.ensures.added c.len-number.ensures (come c) (omega arith) refl c.self.invariant.1,
)

pub invariant_of-self-in-Err : goal.invariant_of-self-in-Err
invariant_of-self-in-Err c =
    let back = c.take_back.ensures c.self.inside.slots _ c.in_ok-make.ensures.ok in
    let within = within-still c.self.inside.names c.self.inside.slots c.take_back.new.self c.self.inside.batches.entries c.self.inside.triggers.items c.self.inside.traced_tables.entries (goes-same _ _ back) c.self.invariant.1 in
    ((c.self.invariant.0.0, retried-same _ _ c.self.inside.retries back c.self.invariant.0.1), (subst (λ (n : NamedView ℕ). AreNumbers n c.take_back.new.self) (sym c.in-Err.ensures.err) within.0, within.1))

pub returns-in-Ok-clause-mark : goal.returns-in-Ok-clause-mark
returns-in-Ok-clause-mark c =
    made-as _ _ c.add.new.self c.make.new.self (new_queue c.args.txid c.args.now c.args.snapshot) _ c.len-number.result c.args.txid (record { id = 1; time = c.args.now; snapshot = c.args.snapshot; seq = 0 }) c.self.view_is c.in-Ok.ensures.added
    c.len-number.ensures (come c) refl c.self.invariant.1.0.each refl refl

pub make-requires : goal.make-requires
make-requires c = subst IsTime (sym (to_z-of_z w64 c.args.now c.ranges.now)) c.requires.time

pub returns-in_err-make-clause-mark : goal.returns-in_err-make-clause-mark
returns-in_err-make-clause-mark c = IfOk-from_err _ _ c.from_residual.ensures.0

pub returns-in_err-make-clause-err : goal.returns-in_err-make-clause-err
returns-in_err-make-clause-err c = on-err _ _ (slots-same _ _ c.self.inside.names c.make.new.self c.self.view_is refl c.in_err-make.ensures.err)

pub returns-in_err-make-clause-rest : goal.returns-in_err-make-clause-rest
returns-in_err-make-clause-rest c = rest-kept _ _ _ c.self.view_is refl refl refl refl

pub returns-in-Ok-clause-rest : goal.returns-in-Ok-clause-rest
returns-in-Ok-clause-rest c = rest-kept _ _ _ c.self.view_is refl refl refl refl

pub returns-in-Err-clause-err : goal.returns-in-Err-clause-err
returns-in-Err-clause-err c = slots-same _ _ c.add.new.self c.take_back.new.self c.self.view_is c.in-Err.ensures.err (c.take_back.ensures c.self.inside.slots _ c.in_ok-make.ensures.ok)

pub returns-in-Err-clause-rest : goal.returns-in-Err-clause-rest
returns-in-Err-clause-rest c = rest-kept _ _ _ c.self.view_is refl refl refl refl
