-- What a worker does with a batch of which an event can't be applied.
use Rattle.std.proofs.Common.{◌≡◌, ℕ, List, [], ◌∷◌, Bool, true, false, Some, nat_le, ◌^◌, length, Ok, is_ok, refl, sym, ◌∙◌, ap, subst, if◌then◌else◌}
use Rattle.sky_val.specs.declared.event.Event.{Event}
use Rattle.sky_model.specs.declared.reply.Reply.{Reply}
use Rattle.sky_model.specs.declared.reply.Reply.TheVariants.{Null, Idle}
use Rattle.sky_model.specs.declared.reply.Refusal.TheVariants.{TxidsSpent}
use Rattle.sky_model.specs.Hands.{BatchHand}
use Rattle.sky_model.specs.State.{Database}
use Rattle.sky_model.specs.Outcome.{Outcome, Checked, ◌>>=◌, ◌>>◌, refused_if, answers}
use Rattle.sky_model.specs.StepApply.{may_apply, picked, applies_in, ends_applying, applies_picked, bad_event}
use Rattle.sky_model.specs.StepNode.{NodeCall, applying, node_does}
use Rattle.sky_model.specs.DatabaseSteps.{IsMade}
use Rattle.sky_model.specs.WorkerMoves.{Move}
use Rattle.sky_model.specs.BatchMoves.{Follower, events_of_batch, has_applied, applies_in_hand}
use Rattle.sky_histories.proofs.MadeCopies.{picked-uncopied}
use Rattle.sky_store.specs.Applying.{IsBad}
use Rattle.sky_store.specs.Served.{Serves}
use Rattle.londiste_batches.specs.Moved.{MovesBy}
use Rattle.londiste_batches.proofs.Calls.{serves-one}

module _ (p p_new r r_new : Database) (made : IsMade r) (f : Follower) (may : may_apply f.pick r.node ≡ true) (same : p_new ≡ p) (id : ℕ) (replies : List Reply) (printed : replies ≡ Idle ∷ []) where
  abbrev picked_in : BatchHand → List Event
  picked_in b = picked r.node f.pick (events_of_batch p b.id)

  abbrev call_for : BatchHand → NodeCall
  call_for b = applying (events_of_batch p b.id) f.pick b.cur

  -- what is made of its events, by whether the last id was given
  abbrev made_of : BatchHand → (spent : Bool) → Checked Outcome
  made_of b spent =
      (refused_if spent TxidsSpent >> Ok r.part.next) >>= (λ t. ends_applying f.pick b.cur t (length (picked_in b)) (applies_in r.part t (picked_in b)).marks (applies_in r.part t (picked_in b)).bad)

  does : (b : BatchHand) → node_does r (call_for b) ≡ made_of b (nat_le (2 ^ 62) r.part.next)
  does b = λ i. if may i then (if picked-uncopied r made f.pick (events_of_batch p b.id) i then answers Null else applies_picked r f.pick b.cur (picked_in b)) else answers Null

  -- so one is left, and the worker stays where it is
  stays : (b : BatchHand) → bad_event r f.pick (events_of_batch p b.id) ≡ Some id → Serves r r_new (call_for b) → applies_in_hand p r f b ≡ Ok (has_applied (call_for b) b (length (picked_in b)) (Some id))
  stays b bad serves = by (nat_le (2 ^ 62) r.part.next) (ap is_ok (sym (does b)) ∙ serves.accepted)
    where
      by : (spent : Bool) → is_ok (made_of b spent) ≡ true
          → ◌≡◌ {A = Checked (Move BatchHand)} ((refused_if spent TxidsSpent >> Ok r.part.next) >>= (λ t. Ok (has_applied (call_for b) b (length (picked_in b)) (bad_event r f.pick (events_of_batch p b.id)))))
          (Ok (has_applied (call_for b) b (length (picked_in b)) (Some id)))
      by true ok = absurd (cc)
      by false ok = ap (λ bad. Ok (has_applied (call_for b) b (length (picked_in b)) bad)) bad

  pub stays-moves : (v b : BatchHand) → v ≡ b → (events : List Event) → events ≡ events_of_batch p v.id → IsBad id r r_new events f.pick v.cur → MovesBy (applies_in_hand p r f b) p p_new r r_new replies (Some b)
  stays-moves v b one events shown is =
      let bad : bad_event r f.pick (events_of_batch p v.id) ≡ Some id = ap (bad_event r f.pick) (sym shown) ∙ is.first in
      let serves : Serves r r_new (call_for v) = subst (λ es. Serves r r_new (applying es f.pick v.cur)) shown is.serves in
      subst (λ (h : BatchHand). MovesBy (applies_in_hand p r f h) p p_new r r_new replies (Some h)) one (record {
        move = has_applied (call_for v) v (length (picked_in v)) (Some id);
        is = stays v bad serves;
        moved = record { provider = record { accepted = tt; changed = same }; replica = serves-one r r_new (call_for v) serves; printed = printed; in_hand = refl };
      })
