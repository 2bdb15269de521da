-- A batch that a worker takes in hand.
use Rattle.std.proofs.Common.{◌≡◌, List, [], ◌∷◌, true, false, Some, Ok, Err, is_ok, sym, ◌∙◌, ap}
use Rattle.sky_model.specs.declared.reply.Reply.{Reply}
use Rattle.sky_model.specs.declared.reply.Reply.TheVariants.{Number, BatchTaken}
use Rattle.sky_model.specs.Hands.{BatchHand}
use Rattle.sky_model.specs.State.{Database, after_marks}
use Rattle.sky_model.specs.Outcome.{Outcome, Checked, ◌>>=◌, marks_of, reply_of}
use Rattle.sky_model.specs.StepNode.{fetching, node_does}
use Rattle.sky_model.specs.WorkerMoves.{Move}
use Rattle.sky_model.specs.BatchMoves.{Follower, taken, takes, takes_next}
use Rattle.sky_store.specs.declared.batch.NodeBatch.{NodeBatch}
use Rattle.sky_store.specs.Served.{Serves, Takes}
use Rattle.londiste_batches.specs.Moved.{MovesBy}
use Rattle.londiste_batches.proofs.Calls.{serves-none, serves-one}

module _ (p p_new r : Database) (f : Follower) (batch : NodeBatch) (serves : Serves p p_new (fetching f.consumer)) (takes_it : Takes batch p p_new f.consumer) where
  abbrev in_hand : BatchHand
  in_hand = record { id = batch.id; prev = batch.prev; cur = batch.cur; is_done = false }

  abbrev takes_batch : Move BatchHand
  takes_batch = record {
    provider = fetching f.consumer ∷ [];
    replica = [];
    replies = BatchTaken batch.id batch.prev batch.cur ∷ [];
    hand = Some in_hand;
  }

  -- as its definition says
  takes-is : takes_next p f ≡ Ok takes_batch
  takes-is = by (node_does p (fetching f.consumer)) serves.accepted serves.changed takes_it.answered
    where
      by : (o : Checked Outcome) → is_ok o ≡ true → p_new ≡ after_marks p (marks_of o) → reply_of o ≡ Number batch.id → (o >>= (λ asked. takes f (taken (after_marks p asked.marks) asked.reply))) ≡ Ok takes_batch
      by (Err refusal) ok changed is = absurd (cc)
      by (Ok asked) ok changed is =
          ap (λ reply. takes f (taken (after_marks p asked.marks) reply)) is
          ∙ ap (λ (d : Database). takes f (d.batch batch.id)) (sym changed)
          ∙ ap (takes f) takes_it.active

  pub taken-moves : (replies : List Reply) (hand : BatchHand) → replies ≡ BatchTaken batch.id batch.prev batch.cur ∷ [] → hand ≡ in_hand → MovesBy (takes_next p f) p p_new r r replies (Some hand)
  taken-moves replies hand printed same = record {
    move = takes_batch;
    is = takes-is;
    moved = record { provider = serves-one p p_new (fetching f.consumer) serves; replica = serves-none r; printed = printed; in_hand = ap Some same };
  }
