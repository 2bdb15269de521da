-- What the statements on a batch give.
use Rattle.std.proofs.Common.{◌≡◌, ℕ, List, [], ◌∷◌, ◌++◌, Bool, true, false, Option, Some, None, IfSome, is_some, refl, sym, ◌∙◌, ap, subst}
use mir.Val.{bool_byte}
use Rattle.sky_model.specs.declared.reply.BatchInfo as shown_batch
use Rattle.sky_model.specs.declared.reply.Reply.{Reply}
use Rattle.sky_model.specs.declared.reply.Reply.TheVariants.{Number, BatchInfo}
use Rattle.sky_model.specs.declared.reply.Refusal.TheVariants.{NoBatch, NodeConsumer}
use Rattle.sky_model.specs.History.{Batch, queued, closed}
use Rattle.sky_model.specs.State.{Database, after_mark}
use Rattle.sky_model.specs.Outcome.{◌>>=◌, ◌>>◌, refused_if, found_or, answers, does_marks}
use Rattle.sky_model.specs.StepConsumer.{batch_info_of, get_batch_info, is_nodes_batch, finishes, finish_batch}
use Rattle.pgq_queues.specs.declared.batch.Batch as read
use Rattle.pgq_queues.specs.Seen.{seen_batch, batch_at, seen_with, Beside}
use Rattle.pgq_queues.specs.Views.{QueuesView}
use Rattle.pgq_parts.specs.Views.{DbView}
use Rattle.pgq_parts.specs.Seen.{seen_database}
use Rattle.pgq_parts.proofs.Databases.{Runs, marked-as}

-- what is shown of one
pub info-of : (d : Database) (id : ℕ) (batch : read.Batch) (info : shown_batch.BatchInfo) → Some (seen_batch batch) ≡ d.batch id → info ≡ batch_info_of d (seen_batch batch)
    → get_batch_info d id ≡ answers (BatchInfo info)
info-of d id batch info there is =
    ap (λ found. found_or found NoBatch >>= (λ b. answers (BatchInfo (batch_info_of d b)))) (sym there) ∙ ap (λ x. answers (BatchInfo x)) (sym is)

pub gives-shown : (d : Database) (who id : ℕ) (info : shown_batch.BatchInfo) (before after : List (ℕ × Reply)) → get_batch_info d id ≡ answers (BatchInfo info) → after ≡ before ++ (who, BatchInfo info) ∷ []
    → Runs d d before after who (get_batch_info d id)
gives-shown d who id info before after is pushed = subst (Runs d d before after who) (sym is) (record { accepted = refl; replied = pushed; changed = refl }, tt)

-- a batch is closed if it is active
pub closed-if : (v now : DbView) (queues : QueuesView) (id : ℕ) → v ≡ now → IfSome (batch_at v.queues id) (λ b. (beside : Beside) → seen_with beside queues ≡ after_mark (seen_with beside v.queues) (queued (closed b)))
    → IfSome ((seen_database now).batch id) (λ b. seen_database (record v { queues = queues }) ≡ after_mark (seen_database now) (queued (closed b)))
closed-if v now queues id same is =
    subst (λ (w : DbView). IfSome (batch_at w.queues id) (λ b. seen_database (record v { queues = queues }) ≡ after_mark (seen_database now) (queued (closed b)))) same (of (batch_at v.queues id) is)
  where
    of : (o : Option Batch) → IfSome o (λ b. (beside : Beside) → seen_with beside queues ≡ after_mark (seen_with beside v.queues) (queued (closed b)))
        → IfSome o (λ b. seen_database (record v { queues = queues }) ≡ after_mark (seen_database now) (queued (closed b)))
    of None each = tt
    of (Some b) each = marked-as v now queues (λ _. closed b) same each

-- what is left once the batch of an id was finished, or there was none
abbrev pub Finished : (old new : Database) → Option Batch → Bool → Type 0
Finished old new o true = IfSome o (λ b. new ≡ after_mark old (queued (closed b)))
Finished old new o false = new ≡ old

pub gives-finished : (d s : Database) (who id count : ℕ) (active : Bool) (before after : List (ℕ × Reply)) → active ≡ is_some (d.batch id) → IfSome (d.batch id) (λ b. is_nodes_batch d b ≡ false)
    → Finished d s (d.batch id) active → count ≡ bool_byte active → after ≡ before ++ (who, Number count) ∷ [] → Runs d s before after who (finish_batch d id)
gives-finished d s who id count active before after there foreign left is pushed = of (d.batch id) active there foreign left is
  where
    of : (o : Option Batch) (a : Bool) → a ≡ is_some o → IfSome o (λ b. is_nodes_batch d b ≡ false) → Finished d s o a → count ≡ bool_byte a → Runs d s before after who (finishes d o)
    of None false e f l n = (record { accepted = refl; replied = pushed ∙ ap (λ k. before ++ (who, Number k) ∷ []) n; changed = l }, tt)
    of (Some b) true e f l n =
        subst (Runs d s before after who) (sym (ap (λ x. refused_if x NodeConsumer >> does_marks (Number 1) (queued (closed b) ∷ [])) f))
        (record { accepted = refl; replied = pushed ∙ ap (λ k. before ++ (who, Number k) ∷ []) n; changed = l }, tt)
    of None true e f l n = absurd (cc)
    of (Some b) false e f l n = absurd (cc)
