-- How many stored events a statement looks at: what changes queues otherwise looks at none.
use Rattle.std.proofs.Common.{◌≡◌, ℕ, zero, suc, ℤ, ◌+◌, ◌-◌, ◌^◌, ◌<◌, ◌≤◌, Bool, true, false, ◌==◌, List, [], ◌∷◌, length, Option, None, Some, Ok, Err, get_or, slice_set, refl, sym, ◌∙◌, ap, subst, arith, if◌then◌else◌}
use Rattle.std.proofs.lemmas.Bool.Decides.{nat_tests}
use Rattle.sky_val.specs.declared.event.Event.{Event}
use Rattle.sky_urlenc.specs.RowEvents.{RowEvent}
use Rattle.sky_model.specs.Gates.{passed, passed_all}
use Rattle.sky_model.specs.History.{Batch, Mark, of_session, ended, tabled, wrote}
use Rattle.sky_model.specs.declared.reply.Refusal.{Refusal}
use Rattle.sky_model.specs.declared.reply.Refusal.TheVariants.{NoBatch}
use Rattle.sky_model.specs.declared.reply.Reply.{Reply}
use Rattle.sky_model.specs.declared.reply.Reply.TheVariants as answer
use Rattle.sky_model.specs.Outcome.{Checked, Outcome, ◌>>=◌, found_or, answers, reply_of, or_refused}
use Rattle.sky_model.specs.Sessions.{Session}
use Rattle.sky_model.specs.StepConsumer.{get_batch_events}
use Rattle.sky_model.specs.declared.stmt.DbStmt.{DbStmt}
use Rattle.sky_model.specs.declared.stmt.DbStmt.TheVariants.{Queue}
use Rattle.sky_model.specs.declared.stmt.QueueStmt.TheVariants.{GetBatchEvents, EventRetry}
use Rattle.sky_model.specs.declared.stop.Stop.TheVariants.{Refused}
use Rattle.pgq_queues.specs.declared.batch.Batch as read
use Rattle.pgq_queue.specs.declared.span.Span.{Span}
use Rattle.pgq_queues.specs.EventRule.{events_at, telling_all, event_rule}
use Rattle.pgq_queue.specs.Changed.{telling}
use Rattle.pgq_queue.specs.Looked.{most_in}
use Rattle.pgq_queue.specs.Seen.{no_queue, seen_span}
use Rattle.pgq_queues.specs.Seen.{seen_batch, queue_at, batch_at, reads_at}
use Rattle.pgq_queues.specs.Traced.{traced_at}
use Rattle.pgq_queue.specs.Views.{QueueView}
use Rattle.pgq_queues.specs.Views.{QueuesView}
use Rattle.pgq_queues.proofs.Slotted.{undone-get}
use Rattle.pgq_parts.specs.Views.{DbView}
use Rattle.pgq_parts.specs.Looks.{most_for, LooksFor, LooksWithin, RanWithin, LooksFrom, LooksAtNoOther, ListsFrom, ListsLooked, ReadsNone}

-- ---- the queues as the gate

reads-set : (queues : List QueueView) (i n : ℕ) (x : QueueView) → x.event_tables.reads ≡ (get_or queues i no_queue).event_tables.reads → reads_at (slice_set queues i x) n ≡ reads_at queues n
reads-set [] i n x is = refl
reads-set (q ∷ qs) zero zero x is = is
reads-set (q ∷ qs) zero (suc n) x is = refl
reads-set (q ∷ qs) (suc i) zero x is = refl
reads-set (q ∷ qs) (suc i) (suc n) x is = reads-set qs i n x is

reads-told : (es : List RowEvent) (queues : List QueueView) (now : ℤ) (t n : ℕ) → reads_at (telling_all now t es queues) n ≡ reads_at queues n
reads-told [] queues now t n = refl
reads-told (e ∷ es) queues now t n =
    let one : QueueView = telling now t e (get_or queues e.queue no_queue) in
    reads-told es (slice_set queues e.queue one) now t n ∙ reads-set queues e.queue n one refl

reads-mark : (q : QueuesView) (mark : Mark) → ReadsNone q (passed event_rule q mark)
reads-mark q (tabled (wrote (of_session who) t table key old new)) = λ n. reads-told (events_at (traced_at q table) (record { table = table; old = old; new = new })) q.queues q.time t n
reads-mark q (ended whose t false) = λ n. ap (λ (x : QueueView). x.event_tables.reads) (undone-get t q.queues n)
reads-mark q mark = λ n. refl

reads-all : (q : QueuesView) (marks : List Mark) → ReadsNone q (passed_all event_rule q marks)
reads-all q [] = λ n. refl
reads-all q (mark ∷ marks) = λ n. reads-all (passed event_rule q mark) marks n ∙ reads-mark q mark n

-- queues after marks of rows
pub reads-passed : (old q left : QueuesView) (marks : List Mark) → q.queues ≡ old.queues → left ≡ passed_all event_rule q marks → ReadsNone old left
reads-passed old q left marks same is = λ n. ap (λ (x : QueuesView). reads_at x.queues n) is ∙ reads-all q marks n ∙ ap (λ queues. reads_at queues n) same

-- ---- the events of a batch

module _ (v now : DbView) (same : v ≡ now) (id : ℕ) (batch : read.Batch) (span : Span) (there : Some (seen_batch batch) ≡ batch_at v.queues id)
    (is : span ≡ record { queue = batch.queue; sub = batch.sub; prev = batch.prev; cur = batch.cur }) (new : QueuesView) where
  pub looks-for : ((n : ℕ) → (span.queue == n) ≡ false → reads_at new.queues n ≡ reads_at v.queues.queues n)
      → reads_at new.queues span.queue ≤ reads_at v.queues.queues span.queue + most_in (queue_at v.queues span.queue) (seen_span span) → LooksFor now.queues new id
  looks-for others upper =
      subst (λ (w : DbView). LooksFor w.queues new id) same (λ n. subst (λ o. reads_at new.queues n ≤ reads_at v.queues.queues n + most_for v.queues n o) there (by n (batch.queue == n) refl))
    where
      by : (n : ℕ) (b : Bool) → (batch.queue == n) ≡ b → reads_at new.queues n ≤ reads_at v.queues.queues n + (if b then most_in (queue_at v.queues n) (seen_batch batch) else 0)
      by n true e =
          let here : batch.queue ≡ n = grind (arith, nat_tests) in
          subst (λ m. reads_at new.queues m ≤ reads_at v.queues.queues m + most_in (queue_at v.queues m) (seen_batch batch)) here
          (subst (λ (s : Span). reads_at new.queues s.queue ≤ reads_at v.queues.queues s.queue + most_in (queue_at v.queues s.queue) (seen_span s)) is upper)
      by n false e = let kept = others n (subst (λ (s : Span). (s.queue == n) ≡ false) (sym is) e) in omega (arith, kept)

  -- those that are listed were looked at
  pub lists-for : (events : List Event)
      → (reads_at new.queues span.queue < 2 ^ 64 - 1 → length events + reads_at v.queues.queues span.queue ≤ reads_at new.queues span.queue) → LooksFrom now.queues new events (batch_at now.queues id)
  lists-for events lower =
      subst (λ (w : DbView). LooksFrom w.queues new events (batch_at w.queues id)) same
      (subst (LooksFrom v.queues new events) there
      (subst (λ (s : Span). reads_at new.queues s.queue < 2 ^ 64 - 1 → length events + reads_at v.queues.queues s.queue ≤ reads_at new.queues s.queue) is lower))

  -- and none of another queue
  pub no-other-for : ((n : ℕ) → (span.queue == n) ≡ false → reads_at new.queues n ≡ reads_at v.queues.queues n) → LooksAtNoOther now.queues new (batch_at now.queues id)
  no-other-for others =
      subst (λ (w : DbView). LooksAtNoOther w.queues new (batch_at w.queues id)) same
      (subst (LooksAtNoOther v.queues new) there (subst (λ (s : Span). (n : ℕ) → (s.queue == n) ≡ false → reads_at new.queues n ≡ reads_at v.queues.queues n) is others))

pub no-other-same : (q : QueuesView) (o : Option Batch) → LooksAtNoOther q q o
no-other-same q None = λ n. refl
no-other-same q (Some b) = λ n apart. refl

-- ---- a statement, part by part

pub looks-none : (old new : QueuesView) (stmt : DbStmt) → ReadsNone old new → LooksWithin old new stmt
looks-none old new (Queue (GetBatchEvents id)) none = λ n. let same = none n in omega (arith, same)
looks-none old new (Queue (EventRetry again)) none = λ n. let same = none n in omega (arith, same)
looks-none old new _ none = tt

pub looks-done : (old new : QueuesView) (stmt : DbStmt) (done : Unit {0}) → RanWithin old new stmt (Ok done) → LooksWithin old new stmt
looks-done old new (Queue (GetBatchEvents id)) done looks = looks
looks-done old new (Queue (EventRetry again)) done looks = looks
looks-done old new _ done looks = tt

pub looks-then : (old mid new : QueuesView) (stmt : DbStmt) → LooksWithin old mid stmt → ReadsNone mid new → LooksWithin old new stmt
looks-then old mid new (Queue (GetBatchEvents id)) looks none = λ n. let most = looks n in let same = none n in omega (arith, most, same)
looks-then old mid new (Queue (EventRetry again)) looks none = λ n. let most = looks n in let same = none n in omega (arith, most, same)
looks-then old mid new _ looks none = tt

pub looks-refused : (old mid new : QueuesView) (stmt : DbStmt) (refusal : Refusal) → RanWithin old mid stmt (Err (Refused refusal)) → ReadsNone mid new → LooksWithin old new stmt
looks-refused old mid new (Queue (GetBatchEvents id)) refusal looks none = λ n. let most = looks n in let same = none n in omega (arith, most, same)
looks-refused old mid new (Queue (EventRetry again)) refusal looks none = λ n. let most = looks n in let same = none n in omega (arith, most, same)
looks-refused old mid new _ refusal looks none = tt

-- ---- the events that are listed

pub lists-reply : (old new : QueuesView) (id : ℕ) (events_of : ℕ → Option (List Event)) (events : List Event) → Some events ≡ events_of id → LooksFrom old new events (batch_at old id)
    → ListsFrom old new id (reply_of (get_batch_events events_of id))
lists-reply old new id events_of events are lists = subst (λ found. ListsFrom old new id (reply_of (found_or found NoBatch >>= (λ es. answers (answer.Events es))))) are lists

pub lists-done : (old new : QueuesView) (stmt : DbStmt) (who : ℕ) (s : Session) (checked : Checked Outcome) → ListsLooked old new stmt (reply_of checked) → ListsLooked old new stmt (or_refused who s checked).reply
lists-done old new stmt who s (Ok outcome) lists = lists
lists-done old new stmt who s (Err refusal) lists = lists

pub lists-refused : (old new : QueuesView) (stmt : DbStmt) (reply : Reply) (refusal : Refusal) → reply ≡ answer.Refused refusal → ListsLooked old new stmt reply
lists-refused old new stmt reply refusal is = subst (ListsLooked old new stmt) (sym is) (of stmt)
  where
    of : (stmt : DbStmt) → ListsLooked old new stmt (answer.Refused refusal)
    of (Queue (GetBatchEvents id)) = tt
    of _ = tt

pub lists-then : (old mid new : QueuesView) (stmt : DbStmt) (reply : Reply) → ListsLooked old mid stmt reply → ReadsNone mid new → ListsLooked old new stmt reply
lists-then old mid new (Queue (GetBatchEvents id)) (answer.Events events) lists none = of (batch_at old id) lists
  where
    of : (o : Option Batch) → LooksFrom old mid events o → LooksFrom old new events o
    of None lists = tt
    of (Some b) lists = λ few.
        let same = none b.queue in
        let least = lists (omega (arith, same, few)) in
        omega (arith, same, least)
lists-then old mid new (Queue (GetBatchEvents id)) _ lists none = tt
lists-then old mid new _ reply lists none = tt
