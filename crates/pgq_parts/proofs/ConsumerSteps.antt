-- What the statements on consumers and batches give.
use Rattle.std.proofs.Common.{◌≡◌, ℕ, ◌+◌, ◌<◌, ◌≤◌, ◌^◌, List, [], ◌∷◌, ◌++◌, Bool, true, false, nat_le, nat_lt, Option, Some, None, Ok, Err, IfSome, IfNone, is_some, length, option_map, refl, sym, ◌∙◌, ap, subst, arith, if◌then◌else◌, ◌==◌, ◌||◌}
use Rattle.std.proofs.lemmas.Bool.Decides.{nat_tests}
use mir.Val.{bool_byte}
use Rattle.sky_val.specs.declared.event.Event.{Event}
use Rattle.sky_model.specs.declared.reply.Reply.{Reply}
use Rattle.sky_model.specs.declared.reply.Reply.TheVariants.{Number, Events}
use Rattle.sky_model.specs.declared.reply.Limit.TheVariants.{Consumers}
use Rattle.sky_model.specs.declared.reply.Refusal.TheVariants.{NoBatch, NodeConsumer, NoTick, TickTooOld, TooMany, IdsSpent}
use Rattle.sky_model.specs.History.{Batch, QueueMark, queued, registered, moved, unregistered, opened, closed}
use Rattle.sky_model.specs.Queues.{Tick, tick, newest_tick, id_of}
use Rattle.sky_model.specs.Consumers.{Subscription}
use Rattle.sky_model.specs.Selection.{selected}
use Rattle.sky_model.specs.Printed.{EventsHaveMoments}
use Rattle.sky_model.specs.State.{Queue, Database, after_mark}
use Rattle.sky_model.specs.Outcome.{Outcome, Checked, ◌>>=◌, ◌>>◌, refused_if, found_or, answers, does_marks}
use Rattle.sky_model.specs.Reader.{shown_by}
use Rattle.sky_model.specs.StepQueue.{queue_called, newest_id}
use Rattle.sky_model.specs.StepConsumer.{is_nodes, registers, register_consumer, register_consumer_at, leaves, unregister_consumer, opens_batch, floor, get_batch_events}
use Rattle.pgq_queues.specs.declared.batch.Batch as read
use Rattle.pgq_queues.specs.Views.{QueuesView}
use Rattle.pgq_queues.specs.Seen.{seen_batch, queue_at, batch_at, seen_with, Beside}
use Rattle.pgq_parts.specs.Views.{DbView}
use Rattle.pgq_parts.specs.Seen.{seen_database}
use Rattle.pgq_parts.proofs.Databases.{Runs, marked-as, unmarked-as}

-- ---- consumers

-- whether a consumer is registered, as its queue says
pub known-as : (v now : DbView) (q : ℕ) (queue : Queue) (consumer : List ℕ) (has b : Bool) → v ≡ now → queue ≡ queue_at v.queues q → has ≡ is_some (queue.sub consumer) → has ≡ b
    → is_some (((seen_database now).queue q).sub consumer) ≡ b
known-as v now q queue consumer has b same there is e =
    sym (is ∙ ap (λ (x : Queue). is_some (x.sub consumer)) there ∙ ap (λ (w : DbView). is_some ((queue_at w.queues q).sub consumer)) same) ∙ e

-- the id of the newest tick, as its queue says
pub newest-as : (v now : DbView) (q : ℕ) (queue : Queue) (ticks : List Tick) (newest : Tick) (id : ℕ) → v ≡ now → queue ≡ queue_at v.queues q → ticks ≡ queue.tick_list
    → newest_tick ticks ≡ Some newest → id ≡ newest.id → id ≡ newest_id ((seen_database now).queue q)
newest-as v now q queue ticks newest id same there are is named =
    named ∙ ap id_of (sym is ∙ ap newest_tick (are ∙ ap Queue.tick_list there)) ∙ ap (λ (w : DbView). newest_id (queue_at w.queues q)) same

pub tick-within : (id newest n : ℕ) → (id ≡ 0 → ⊥) → id ≤ newest → newest ≡ n → (id == 0 || nat_lt n id) ≡ false
tick-within id newest n some le is = grind (arith, nat_tests)

pub none-if : (o : Option Subscription) → is_some o ≡ false → o ≡ None
none-if None is = refl
none-if (Some sub) is = absurd (cc)

-- 1 for what is found
pub counted : (count : ℕ) (b found : Bool) → count ≡ bool_byte b → b ≡ found → count ≡ (if found then 1 else 0)
counted count b found is e = is ∙ of b ∙ ap (λ x. if x then 1 else 0) e
  where
    of : (x : Bool) → bool_byte x ≡ (if x then 1 else 0)
    of true = refl
    of false = refl

-- once the queue is found, and the consumer is no node's
module _ (d : Database) (name consumer : List ℕ) (q : ℕ) (found : queue_called name d ≡ Ok q) (foreign : is_nodes d name consumer ≡ false) where
  behind : (rest : ℕ → Checked Outcome) → (queue_called name d >>= (λ n. refused_if (is_nodes d name consumer) NodeConsumer >> rest n)) ≡ rest q
  behind rest = ap (λ c. c >>= (λ n. refused_if (is_nodes d name consumer) NodeConsumer >> rest n)) found ∙ ap (λ b. refused_if b NodeConsumer >> rest q) foreign

  anew : (b : Bool) → is_some ((d.queue q).sub consumer) ≡ b → register_consumer d name consumer ≡ (if b then answers (Number 0) else registers d q consumer (newest_id (d.queue q)))
  anew b is =
      behind (λ n. if is_some ((d.queue n).sub consumer) then answers (Number 0) else registers d n consumer (newest_id (d.queue n)))
      ∙ ap (λ x. if x then answers (Number 0) else registers d q consumer (newest_id (d.queue q))) is

  -- a consumer that isn't registered yet, and one that is
  pub register-new : (newest : ℕ) → newest ≡ newest_id (d.queue q) → is_some ((d.queue q).sub consumer) ≡ false → registers d q consumer newest ≡ register_consumer d name consumer
  register-new newest is new = sym (anew false new ∙ ap (registers d q consumer) (sym is))

  pub gives-known : (who : ℕ) (before after : List (ℕ × Reply)) → is_some ((d.queue q).sub consumer) ≡ true → after ≡ before ++ (who, Number 0) ∷ []
      → Runs d d before after who (register_consumer d name consumer)
  gives-known who before after known pushed = subst (Runs d d before after who) (sym (anew true known)) (record { accepted = refl; replied = pushed; changed = refl }, tt)

  -- at a tick that the queue has
  abbrev by_floor : (id m : ℕ) → Checked Outcome → Checked Outcome
  by_floor id m rest = refused_if (nat_lt id m) (TickTooOld id m) >> rest

  abbrev at_number : ℕ → ℕ → Checked Outcome
  at_number id n = if is_some ((d.queue n).sub consumer) then does_marks (Number 0) (queued (moved n consumer id) ∷ []) else registers d n consumer id

  has-tick : (id : ℕ) → (id == 0 || nat_lt (newest_id (d.queue q)) id) ≡ false → register_consumer_at d (record { queue = name; consumer = consumer; tick = id }) ≡ by_floor id (floor (d.queue q)) (at_number id q)
  has-tick id within =
      behind (λ n. refused_if (id == 0 || nat_lt (newest_id (d.queue n)) id) (NoTick id (newest_id (d.queue n))) >> by_floor id (floor (d.queue n)) (at_number id n))
      ∙ ap (λ x. refused_if x (NoTick id (newest_id (d.queue q))) >> by_floor id (floor (d.queue q)) (at_number id q)) within

  -- one that is too old
  pub too-old : (id oldest : ℕ) → (id == 0 || nat_lt (newest_id (d.queue q)) id) ≡ false → oldest ≡ floor (d.queue q) → id < oldest → register_consumer_at d (record { queue = name; consumer = consumer; tick = id }) ≡ Err (TickTooOld id oldest)
  too-old id oldest within is low =
      let old : nat_lt id oldest ≡ true = grind (arith, nat_tests) in
      has-tick id within ∙ ap (λ m. by_floor id m (at_number id q)) (sym is) ∙ ap (λ b. refused_if b (TickTooOld id oldest) >> at_number id q) old

  at-tick : (id oldest : ℕ) (b : Bool) → (id == 0 || nat_lt (newest_id (d.queue q)) id) ≡ false → oldest ≡ floor (d.queue q) → oldest ≤ id → is_some ((d.queue q).sub consumer) ≡ b
      → register_consumer_at d (record { queue = name; consumer = consumer; tick = id }) ≡ (if b then does_marks (Number 0) (queued (moved q consumer id) ∷ []) else registers d q consumer id)
  at-tick id oldest b within low le is =
      let new : nat_lt id oldest ≡ false = grind (arith, nat_tests) in
      has-tick id within ∙ ap (λ m. by_floor id m (at_number id q)) (sym low) ∙ ap (λ x. refused_if x (TickTooOld id oldest) >> at_number id q) new
      ∙ ap (λ x. if x then does_marks (Number 0) (queued (moved q consumer id) ∷ []) else registers d q consumer id) is

  pub register_at-new : (id oldest : ℕ) → (id == 0 || nat_lt (newest_id (d.queue q)) id) ≡ false → oldest ≡ floor (d.queue q) → oldest ≤ id → is_some ((d.queue q).sub consumer) ≡ false
      → registers d q consumer id ≡ register_consumer_at d (record { queue = name; consumer = consumer; tick = id })
  register_at-new id oldest within low le new = sym (at-tick id oldest false within low le new)

  pub gives-moved : (s : Database) (who id oldest : ℕ) (before after : List (ℕ × Reply)) → (id == 0 || nat_lt (newest_id (d.queue q)) id) ≡ false → oldest ≡ floor (d.queue q) → oldest ≤ id
      → is_some ((d.queue q).sub consumer) ≡ true → s ≡ after_mark d (queued (moved q consumer id)) → after ≡ before ++ (who, Number 0) ∷ [] → Runs d s before after who (register_consumer_at d (record { queue = name; consumer = consumer; tick = id }))
  gives-moved s who id oldest before after within low le known changed pushed =
      subst (Runs d s before after who) (sym (at-tick id oldest true within low le known)) (record { accepted = refl; replied = pushed; changed = changed }, tt)

  -- one that leaves, if it is registered
  pub gives-leave : (s : Database) (who count : ℕ) (o : Option ℕ) (before after : List (ℕ × Reply)) → o ≡ option_map Subscription.id ((d.queue q).sub consumer)
      → IfSome o (λ sub. s ≡ after_mark d (queued (unregistered q consumer sub))) → IfNone o (s ≡ d) → count ≡ (if is_some o then 1 else 0)
      → after ≡ before ++ (who, Number count) ∷ [] → Runs d s before after who (unregister_consumer d name consumer)
  gives-leave s who count o before after was over nothing is pushed =
      subst (Runs d s before after who) (sym (behind (λ n. leaves n consumer ((d.queue n).sub consumer)))) (of ((d.queue q).sub consumer) o was over nothing is)
    where
      of : (sub : Option Subscription) (p : Option ℕ) → p ≡ option_map Subscription.id sub → IfSome p (λ id. s ≡ after_mark d (queued (unregistered q consumer id))) → IfNone p (s ≡ d)
          → count ≡ (if is_some p then 1 else 0) → Runs d s before after who (leaves q consumer sub)
      of None None e over nothing n = (record { accepted = refl; replied = pushed ∙ ap (λ k. before ++ (who, Number k) ∷ []) n; changed = nothing }, tt)
      of (Some sub) (Some id) e over nothing n =
          let same : id ≡ sub.id = cc in (
            record {
              accepted = refl;
              replied = pushed ∙ ap (λ k. before ++ (who, Number k) ∷ []) n;
              changed = over ∙ ap (λ k. after_mark d (queued (unregistered q consumer k))) same;
            },
            tt,
          )
      of None (Some id) e over nothing n = absurd (cc)
      of (Some sub) None e over nothing n = absurd (cc)

-- what holds with all that there is beside queues, of what is there
pub marked-if : (v now : DbView) (queues : QueuesView) (o : Option ℕ) (mark : ℕ → QueueMark) → v ≡ now
    → IfSome o (λ n. (beside : Beside) → seen_with beside queues ≡ after_mark (seen_with beside v.queues) (queued (mark n)))
    → IfSome o (λ n. seen_database (record v { queues = queues }) ≡ after_mark (seen_database now) (queued (mark n)))
marked-if v now queues None mark same is = tt
marked-if v now queues (Some n) mark same is = marked-as v now queues (λ _. mark n) same is

pub unmarked-if : (v now : DbView) (queues : QueuesView) (o : Option ℕ) → v ≡ now → IfNone o ((beside : Beside) → seen_with beside queues ≡ seen_with beside v.queues)
    → IfNone o (seen_database (record v { queues = queues }) ≡ seen_database now)
unmarked-if v now queues None same is = unmarked-as v now queues same is
unmarked-if v now queues (Some n) same is = tt

-- a new one
pub gives-new : (d s : Database) (who q at : ℕ) (consumer : List ℕ) (before after : List (ℕ × Reply)) → length (d.queue q).members < 256 → d.last_sub_id + 1 < 2 ^ 64
    → s ≡ after_mark d (queued (registered q consumer (d.last_sub_id + 1) at)) → after ≡ before ++ (who, Number 1) ∷ [] → Runs d s before after who (registers d q consumer at)
gives-new d s who q at consumer before after few left changed pushed = subst (Runs d s before after who) (sym whole) (record { accepted = refl; replied = pushed; changed = changed }, tt)
  where
    room : nat_le 256 (length (d.queue q).members) ≡ false
    room = grind (arith, nat_tests)

    unspent : nat_le (2 ^ 64) (d.last_sub_id + 1) ≡ false
    unspent = grind (arith, nat_tests)

    result : Checked Outcome
    result = does_marks (Number 1) (queued (registered q consumer (d.last_sub_id + 1) at) ∷ [])

    whole : registers d q consumer at ≡ result
    whole = ap (λ b. refused_if b (TooMany Consumers) >> (refused_if (nat_le (2 ^ 64) (d.last_sub_id + 1)) IdsSpent >> result)) room ∙ ap (λ b. refused_if b IdsSpent >> result) unspent

-- ---- batches

-- one that is made
pub gives-batch : (d s : Database) (who q n : ℕ) (consumer : List ℕ) (sub : Subscription) (next : Tick) (before after : List (ℕ × Reply)) → Some next ≡ tick (sub.position + 1) (d.queue q).tick_list
    → d.last_batch_id + 1 < 2 ^ 64
    → s ≡ after_mark d (queued (opened (record { id = d.last_batch_id + 1; queue = q; consumer = consumer; sub = sub.id; prev = sub.position; cur = next.id })))
    → n ≡ s.last_batch_id → after ≡ before ++ (who, Number n) ∷ [] → Runs d s before after who (opens_batch d q consumer sub (tick (sub.position + 1) (d.queue q).tick_list))
gives-batch d s who q n consumer sub next before after there left changed is pushed =
    subst (λ o. Runs d s before after who (opens_batch d q consumer sub o)) there
    (subst (Runs d s before after who) (sym (ap (λ b. refused_if b IdsSpent >> result) unspent))
    (record { accepted = refl; replied = pushed ∙ ap (λ k. before ++ (who, Number k) ∷ []) (is ∙ ap Database.last_batch_id changed); changed = changed }, tt))
  where
    unspent : nat_le (2 ^ 64) (d.last_batch_id + 1) ≡ false
    unspent = grind (arith, nat_tests)

    result : Checked Outcome
    result = does_marks (Number (d.last_batch_id + 1))
        (queued (opened (record { id = d.last_batch_id + 1; queue = q; consumer = consumer; sub = sub.id; prev = sub.position; cur = next.id })) ∷ [])

-- the tick after a position, if there is one, as the queue says
pub next-as : (v now : DbView) (q at position : ℕ) (queue : Queue) (ticks : List Tick) (next : Option Tick) → v ≡ now → queue ≡ queue_at v.queues q → ticks ≡ queue.tick_list
    → next ≡ tick (at + 1) ticks → at ≡ position → next ≡ tick (position + 1) ((seen_database now).queue q).tick_list
next-as v now q at position queue ticks next same there are is stands =
    is ∙ ap (λ n. tick (n + 1) ticks) stands ∙ ap (tick (position + 1)) (are ∙ ap Queue.tick_list there) ∙ ap (λ (w : DbView). tick (position + 1) (queue_at w.queues q).tick_list) same

-- one that is finished
pub closed-as : (v now : DbView) (queues : QueuesView) (id : ℕ) (b : Batch) → v ≡ now → Some b ≡ batch_at v.queues id
    → IfSome (batch_at v.queues id) (λ batch. (beside : Beside) → seen_with beside queues ≡ after_mark (seen_with beside v.queues) (queued (closed batch)))
    → seen_database (record v { queues = queues }) ≡ after_mark (seen_database now) (queued (closed b))
closed-as v now queues id b same there over =
    marked-as v now queues (λ _. closed b) same
    (subst (λ o. IfSome o (λ batch. (beside : Beside) → seen_with beside queues ≡ after_mark (seen_with beside v.queues) (queued (closed batch)))) (sym there) over)

-- its events
pub events-as : (d : Database) (id : ℕ) (batch : read.Batch) (events : List Event) → Some (seen_batch batch) ≡ d.batch id → events ≡ selected d (seen_batch batch) → Some events ≡ (shown_by d).events id
events-as d id batch events there are = ap Some are ∙ ap (option_map (selected d)) there

pub no-events : (events_of : ℕ → Option (List Event)) (id : ℕ) → None ≡ events_of id → get_batch_events events_of id ≡ Err NoBatch
no-events events_of id none = ap (λ found. found_or found NoBatch >>= (λ es. answers (Events es))) (sym none)

pub gives-events : (d s : Database) (who id : ℕ) (events : List Event) (before after : List (ℕ × Reply)) → Some events ≡ (shown_by d).events id → EventsHaveMoments events → s ≡ d
    → after ≡ before ++ (who, Events events) ∷ [] → Runs d s before after who (get_batch_events (shown_by d).events id)
gives-events d s who id events before after are have same pushed =
    subst (λ found. Runs d s before after who (found_or found NoBatch >>= (λ es. answers (Events es)))) are (record { accepted = refl; replied = pushed; changed = same }, have)
