-- What the calls give that a root's database serves for the leaves of its set.
use Rattle.std.proofs.Common.{◌≡◌, ℕ, ◌+◌, ◌<◌, ◌≤◌, ◌^◌, List, [], ◌∷◌, Bool, true, false, not, ◌&&◌, ◌==◌, nat_le, Option, Some, None, Err, IfSome, IfNone, is_some, length, option_map, option_and_then, unwrap_or, refl, sym, ◌∙◌, ap, subst, arith, if◌then◌else◌}
use Rattle.std.proofs.lemmas.Bool.Decides.{nat_tests}
use Rattle.sky_model.specs.declared.reply.Reply.TheVariants.{Done, Number, Null}
use Rattle.sky_model.specs.declared.reply.Refusal.TheVariants.{IdsSpent}
use Rattle.sky_model.specs.History.{Batch, queued, unregistered, opened, closed, noded, parted}
use Rattle.sky_model.specs.Nodes.{after_node}
use Rattle.sky_model.specs.Queues.{Tick, tick}
use Rattle.sky_model.specs.Consumers.{Subscription}
use Rattle.sky_model.specs.State.{Queue, Database, after_mark, after_marks}
use Rattle.sky_model.specs.Outcome.{◌>>◌, refused_if, answers, does_marks, reply_of}
use Rattle.sky_model.specs.Reader.{shown_by}
use Rattle.sky_model.specs.Selection.{selected}
use Rattle.sky_model.specs.StepConsumer.{takes_batch, opens_batch}
use Rattle.sky_model.specs.StepNode.{set_queue, is_full, has_joined, snapshot_of_tick, parts, parting, fetching, finishing, closes, if_there, node_does}
use Rattle.sky_txid.specs.Snapshot.{SnapshotView}
use Rattle.londiste_state.specs.Nodes.{Node}
use Rattle.sky_state.specs.Seen.{seen}
use Rattle.pgq_sub.specs.declared.sub.OpenBatch.{OpenBatch}
use Rattle.pgq_sub.specs.Views.{SubView, seen_sub}
use Rattle.pgq_queues.specs.Views.{QueuesView}
use Rattle.pgq_queues.specs.Seen.{queue_at, batch_of, batch_at, seen_with, Beside}
use Rattle.pgq_parts.specs.Views.{DbView}
use Rattle.pgq_parts.specs.Seen.{with_node, seen_database}
use Rattle.sky_store.specs.Served.{Serves, Takes}
use Rattle.pgq_parts.proofs.Databases.{marked-as}
use Rattle.pgq_parts.proofs.NodeSteps.{serves-by}

nothing-there : {A : Type 0} → (o : Option A) → None ≡ o → is_some o ≡ true → ⊥
nothing-there o none there = absurd (cc)

-- ---- the set's queue

pub full-as : (v now : DbView) (q : ℕ) (queue : Queue) (consumer : List ℕ) → v ≡ now → set_queue (seen_database now) ≡ Some q → queue ≡ queue_at v.queues q
    → (nat_le 256 (length queue.members) && not (is_some (queue.sub consumer))) ≡ is_full (seen_database now) consumer
full-as v now q queue consumer same set there =
    ap (λ (x : Queue). nat_le 256 (length x.members) && not (is_some (x.sub consumer))) (there ∙ ap (λ (w : DbView). queue_at w.queues q) same)
    ∙ ap (λ o. unwrap_or (option_map (λ queue. nat_le 256 (length ((seen_database now).queue queue).members) && not (is_some (((seen_database now).queue queue).sub consumer))) o) false) (sym set)

-- of a queue with as many consumers as it may have
pub full-if : (v now : DbView) (q : ℕ) (queue : Queue) (consumer : List ℕ) (count : ℕ) (has : Bool) → v ≡ now → set_queue (seen_database now) ≡ Some q → queue ≡ queue_at v.queues q → count ≡ length queue.members
    → 256 ≤ count → has ≡ is_some (queue.sub consumer) → not has ≡ is_full (seen_database now) consumer
full-if v now q queue consumer count has same set there counted many is =
    let most : nat_le 256 (length queue.members) ≡ true = grind (arith, nat_tests) in
    ap not is ∙ ap (λ b. b && not (is_some (queue.sub consumer))) (sym most) ∙ full-as v now q queue consumer same set there

-- whether a consumer has joined
pub has-joined : (v now : DbView) (q : ℕ) (queue : Queue) (consumer : List ℕ) (has : Bool) → v ≡ now → set_queue (seen_database now) ≡ Some q → queue ≡ queue_at v.queues q → has ≡ is_some (queue.sub consumer)
    → has ≡ has_joined (seen_database now) consumer
has-joined v now q queue consumer has same set there is =
    is ∙ ap (λ (x : Queue). is_some (x.sub consumer)) (there ∙ ap (λ (w : DbView). queue_at w.queues q) same)
    ∙ ap (λ o. unwrap_or (option_map (λ n. is_some (((seen_database now).queue n).sub consumer)) o) false) (sym set)

-- whether something is there, seen in another way
pub is_some-seen : {A B : Type 0} (f : A → B) (o : Option A) → is_some o ≡ is_some (option_map f o)
is_some-seen f None = refl
is_some-seen f (Some a) = refl

pub snapshot-as : (v now : DbView) (q id : ℕ) (queue : Queue) (ticks : List Tick) (o : Option SnapshotView) → v ≡ now → set_queue (seen_database now) ≡ Some q → queue ≡ queue_at v.queues q
    → ticks ≡ queue.tick_list → o ≡ option_map Tick.snapshot (tick id ticks) → o ≡ snapshot_of_tick (seen_database now) id
snapshot-as v now q id queue ticks o same set there are is =
    is ∙ ap (λ ts. option_map Tick.snapshot (tick id ts)) (are ∙ ap Queue.tick_list there)
    ∙ ap (λ (w : DbView). option_map Tick.snapshot (tick id (queue_at w.queues q).tick_list)) same
    ∙ ap (option_and_then (λ queue. option_map Tick.snapshot (tick id ((seen_database now).queue queue).tick_list))) (sym set)

-- ---- a leaf's consumer leaves

module _ (d : Database) (q : ℕ) (consumer : List ℕ) (set : set_queue d ≡ Some q) where
  parts-there : (sub : Option Subscription) → (d.queue q).sub consumer ≡ sub → node_does d (parting consumer) ≡ parts q consumer sub
  parts-there sub there = ap (λ o. if_there o (λ queue. parts queue consumer ((d.queue queue).sub consumer))) set ∙ ap (parts q consumer) there

  pub part-none : None ≡ option_map Subscription.id ((d.queue q).sub consumer) → node_does d (parting consumer) ≡ answers Null
  part-none was = of ((d.queue q).sub consumer) refl was
    where
      of : (sub : Option Subscription) → (d.queue q).sub consumer ≡ sub → None ≡ option_map Subscription.id sub → node_does d (parting consumer) ≡ answers Null
      of None there was = parts-there None there
      of (Some sub) there was = absurd (cc)

  pub part-does : (id : ℕ) → Some id ≡ option_map Subscription.id ((d.queue q).sub consumer)
      → node_does d (parting consumer) ≡ does_marks Done (queued (unregistered q consumer id) ∷ noded (parted consumer) ∷ [])
  part-does id was = of ((d.queue q).sub consumer) refl was
    where
      of : (sub : Option Subscription) → (d.queue q).sub consumer ≡ sub → Some id ≡ option_map Subscription.id sub
          → node_does d (parting consumer) ≡ does_marks Done (queued (unregistered q consumer id) ∷ noded (parted consumer) ∷ [])
      of None there was = absurd (cc)
      of (Some sub) there was =
          let same : sub.id ≡ id = cc in
          parts-there (Some sub) there ∙ ap (λ n. does_marks Done (queued (unregistered q consumer n) ∷ noded (parted consumer) ∷ [])) same

-- one that isn't registered
pub stays-as : (v now : DbView) (queues : QueuesView) (q : ℕ) (consumer : List ℕ) (o : Option ℕ) → v ≡ now → set_queue (seen_database now) ≡ Some q
    → o ≡ option_map Subscription.id ((queue_at v.queues q).sub consumer) → is_some o ≡ false → IfNone o ((beside : Beside) → seen_with beside queues ≡ seen_with beside v.queues)
    → Serves (seen_database now) (seen_database (record v { queues = queues })) (parting consumer)
stays-as v now queues q consumer None same set was gone nothing =
    serves-by (seen_database now) _ (parting consumer) _
    (part-none (seen_database now) q consumer set (was ∙ ap (λ (w : DbView). option_map Subscription.id ((queue_at w.queues q).sub consumer)) same))
    (nothing (with_node v.node (seen v.rows)) ∙ ap seen_database same)
stays-as v now queues q consumer (Some id) same set was gone nothing = absurd (cc)

-- and one that is
pub parted-as : (v now : DbView) (queues : QueuesView) (node : Option Node) (q : ℕ) (consumer : List ℕ) (o : Option ℕ) → v ≡ now → set_queue (seen_database now) ≡ Some q
    → o ≡ option_map Subscription.id ((queue_at v.queues q).sub consumer) → is_some o ≡ true
    → IfSome o (λ sub. (beside : Beside) → seen_with beside queues ≡ after_mark (seen_with beside v.queues) (queued (unregistered q consumer sub)))
    → node ≡ after_node (parted consumer) v.node.own → Serves (seen_database now) (seen_database (record v { queues = queues; node = record v.node { own = node } })) (parting consumer)
parted-as v now queues node q consumer None same set was there mark noding = absurd (cc)
parted-as v now queues node q consumer (Some id) same set was there mark noding =
    serves-by (seen_database now) _ (parting consumer) _
    (part-does (seen_database now) q consumer set id (was ∙ ap (λ (w : DbView). option_map Subscription.id ((queue_at w.queues q).sub consumer)) same))
    (mark (with_node (record v.node { own = node }) (seen v.rows))
    ∙ (λ i. after_mark (seen_with (with_node (record v.node { own = noding i }) (seen v.rows)) v.queues) (queued (unregistered q consumer id)))
    ∙ ap (λ (w : DbView). after_marks (seen_database w) (queued (unregistered q consumer id) ∷ noded (parted consumer) ∷ [])) same)

-- ---- a batch is taken

joined-there : (d : Database) (q : ℕ) (consumer : List ℕ) → set_queue d ≡ Some q → has_joined d consumer ≡ true → is_some ((d.queue q).sub consumer) ≡ true
joined-there d q consumer set joined = subst (λ o. unwrap_or (option_map (λ queue. is_some ((d.queue queue).sub consumer)) o) false ≡ true) set joined

pub joined-not : (d : Database) (q : ℕ) (consumer : List ℕ) → set_queue d ≡ Some q → has_joined d consumer ≡ true → None ≡ (d.queue q).sub consumer → ⊥
joined-not d q consumer set joined none = nothing-there ((d.queue q).sub consumer) none (joined-there d q consumer set joined)

abbrev opened_at : Database → ℕ → List ℕ → Subscription → Tick → Batch
opened_at d q consumer sub next = record { id = d.last_batch_id + 1; queue = q; consumer = consumer; sub = sub.id; prev = sub.position; cur = next.id }

module _ (d : Database) (q : ℕ) (consumer : List ℕ) (sub : Subscription) (set : set_queue d ≡ Some q) (registered : (d.queue q).sub consumer ≡ Some sub) where
  fetch-there : (active : Option ℕ) → sub.active ≡ active → node_does d (fetching consumer) ≡ takes_batch d q consumer sub active
  fetch-there active is =
      ap (λ o. if_there o (λ queue. if_there ((d.queue queue).sub consumer) (λ s. takes_batch d queue consumer s s.active))) set
      ∙ ap (λ o. if_there o (λ s. takes_batch d q consumer s s.active)) registered
      ∙ ap (takes_batch d q consumer sub) is

  pub fetch-active : (id : ℕ) → sub.active ≡ Some id → node_does d (fetching consumer) ≡ answers (Number id)
  fetch-active id is = fetch-there (Some id) is

  -- it has none yet
  module _ (free : sub.active ≡ None) where
    pub fetch-waits : None ≡ tick (sub.position + 1) (d.queue q).tick_list → node_does d (fetching consumer) ≡ answers Null
    fetch-waits missing = fetch-there None free ∙ ap (opens_batch d q consumer sub) (sym missing)

    fetch-next : (next : Tick) (b : Bool) → Some next ≡ tick (sub.position + 1) (d.queue q).tick_list → nat_le (2 ^ 64) (d.last_batch_id + 1) ≡ b
        → node_does d (fetching consumer) ≡ (refused_if b IdsSpent >> does_marks (Number (d.last_batch_id + 1)) (queued (opened (opened_at d q consumer sub next)) ∷ []))
    fetch-next next b there is =
        fetch-there None free ∙ ap (opens_batch d q consumer sub) (sym there)
        ∙ ap (λ x. refused_if x IdsSpent >> does_marks (Number (d.last_batch_id + 1)) (queued (opened (opened_at d q consumer sub next)) ∷ [])) is

    pub fetch-spent : (next : Tick) (last : ℕ) → Some next ≡ tick (sub.position + 1) (d.queue q).tick_list → last ≡ d.last_batch_id → 2 ^ 64 ≤ last + 1 → node_does d (fetching consumer) ≡ Err IdsSpent
    fetch-spent next last there at over = let spent : nat_le (2 ^ 64) (d.last_batch_id + 1) ≡ true = grind (arith, nat_tests) in fetch-next next true there spent

    pub fetch-opens : (next : Tick) (last : ℕ) → Some next ≡ tick (sub.position + 1) (d.queue q).tick_list → last ≡ d.last_batch_id → last + 1 < 2 ^ 64
        → node_does d (fetching consumer) ≡ does_marks (Number (d.last_batch_id + 1)) (queued (opened (opened_at d q consumer sub next)) ∷ [])
    fetch-opens next last there at left = let unspent : nat_le (2 ^ 64) (d.last_batch_id + 1) ≡ false = grind (arith, nat_tests) in fetch-next next false there unspent

-- it is made
pub opens-as : (v now : DbView) (queues : QueuesView) (q cur : ℕ) (consumer : List ℕ) (sub : Subscription) (next : Tick) → v ≡ now → ((seen_database now).queue q).sub consumer ≡ Some sub → cur ≡ next.id
    → ((beside : Beside) (s : Subscription) → (queue_at v.queues q).sub consumer ≡ Some s → seen_with beside queues
    ≡ after_mark (seen_with beside v.queues) (queued (opened (record { id = v.queues.last_batch_id + 1; queue = q; consumer = consumer; sub = s.id; prev = s.position; cur = cur }))))
    → seen_database (record v { queues = queues }) ≡ after_mark (seen_database now) (queued (opened (opened_at (seen_database now) q consumer sub next)))
opens-as v now queues q cur consumer sub next same registered to mark =
    marked-as v now queues (λ p. opened (record { id = p.last_batch_id + 1; queue = q; consumer = consumer; sub = sub.id; prev = sub.position; cur = next.id })) same
    (λ beside. mark beside sub (ap (λ (w : DbView). (queue_at w.queues q).sub consumer) same ∙ registered)
    ∙ ap (λ n. after_mark (seen_with beside v.queues) (queued (opened (record { id = v.queues.last_batch_id + 1; queue = q; consumer = consumer; sub = sub.id; prev = sub.position; cur = n })))) to)

-- the active batch of a subscription is a batch of the database
pub active-as : (d : Database) (q : ℕ) (consumer : List ℕ) (sub : SubView) (b : OpenBatch) → Some b ≡ sub.active
    → IfSome sub.active (λ batch. d.batch batch.id ≡ batch_of batch.id (record { queue = q; consumer = consumer }) sub)
    → d.batch b.id ≡ Some (record { id = b.id; queue = q; consumer = consumer; sub = sub.id; prev = sub.position; cur = b.cur })
active-as d q consumer sub b is kept =
    subst (λ o. IfSome o (λ (batch : OpenBatch). d.batch batch.id ≡ batch_of batch.id (record { queue = q; consumer = consumer }) sub)) (sym is) kept ∙ ap shown (sym is)
  where
    shown : Option OpenBatch → Option Batch
    shown o = option_map (λ (batch : OpenBatch). record { id = b.id; queue = q; consumer = consumer; sub = sub.id; prev = sub.position; cur = batch.cur }) o

pub takes-active : (d : Database) (q : ℕ) (consumer : List ℕ) (sub : SubView) (b : OpenBatch) (prev : ℕ) → set_queue d ≡ Some q → (d.queue q).sub consumer ≡ Some (seen_sub sub) → Some b ≡ sub.active
    → IfSome sub.active (λ batch. d.batch batch.id ≡ batch_of batch.id (record { queue = q; consumer = consumer }) sub) → prev ≡ sub.position
    → Takes (record { id = b.id; prev = prev; cur = b.cur }) d d consumer
takes-active d q consumer sub b prev set registered is kept from = record {
  queue = q;
  sub = seen_sub sub;
  of_set = set;
  registered = registered;
  answered = ap reply_of (fetch-active d q consumer (seen_sub sub) set registered b.id (ap (option_map OpenBatch.id) (sym is)));
  from = from;
  active = active-as d q consumer sub b is kept ∙ ap (λ n. Some (record { id = b.id; queue = q; consumer = consumer; sub = sub.id; prev = n; cur = b.cur })) (sym from);
}

number-same : (n : ℕ) → (n == n) ≡ true
number-same n = grind (arith, nat_tests)

pub takes-opened : (d s : Database) (q : ℕ) (consumer : List ℕ) (sub : Subscription) (next : Tick) (last id prev cur : ℕ) → set_queue d ≡ Some q → (d.queue q).sub consumer ≡ Some sub → sub.active ≡ None
    → Some next ≡ tick (sub.position + 1) (d.queue q).tick_list → last ≡ d.last_batch_id → last + 1 < 2 ^ 64 → s ≡ after_mark d (queued (opened (opened_at d q consumer sub next)))
    → id ≡ s.last_batch_id → prev ≡ sub.position → cur ≡ next.id → Takes (record { id = id; prev = prev; cur = cur }) d s consumer
takes-opened d s q consumer sub next last id prev cur set registered free there at left changed is from to = record {
  queue = q;
  sub = sub;
  of_set = set;
  registered = registered;
  answered = ap reply_of (fetch-opens d q consumer sub set registered free next last there at left) ∙ ap Number (sym named);
  from = from;
  active = ap (λ (x : Database). x.batch id) changed
      ∙ ap (λ n. if d.last_batch_id + 1 == n then Some (opened_at d q consumer sub next) else d.batch n) named
      ∙ ap (λ b. if b then Some (opened_at d q consumer sub next) else d.batch (d.last_batch_id + 1)) (number-same (d.last_batch_id + 1))
      ∙ (λ i. Some (record { id = sym named i; queue = q; consumer = consumer; sub = sub.id; prev = sym from i; cur = sym to i }));
}
  where
    named : id ≡ d.last_batch_id + 1
    named = is ∙ ap Database.last_batch_id changed

-- ---- its events, and its end

shows-active : (d : Database) (id : ℕ) → is_some (d.batch id) ≡ true → is_some ((shown_by d).events id) ≡ true
shows-active d id active = of (d.batch id) active
  where
    of : (b : Option Batch) → is_some b ≡ true → is_some (option_map (selected d) b) ≡ true
    of None there = absurd (cc)
    of (Some b) there = refl

pub shows-not : (d : Database) (id : ℕ) → is_some (d.batch id) ≡ true → None ≡ (shown_by d).events id → ⊥
shows-not d id active none = nothing-there ((shown_by d).events id) none (shows-active d id active)

pub finished-as : (v now : DbView) (queues : QueuesView) (id : ℕ) → v ≡ now → is_some ((seen_database now).batch id) ≡ true
    → IfSome (batch_at v.queues id) (λ batch. (beside : Beside) → seen_with beside queues ≡ after_mark (seen_with beside v.queues) (queued (closed batch)))
    → Serves (seen_database now) (seen_database (record v { queues = queues })) (finishing id)
finished-as v now queues id same active over = of (batch_at v.queues id) refl over
  where
    there : batch_at v.queues id ≡ (seen_database now).batch id
    there = ap (λ (w : DbView). batch_at w.queues id) same

    of : (o : Option Batch) → batch_at v.queues id ≡ o → IfSome o (λ batch. (beside : Beside) → seen_with beside queues ≡ after_mark (seen_with beside v.queues) (queued (closed batch)))
        → Serves (seen_database now) (seen_database (record v { queues = queues })) (finishing id)
    of None e over = let none : is_some ((seen_database now).batch id) ≡ false = ap is_some (sym there ∙ e) in absurd (cc)
    of (Some b) e over = serves-by (seen_database now) _ (finishing id) _ (ap (λ o. if_there o closes) (sym there ∙ e)) (marked-as v now queues (λ _. closed b) same over)
