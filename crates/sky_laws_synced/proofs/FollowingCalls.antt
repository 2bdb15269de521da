-- What calls of a provider's database leave of a consumer that has come to a tick.
use Rattle.std.proofs.Common.{arith, ◌≡◌, ℕ, ◌==◌, ◌+◌, ◌^◌, ◌<◌, nat_le, nat_lt, List, [], ◌∷◌, ◌++◌, length, Bool, true, false, not, ◌&&◌, ◌||◌, Option, Some, None, Ok, IfOk, is_some, option_map, unwrap_or, bytes_eq, refl, sym, ap, subst, ◌∙◌, if◌then◌else◌}
use Rattle.std.specs.List.{list_any}
use Rattle.std.proofs.lemmas.Bool.Decides.{nat_tests}
use Rattle.std.proofs.lemmas.Bool.{and_parts, eqb-true, or_right}
use Rattle.std.proofs.lemmas.List.Folds.{list_any-append}
use Rattle.londiste_state.specs.Nodes.{Node, of_root, of_leaf, is_among, all_but}
use Rattle.sky_names.proofs.PlaceLemmas.{bytes_eq_refl, bytes_eq_sym, same_name}
use Rattle.sky_model.specs.declared.reply.Reply.TheVariants.{Number}
use Rattle.sky_model.specs.declared.reply.Refusal.TheVariants.{ConsumerExists, IdsSpent, TooMany}
use Rattle.sky_model.specs.declared.reply.Limit.TheVariants.{Consumers}
use Rattle.sky_model.specs.History.{Batch, Mark, queued, registered, moved, unregistered, opened, closed, noded, joined, parted, History}
use Rattle.sky_model.specs.Hands.{BatchHand}
use Rattle.sky_model.specs.Queues.{NamedQueue, queues, Tick, tick, kept_ticks}
use Rattle.sky_model.specs.Consumers.{consumers, subscription_id, position, active, Subscription, subscription, last_subscription, last_batch, active_batch}
use Rattle.sky_model.specs.Nodes.{after_node, node}
use Rattle.sky_model.specs.State.{queue_of, Database, database_of, after_marks}
use Rattle.sky_model.specs.Outcome.{Outcome, Checked, ◌>>=◌, ◌>>◌, refused_if, does_marks, marks_of}
use Rattle.sky_model.specs.StepQueue.{newest_id}
use Rattle.sky_model.specs.StepConsumer.{sub_ids_spent, opens_batch, takes_batch}
use Rattle.sky_model.specs.StepNode.{NodeCall, joining, parting, fetching, finishing, if_there, set_queue, is_full, joins, parts, closes, node_does}
use Rattle.sky_model.specs.BatchMoves.{taken}
use Rattle.sky_model.specs.CopyMoves.{newest_of}
use Rattle.sky_model.specs.Settling.{marked}
use Rattle.sky_histories.proofs.Legal.{queue_of_set, registers, moves, unregisters, opens, closes as fine_closes, nodes as fine_nodes, Legal, start, next}
use Rattle.sky_histories.proofs.NodeReadings.{set-number, same-node}
use Rattle.sky_histories.proofs.ActiveBatches.{IsActive, active_batches}
use Rattle.sky_histories.proofs.TickOrder.{is_made}
use Rattle.sky_histories.proofs.CopyCalls.{gives-there}
use Rattle.sky_histories.proofs.Good.{same-session}
use Rattle.sky_histories.proofs.StatementMarks.{EachMark, each-map, each-given, each-front, Gives, AnyReply, after}
use Rattle.sky_model.proofs.Cases.{by_test}
use Rattle.sky_laws.proofs.PendingOwners.{legal-before}
use Rattle.sky_histories.proofs.MadeCopies.{few-consumers, all_but-less}
use Rattle.sky_histories.proofs.Members.{among-consumers}
use Rattle.sky_laws_synced.proofs.Following.{is_of_node, spares_consumer, itself, active-stays, InHand, Following, following-marks}
use Rattle.sky_laws_synced.proofs.ConsumersMarks.{is_apart, apart-spares, ApartGives}
use Rattle.sky_laws_synced.proofs.SetTicks.{set-stands, queues-newest}

abbrev pub after_call : History → NodeCall → History
after_call h call = marked h (marks_of (node_does (database_of h) call))

pub set-is : (h : History) (q : ℕ) → queue_of_set (queues h) (node h) ≡ Some q → set_queue (database_of h) ≡ Some q
set-is h q is = set-number (database_of h) ∙ is

-- ---- the batch of a consumer that has an active one

pub record IsBatchOf (h : History) (q : ℕ) (c : List ℕ) (id : ℕ) : Type 0 where
  pub batch : Batch
  pub is : active_batch id h ≡ Some batch
  pub queue : batch.queue ≡ q
  pub consumer : batch.consumer ≡ c

batch-kept : (h : History) (mark : Mark) → Legal (mark ∷ h) → (q : ℕ) (c : List ℕ) (id : ℕ) → spares_consumer q c mark ≡ true → IsBatchOf h q c id → IsBatchOf (mark ∷ h) q c id
batch-kept h mark l q c id e w = record { batch = w.batch; is = active-stays h mark l id w.batch ((λ i. spares_consumer (w.queue i) (w.consumer i) mark) ∙ e) w.is; queue = w.queue; consumer = w.consumer }

pub active-is : (h : History) → Legal h → (q : ℕ) (c : List ℕ) (id : ℕ) → active q c h ≡ Some id → IsBatchOf h q c id
active-is [] start q c id is = absurd (cc is)
active-is _ (next {h = h} l (registers p name sub t i none f g low few)) q c id is =
    by_test (λ b. (p == q && bytes_eq c name) ≡ b → (if b then None else active q c h) ≡ Some id → IsBatchOf (queued (registered p name sub t) ∷ h) q c id) (p == q && bytes_eq c name)
    (λ _ _ no. absurd (cc no)) (λ _ other was. batch-kept h _ (next l (registers p name sub t i none f g low few)) q c id (ap not other) (active-is h l q c id was)) refl is
active-is _ (next {h = h} l (moves p name sub t i has least most low)) q c id is =
    by_test (λ b. (p == q && bytes_eq c name) ≡ b → (if b then None else active q c h) ≡ Some id → IsBatchOf (queued (moved p name t) ∷ h) q c id) (p == q && bytes_eq c name)
    (λ _ _ no. absurd (cc no)) (λ _ other was. batch-kept h _ (next l (moves p name sub t i has least most low)) q c id (ap not other) (active-is h l q c id was)) refl is
active-is _ (next {h = h} l (unregisters p name sub i has)) q c id is =
    by_test (λ b. (p == q && bytes_eq c name) ≡ b → (if b then None else active q c h) ≡ Some id → IsBatchOf (queued (unregistered p name sub) ∷ h) q c id) (p == q && bytes_eq c name)
    (λ _ _ no. absurd (cc no)) (λ _ other was. batch-kept h _ (next l (unregisters p name sub i has)) q c id (ap not other) (active-is h l q c id was)) refl is
active-is _ (next {h = h} l (fine_closes last e)) q c id is =
    by_test (λ b. (last.queue == q && bytes_eq c last.consumer) ≡ b → (if b then None else active q c h) ≡ Some id → IsBatchOf (queued (closed last) ∷ h) q c id) (last.queue == q && bytes_eq c last.consumer)
    (λ _ _ no. absurd (cc no)) (λ _ other was. batch-kept h _ (next l (fine_closes last e)) q c id (ap not other) (active-is h l q c id was)) refl is
active-is _ (next {h = h} l (opens new o)) q c id is =
    by_test (λ b. (new.queue == q && bytes_eq c new.consumer) ≡ b → (if b then Some new.id else active q c h) ≡ Some id → IsBatchOf (queued (opened new) ∷ h) q c id) (new.queue == q && bytes_eq c new.consumer)
    (λ _ mine one.
    let parts = and_parts (new.queue == q) (bytes_eq c new.consumer) mine in
    let same : new.id ≡ id = cc one in
    record {
      batch = new;
      is = ap (λ n. if new.id == n then Some new else active_batch n h) (sym same) ∙ ap (λ b. if b then Some new else active_batch new.id h) (same-session new.id);
      queue = eqb-true new.queue q parts.0;
      consumer = sym (same_name c new.consumer parts.1);
    })
    (λ _ _ was. batch-kept h _ (next l (opens new o)) q c id refl (active-is h l q c id was)) refl is
active-is _ (next {h = h} l (fine_nodes mark fits)) q c id is = let w = active-is h l q c id is in record { batch = w.batch; is = w.is; queue = w.queue; consumer = w.consumer }
active-is _ (next {h = h} l fine) q c id is = batch-kept h _ (next l fine) q c id refl (active-is h l q c id is)

-- ---- a consumer takes its next batch

-- a batch is active, and is that of a consumer
record IsTaken (h : History) (q : ℕ) (c : List ℕ) (b : Batch) : Type 0 where
  active : active_batch b.id h ≡ Some b
  queue : b.queue ≡ q
  consumer : b.consumer ≡ c

abbrev TakenBy : History → ℕ → List ℕ → Checked Outcome → Type 0
TakenBy h q c x = IfOk x (λ out. (b : Batch) → taken (after_marks (database_of h) out.marks) out.reply ≡ Some b → IsTaken (marked h out.marks) q c b)

taken-opened : (h : History) (q : ℕ) (c : List ℕ) (sub : Subscription) (o : Option Tick) → TakenBy h q c (opens_batch (database_of h) q c sub o)
taken-opened h q c sub None = λ b none. absurd (cc none)
taken-opened h q c sub (Some t) = of (nat_le (2 ^ 64) (last_batch h + 1))
  where
    new : Batch
    new = record { id = last_batch h + 1; queue = q; consumer = c; sub = sub.id; prev = sub.position; cur = t.id }

    of : (spent : Bool) → TakenBy h q c (refused_if spent IdsSpent >> does_marks (Number (last_batch h + 1)) (queued (opened new) ∷ []))
    of true = tt
    of false = λ b is.
        let one : new ≡ b = cc (sym (ap (λ x. if x then Some new else active_batch new.id h) (same-session new.id)) ∙ is) in
        subst (IsTaken (queued (opened new) ∷ h) q c) one (record { active = ap (λ x. if x then Some new else active_batch new.id h) (same-session new.id); queue = refl; consumer = refl })

taken-is : (h : History) → Legal h → (q : ℕ) (c : List ℕ) (sub : Subscription) (o : Option ℕ) → active q c h ≡ o → TakenBy h q c (takes_batch (database_of h) q c sub o)
taken-is h l q c sub None is = taken-opened h q c sub (tick (sub.position + 1) (kept_ticks q h))
taken-is h l q c sub (Some id) is = λ b there.
    let w : IsBatchOf h q c id = active-is h l q c id is in
    let same : w.batch ≡ b = cc (sym w.is ∙ there) in
    let named : b.id ≡ id = (active_batches h l id b there).named in
    record { active = ap (λ n. active_batch n h) named ∙ there; queue = ap Batch.queue (sym same) ∙ w.queue; consumer = ap Batch.consumer (sym same) ∙ w.consumer }

fetching-is : (h : History) (q : ℕ) (c : List ℕ) (sub : ℕ) → queue_of_set (queues h) (node h) ≡ Some q → subscription_id q c h ≡ Some sub
    → node_does (database_of h) (fetching c) ≡ takes_batch (database_of h) q c (record { id = sub; position = position q c h; active = active q c h }) (active q c h)
fetching-is h q c sub set is =
    ap (λ o. if_there o (λ queue. if_there (((database_of h).queue queue).sub c) (λ s. takes_batch (database_of h) queue c s s.active))) (set-is h q set)
    ∙ ap (λ o. if_there o (λ s. takes_batch (database_of h) q c s s.active)) (ap (option_map (λ id. record { id = id; position = position q c h; active = active q c h })) is)

apart-opens : (d : Database) (q : ℕ) (consumer : List ℕ) (sub : Subscription) (o : Option Tick) → ApartGives (opens_batch d q consumer sub o)
apart-opens d q consumer sub None = (tt, tt)
apart-opens d q consumer sub (Some t) = search (after)

apart-takes : (d : Database) (q : ℕ) (consumer : List ℕ) (sub : Subscription) (o : Option ℕ) → ApartGives (takes_batch d q consumer sub o)
apart-takes d q consumer sub (Some batch) = (tt, tt)
apart-takes d q consumer sub None = apart-opens d q consumer sub (tick (sub.position + 1) (d.queue q).tick_list)

pub spares-fetching : (d : Database) (q : ℕ) (c other : List ℕ) → EachMark (spares_consumer q c) (marks_of (node_does d (fetching other)))
spares-fetching d q c other =
    each-map is_apart (spares_consumer q c) (apart-spares q c) (marks_of (node_does d (fetching other)))
    (each-given AnyReply is_apart (node_does d (fetching other))
    (gives-there is_apart (set_queue d) _ (λ queue. gives-there is_apart ((d.queue queue).sub other) _ (λ sub. apart-takes d queue other sub sub.active))))

pub following-fetched : (h : History) (q : ℕ) (c : List ℕ) (tick : ℕ) → Legal (after_call h (fetching c)) → Following h q c tick None → (out : Outcome) → node_does (database_of h) (fetching c) ≡ Ok out
    → (b : Batch) → taken (after_marks (database_of h) out.marks) out.reply ≡ Some b
    → Following (after_call h (fetching c)) q c tick (Some (record { id = b.id; prev = b.prev; cur = b.cur; is_done = false }))
following-fetched h q c tick l f out does b is =
    let marks : List Mark = marks_of (node_does (database_of h) (fetching c)) in
    let g : Following (marked h marks) q c tick None = following-marks h marks q c tick None l (spares-fetching (database_of h) q c c) f in
    let by : TakenBy h q c (Ok out) = subst (TakenBy h q c) (sym (fetching-is h q c f.sub f.of_set f.registered) ∙ does) (taken-is h (legal-before h marks l) q c (record { id = f.sub; position = position q c h; active = active q c h }) (active q c h) refl) in
    let w : IsTaken (marked h marks) q c b = subst (λ x. IsTaken (marked h (marks_of x)) q c b) (sym does) (by b is) in
    let a : IsActive (marked h marks) b.id b = active_batches (marked h marks) l b.id b w.active in
    let subs : b.sub ≡ g.sub = cc (sym a.owned ∙ (λ i. subscription_id (w.queue i) (w.consumer i) (marked h marks)) ∙ g.registered) in
    record {
      of_set = g.of_set;
      is_nodes = g.is_nodes;
      sub = g.sub;
      registered = g.registered;
      from = g.from;
      upto = g.upto;
      made = g.made;
      in_hand = record { active = w.active ∙ (λ i. Some (record { id = b.id; queue = w.queue i; consumer = w.consumer i; sub = subs i; prev = b.prev; cur = b.cur })); done = λ never. absurd (cc never) };
    }

-- ---- what it has in hand is applied or skipped, and then finished

-- where it leads
pub record LeadsOn (h : History) (q : ℕ) (c : List ℕ) (b : BatchHand) : Type 0 where
  pub from : position q c h ≡ b.prev
  pub upto : b.cur ≡ b.prev + 1
  pub made : is_made q b.cur h ≡ true

pub leads-on : (h : History) → Legal h → (q : ℕ) (c : List ℕ) (sub tick : ℕ) (b : BatchHand) → InHand h q c sub tick b → LeadsOn h q c b
leads-on h l q c sub tick b i = let a = active_batches h l b.id _ i.active in record { from = a.begins; upto = a.ends; made = a.closing }

pub following-applied : (h : History) → Legal h → (q : ℕ) (c : List ℕ) (tick : ℕ) (b : BatchHand) → Following h q c tick (Some b) → Following h q c b.cur (Some (record b { is_done = true }))
following-applied h l q c tick b f =
    let on : LeadsOn h q c b = leads-on h l q c f.sub tick b f.in_hand in
    record {
      of_set = f.of_set;
      is_nodes = f.is_nodes;
      sub = f.sub;
      registered = f.registered;
      from = omega (arith, on.from, on.upto);
      upto = omega (arith, on.from, on.upto);
      made = on.made;
      in_hand = record { active = f.in_hand.active; done = λ _. refl };
    }

pub following-skipped : (h : History) → Legal h → (q : ℕ) (c : List ℕ) (tick : ℕ) (b : BatchHand) → nat_lt tick b.cur ≡ false → Following h q c tick (Some b) → Following h q c tick (Some (record b { is_done = true }))
following-skipped h l q c tick b over f =
    let on : LeadsOn h q c b = leads-on h l q c f.sub tick b f.in_hand in
    record {
      of_set = f.of_set;
      is_nodes = f.is_nodes;
      sub = f.sub;
      registered = f.registered;
      from = f.from;
      upto = f.upto;
      made = f.made;
      in_hand = record { active = f.in_hand.active; done = λ _. grind (arith, nat_tests, over, f.upto, on.from, on.upto) };
    }

finishing-is : (h : History) (id : ℕ) (b : Batch) → active_batch id h ≡ Some b → after_call h (finishing id) ≡ queued (closed b) ∷ h
finishing-is h id b is = ap (λ o. marked h (marks_of (if_there o closes))) is

pub following-finished : (h : History) (q : ℕ) (c : List ℕ) (tick : ℕ) (b : BatchHand) → b.is_done ≡ true → Following h q c tick (Some b) → Following (after_call h (finishing b.id)) q c tick None
following-finished h q c tick b done f =
    let batch : Batch = record { id = b.id; queue = q; consumer = c; sub = f.sub; prev = b.prev; cur = b.cur } in
    let at : position q c (queued (closed batch) ∷ h) ≡ b.cur = ap (λ x. if x then b.cur else position q c h) (itself q c) in
    let mine : tick ≡ b.cur = f.in_hand.done done in
    subst (λ g. Following g q c tick None) (sym (finishing-is h b.id batch f.in_hand.active)) (record {
      of_set = f.of_set;
      is_nodes = f.is_nodes;
      sub = f.sub;
      registered = f.registered;
      from = omega (arith, at, mine);
      upto = omega (arith, at, mine);
      made = f.made;
      in_hand = tt;
    })

pub spares-finishing : (h : History) (q : ℕ) (c : List ℕ) (id : ℕ) (b : Batch) → active_batch id h ≡ Some b → bytes_eq c b.consumer ≡ false → EachMark (spares_consumer q c) (marks_of (node_does (database_of h) (finishing id)))
spares-finishing h q c id b is other =
    subst (λ o. EachMark (spares_consumer q c) (marks_of (if_there o closes))) (sym is)
    (each-front (spares_consumer q c) (queued (closed b)) [] (apart (b.queue == q)) tt)
  where
    apart : (x : Bool) → not (x && bytes_eq c b.consumer) ≡ true
    apart true = ap not other
    apart false = refl

-- ---- a consumer joins, or leaves

joined-node : (c : List ℕ) (n : Option Node) (qs : List NamedQueue) (q : ℕ) → queue_of_set qs n ≡ Some q → is_of_node c (after_node (joined c) n) ≡ true
joined-node c None qs q is = absurd (cc is)
joined-node c (Some (of_leaf l)) qs q is = absurd (cc is)
joined-node c (Some (of_root r)) qs q is =
    list_any-append (bytes_eq c) r.consumers (c ∷ []) ∙ or_right (is_among c r.consumers) (bytes_eq c c || false) (ap (λ b. b || false) (bytes_eq_refl c))

pub following-joined : (h : History) (q : ℕ) (c : List ℕ) (out : Outcome) → Legal h → queue_of_set (queues h) (node h) ≡ Some q → joins (database_of h) q c ≡ Ok out → Following (marked h out.marks) q c (newest_id (queue_of h q)) None
following-joined h q c out l set is = of (is_some (subscription q c h)) (nat_le 256 (length (consumers q h))) (nat_le (2 ^ 64) (last_subscription h + 1)) is
  where
    at : ℕ
    at = newest_id (queue_of h q)

    sub : ℕ
    sub = last_subscription h + 1

    mark : Mark
    mark = queued (registered q c sub at)

    there : Following (noded (joined c) ∷ mark ∷ h) q c at None
    there =
        let place : position q c (mark ∷ h) ≡ at = ap (λ b. if b then at else position q c h) (itself q c) in
        record {
          of_set = (same-node (joined c) refl (node h)).set (queues h) ∙ set;
          is_nodes = joined-node c (node h) (queues h) q set;
          sub = sub;
          registered = ap (λ b. if b then Some sub else subscription_id q c h) (itself q c);
          from = omega (arith, place);
          upto = omega (arith, place);
          made = queues-newest h l q (set-stands h q set);
          in_hand = tt;
        }

    of : (there full spent : Bool) → (refused_if there (ConsumerExists c) >> ((refused_if full (TooMany Consumers) >> (refused_if spent IdsSpent >> does_marks (Number 1) (mark ∷ [])))
        >>= (λ registering. does_marks (Number at) (registering.marks ++ noded (joined c) ∷ [])))) ≡ Ok out → Following (marked h out.marks) q c at None
    of true full spent e = absurd (cc e)
    of false true spent e = absurd (cc e)
    of false false true e = absurd (cc e)
    of false false false e = let same : record { reply = Number at; marks = mark ∷ noded (joined c) ∷ [] } ≡ out = cc e in subst (λ (o : Outcome). Following (marked h o.marks) q c at None) same there

-- ---- a consumer that leaves, and joins again

parting-is : (h : History) (q : ℕ) (c : List ℕ) (o : Option ℕ) → queue_of_set (queues h) (node h) ≡ Some q → subscription_id q c h ≡ o
    → node_does (database_of h) (parting c) ≡ parts q c (option_map (λ id. record { id = id; position = position q c h; active = active q c h }) o)
parting-is h q c o set is =
    ap (λ x. if_there x (λ queue. parts queue c (((database_of h).queue queue).sub c))) (set-is h q set)
    ∙ ap (λ x. parts q c (option_map (λ id. record { id = id; position = position q c h; active = active q c h }) x)) is

-- the set's queue has room for a consumer that has left, if it isn't full
record HasRoom (h g : History) (q : ℕ) (c : List ℕ) : Type 0 where
  of_set : queue_of_set (queues g) (node g) ≡ Some q
  gone : subscription_id q c g ≡ None
  room : nat_le 256 (length (consumers q g)) ≡ false
  last : last_subscription g ≡ last_subscription h
  newest : newest_id (queue_of g q) ≡ newest_id (queue_of h q)

has-room : (h : History) (q : ℕ) (c : List ℕ) → Legal h → queue_of_set (queues h) (node h) ≡ Some q → (nat_le 256 (length (consumers q h)) && not (is_some (subscription q c h))) ≡ false → HasRoom h (after_call h (parting c)) q c
has-room h q c l set free = of (subscription_id q c h) refl
  where
    sub_of : Option ℕ → Option Subscription
    sub_of o = option_map (λ id. record { id = id; position = position q c h; active = active q c h }) o

    of : (o : Option ℕ) → subscription_id q c h ≡ o → HasRoom h (after_call h (parting c)) q c
    of None is =
        subst (λ x. HasRoom h (marked h (marks_of x)) q c) (sym (parting-is h q c None set is))
        (record { of_set = set; gone = is; room = alone (nat_le 256 (length (consumers q h))) (ap (λ o. nat_le 256 (length (consumers q h)) && not (is_some (sub_of o))) (sym is) ∙ free); last = refl; newest = refl })
      where
        alone : (b : Bool) → (b && true) ≡ false → b ≡ false
        alone true e = absurd (cc e)
        alone false e = refl
    of (Some sub) is =
        let left : History = queued (unregistered q c sub) ∷ h in
        let member : list_any (λ n. bytes_eq c n) (consumers q h) ≡ true = among-consumers h q c ∙ ap is_some is in
        let below : length (all_but c (consumers q h)) < 256 = (let less = all_but-less c (consumers q h) member in let most = few-consumers h l q in omega (arith, less, most)) in
        subst (λ x. HasRoom h (marked h (marks_of x)) q c) (sym (parting-is h q c (Some sub) set is))
        (record {
          of_set = (same-node (parted c) refl (node h)).set (queues h) ∙ set;
          gone = ap (λ b. if b then None else subscription_id q c h) (itself q c);
          room = ap (λ b. nat_le 256 (length (if b then all_but c (consumers q h) else consumers q h))) (same-session q) ∙ grind (arith, nat_tests, below);
          last = refl;
          newest = refl;
        })

-- it joins again at the newest tick
pub following-again : (h : History) (q : ℕ) (c : List ℕ) → Legal (after_call (after_call h (parting c)) (joining c)) → queue_of_set (queues h) (node h) ≡ Some q → is_full (database_of h) c ≡ false
    → sub_ids_spent (database_of h) ≡ false → Following (after_call (after_call h (parting c)) (joining c)) q c (newest_of (database_of h)) None
following-again h q c l set free unspent =
    let g : History = after_call h (parting c) in
    let legal : Legal g = legal-before g (marks_of (node_does (database_of g) (joining c))) l in
    let r : HasRoom h g q c = has-room h q c (legal-before h (marks_of (node_does (database_of h) (parting c))) legal) set
    (sym (ap (λ o. unwrap_or (option_map (λ queue. nat_le 256 (length ((database_of h).queue queue).members) && not (is_some (((database_of h).queue queue).sub c))) o) false) (set-is h q set)) ∙ free) in
    let does : node_does (database_of g) (joining c) ≡ joins (database_of g) q c = ap (λ o. if_there o (λ queue. joins (database_of g) queue c)) (set-is g q r.of_set) in
    let newest : newest_of (database_of h) ≡ newest_id (queue_of g q) = ap (λ o. unwrap_or (option_map (λ queue. newest_id ((database_of h).queue queue)) o) 0) (set-is h q set) ∙ sym r.newest in
    let out : Outcome = record { reply = Number (newest_id (queue_of g q)); marks = queued (registered q c (last_subscription g + 1) (newest_id (queue_of g q))) ∷ noded (joined c) ∷ [] } in
    let ok : joins (database_of g) q c ≡ Ok out = of g (subscription_id q c g) r.gone (nat_le 256 (length (consumers q g))) r.room (nat_le (2 ^ 64) (last_subscription g + 1)) (ap (λ n. nat_le (2 ^ 64) (n + 1)) r.last ∙ unspent) in
    subst (λ x. Following (marked g (marks_of x)) q c (newest_of (database_of h)) None) (sym (does ∙ ok))
    (subst (λ n. Following (marked g out.marks) q c n None) (sym newest) (following-joined g q c out legal r.of_set ok))
  where
    of : (g : History) (o : Option ℕ) → o ≡ None → (full : Bool) → full ≡ false → (spent : Bool) → spent ≡ false
        → (refused_if (is_some {T = Subscription} (option_map (λ id. record { id = id; position = position q c g; active = active q c g }) o)) (ConsumerExists c) >> ((refused_if full (TooMany Consumers)
        >> (refused_if spent IdsSpent >> does_marks (Number 1) (queued (registered q c (last_subscription g + 1) (newest_id (queue_of g q))) ∷ [])))
        >>= (λ registering. does_marks (Number (newest_id (queue_of g q))) (registering.marks ++ noded (joined c) ∷ []))))
        ≡ Ok (record { reply = Number (newest_id (queue_of g q)); marks = queued (registered q c (last_subscription g + 1) (newest_id (queue_of g q))) ∷ noded (joined c) ∷ [] })
    of g None is true e spent isnt = absurd (cc e)
    of g None is false e true isnt = absurd (cc isnt)
    of g None is false e false isnt = refl
    of g (Some id) is full e spent isnt = absurd (cc is)

-- others aren't concerned
spares-both : (q p : ℕ) (c other : List ℕ) → bytes_eq c other ≡ false → not (p == q && bytes_eq c other) ≡ true
spares-both q p c other differ = of (p == q)
  where
    of : (x : Bool) → not (x && bytes_eq c other) ≡ true
    of true = ap not differ
    of false = refl

pub spares-parting : (d : Database) (q : ℕ) (c other : List ℕ) → bytes_eq c other ≡ false → EachMark (spares_consumer q c) (marks_of (node_does d (parting other)))
spares-parting d q c other differ = each-given AnyReply (spares_consumer q c) (node_does d (parting other)) (gives-there (spares_consumer q c) (set_queue d) _ (λ p. of p ((d.queue p).sub other)))
  where
    of : (p : ℕ) (o : Option Subscription) → Gives AnyReply (spares_consumer q c) (parts p other o)
    of p None = (tt, tt)
    of p (Some sub) = (
      tt,
      each-front (spares_consumer q c) (queued (unregistered p other sub.id)) (noded (parted other) ∷ []) (spares-both q p c other differ)
          (each-front (spares_consumer q c) (noded (parted other)) [] (ap not (bytes_eq_sym other c ∙ differ)) tt),
    )

pub spares-joins : (d : Database) (p q : ℕ) (c other : List ℕ) → bytes_eq c other ≡ false → Gives AnyReply (spares_consumer q c) (joins d p other)
spares-joins d p q c other differ = of (is_some ((d.queue p).sub other)) (nat_le 256 (length (d.queue p).members)) (nat_le (2 ^ 64) (d.last_sub_id + 1))
  where
    of : (there full spent : Bool) → Gives AnyReply (spares_consumer q c) (refused_if there (ConsumerExists other) >> ((refused_if full (TooMany Consumers) >> (refused_if spent IdsSpent
        >> does_marks (Number 1) (queued (registered p other (d.last_sub_id + 1) (newest_id (d.queue p))) ∷ [])))
        >>= (λ registering. does_marks (Number (newest_id (d.queue p))) (registering.marks ++ noded (joined other) ∷ []))))
    of true full spent = tt
    of false true spent = tt
    of false false true = tt
    of false false false = (
      tt,
      each-front (spares_consumer q c) (queued (registered p other (d.last_sub_id + 1) (newest_id (d.queue p)))) (noded (joined other) ∷ []) (spares-both q p c other differ) tt,
    )

pub spares-joining : (d : Database) (q : ℕ) (c other : List ℕ) → bytes_eq c other ≡ false → EachMark (spares_consumer q c) (marks_of (node_does d (joining other)))
spares-joining d q c other differ = each-given AnyReply (spares_consumer q c) (node_does d (joining other)) (gives-there (spares_consumer q c) (set_queue d) _ (λ p. spares-joins d p q c other differ))
