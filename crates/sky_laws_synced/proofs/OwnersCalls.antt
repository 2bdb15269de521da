-- No call asks for an event once more for the subscription of a leaf's consumer.
use Rattle.std.proofs.Common.{◌≡◌, ℕ, ℤ, ◌==◌, List, [], ◌∷◌, find, Bool, true, false, not, ◌&&◌, Option, Some, None, bytes_eq, refl, sym, ap, ◌∙◌}
use Rattle.std.proofs.lemmas.Bool.{not-true}
use Rattle.sky_names.proofs.PlaceLemmas.{bytes_eq_refl}
use Rattle.sky_val.specs.declared.event.Event.{Event}
use Rattle.pgq_retry.specs.declared.retry.Retry.{Retry}
use Rattle.pgq_retry.specs.Retries.{is_asked}
use Rattle.sky_keys.specs.Waits.{is_waiting}
use Rattle.sky_model.specs.declared.reply.Refusal.TheVariants.{NoBatch, NodeConsumer, NoEvent}
use Rattle.sky_model.specs.declared.reply.Reply.TheVariants.{Number}
use Rattle.sky_model.specs.declared.stmt.RetriedEvent.{RetriedEvent}
use Rattle.sky_model.specs.declared.stmt.DbStmt.{DbStmt}
use Rattle.sky_model.specs.declared.stmt.DbStmt.TheVariants.{Row, Queue}
use Rattle.sky_model.specs.declared.stmt.QueueStmt.TheVariants.{RegisterConsumer, RegisterConsumerAt, UnregisterConsumer, FinishBatch, EventRetry}
use Rattle.sky_model.specs.Permits.{permit_of}
use Rattle.sky_model.specs.DatabaseCalls.{DatabaseCall, stepped, served, database_does}
use Rattle.sky_laws_replicas.proofs.SessionsMarks.{is_served}
use Rattle.sky_model.specs.History.{Batch, Mark, queued, asked, sight_taken, History}
use Rattle.sky_model.specs.Queues.{queues}
use Rattle.sky_model.specs.Consumers.{subscription_id, Subscription, active_batch}
use Rattle.sky_model.specs.Sessions.{has_open, block}
use Rattle.sky_model.specs.Locks.{waiting}
use Rattle.sky_model.specs.Nodes.{node}
use Rattle.sky_model.specs.State.{database_of}
use Rattle.sky_model.specs.Outcome.{Outcome, Checked, ◌>>=◌, ◌>>◌, refused_if, found_or, answers, does_marks}
use Rattle.sky_model.specs.Allowed.{where_of, allowed}
use Rattle.sky_model.specs.Reader.{shown_in, database_by_history, within_part}
use Rattle.sky_model.specs.Settling.{behind_marks, settling}
use Rattle.sky_model.specs.StepConsumer.{is_nodes_batch, leaves as leaves_queue, finishes}
use Rattle.sky_model.specs.StepRetry.{retry_of, asks_for}
use Rattle.sky_model.specs.Calls.{form, making, statement}
use Rattle.sky_histories.proofs.Legal.{queue_of_set, Legal, next, looks}
use Rattle.sky_histories.proofs.ActiveBatches.{IsActive, active_batches}
use Rattle.sky_histories.proofs.Good.{same-session}
use Rattle.sky_histories.proofs.StatementMarks.{EachMark, each-map, each-append, each-front, Gives, AnyReply, gives-map, after, checked, either, given-runs}
use Rattle.sky_model.proofs.Cases.{by_same}
use Rattle.sky_laws_synced.proofs.Following.{is_of_node}
use Rattle.sky_laws_synced.proofs.ConsumersMarks.{is_apart, are_apart, apart-any, apart-form, rows-apart, apart-settling, apart-does, batch-other}
use Rattle.sky_laws_synced.proofs.Owners.{unasks}

pub apart-unasks : (sub : ℕ) (mark : Mark) → is_apart mark ≡ true → unasks sub mark ≡ true
apart-unasks sub (queued (asked retry)) e = absurd (cc e)
apart-unasks sub mark e = refl

-- subscriptions have ids of their own
abbrev pub Distinct : History → Type 0
Distinct h = (q r : ℕ) (c d : List ℕ) (sub : ℕ) → subscription_id q c h ≡ Some sub → subscription_id r d h ≡ Some sub → (q ≡ r) × (c ≡ d)

module _ (h : History) (l : Legal h) (distinct : Distinct h) (q : ℕ) (c : List ℕ) (sub : ℕ) (set : queue_of_set (queues h) (node h) ≡ Some q) (nodes : is_of_node c (node h) ≡ true) (has : subscription_id q c h ≡ Some sub) where
  abbrev Unasks : Checked Outcome → Type 0
  Unasks x = Gives AnyReply (unasks sub) x

  -- a batch that isn't a node's is of another subscription
  batch-unasks : (id : ℕ) (b : Batch) → active_batch id h ≡ Some b → is_nodes_batch (database_of h) b ≡ false → not (b.sub == sub) ≡ true
  batch-unasks id b is other =
      by_same (λ x. not x ≡ true) b.sub sub
      (λ same.
      let a : IsActive h id b = active_batches h l id b is in
      let one = distinct b.queue q b.consumer c sub (a.owned ∙ ap Some same) has in
      absurd (cc (sym (not-true (b.queue == q && bytes_eq c b.consumer) (batch-other h q c set nodes b other)) ∙ (λ i. one.0 i == q && bytes_eq c (one.1 i)) ∙ (λ i. same-session q i && bytes_eq_refl c i)))) (λ _. refl)

  unasks-asks : (r : Retry) → not (r.sub == sub) ≡ true → Unasks (asks_for (database_of h) r)
  unasks-asks r other = either AnyReply (unasks sub) (is_asked r.sub r.event.ev_id (database_of h).retries) (answers (Number 0)) (does_marks (Number 1) (queued (asked r) ∷ [])) (tt, tt) (tt, each-front (unasks sub) (queued (asked r)) [] other tt)

  unasks-retry : (now : ℤ) (again : RetriedEvent) (es : List Event) (o : Option Batch) → active_batch again.batch h ≡ o
      → Unasks (found_or o NoBatch >>= (λ b. refused_if (is_nodes_batch (database_of h) b) NodeConsumer >> (found_or (find (λ e. e.ev_id == again.event) es) NoEvent >>= (λ e. asks_for (database_of h) (retry_of now again.seconds b e)))))
  unasks-retry now again es None is = tt
  unasks-retry now again es (Some b) is = of (is_nodes_batch (database_of h) b) refl (find (λ e. e.ev_id == again.event) es)
    where
      of : (x : Bool) → is_nodes_batch (database_of h) b ≡ x → (o : Option Event)
          → Unasks (refused_if x NodeConsumer >> (found_or o NoEvent >>= (λ e. asks_for (database_of h) (retry_of now again.seconds b e))))
      of true refused o = tt
      of false other None = tt
      of false other (Some e) = unasks-asks (retry_of now again.seconds b e) (batch-unasks again.batch b is other)

  unasks-leaves : (p : ℕ) (consumer : List ℕ) (o : Option Subscription) → Unasks (leaves_queue p consumer o)
  unasks-leaves p consumer None = (tt, tt)
  unasks-leaves p consumer (Some s) = (tt, tt)

  unasks-finishes : (o : Option Batch) → Unasks (finishes (database_of h) o)
  unasks-finishes None = (tt, tt)
  unasks-finishes (Some b) = search (after)

  unasks-apart : (now : ℤ) (who : ℕ) (stmt : DbStmt) → are_apart (permit_of stmt).kinds ≡ true → Unasks (form (database_of h) (shown_in h) now who stmt)
  unasks-apart now who stmt apart =
      gives-map AnyReply AnyReply is_apart (unasks sub) (λ reply any. any) (apart-unasks sub) (form (database_of h) (shown_in h) now who stmt) (apart-form (database_of h) (shown_in h) now who stmt apart)

  unasks-form : (now : ℤ) (who : ℕ) (stmt : DbStmt) → Unasks (form (database_of h) (shown_in h) now who stmt)
  unasks-form now who (Queue (RegisterConsumer name consumer)) = search (checked, after, either) depth 8
  unasks-form now who (Queue (RegisterConsumerAt to)) = search (checked, after, either) depth 10
  unasks-form now who (Queue (UnregisterConsumer name consumer)) = search (checked, after, unasks-leaves) depth 8
  unasks-form now who (Queue (FinishBatch batch)) = unasks-finishes ((database_of h).batch batch)
  unasks-form now who (Queue (EventRetry again)) = checked AnyReply (unasks sub) (found_or ((shown_in h).events again.batch) NoBatch) _ (λ es. unasks-retry now again es (active_batch again.batch h) refl)
  unasks-form now who (Queue stmt) = unasks-apart now who (Queue stmt) refl
  unasks-form now who (Row stmt) = unasks-apart now who (Row stmt) (rows-apart stmt)

unasks-statement : (h : History) → Legal h → Distinct h → (q : ℕ) (c : List ℕ) (sub : ℕ) → queue_of_set (queues h) (node h) ≡ Some q → is_of_node c (node h) ≡ true → subscription_id q c h ≡ Some sub → (now : ℤ) (who : ℕ) (stmt : DbStmt)
    → EachMark (unasks sub) (statement database_by_history h now who stmt).marks
unasks-statement h l distinct q c sub set nodes has now who stmt =
    (given-runs AnyReply (unasks sub) (λ _. tt) (λ s v mark may. apart-unasks sub mark (apart-any s v mark may)) (making database_by_history now who stmt) (where_of stmt) who h
    (allowed (is_waiting who (waiting h)) (has_open who h) (block who h) (where_of stmt))
    (unasks-form h l distinct q c sub set nodes has now who stmt) (unasks-form (sight_taken who ∷ h) (next l (looks who)) distinct q c sub set nodes has now who stmt)).1

pub unasks-does : (h : History) → Legal h → Distinct h → (q : ℕ) (c : List ℕ) (sub : ℕ) → queue_of_set (queues h) (node h) ≡ Some q → is_of_node c (node h) ≡ true → subscription_id q c h ≡ Some sub
    → (call : DatabaseCall) → is_served call ≡ false → EachMark (unasks sub) (database_does database_by_history h call).marks
unasks-does h l distinct q c sub set nodes has (stepped who stmt now) own =
    let marks : List Mark = (statement database_by_history h now who stmt).marks in
    let there : History = behind_marks (within_part database_by_history now) h marks in
    each-append (unasks sub) marks (settling (within_part database_by_history now) there).marks (unasks-statement h l distinct q c sub set nodes has now who stmt)
    (each-map is_apart (unasks sub) (apart-unasks sub) (settling (within_part database_by_history now) there).marks (apart-settling there now))
unasks-does h l distinct q c sub set nodes has (served call) own = absurd (cc own)
unasks-does h l distinct q c sub set nodes has call own = each-map is_apart (unasks sub) (apart-unasks sub) (database_does database_by_history h call).marks (apart-does h call refl)
