-- Sessions and daemons leave the consumers of nodes where they are: statements on consumers and batches are refused for these, and others leave no such marks.
use Rattle.std.proofs.Common.{arith, ◌≡◌, ℕ, zero, suc, ℤ, ◌==◌, ◌+◌, ◌^◌, nat_le, nat_lt, List, [], ◌∷◌, length, find, Bool, true, false, not, ◌&&◌, ◌||◌, Option, Some, None, Ok, Err, IfSome, is_some, option_map, unwrap_or, cond, bytes_eq, refl, sym, ap, subst, ◌∙◌, if◌then◌else◌}
use Rattle.std.proofs.lemmas.Bool.{and_parts, eqb-true, or_right}
use Rattle.std.proofs.lemmas.Bool.Decides.{nat_tests}
use Rattle.std.proofs.lemmas.List.Folds.{list_any_none}
use Rattle.std.proofs.lemmas.List.Elements.{All-weaker}
use Rattle.londiste_state.specs.Nodes.{Node, of_root, of_leaf, is_among}
use Rattle.sky_keys.specs.Waits.{is_waiting}
use Rattle.sky_names.specs.Places.{named}
use Rattle.sky_names.proofs.PlaceLemmas.{bytes_eq_refl, same_name}
use Rattle.sky_model.specs.declared.stmt.RowStmt.{RowStmt}
use Rattle.sky_model.specs.declared.stmt.RowStmt.TheVariants.{OpenDb}
use Rattle.sky_model.specs.declared.stmt.DbStmt.{DbStmt}
use Rattle.sky_model.specs.declared.stmt.DbStmt.TheVariants.{Row, Queue}
use Rattle.sky_model.specs.declared.stmt.QueueStmt.TheVariants.{RegisterConsumer, RegisterConsumerAt, UnregisterConsumer, FinishBatch, EventRetry, MaintRetryEvents, MaintRotateStep2}
use Rattle.sky_model.specs.Permits.{MarkKinds, of_any, of_resumed, may_leave, permit_of_row, permit_of}
use Rattle.sky_model.specs.DatabaseCalls.{DatabaseCall, stepped, entered, failed, worked, served, database_does}
use Rattle.sky_model.specs.SessionMarks.{look_of, entry_place, enters, failing}
use Rattle.sky_model.specs.Made.{takes_sight}
use Rattle.sky_laws_replicas.proofs.SessionsMarks.{is_served}
use Rattle.sky_model.specs.declared.daemon.DaemonPart.{DaemonPart}
use Rattle.sky_model.specs.declared.daemon.DaemonPart.TheVariants.{Tick as Ticks, Retry as Retries, Maintain}
use Rattle.sky_model.specs.declared.reply.Reply.TheVariants.{Number}
use Rattle.sky_model.specs.declared.reply.HeldBack.{HeldBack}
use Rattle.sky_model.specs.declared.reply.Refusal.{Refusal}
use Rattle.sky_model.specs.declared.reply.Refusal.TheVariants.{NodeConsumer, NoQueue}
use Rattle.sky_model.specs.History.{Batch, Mark, QueueMark, raised, put, ticked, sight_taken, queued, registered, moved, unregistered, closed, asked, noded, History}
use Rattle.sky_model.specs.Queues.{NamedQueue, queues, queue_number, queue_name, tick}
use Rattle.sky_model.specs.Consumers.{Subscription}
use Rattle.sky_model.specs.Sessions.{session, own_txid, has_open, block, Session}
use Rattle.sky_model.specs.Locks.{waiting}
use Rattle.sky_model.specs.Nodes.{node, is_set_queue, is_leafs}
use Rattle.sky_model.specs.State.{Database, part_of, database_of}
use Rattle.sky_model.specs.Outcome.{Outcome, Checked, ◌>>=◌, ◌>>◌, refused_if, found_or, does_marks, answers, marks_of, reply_of}
use Rattle.sky_model.specs.OwnTransaction.{next_id}
use Rattle.sky_model.specs.Allowed.{where_of, allowed}
use Rattle.sky_model.specs.Printed.{ReplyHasMoments}
use Rattle.sky_model.specs.Reader.{Shown, shown_in, database_by_history, within_part}
use Rattle.sky_model.specs.Settling.{Turn, and_then, with_settling, behind_marks, settling}
use Rattle.sky_model.specs.StepQueue.{next_tick, newest_id}
use Rattle.sky_model.specs.StepConsumer.{has_dot, is_nodes, floor, registers, leaves as leaves_queue, is_nodes_batch, finishes}
use Rattle.sky_model.specs.StepRetry.{most_back, maint_retry_events}
use Rattle.sky_model.specs.StepRotation.{held_back, rotates_alone, rotates_by_itself, maint_rotate_step2}
use Rattle.sky_model.specs.Daemon.{quietly, ticks_of, moved_by, again_if, retries_of, first_steps_of, daemon_does}
use Rattle.sky_model.specs.Calls.{form, making, statement}
use Rattle.sky_histories.proofs.Legal.{queue_of_set}
use Rattle.sky_histories.proofs.SetQueues.{not-sets}
use Rattle.sky_histories.proofs.QueueNumbers.{among-number}
use Rattle.sky_histories.proofs.StatementMarks.{EachMark, each-map, each-append, each-front, each-given, Gives, AnyReply, gives-map, after, checked, either, is_told, is_tick, gives-tick, gives-tells, gives-form, each-failure, given-runs, settling-gives}
use Rattle.sky_model.proofs.Cases.{by_test, by_same}
use Rattle.sky_histories.proofs.Commits.{Apart, queues-apart}
use Rattle.sky_laws_synced.proofs.Following.{is_of_node, spares_consumer}

-- ---- marks that are of no consumer

abbrev pub is_apart : Mark → Bool
is_apart (queued (registered q name sub tick)) = false
is_apart (queued (moved q name tick)) = false
is_apart (queued (unregistered q name sub)) = false
is_apart (queued (closed batch)) = false
is_apart (queued (asked retry)) = false
is_apart (noded mark) = false
is_apart mark = true

pub apart-spares : (q : ℕ) (c : List ℕ) (mark : Mark) → is_apart mark ≡ true → spares_consumer q c mark ≡ true
apart-spares q c (queued (registered p name sub tick)) e = absurd (cc e)
apart-spares q c (queued (moved p name tick)) e = absurd (cc e)
apart-spares q c (queued (unregistered p name sub)) e = absurd (cc e)
apart-spares q c (queued (closed batch)) e = absurd (cc e)
apart-spares q c (noded mark) e = absurd (cc e)
apart-spares q c mark e = refl

-- kinds of such marks: they aren't of statements on consumers, on their batches and on retries
abbrev pub are_apart : MarkKinds → Bool
are_apart k = not (k.registers || k.moves || k.unregisters || k.finishes || k.asks)

apart-if : (k : MarkKinds) → are_apart k ≡ true → (s : Session) (who : ℕ) (mark : Mark) → may_leave k s who mark ≡ true → is_apart mark ≡ true
apart-if k apart s who (queued (registered q name sub tick)) e = absurd (grind (arith, apart, e))
apart-if k apart s who (queued (moved q name tick)) e = absurd (grind (arith, apart, e))
apart-if k apart s who (queued (unregistered q name sub)) e = absurd (grind (arith, apart, e))
apart-if k apart s who (queued (closed batch)) e = absurd (grind (arith, apart, e))
apart-if k apart s who (queued (asked retry)) e = absurd (grind (arith, apart, e))
apart-if k apart s who (noded mark) e = e
apart-if k apart s who mark e = refl

-- those that every session may leave
pub apart-any : (s : Session) (who : ℕ) (mark : Mark) → may_leave of_any s who mark ≡ true → is_apart mark ≡ true
apart-any = apart-if of_any refl

abbrev pub ApartGives : Checked Outcome → Type 0
ApartGives c = Gives AnyReply is_apart c

pub apart-form : (d : Database) (shown : Shown) (now : ℤ) (who : ℕ) (stmt : DbStmt) → are_apart (permit_of stmt).kinds ≡ true → ApartGives (form d shown now who stmt)
apart-form d shown now who stmt apart =
    let k : MarkKinds = (permit_of stmt).kinds in
    gives-map AnyReply AnyReply (may_leave k (d.part.session who) who) is_apart (λ reply any. any) (apart-if k apart (d.part.session who) who) _ (gives-form who d shown now stmt)

-- statements on rows are of such kinds
pub rows-apart : (stmt : RowStmt) → are_apart (permit_of_row stmt).kinds ≡ true
rows-apart (OpenDb name) = refl
rows-apart _ = refl

-- ---- queues by their numbers

-- the name of a number is that by which the number is found
name-found : (name : List ℕ) (xs : List NamedQueue) (q : ℕ) → Apart xs → queue_number name xs ≡ Some q → queue_name q xs ≡ name
name-found name [] q apart is = absurd (cc is)
name-found name (x ∷ xs) q apart is =
    by_test (λ b. bytes_eq name x.name ≡ b → option_map NamedQueue.number (cond b (Some x) (named NamedQueue.name name xs)) ≡ Some q
    → unwrap_or (option_map NamedQueue.name (if x.number == q then Some x else find (λ y. y.number == q) xs)) [] ≡ name) (bytes_eq name x.name)
    (λ _ same first.
    let one : x.number ≡ q = cc first in
    ap (λ b. unwrap_or (option_map NamedQueue.name (if b then Some x else find (λ y. y.number == q) xs)) []) (at one) ∙ sym (same_name name x.name same))
    (λ _ _ later.
    let other : (x.number == q) ≡ false = differs later in
    ap (λ b. unwrap_or (option_map NamedQueue.name (if b then Some x else find (λ y. y.number == q) xs)) []) other ∙ name-found name xs q apart.1 later) refl is
  where
    at : x.number ≡ q → (x.number == q) ≡ true
    at one = grind (arith, nat_tests, one)

    differs : queue_number name xs ≡ Some q → (x.number == q) ≡ false
    differs later =
        by_same (λ b. b ≡ false) x.number q
        (λ one. absurd (cc (sym (list_any_none (λ y. y.number == q) xs (All-weaker (λ y. (x.number == y.number) ≡ false) (λ y. (y.number == q) ≡ false) (λ y other. grind (arith, nat_tests, one, other)) xs apart.0)) ∙ among-number name xs q later)))
        (λ _. refl)

-- ---- statements on consumers are refused for nodes'

module _ (h : History) (q : ℕ) (c : List ℕ) (set : queue_of_set (queues h) (node h) ≡ Some q) (nodes : is_of_node c (node h) ≡ true) where
  abbrev SparesIf : Checked Outcome → Type 0
  SparesIf x = Gives AnyReply (spares_consumer q c) x

  -- a name of the set's queue is that of the root's, and its consumer a node's
  nodes-named : (name : List ℕ) (n : Option Node) → is_set_queue name n ≡ true → is_of_node c n ≡ true → (has_dot c || is_leafs name c n) ≡ true
  nodes-named name None is of_node = absurd (cc is)
  nodes-named name (Some (of_leaf l)) is of_node = absurd (cc is)
  nodes-named name (Some (of_root r)) is of_node = or_right (has_dot c) (bytes_eq name r.queue && is_among c r.consumers) (ap (λ b. b && is_among c r.consumers) is ∙ of_node)

  sets-name : (name : List ℕ) → queue_number name (queues h) ≡ Some q → is_set_queue name (node h) ≡ true
  sets-name name is =
      by_test (λ b. is_set_queue name (node h) ≡ b → b ≡ true) (is_set_queue name (node h)) (λ _ _. refl)
      (λ _ other.
      let isnt : (q == q) ≡ false = subst (λ o. IfSome o (λ s. (s == q) ≡ false)) set (not-sets h name q is other) in
      absurd (cc (sym isnt ∙ same q))) refl
    where
      same : (n : ℕ) → (n == n) ≡ true
      same n = grind (arith, nat_tests)

  -- the queue of a root's name has it
  roots-name : (n : Option Node) → queue_of_set (queues h) n ≡ Some q → is_set_queue (queue_name q (queues h)) n ≡ true
  roots-name None is = absurd (cc is)
  roots-name (Some (of_leaf l)) is = absurd (cc is)
  roots-name (Some (of_root r)) is = ap (λ name. bytes_eq name r.queue) (name-found r.queue (queues h) q (queues-apart h) is) ∙ bytes_eq_refl r.queue

  -- another one than a node's isn't this one
  named-other : (name consumer : List ℕ) (p : ℕ) → queue_number name (queues h) ≡ Some p → is_nodes (database_of h) name consumer ≡ false → not (p == q && bytes_eq c consumer) ≡ true
  named-other name consumer p is other =
      by_test (λ b. (p == q && bytes_eq c consumer) ≡ b → not b ≡ true) (p == q && bytes_eq c consumer)
      (λ _ both.
      let parts = and_parts (p == q) (bytes_eq c consumer) both in
      let is_mine : is_nodes (database_of h) name c ≡ true = nodes-named name (node h) (sets-name name (is ∙ ap Some (eqb-true p q parts.0))) nodes in
      absurd (cc (sym other ∙ sym (ap (is_nodes (database_of h) name) (same_name c consumer parts.1)) ∙ is_mine))) (λ _ _. refl) refl

  pub batch-other : (b : Batch) → is_nodes_batch (database_of h) b ≡ false → not (b.queue == q && bytes_eq c b.consumer) ≡ true
  batch-other b other =
      by_test (λ x. (b.queue == q && bytes_eq c b.consumer) ≡ x → not x ≡ true) (b.queue == q && bytes_eq c b.consumer)
      (λ _ both.
      let parts = and_parts (b.queue == q) (bytes_eq c b.consumer) both in
      let is_mine : is_nodes (database_of h) (queue_name q (queues h)) c ≡ true = nodes-named (queue_name q (queues h)) (node h) (roots-name (node h) set) nodes in
      absurd (cc (sym other ∙ (λ i. is_nodes (database_of h) (queue_name (eqb-true b.queue q parts.0 i) (queues h)) (sym (same_name c b.consumer parts.1) i)) ∙ is_mine))) (λ _ _. refl) refl

  spares-test : (b : Bool) (x : Checked Outcome) → (b ≡ false → SparesIf x) → SparesIf (refused_if b NodeConsumer >> x)
  spares-test true x spare = tt
  spares-test false x spare = spare refl

  spares-unless : (b : Bool) (refusal : Refusal) (x : Checked Outcome) → SparesIf x → SparesIf (refused_if b refusal >> x)
  spares-unless true refusal x spare = tt
  spares-unless false refusal x spare = spare

  spares-found : (name : List ℕ) (o : Option ℕ) (next : ℕ → Checked Outcome) → ((p : ℕ) → o ≡ Some p → SparesIf (next p)) → SparesIf (found_or o (NoQueue name) >>= next)
  spares-found name None next spare = tt
  spares-found name (Some p) next spare = spare p refl

  spares-one : (mark : Mark) → spares_consumer q c mark ≡ true → EachMark (spares_consumer q c) (mark ∷ [])
  spares-one mark e = each-front (spares_consumer q c) mark [] e tt

  spares-registers : (p : ℕ) (consumer : List ℕ) (at : ℕ) → not (p == q && bytes_eq c consumer) ≡ true → SparesIf (registers (database_of h) p consumer at)
  spares-registers p consumer at other =
      after AnyReply (spares_consumer q c) (refused_if (nat_le 256 (length ((database_of h).queue p).members)) _) _
      (after AnyReply (spares_consumer q c) (refused_if (nat_le (2 ^ 64) ((database_of h).last_sub_id + 1)) _) _ (tt, spares-one (queued (registered p consumer ((database_of h).last_sub_id + 1) at)) other))

  spares-leaves : (p : ℕ) (consumer : List ℕ) (o : Option Subscription) → not (p == q && bytes_eq c consumer) ≡ true → SparesIf (leaves_queue p consumer o)
  spares-leaves p consumer None other = (tt, tt)
  spares-leaves p consumer (Some sub) other = (tt, spares-one (queued (unregistered p consumer sub.id)) other)

  spares-finishes : (o : Option Batch) → SparesIf (finishes (database_of h) o)
  spares-finishes None = (tt, tt)
  spares-finishes (Some b) = spares-test (is_nodes_batch (database_of h) b) _ (λ other. (tt, spares-one (queued (closed b)) (batch-other b other)))

  spares-apart : (x : Checked Outcome) → ApartGives x → SparesIf x
  spares-apart x gives = gives-map AnyReply AnyReply is_apart (spares_consumer q c) (λ reply any. any) (apart-spares q c) x gives

  spares-form : (shown : Shown) (now : ℤ) (who : ℕ) (stmt : DbStmt) → SparesIf (form (database_of h) shown now who stmt)
  spares-form shown now who (Queue (RegisterConsumer name consumer)) =
      spares-found name (queue_number name (queues h)) _ (λ p is.
      spares-test (is_nodes (database_of h) name consumer) _ (λ other.
      either AnyReply (spares_consumer q c) (is_some (((database_of h).queue p).sub consumer)) (answers (Number 0)) _ (tt, tt) (spares-registers p consumer _ (named-other name consumer p is other))))
  spares-form shown now who (Queue (RegisterConsumerAt to)) =
      spares-found to.queue (queue_number to.queue (queues h)) _ (λ p is.
      spares-test (is_nodes (database_of h) to.queue to.consumer) _ (λ other.
      let apart = named-other to.queue to.consumer p is other in
      spares-unless (to.tick == 0 || nat_lt (newest_id ((database_of h).queue p)) to.tick) _ _ (spares-unless (nat_lt to.tick (floor ((database_of h).queue p))) _ _
      (either AnyReply (spares_consumer q c) (is_some (((database_of h).queue p).sub to.consumer)) (does_marks (Number 0) (queued (moved p to.consumer to.tick) ∷ [])) _ (tt, spares-one (queued (moved p to.consumer to.tick)) apart)
      (spares-registers p to.consumer to.tick apart)))))
  spares-form shown now who (Queue (UnregisterConsumer name consumer)) =
      spares-found name (queue_number name (queues h)) _ (λ p is.
      spares-test (is_nodes (database_of h) name consumer) _ (λ other. spares-leaves p consumer (((database_of h).queue p).sub consumer) (named-other name consumer p is other)))
  spares-form shown now who (Queue (FinishBatch batch)) = spares-finishes ((database_of h).batch batch)
  spares-form shown now who (Queue (EventRetry again)) = search (checked, after, either) depth 12
  spares-form shown now who (Queue stmt) = spares-apart (form (database_of h) shown now who (Queue stmt)) (apart-form (database_of h) shown now who (Queue stmt) refl)
  spares-form shown now who (Row stmt) = spares-apart (form (database_of h) shown now who (Row stmt)) (apart-form (database_of h) shown now who (Row stmt) (rows-apart stmt))

spares-statement : (h : History) (q : ℕ) (c : List ℕ) → queue_of_set (queues h) (node h) ≡ Some q → is_of_node c (node h) ≡ true → (now : ℤ) (who : ℕ) (stmt : DbStmt)
    → EachMark (spares_consumer q c) (statement database_by_history h now who stmt).marks
spares-statement h q c set nodes now who stmt =
    (given-runs AnyReply (spares_consumer q c) (λ _. tt) (λ s v mark may. apart-spares q c mark (apart-any s v mark may)) (making database_by_history now who stmt) (where_of stmt) who h (allowed (is_waiting who (waiting h)) (has_open who h) (block who h) (where_of stmt))
    (spares-form h q c set nodes (shown_in h) now who stmt) (spares-form (sight_taken who ∷ h) q c set nodes (shown_in (sight_taken who ∷ h)) now who stmt)).1

-- ---- what is unblocked, and daemons

told-apart : (mark : QueueMark) → is_told mark ≡ true → is_apart (queued mark) ≡ true
told-apart (raised q value) e = refl
told-apart (put q event) e = refl
told-apart _ e = absurd (cc)

pub apart-settling : (h : History) (now : ℤ) → EachMark is_apart (settling (within_part database_by_history now) h).marks
apart-settling h now =
    (settling-gives is_apart (λ who. refl) (apart-if of_resumed refl) (within_part database_by_history now)
    (record { tells = λ g c gives. gives-tells is_apart told-apart ReplyHasMoments (database_of g) now c gives }) h).marks

apart-settled : (h : History) (now : ℤ) (turn : Turn) → EachMark is_apart turn.marks → EachMark is_apart (with_settling (within_part database_by_history now) h turn).marks
apart-settled h now turn each = each-append is_apart turn.marks _ each (apart-settling (behind_marks (within_part database_by_history now) h turn.marks) now)

tick-apart : (mark : QueueMark) → is_tick mark ≡ true → is_apart (queued mark) ≡ true
tick-apart (ticked q id time seq) e = refl
tick-apart _ e = absurd (cc)

apart-alone : (d : Database) (now : ℤ) (q : ℕ) (why : Option HeldBack) → ApartGives (rotates_alone d now q why)
apart-alone d now q (Some why) = (tt, tt)
apart-alone d now q None = checked AnyReply is_apart (next_id d.part) _ (λ t. (tt, tt))

module _ (now : ℤ) where
  apart-quietly : (h : History) (c : Checked Outcome) (rest : History → Turn) → ApartGives c → ((g : History) → EachMark is_apart (rest g).marks) → EachMark is_apart (and_then (within_part database_by_history now) h (quietly c) rest).marks
  apart-quietly h c rest gives each = each-append is_apart (marks_of c) _ (each-given AnyReply is_apart c gives) (each (behind_marks (within_part database_by_history now) h (marks_of c)))

  apart-ticks : (qs : List NamedQueue) (h : History) → EachMark is_apart (ticks_of database_by_history now qs h).marks
  apart-ticks [] h = tt
  apart-ticks (q ∷ qs) h = apart-quietly h (next_tick (database_of h) now q.number) (ticks_of database_by_history now qs) (gives-tick is_apart tick-apart (database_of h) now q.number) (apart-ticks qs)

  apart-again : (rest : History → Turn) → ((h : History) → EachMark is_apart (rest h).marks) → (b : Bool) (h : History) → EachMark is_apart (again_if b rest h).marks
  apart-again rest each true h = each h
  apart-again rest each false h = tt

  apart-retries : (n : ℕ) (h : History) → EachMark is_apart (retries_of database_by_history now n h).marks
  apart-retries zero h = tt
  apart-retries (suc n) h =
      let c : Checked Outcome = maint_retry_events (database_of h) now in
      let full : Bool = nat_le most_back (moved_by (reply_of c)) in
      apart-quietly h c (again_if full (retries_of database_by_history now n)) (apart-form (database_of h) (shown_in h) now 0 (Queue MaintRetryEvents) refl)
      (apart-again (retries_of database_by_history now n) (apart-retries n) full)

  apart-first_steps : (qs : List NamedQueue) (h : History) → EachMark is_apart (first_steps_of database_by_history now qs h).marks
  apart-first_steps [] h = tt
  apart-first_steps (q ∷ qs) h =
      apart-quietly h (rotates_by_itself (database_of h) now q.number) (first_steps_of database_by_history now qs) (apart-alone (database_of h) now q.number (held_back now ((database_of h).queue q.number)))
      (apart-first_steps qs)

  apart-daemon : (h : History) (part : DaemonPart) → EachMark is_apart (daemon_does database_by_history h part now).marks
  apart-daemon h Ticks = apart-ticks (queues h) h
  apart-daemon h Retries = apart-retries (length (database_of h).retries) h
  apart-daemon h Maintain =
      let first : List Mark = (first_steps_of database_by_history now (queues h) h).marks in
      let g : History = behind_marks (within_part database_by_history now) h first in
      each-append is_apart first _ (apart-first_steps (queues h) h) (each-given AnyReply is_apart (maint_rotate_step2 (database_of g)) (apart-form (database_of g) (shown_in g) now 0 (Queue MaintRotateStep2) refl))

apart-enters : (who : ℕ) (sight : Bool) (may : Checked (Unit {0})) → EachMark is_apart (enters who (look_of who sight) may).marks
apart-enters who true (Ok _) = tt
apart-enters who false (Ok _) = tt
apart-enters who sight (Err refusal) = tt

-- what a call leaves that is neither a statement nor one for a node
abbrev pub is_by_itself : DatabaseCall → Bool
is_by_itself (stepped who stmt now) = false
is_by_itself (served call) = false
is_by_itself call = true

pub apart-does : (h : History) (call : DatabaseCall) → is_by_itself call ≡ true → EachMark is_apart (database_does database_by_history h call).marks
apart-does h (stepped who stmt now) e = absurd (cc e)
apart-does h (entered who alone) e = apart-enters who (takes_sight (entry_place alone) (session h who).sight) (allowed (is_waiting who (waiting h)) (has_open who h) (block who h) (entry_place alone))
apart-does h (failed who now) e = apart-settled h now (failing (part_of h) who) (each-failure AnyReply is_apart (λ _. tt) apart-any who (own_txid who h) (block who h))
apart-does h (worked part now) e = apart-daemon now h part
apart-does h (served call) e = absurd (cc e)

-- ---- turns

-- marks spare each consumer of the set's queue that is a node's
abbrev pub SparesNodes : History → List Mark → Type 0
SparesNodes h marks = (q : ℕ) (c : List ℕ) → queue_of_set (queues h) (node h) ≡ Some q → is_of_node c (node h) ≡ true → EachMark (spares_consumer q c) marks

pub spares-does : (h : History) (call : DatabaseCall) → is_served call ≡ false → SparesNodes h (database_does database_by_history h call).marks
spares-does h (stepped who stmt now) own q c set nodes =
    let marks : List Mark = (statement database_by_history h now who stmt).marks in
    let there : History = behind_marks (within_part database_by_history now) h marks in
    each-append (spares_consumer q c) marks (settling (within_part database_by_history now) there).marks (spares-statement h q c set nodes now who stmt)
    (each-map is_apart (spares_consumer q c) (apart-spares q c) (settling (within_part database_by_history now) there).marks (apart-settling there now))
spares-does h (served call) own q c set nodes = absurd (cc own)
spares-does h call own q c set nodes = each-map is_apart (spares_consumer q c) (apart-spares q c) (database_does database_by_history h call).marks (apart-does h call refl)
