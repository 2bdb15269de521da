-- Which marks calls for nodes leave, and that these may come.
use Rattle.sky_histories.proofs.SetQueues.{found-new}
use Rattle.sky_histories.proofs.Snapshots.{just_begun, sound}
use Rattle.sky_model.specs.Transactions.{next_txid}
use Rattle.std.proofs.Common.{◌≡◌, ℕ, ◌+◌, ◌^◌, nat_le, List, [], ◌∷◌, ◌++◌, Bool, true, false, ◌&&◌, Option, Some, None, Ok, Err, All, is_some, length, refl, sym, ◌∙◌, ap, arith, option_map, if◌then◌else◌, ℤ}
use Rattle.std.proofs.lemmas.Bool.Decides.{nat_tests}
use Rattle.std.proofs.lemmas.List.Elements.{All-nil, All-cons}
use Rattle.sky_names.specs.Places.{place_of}
use Rattle.sky_names.proofs.PlaceLemmas.{place_of_within, bytes_eq_refl}
use Rattle.londiste_state.specs.declared.state.TableState.{TableState}
use Rattle.londiste_state.specs.Nodes.{Node, of_root, of_leaf, is_among}
use Rattle.sky_model.specs.declared.reply.Reply.TheVariants.{Number, Null}
use Rattle.sky_model.specs.declared.reply.Limit.TheVariants.{Consumers, Triggers, Queues}
use Rattle.sky_model.specs.declared.reply.Refusal.TheVariants.{ConsumerExists, IdsSpent, TableBusy, TooMany, QueueExists, TxidsSpent}
use Rattle.sky_model.specs.History.{Mark, tabled, read_only, queued, registered, unregistered, opened, closed, traced, untraced, noded, NodeMark, joined, parted, leaf_made, leaf_added, leaf_removed, state_set, set_added, set_removed, History, of_worker, of_copy, began, ended, wrote, restarted, made, root_made}
use Rattle.sky_model.specs.Nodes.{node, is_leaf, leaf_tables}
use Rattle.sky_model.specs.Queues.{Tick, tick, queues, id_of, newest_tick, ticks, queue_number, queues_made}
use Rattle.sky_model.specs.Consumers.{consumers, Subscription, subscription, subscription_id, last_subscription, position, active, active_batch}
use Rattle.sky_model.specs.Rows.{table_names}
use Rattle.sky_model.specs.Triggers.{triggers, triggers_of}
use Rattle.sky_model.specs.ShownRows.{least_writer}
use Rattle.sky_model.specs.State.{Database, part_of, database_of}
use Rattle.sky_model.specs.Outcome.{Outcome, Checked, ◌>>=◌, ◌>>◌, refused_if, answers, does_marks, marks_of}
use Rattle.sky_model.specs.Settling.{ready, marked}
use Rattle.sky_model.specs.StepQueue.{newest_id}
use Rattle.sky_model.specs.StepConsumer.{opens_batch, takes_batch}
use Rattle.sky_model.specs.StepNode.{set_queue, joins, parts, set_trigger, lists, adds, NodeCall, joining, parting, fetching, finishing, makes_root, making_root, making_leaf, adding, removing, moving, listing, unlisting, table_number, may_serve, call_form, node_does, beginning_copy, copying_rows, ending_copy, giving_up_copy, applying, holding, letting_go}
use Rattle.sky_model.specs.LawsOfRetries.{IsBackAt}
use Rattle.sky_histories.proofs.Legal.{brief, IsQueue, queue_of_set, AllWritable, IsUnused, IsAtSet, IsOfLast, at_joining, at_leaving, Fine, registers, unregisters, traces, untraces, guards, nodes, Chain, done, more, Legal, next, ends_copy, begins_work, ends_work, makes}
use Rattle.sky_histories.proofs.NodeReadings.{set-number, no-node, same-node}
use Rattle.sky_histories.proofs.Unawaited.{unawaited}
use Rattle.sky_model.proofs.Cases.{by_test}
use Rattle.sky_histories.proofs.Good.{Good, same-session, good_test, good_refused, good_refused_by, good_test_then}
use Rattle.sky_histories.proofs.LawfulRows.{no-one, nothing}
use Rattle.sky_histories.proofs.Lawful.{good_takes_batch, good_closes}
use Rattle.sky_histories.proofs.QueueNumbers.{among-number}
use Rattle.sky_histories.proofs.Rotation.{newest-kept, floor-newest}
use Rattle.sky_histories.proofs.StatementMarks.{EachMark, each-map, each-rest, each-given, Gives, gives-map, AnyReply, after, either, checked}
use Rattle.sky_model.specs.Copies.{copies, is_copied, is_copied_by, copy_txid}
use Rattle.sky_model.specs.StepCopy.{given_up}
use Rattle.sky_histories.proofs.CopyCalls.{is_for_copies, is_copies, gives-there, gives-copies, good-there, LeafGuarded, among-one, good_copies}
use Rattle.sky_histories.proofs.Guarded.{IsGuarded, copy_txid-some, copy_txid-none, gone}
use Rattle.sky_histories.proofs.Holders.{guarded-unwritten}
use Rattle.sky_histories.proofs.CopiesCovered.{AllCovered}
use Rattle.sky_model.specs.StepApply.{applies_batch}
use Rattle.sky_histories.proofs.ApplyCalls.{is_for_applying, gives-applies, good_applies}

-- the marks that they leave, but for the making of a root and the applying of batches
abbrev pub is_for_others : Mark → Bool
is_for_others (queued (registered q name sub tick)) = true
is_for_others (queued (unregistered q name sub)) = true
is_for_others (queued (opened batch)) = true
is_for_others (queued (closed batch)) = true
is_for_others (queued (traced table name trigger)) = true
is_for_others (queued (untraced table)) = true
is_for_others (tabled (read_only table on)) = true
is_for_others (noded mark) = true
is_for_others (began (of_copy table) t) = true
is_for_others (ended (of_copy table) t committed) = true
is_for_others (tabled (wrote (of_copy n) t table key old new)) = true
is_for_others _ = false

-- and with it
abbrev pub is_for_nodes : Mark → Bool
is_for_nodes (began of_worker t) = true
is_for_nodes (ended of_worker t committed) = true
is_for_nodes (tabled (wrote of_worker t table key old new)) = true
is_for_nodes (queued (made name t time)) = true
is_for_nodes mark = is_for_others mark

-- those of a leaf's consumer
abbrev pub is_for_consumers : Mark → Bool
is_for_consumers (queued (registered q name sub tick)) = true
is_for_consumers (queued (unregistered q name sub)) = true
is_for_consumers (queued (opened batch)) = true
is_for_consumers (queued (closed batch)) = true
is_for_consumers (noded (joined consumer)) = true
is_for_consumers (noded (parted consumer)) = true
is_for_consumers _ = false

abbrev OtherGives : Checked Outcome → Type 0
OtherGives c = Gives AnyReply is_for_others c

abbrev pub ConsumerGives : Checked Outcome → Type 0
ConsumerGives c = Gives AnyReply is_for_consumers c

gives-joins : (d : Database) (queue : ℕ) (consumer : List ℕ) → ConsumerGives (joins d queue consumer)
gives-joins d queue consumer = of (is_some ((d.queue queue).sub consumer)) (nat_le 256 (length (d.queue queue).members)) (nat_le (2 ^ 64) (d.last_sub_id + 1))
  where
    of : (there full spent : Bool) → ConsumerGives (refused_if there (ConsumerExists consumer) >> ((refused_if full (TooMany Consumers) >> (refused_if spent IdsSpent
        >> does_marks (Number 1) (queued (registered queue consumer (d.last_sub_id + 1) (newest_id (d.queue queue))) ∷ [])))
        >>= (λ registering. does_marks (Number (newest_id (d.queue queue))) (registering.marks ++ noded (joined consumer) ∷ []))))
    of true full spent = tt
    of false true spent = tt
    of false false true = tt
    of false false false = (tt, tt)

gives-parts : (queue : ℕ) (consumer : List ℕ) (o : Option Subscription) → ConsumerGives (parts queue consumer o)
gives-parts queue consumer None = (tt, tt)
gives-parts queue consumer (Some sub) = (tt, tt)

gives-opens : (d : Database) (queue : ℕ) (consumer : List ℕ) (sub : Subscription) (o : Option Tick) → ConsumerGives (opens_batch d queue consumer sub o)
gives-opens d queue consumer sub None = (tt, tt)
gives-opens d queue consumer sub (Some closing) = search (after)

gives-takes : (d : Database) (queue : ℕ) (consumer : List ℕ) (sub : Subscription) (o : Option ℕ) → ConsumerGives (takes_batch d queue consumer sub o)
gives-takes d queue consumer sub (Some batch) = (tt, tt)
gives-takes d queue consumer sub None = gives-opens d queue consumer sub (tick (sub.position + 1) (d.queue queue).tick_list)

-- the calls for a leaf's consumer
abbrev pub is_consumers : NodeCall → Bool
is_consumers (joining consumer) = true
is_consumers (parting consumer) = true
is_consumers (fetching consumer) = true
is_consumers (finishing batch) = true
is_consumers _ = false

pub gives-consumers : (d : Database) (call : NodeCall) → is_consumers call ≡ true → ConsumerGives (call_form d call)
gives-consumers d (joining consumer) e = gives-there is_for_consumers (set_queue d) _ (λ queue. gives-joins d queue consumer)
gives-consumers d (parting consumer) e = gives-there is_for_consumers (set_queue d) _ (λ queue. gives-parts queue consumer ((d.queue queue).sub consumer))
gives-consumers d (fetching consumer) e =
    gives-there is_for_consumers (set_queue d) _ (λ queue. gives-there is_for_consumers ((d.queue queue).sub consumer) _ (λ sub. gives-takes d queue consumer sub sub.active))
gives-consumers d (finishing batch) e = gives-there is_for_consumers (d.batch batch) _ (λ b. (tt, tt))
gives-consumers d _ e = absurd (cc)

also-others : (mark : Mark) → is_for_consumers mark ≡ true → is_for_others mark ≡ true
also-others (queued (registered q name sub tick)) e = refl
also-others (queued (unregistered q name sub)) e = refl
also-others (queued (opened batch)) e = refl
also-others (queued (closed batch)) e = refl
also-others (noded mark) e = refl
also-others _ e = absurd (cc)

gives-consumer : (d : Database) (call : NodeCall) → is_consumers call ≡ true → OtherGives (call_form d call)
gives-consumer d call e = gives-map AnyReply AnyReply is_for_consumers is_for_others (λ reply any. any) also-others (call_form d call) (gives-consumers d call e)

copies-too : (mark : Mark) → is_for_copies mark ≡ true → is_for_others mark ≡ true
copies-too (began (of_copy table) t) e = refl
copies-too (ended (of_copy table) t committed) e = refl
copies-too (tabled (wrote (of_copy n) t table key old new)) e = refl
copies-too (noded mark) e = refl
copies-too _ e = absurd (cc)

gives-copy : (d : Database) (call : NodeCall) → is_copies call ≡ true → OtherGives (call_form d call)
gives-copy d call e = gives-map AnyReply AnyReply is_for_copies is_for_others (λ reply any. any) copies-too (call_form d call) (gives-copies d call e)

-- once a copy is given up
others-then : (table : ℕ) (name : List ℕ) (o : Option ℕ) (marks : List Mark) → EachMark is_for_others marks → EachMark is_for_others (given_up table name o ++ marks)
others-then table name None marks each = each
others-then table name (Some t) marks each = each

-- whether a worker's transaction begins and ends in a call: a root is made, or a batch applied
abbrev pub is_working : NodeCall → Bool
is_working (making_root name queue now) = true
is_working (applying events pick tick) = true
is_working _ = false

gives-other : (d : Database) (call : NodeCall) → is_working call ≡ false → OtherGives (call_form d call)
gives-other d (making_root name queue now) e = absurd (cc)
gives-other d (making_leaf name provider tick) e = (tt, tt)
gives-other d (adding name) e = gives-there is_for_others (table_number d name) _ (λ table. search (after))
gives-other d (removing name) e = gives-there is_for_others (table_number d name) _ (λ table. (tt, others-then table name (copy_txid table d.copies) _ tt))
gives-other d (moving name state) e = gives-there is_for_others (table_number d name) _ (λ table. (tt, others-then table name (copy_txid table d.copies) _ tt))
gives-other d (listing name) e = gives-there is_for_others (set_queue d) _ (λ queue. gives-there is_for_others (table_number d name) _ (λ table. search (after)))
gives-other d (unlisting name) e = gives-there is_for_others (table_number d name) _ (λ table. (tt, tt))
gives-other d (joining consumer) e = gives-consumer d (joining consumer) refl
gives-other d (parting consumer) e = gives-consumer d (parting consumer) refl
gives-other d (fetching consumer) e = gives-consumer d (fetching consumer) refl
gives-other d (finishing batch) e = gives-consumer d (finishing batch) refl
gives-other d (applying events pick tick) e = absurd (cc)
gives-other d call e = gives-copy d call refl

others-too : (mark : Mark) → is_for_others mark ≡ true → is_for_nodes mark ≡ true
others-too (began of_worker t) e = refl
others-too (ended of_worker t committed) e = refl
others-too (tabled (wrote of_worker t table key old new)) e = refl
others-too (queued (made name t time)) e = refl
others-too _ e = e

applying-too : (mark : Mark) → is_for_applying mark ≡ true → is_for_nodes mark ≡ true
applying-too (began of_worker t) e = refl
applying-too (ended of_worker t committed) e = refl
applying-too (tabled (wrote of_worker t table key old new)) e = refl
applying-too (noded mark) e = refl
applying-too _ e = absurd (cc)

gives-call : (d : Database) (call : NodeCall) → Gives AnyReply is_for_nodes (call_form d call)
gives-call d (applying events pick tick) = gives-map AnyReply AnyReply is_for_applying is_for_nodes (λ reply any. any) applying-too (applies_batch d pick tick events) (gives-applies d pick tick events)
gives-call d (making_root name queue now) = search (after, checked)
gives-call d call = gives-map AnyReply AnyReply is_for_others is_for_nodes (λ reply any. any) others-too (call_form d call) (gives-other d call refl)

gives-node : (d : Database) (call : NodeCall) → Gives AnyReply is_for_nodes (node_does d call)
gives-node d call = either AnyReply is_for_nodes (may_serve call d.node) (call_form d call) (answers Null) (gives-call d call) (tt, tt)

-- each passes a test that such marks pass
pub each-node : (p : Mark → Bool) → ((mark : Mark) → is_for_nodes mark ≡ true → p mark ≡ true) → (d : Database) (call : NodeCall) → EachMark p (marks_of (node_does d call))
each-node p implies d call = each-map is_for_nodes p implies (marks_of (node_does d call)) (each-given AnyReply is_for_nodes (node_does d call) (gives-node d call))

pub each-other : (p : Mark → Bool) → ((mark : Mark) → is_for_others mark ≡ true → p mark ≡ true) → (d : Database) (call : NodeCall) → is_working call ≡ false → EachMark p (marks_of (node_does d call))
each-other p implies d call other =
    each-map is_for_others p implies (marks_of (node_does d call))
    (each-given AnyReply is_for_others (node_does d call) (either AnyReply is_for_others (may_serve call d.node) (call_form d call) (answers Null) (gives-other d call other) (tt, tt)))

-- a statement that waits isn't ready by them
ready-alike : (h : History) (marks : List Mark) → EachMark is_for_nodes marks → ready (part_of (marked h marks)) ≡ ready (part_of h)
ready-alike h [] all = refl
ready-alike h (queued mark ∷ marks) all = ready-alike (queued mark ∷ h) marks (each-rest is_for_nodes (queued mark) marks all)
ready-alike h (tabled (read_only table on) ∷ marks) all = ready-alike (tabled (read_only table on) ∷ h) marks all
ready-alike h (noded mark ∷ marks) all = ready-alike (noded mark ∷ h) marks all
ready-alike h (began (of_copy table) t ∷ marks) all = ready-alike (began (of_copy table) t ∷ h) marks all
ready-alike h (ended (of_copy table) t committed ∷ marks) all = ready-alike (ended (of_copy table) t committed ∷ h) marks all
ready-alike h (tabled (wrote (of_copy n) t table key old new) ∷ marks) all = ready-alike (tabled (wrote (of_copy n) t table key old new) ∷ h) marks all
ready-alike h (began of_worker t ∷ marks) all = ready-alike (began of_worker t ∷ h) marks all
ready-alike h (ended of_worker t committed ∷ marks) all = ready-alike (ended of_worker t committed ∷ h) marks all
ready-alike h (tabled (wrote of_worker t table key old new) ∷ marks) all = ready-alike (tabled (wrote of_worker t table key old new) ∷ h) marks all
ready-alike h (_ ∷ marks) all = absurd all

pub node-ready : (h : History) (call : NodeCall) → ready (part_of (marked h (marks_of (node_does (database_of h) call)))) ≡ ready (part_of h)
node-ready h call = ready-alike h (marks_of (node_does (database_of h) call)) (each-given AnyReply is_for_nodes (node_does (database_of h) call) (gives-node (database_of h) call))

-- no retry comes back by them
none-back : (at : Option ℤ) (marks : List Mark) → EachMark is_for_nodes marks → All (IsBackAt at) marks
none-back at [] all = All-nil (IsBackAt at)
none-back at (queued mark ∷ marks) all = All-cons (IsBackAt at) (queued mark) marks (of mark all) (none-back at marks (each-rest is_for_nodes (queued mark) marks all))
  where
    of : (m : _) → EachMark is_for_nodes (queued m ∷ marks) → IsBackAt at (queued m)
    of (registered q name sub tick) each = tt
    of (unregistered q name sub) each = tt
    of (opened batch) each = tt
    of (closed batch) each = tt
    of (traced table name trigger) each = tt
    of (untraced table) each = tt
    of (made name t time) each = tt
    of _ each = absurd each
none-back at (tabled (read_only table on) ∷ marks) all = All-cons (IsBackAt at) (tabled (read_only table on)) marks tt (none-back at marks all)
none-back at (noded mark ∷ marks) all = All-cons (IsBackAt at) (noded mark) marks tt (none-back at marks all)
none-back at (began (of_copy table) t ∷ marks) all = All-cons (IsBackAt at) (began (of_copy table) t) marks tt (none-back at marks all)
none-back at (ended (of_copy table) t committed ∷ marks) all = All-cons (IsBackAt at) (ended (of_copy table) t committed) marks tt (none-back at marks all)
none-back at (tabled (wrote (of_copy n) t table key old new) ∷ marks) all = All-cons (IsBackAt at) (tabled (wrote (of_copy n) t table key old new)) marks tt (none-back at marks all)
none-back at (began of_worker t ∷ marks) all = All-cons (IsBackAt at) (began of_worker t) marks tt (none-back at marks all)
none-back at (ended of_worker t committed ∷ marks) all = All-cons (IsBackAt at) (ended of_worker t committed) marks tt (none-back at marks all)
none-back at (tabled (wrote of_worker t table key old new) ∷ marks) all = All-cons (IsBackAt at) (tabled (wrote of_worker t table key old new)) marks tt (none-back at marks all)
none-back at (_ ∷ marks) all = absurd all

pub node-back : (at : Option ℤ) (d : Database) (call : NodeCall) → All (IsBackAt at) (marks_of (node_does d call))
node-back at d call = none-back at (marks_of (node_does d call)) (each-given AnyReply is_for_nodes (node_does d call) (gives-node d call))

-- ---- they may come

-- a set's queue stands
set-stands : (h : History) (q : ℕ) → set_queue (database_of h) ≡ Some q → IsQueue h q
set-stands h q is = of (node h) (sym (set-number (database_of h)) ∙ is)
  where
    of : (n : Option Node) → queue_of_set (queues h) n ≡ Some q → IsQueue h q
    of None e = absurd (cc)
    of (Some (of_leaf l)) e = absurd (cc)
    of (Some (of_root r)) e = among-number r.queue (queues h) q e

-- what is so between calls: no session that waits is ready, no worker's transaction runs that ends in the step in which it began, a database without a
-- node has no read-only table, the tables of a leaf are read-only, and a copy that runs has written the keys of all rows of its table
pub record IsBetween (h : History) : Type 0 where
  pub rests : ready (part_of h) ≡ None
  pub idle : brief h ≡ []
  pub writable : node h ≡ None → AllWritable h
  pub guarding : LeafGuarded h
  pub covered : AllCovered h

-- a consumer joins, whose registering is the mark before
is-at-set : (h : History) (q : ℕ) (consumer : List ℕ) (mark : Mark) (b : Bool) → set_queue (database_of h) ≡ Some q → queue_of_set (queues (mark ∷ h)) (node (mark ∷ h)) ≡ queue_of_set (queues h) (node h)
    → is_some (subscription_id q consumer (mark ∷ h)) ≡ b → IsAtSet (mark ∷ h) consumer b
is-at-set h q consumer mark b set still there = record { queue = q; set = still ∙ sym (set-number (database_of h)) ∙ set; registered = there }

good-joins : (h : History) → Legal h → (q : ℕ) (consumer : List ℕ) → set_queue (database_of h) ≡ Some q → Good h 0 (joins (database_of h) q consumer)
good-joins h l q consumer set =
    good_test h 0 (is_some (((database_of h).queue q).sub consumer)) (ConsumerExists consumer) _ (λ new.
    of (no-one _ (subscription_id q consumer h) (nothing _ new)) (nat_le 256 (length ((database_of h).queue q).members)) refl (nat_le (2 ^ 64) ((database_of h).last_sub_id + 1)))
  where
    is : IsQueue h q
    is = set-stands h q set

    at : ℕ
    at = newest_id ((database_of h).queue q)

    sub : ℕ
    sub = last_subscription h + 1

    mark : Mark
    mark = queued (registered q consumer sub at)

    there : is_some (subscription_id q consumer (mark ∷ h)) ≡ true
    there = λ i. is_some (if same-session q i && bytes_eq_refl consumer i then Some sub else subscription_id q consumer h)

    fine : subscription_id q consumer h ≡ None → nat_le 256 (length (consumers q h)) ≡ false → Fine h mark
    fine new room =
        let all : newest_id ((database_of h).queue q) ≡ id_of (newest_tick (ticks q h)) = ap id_of (newest-kept h l q is) in
        registers q consumer sub at is new (omega arith) (omega (arith, all)) (omega (arith, all, floor-newest h l q is)) (grind (arith, nat_tests, room))

    of : subscription_id q consumer h ≡ None → (full : Bool) → nat_le 256 (length (consumers q h)) ≡ full → (spent : Bool)
        → Good h 0 ((refused_if full (TooMany Consumers) >> (refused_if spent IdsSpent >> does_marks (Number 1) (mark ∷ [])))
        >>= (λ registering. does_marks (Number at) (registering.marks ++ noded (joined consumer) ∷ [])))
    of new true room spent = good_refused h 0 (TooMany Consumers)
    of new false room true = good_refused h 0 IdsSpent
    of new false room false = more (fine new room) (more (nodes (joined consumer) (is-at-set h q consumer mark true set refl there)) done)

good-parts : (h : History) (q : ℕ) (consumer : List ℕ) (o : Option ℕ) → set_queue (database_of h) ≡ Some q → subscription_id q consumer h ≡ o
    → Good h 0 (parts q consumer (option_map (λ id. record { id = id; position = position q consumer h; active = active q consumer h }) o))
good-parts h q consumer None set stands = done
good-parts h q consumer (Some sub) set stands =
    more (unregisters q consumer sub (set-stands h q set) stands)
    (more (nodes (parted consumer) (is-at-set h q consumer (queued (unregistered q consumer sub)) false set refl
    (λ i. is_some (if same-session q i && bytes_eq_refl consumer i then None else subscription_id q consumer h)))) done)

-- a table that no running transaction has written is unused
unused : (h : History) → Legal h → IsBetween h → (table : ℕ) → option_map TableBusy (least_writer (part_of h) table) ≡ None → IsUnused h table
unused h l between table free =
    let none : least_writer (part_of h) table ≡ None = no-one TableBusy (least_writer (part_of h) table) free in
    record { unwritten = none; unawaited = unawaited h l between.rests table none }

-- the mark of a table that joined, or left, is the last one
just : (h : History) (mark : List ℕ → NodeMark) (name : List ℕ) (table : ℕ) → place_of name (table_names h) ≡ Some table → IsOfLast (noded (mark name) ∷ h) mark table
just h mark name table there = record { below = h; name = name; last = refl; there = there }

good-adds : (h : History) → Legal h → IsBetween h → (name : List ℕ) (table : ℕ) → may_serve (adding name) (node h) ≡ true → place_of name (table_names h) ≡ Some table
    → Good h 0 (adds (database_of h) table name)
good-adds h l between name table may there =
    good_refused_by h 0 (option_map TableBusy (least_writer (part_of h) table)) _ (λ free.
    let free_now : IsUnused h table = unused h l between table free in
    more (nodes (leaf_added name) (record { may = may; table = table; there = there; unused = free_now }))
    (more (guards table true (at_joining table (just h leaf_added name table there) (record { unwritten = free_now.unwritten; unawaited = free_now.unawaited }))) done))

good-lists : (h : History) → Legal h → IsBetween h → (q : ℕ) (name : List ℕ) (table : ℕ) → may_serve (listing name) (node h) ≡ true → set_queue (database_of h) ≡ Some q
    → place_of name (table_names h) ≡ Some table → Good h 0 (lists (database_of h) q table name)
good-lists h l between q name table may set there =
    good_test h 0 (nat_le 8 (length (triggers_of table (triggers h)))) (TooMany Triggers) _ (λ _.
    good_refused_by h 0 (option_map TableBusy (least_writer (part_of h) table)) _ (λ free.
    more (nodes (set_added name) (record { may = may; table = table; there = there; unused = unused h l between table free }))
    (more (traces table None (set_trigger q) (place_of_within name (table_names h) table there) (set-stands h q set) (record {
      just_joined = just h set_added name table there;
      set = (same-node (set_added name) refl (node h)).set (queues h) ∙ sym (set-number (database_of h)) ∙ set;
      plain = refl;
    })) done)))

-- a table of a leaf is one
pub leaf-has : (n : Option Node) (name : List ℕ) → is_among name (leaf_tables n) ≡ true → is_leaf n ≡ true
leaf-has None name among = absurd (cc)
leaf-has (Some (of_root r)) name among = absurd (cc)
leaf-has (Some (of_leaf l)) name among = refl

good-removes : (h : History) → Legal h → IsBetween h → (name : List ℕ) (table : ℕ) → may_serve (removing name) (node h) ≡ true → place_of name (table_names h) ≡ Some table
    → (o : Option ℕ) → copy_txid table (copies h) ≡ o → Chain h (given_up table name o ++ noded (leaf_removed name) ∷ tabled (read_only table false) ∷ [])
good-removes h l between name table may there o is = by o is
  where
    guarded : IsGuarded h table
    guarded = record { leaf = leaf-has (node h) name may; guarded = between.guarding table ∙ among-one (table_names h) (leaf_tables (node h)) name table there may }

    by : (o : Option ℕ) → copy_txid table (copies h) ≡ o → Chain h (given_up table name o ++ noded (leaf_removed name) ∷ tabled (read_only table false) ∷ [])
    by None is =
        let uncopied : is_copied table (copies h) ≡ false = copy_txid-none table (copies h) is in
        more (nodes (leaf_removed name) (record { may = may; table = table; there = there; uncopied = uncopied }))
        (more (guards table false (at_leaving table (just h leaf_removed name table there) uncopied (guarded-unwritten h l between.idle table (record { guard = guarded; uncopied = uncopied })))) done)
    by (Some t) is =
        let runs : is_copied_by table t (copies h) ≡ true = copy_txid-some table t (copies h) is in
        let fine : Fine h (ended (of_copy table) t false) = ends_copy table t false (record { runs = runs; whole = λ never. absurd (cc) }) in
        let g : History = noded (restarted name) ∷ ended (of_copy table) t false ∷ h in
        let uncopied : is_copied table (copies g) ≡ false = gone h l table t runs in
        more fine
        (more (nodes (restarted name) tt)
        (more (nodes (leaf_removed name) (record { may = may; table = table; there = there; uncopied = uncopied }))
        (more (guards table false (at_leaving table (just g leaf_removed name table there) uncopied
        (guarded-unwritten (ended (of_copy table) t false ∷ h) (next l fine) between.idle table (record { guard = record { leaf = guarded.leaf; guarded = guarded.guarded }; uncopied = uncopied })))) done)))

good-moves : (h : History) → Legal h → (name : List ℕ) (table : ℕ) (state : TableState) → may_serve (moving name state) (node h) ≡ true → place_of name (table_names h) ≡ Some table
    → (o : Option ℕ) → copy_txid table (copies h) ≡ o → Chain h (given_up table name o ++ noded (state_set name state) ∷ [])
good-moves h l name table state may there None is =
    more (nodes (state_set name state) (record { may = may; table = table; there = there; uncopied = copy_txid-none table (copies h) is })) done
good-moves h l name table state may there (Some t) is =
    let runs : is_copied_by table t (copies h) ≡ true = copy_txid-some table t (copies h) is in
    more (ends_copy table t false (record { runs = runs; whole = λ never. absurd (cc) }))
    (more (nodes (restarted name) tt)
    (more (nodes (state_set name state) (record { may = may; table = table; there = there; uncopied = gone h l table t runs })) done))

-- a root is made
good-root : (h : History) → Legal h → node h ≡ None → (name queue : List ℕ) (now : ℤ) → Good h 0 (makes_root (database_of h) now name queue)
good-root h l bare name queue now =
    good_test h 0 (is_some (queue_number queue (queues h))) (QueueExists queue) _ (λ new.
    good_test h 0 (nat_le 64 (length (queues h))) (TooMany Queues) _ (λ _.
    good_test_then h 0 (nat_le (2 ^ 62) (next_txid h)) TxidsSpent (next_txid h) _
    (more begins_work
    (more (ends_work (next_txid h) true (just_begun h (sound h l)).work)
    (more (makes queue (next_txid h) now (nothing (queue_number queue (queues h)) new))
    (more (nodes (root_made name queue) (bare, found-new queue (queues h) (queues_made h))) done))))))

good_call : (h : History) → Legal h → IsBetween h → (call : NodeCall) → may_serve call (node h) ≡ true → Good h 0 (call_form (database_of h) call)
good_call h l between (joining consumer) may = good-there h (set_queue (database_of h)) _ (λ q set. good-joins h l q consumer set)
good_call h l between (parting consumer) may = good-there h (set_queue (database_of h)) _ (λ q set. good-parts h q consumer (subscription_id q consumer h) set refl)
good_call h l between (fetching consumer) may =
    good-there h (set_queue (database_of h)) _ (λ q set. good-there h (subscription q consumer h) _ (λ sub stands. good_takes_batch h l 0 q consumer sub sub.active (set-stands h q set) stands))
good_call h l between (finishing batch) may = good-there h (active_batch batch h) _ (λ b is. good_closes h batch b is)
good_call h l between (making_root name queue now) may = good-root h l (no-node (node h) may) name queue now
good_call h l between (making_leaf name provider tick) may =
    let none : node h ≡ None = no-node (node h) may in more (nodes (leaf_made name provider tick) (none, between.writable none)) done
good_call h l between (adding name) may = good-there h (place_of name (table_names h)) _ (λ table there. good-adds h l between name table may there)
good_call h l between (removing name) may =
    good-there h (place_of name (table_names h)) _ (λ table there. good-removes h l between name table may there (copy_txid table (copies h)) refl)
good_call h l between (moving name state) may =
    good-there h (place_of name (table_names h)) _ (λ table there. good-moves h l name table state may there (copy_txid table (copies h)) refl)
good_call h l between (listing name) may =
    good-there h (set_queue (database_of h)) _ (λ q set. good-there h (place_of name (table_names h)) _ (λ table there. good-lists h l between q name table may set there))
good_call h l between (beginning_copy name) may = good_copies h l between.idle between.guarding between.covered (beginning_copy name) refl may
good_call h l between (copying_rows name rows) may = good_copies h l between.idle between.guarding between.covered (copying_rows name rows) refl may
good_call h l between (ending_copy name snapshot tick) may = good_copies h l between.idle between.guarding between.covered (ending_copy name snapshot tick) refl may
good_call h l between (giving_up_copy name) may = good_copies h l between.idle between.guarding between.covered (giving_up_copy name) refl may
good_call h l between (applying events pick tick) may = good_applies h l between.idle between.guarding events pick tick may
good_call h l between holding may = good_copies h l between.idle between.guarding between.covered holding refl may
good_call h l between (letting_go hold) may = good_copies h l between.idle between.guarding between.covered (letting_go hold) refl may
good_call h l between (unlisting name) may =
    good-there h (place_of name (table_names h)) _ (λ table there.
    more (nodes (set_removed name) (record { may = may; table = table; there = there })) (more (untraces table (just h set_removed name table there)) done))

good_node : (h : History) → Legal h → IsBetween h → (call : NodeCall) → Good h 0 (node_does (database_of h) call)
good_node h l between call =
    by_test (λ b. Good h 0 (if b then call_form (database_of h) call else answers Null)) (may_serve call (node h)) (good_call h l between call) (λ _. done)

chain-of : (h : History) (c : Checked Outcome) → Good h 0 c → Chain h (marks_of c)
chain-of h (Ok o) good = good
chain-of h (Err refusal) good = done

pub node-chain : (h : History) → Legal h → IsBetween h → (call : NodeCall) → Chain h (marks_of (node_does (database_of h) call))
node-chain h l between call = chain-of h (node_does (database_of h) call) (good_node h l between call)
