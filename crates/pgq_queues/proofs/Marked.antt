-- What queues show after what the code changed in them.
use Rattle.std.proofs.Common.{◌≡◌, ℕ, ℤ, suc, zero, ◌+◌, ◌<◌, List, [], ◌∷◌, ◌++◌, Bool, true, false, ◌==◌, Option, Some, None, Result, Ok, Err, OnOk, OnErr, IfOk, length, get_or, slice_set, get_or-set_same, get_or-set_other, ◌≢◌, nat_cmp, cond, length-append, refl, sym, ◌∙◌, ap, subst, arith, if◌then◌else◌}
use Rattle.std.proofs.lemmas.Bool.Decides.{nat_tests}
use Rattle.std.specs.Prelude.{option_and_then, slice_get}
use Rattle.std.specs.List.{remove}
use Rattle.std.proofs.lemmas.List.{set-get_or, length-set, get_or_read}
use Rattle.std.proofs.Math.ListN.{get_or-eq_default}
use Rattle.std.proofs.Math.Seq.{get_or-append_seam}
use Rattle.std.proofs.lemmas.Option.{get_or_from_slice_get, slice_get_read}
use Rattle.std.specs.BTreeMap.{is_at}
use Rattle.std.specs.Map.{lookup}
use Rattle.sky_txid.specs.Snapshot.{SnapshotView}
use Rattle.sky_names.specs.Named.{NamedView, value_of}
use Rattle.sky_names.specs.Places.{place_of}
use Rattle.sky_model.specs.History as model
use Rattle.sky_model.specs.History.{queued, made, ticked, configured, dropped, traced}
use Rattle.sky_model.specs.Queues.{Tick}
use Rattle.sky_model.specs.Triggers.{TableTrigger}
use Rattle.pgq_tables.specs.Tables.{Tables, no_tables, new_tables}
use Rattle.sky_model.specs.State.{Queue, RowPart, changed_at, emptied, after_mark}
use Rattle.sky_model.specs.ShownRows.{snapshot_now}
use Rattle.pgq_queues.specs.declared.batch.Place.{Place}
use Rattle.pgq_sub.specs.Views.{SubView}
use Rattle.pgq_sub.specs.Seen.{SubsSeen, seen_subs, shown, no_subs}
use Rattle.pgq_queue.specs.Views.{QueueView}
use Rattle.pgq_queues.specs.Views.{TracedTableView, QueuesView}
use Rattle.pgq_queue.specs.Seen.{seen_queue, no_queue}
use Rattle.pgq_queues.specs.Seen.{batch_by, sub_at, kept, numbered, queue_at, seen_with, Beside}
use Rattle.pgq_queues.specs.Traced.{AreTables}
use Rattle.pgq_queues.specs.Numbers.{Rise}
use Rattle.pgq_queues.proofs.NumberedQueues.{numbered-more, others-removed}
use Rattle.sky_model.specs.Config.{Config, default_config}

-- the test on an entry's key is equality
pub is_at-nat : (k n : ℕ) → is_at (nat_cmp k) n ≡ (k == n)
is_at-nat k n = grind (arith, nat_tests)

-- what is kept under numbers, after that under one has changed
pub kept-updated : {A : Type 0} → (old new : List (ℕ × A)) (n : ℕ) (o : Option A) → ((q : ℕ) → lookup (is_at (nat_cmp q)) new ≡ cond (is_at (nat_cmp n) q) o (lookup (is_at (nat_cmp q)) old))
    → (m : ℕ) → kept new m ≡ (if n == m then o else kept old m)
kept-updated old new n o updates m = updates m ∙ ap (λ b. cond b o (kept old m)) (is_at-nat n m)

-- a queue that is made has its first tick alone
pub queues-made : (queues : List QueueView) (t : Tick) (ts : Tables) (count : ℕ) → count ≡ length queues
    → (λ n. seen_queue (get_or (queues ++ record { config = default_config; seq = 0; event_tables = record { tables = ts; reads = 0 }; ticks = t ∷ []; subs = no_subs } ∷ []) n no_queue))
    ≡ changed_at count (λ q. record q { event_tables = ts; tick_list = q.tick_list ++ t ∷ [] }) (λ n. seen_queue (get_or queues n no_queue))
queues-made queues t ts count is = λ i n. pointwise n (count == n) refl i
  where
    new : QueueView
    new = record { config = default_config; seq = 0; event_tables = record { tables = ts; reads = 0 }; ticks = t ∷ []; subs = no_subs }

    ticked : Queue → Queue
    ticked q = record q { event_tables = ts; tick_list = q.tick_list ++ t ∷ [] }

    apart : (qs : List QueueView) (n : ℕ) → (length qs ≡ n → ⊥) → get_or (qs ++ new ∷ []) n no_queue ≡ get_or qs n no_queue
    apart [] zero other = absurd (other refl)
    apart [] (suc n) other = refl
    apart (q ∷ qs) zero other = refl
    apart (q ∷ qs) (suc n) other = apart qs n (λ e. other (ap suc e))

    pointwise : (n : ℕ) (b : Bool) → (count == n) ≡ b → seen_queue (get_or (queues ++ new ∷ []) n no_queue) ≡ (if b then ticked (seen_queue (get_or queues n no_queue)) else seen_queue (get_or queues n no_queue))
    pointwise n true e =
        let here : length queues ≡ n = grind (arith, nat_tests) in
        ap seen_queue (ap (λ m. get_or (queues ++ new ∷ []) m no_queue) (sym here) ∙ get_or-append_seam queues new [] no_queue)
        ∙ ap (λ q. ticked (seen_queue q)) (sym (get_or-eq_default queues no_queue (omega (arith, here))))
    pointwise n false e = ap seen_queue (apart queues n (λ here. let yes : (count == n) ≡ true = grind (arith, nat_tests) in absurd (cc)))

pub get_or-slice_set : (xs : List QueueView) (i n : ℕ) (x : QueueView) → i < length xs → get_or (slice_set xs i x) n no_queue ≡ (if i == n then x else get_or xs n no_queue)
get_or-slice_set xs i n x lt = by (i == n) refl
  where
    by : (b : Bool) → (i == n) ≡ b → get_or (slice_set xs i x) n no_queue ≡ (if b then x else get_or xs n no_queue)
    by true e = let same : i ≡ n = grind (arith, nat_tests) in ap (λ m. get_or (slice_set xs i x) m no_queue) (sym same) ∙ get_or-set_same xs i x no_queue lt
    by false e = let other : n ≢ i = grind (arith, nat_tests) in get_or-set_other xs i n x no_queue other

-- a queue whose subscriptions alone have changed
pub subs-changed : (old new : QueueView) (subs : SubsSeen) → new ≡ record old { subs = new.subs } → seen_subs new.subs ≡ subs → seen_queue new ≡ record (seen_queue old) { members = subs.members; sub = shown subs.kept }
subs-changed old new subs but is = ap seen_queue but ∙ (λ i. record (seen_queue old) { members = (is i).members; sub = shown (is i).kept })

-- ---- the database that queues are shown in

-- one of their queues in the place of another
pub one-set : (v : QueuesView) (i : ℕ) (old new : QueueView) (f : Queue → Queue) → i < length v.queues → old ≡ get_or v.queues i old → seen_queue new ≡ f (seen_queue old)
    → (λ n. seen_queue (get_or (slice_set v.queues i new) n no_queue)) ≡ changed_at i f (queue_at v)
one-set v i old new f lt at is = λ j n. pointwise n j
  where
    here : get_or v.queues i no_queue ≡ old
    here = get_or_from_slice_get v.queues i old no_queue (slice_get_read v.queues (length v.queues) i old refl lt at)

    by : (n : ℕ) (b : Bool) → (i == n) ≡ b → seen_queue (if b then new else get_or v.queues n no_queue) ≡ (if b then f (seen_queue (get_or v.queues n no_queue)) else seen_queue (get_or v.queues n no_queue))
    by n true e =
        let one : i ≡ n = grind (arith, nat_tests) in
        is ∙ ap (λ q. f (seen_queue q)) (sym here) ∙ ap (λ m. f (seen_queue (get_or v.queues m no_queue))) one
    by n false e = refl

    pointwise : (n : ℕ) → seen_queue (get_or (slice_set v.queues i new) n no_queue) ≡ (if i == n then f (seen_queue (get_or v.queues n no_queue)) else seen_queue (get_or v.queues n no_queue))
    pointwise n = ap seen_queue (get_or-slice_set v.queues i n new lt) ∙ by n (i == n) refl

-- the subscriptions if one queue keeps its own
pub sub_at-set : (queues : List QueueView) (i : ℕ) (old new : QueueView) → i < length queues → old ≡ get_or queues i old → new.subs ≡ old.subs
    → (n : ℕ) (consumer : List ℕ) → sub_at (slice_set queues i new) n consumer ≡ sub_at queues n consumer
sub_at-set queues i old new lt at same n consumer = ap (λ (q : QueueView). value_of consumer q.subs) (get_or-slice_set queues i n new lt) ∙ by (i == n) refl
  where
    by : (b : Bool) → (i == n) ≡ b → value_of consumer (QueueView.subs (if b then new else get_or queues n no_queue)) ≡ sub_at queues n consumer
    by true e =
        let one : i ≡ n = grind (arith, nat_tests) in
        ap (value_of consumer) same ∙ ap (λ (q : QueueView). value_of consumer q.subs) (get_or_read queues i old lt at no_queue) ∙ ap (λ m. sub_at queues m consumer) one
    by false e = refl

-- the active batches, which are what they were if the subscriptions are
abbrev pub batches_of : List QueueView → List (ℕ × Place) → ℕ → Option model.Batch
batches_of queues batches id = batch_by (sub_at queues) id (kept batches id)

pub batches-same : (old new : List QueueView) (batches : List (ℕ × Place)) → ((n : ℕ) (consumer : List ℕ) → sub_at new n consumer ≡ sub_at old n consumer) → batches_of new batches ≡ batches_of old batches
batches-same old new batches same = λ j id. batch_by (λ n c. same n c j) id (kept batches id)

pub queues-set : (v now : QueuesView) (i : ℕ) (old new : QueueView) (f : Queue → Queue) → v ≡ now → i < length v.queues → old ≡ get_or v.queues i old → seen_queue new ≡ f (seen_queue old) → new.subs ≡ old.subs
    → (beside : Beside) → seen_with beside (record v { queues = slice_set v.queues i new }) ≡ record (seen_with beside now) { queue = changed_at i f (queue_at now) }
queues-set v now i old new f same lt at is subs beside =
    (λ j. record (seen_with beside v) {
      queues_made = length-set v.queues i new j;
      queue = one-set v i old new f lt at is j;
      batch = batches-same v.queues (slice_set v.queues i new) v.batches (sub_at-set v.queues i old new lt at subs) j;
    })
    ∙ ap (λ (w : QueuesView). record (seen_with beside w) { queue = changed_at i f (queue_at w) }) same

-- the queue at a place is what is shown there
pub queue-at : (v now : QueuesView) (i : ℕ) (q : QueueView) → v ≡ now → i < length v.queues → q ≡ get_or v.queues i q → seen_queue q ≡ queue_at now i
queue-at v now i q same lt at =
    ap seen_queue (sym (get_or_from_slice_get v.queues i q no_queue (slice_get_read v.queues (length v.queues) i q refl lt at)))
    ∙ ap (λ (w : QueuesView). queue_at w i) same

-- a tick that is stored is one with the snapshot as it was and with the value of the sequence
pub ticked-as : (v now : QueuesView) (i id : ℕ) (time : ℤ) (snapshot : SnapshotView) (old new : QueueView) → v ≡ now → i < length v.queues → old ≡ get_or v.queues i old
    → new ≡ record old { ticks = old.ticks ++ record { id = id; time = time; snapshot = snapshot; seq = old.seq } ∷ [] }
    → (beside : Beside) → snapshot ≡ snapshot_now beside.part → seen_with beside (record v { queues = slice_set v.queues i new }) ≡ after_mark (seen_with beside now) (queued (ticked i id time (queue_at now i).seq))
ticked-as v now i id time snapshot old new same lt at is beside snap =
    queues-set v now i old new (λ q. record q { tick_list = q.tick_list ++ record { id = id; time = time; snapshot = snapshot; seq = old.seq } ∷ [] }) same lt at (ap seen_queue is) (ap QueueView.subs is) beside
    ∙ (λ j. record (seen_with beside now) {
      queue = changed_at i (λ q. record q { tick_list = q.tick_list ++ record { id = id; time = time; snapshot = snap j; seq = (queue-at v now i old same lt at j).seq } ∷ [] }) (queue_at now);
    })

-- nothing changes if a queue stays as it was
pub queue-kept : (v now : QueuesView) (i : ℕ) (old new : QueueView) → v ≡ now → old ≡ get_or v.queues i old → new ≡ old → (beside : Beside) → seen_with beside (record v { queues = slice_set v.queues i new }) ≡ seen_with beside now
queue-kept v now i old new same at is beside =
    ap (λ (qs : List QueueView). seen_with beside (record v { queues = qs })) (ap (slice_set v.queues i) (is ∙ at) ∙ set-get_or v.queues i old) ∙ ap (seen_with beside) same

-- a queue without subscriptions was made, or dropped
pub sub_at-more : (queues : List QueueView) (q : QueueView) → q.subs ≡ no_subs → (n : ℕ) (consumer : List ℕ) → sub_at (queues ++ q ∷ []) n consumer ≡ sub_at queues n consumer
sub_at-more [] q none zero consumer = ap (value_of consumer) none
sub_at-more [] q none (suc n) consumer = refl
sub_at-more (x ∷ xs) q none zero consumer = refl
sub_at-more (x ∷ xs) q none (suc n) consumer = sub_at-more xs q none n consumer

pub no-subs : (subs : NamedView SubView) (consumer : List ℕ) → (seen_subs subs).members ≡ [] → value_of consumer subs ≡ None
no-subs subs consumer none = ap (λ ns. option_and_then (slice_get subs.values) (place_of consumer ns)) none

pub sub_at-gone : (queues : List QueueView) (i : ℕ) → i < length queues → (seen_queue (get_or queues i no_queue)).members ≡ []
    → (n : ℕ) (consumer : List ℕ) → sub_at (slice_set queues i no_queue) n consumer ≡ sub_at queues n consumer
sub_at-gone queues i lt none n consumer = ap (λ (q : QueueView). value_of consumer q.subs) (get_or-slice_set queues i n no_queue lt) ∙ by (i == n) refl
  where
    by : (b : Bool) → (i == n) ≡ b → value_of consumer (QueueView.subs (if b then no_queue else get_or queues n no_queue)) ≡ sub_at queues n consumer
    by true e = let one : i ≡ n = grind (arith, nat_tests) in sym (no-subs (get_or queues i no_queue).subs consumer none) ∙ ap (λ m. sub_at queues m consumer) one
    by false e = refl

-- a queue that is made has its tables and its first tick, with the snapshot as it was
pub made-as : (v now : QueuesView) (names : NamedView ℕ) (queues : List QueueView) (q : QueueView) (name : List ℕ) (number txid : ℕ) (t : Tick) → v ≡ now
    → names ≡ record { names = v.names.names ++ name ∷ []; values = v.names.values ++ number ∷ [] } → number ≡ length v.queues → queues ≡ v.queues ++ q ∷ []
    → q ≡ record { config = default_config; seq = 0; event_tables = record { tables = new_tables txid t.time; reads = 0 }; ticks = t ∷ []; subs = no_subs } → length v.names.values ≡ length v.names.names
    → t.id ≡ 1 → t.seq ≡ 0 → (beside : Beside) → t.snapshot ≡ snapshot_now beside.part
    → seen_with beside (record v { names = names; queues = queues }) ≡ after_mark (seen_with beside now) (queued (made name txid t.time))
made-as v now names queues q name number txid t same more next one new count id seq beside snap =
    (λ i. record (seen_with beside v) {
      queues_made = (ap length one ∙ length-append v.queues (q ∷ [])) i;
      queues = (ap (λ (n : NamedView ℕ). numbered n.names n.values) more
          ∙ numbered-more v.names.names v.names.values name number count
          ∙ ap (λ n. numbered v.names.names v.names.values ++ record { number = n; name = name } ∷ []) next) i;
      queue = ((λ j n. seen_queue (get_or (one j) n no_queue))
          ∙ ap (λ x. λ n. seen_queue (get_or (v.queues ++ x ∷ []) n no_queue)) new
          ∙ queues-made v.queues t (new_tables txid t.time) (length v.queues) refl) i;
      batch = batches-same v.queues queues v.batches (λ m c. ap (λ qs. sub_at qs m c) one ∙ sub_at-more v.queues q (ap QueueView.subs new) m c) i;
    })
    ∙ ap (λ (w : QueuesView). record (seen_with beside w) {
      queues_made = length w.queues + 1;
      queues = numbered w.names.names w.names.values ++ record { number = length w.queues; name = name } ∷ [];
      queue = changed_at (length w.queues) (λ x. record x { event_tables = new_tables txid t.time; tick_list = x.tick_list ++ t ∷ [] }) (queue_at w);
    }) same
    ∙ ap (λ (x : Tick). record (seen_with beside now) {
      queues_made = length now.queues + 1;
      queues = numbered now.names.names now.names.values ++ record { number = length now.queues; name = name } ∷ [];
      queue = changed_at (length now.queues) (λ y. record y { event_tables = new_tables txid t.time; tick_list = y.tick_list ++ x ∷ [] }) (queue_at now);
    }) is
  where
    is : t ≡ record { id = 1; time = t.time; snapshot = snapshot_now beside.part; seq = 0 }
    is = λ i. record { id = id i; time = t.time; snapshot = snap i; seq = seq i }

-- a queue that is dropped has nothing, once it had no consumers
no-members : (subs : NamedView SubView) → (seen_subs subs).members ≡ [] → record { members = []; kept = λ name. None } ≡ seen_subs subs
no-members subs none = λ i. record { members = sym none i; kept = λ name. sym (no-subs subs name none) i }

emptied-as : (q : QueueView) → (seen_queue q).members ≡ [] → seen_queue no_queue ≡ emptied (seen_queue q)
emptied-as q none = ap (λ (s : SubsSeen). record { config = default_config; seq = 0; event_tables = no_tables; tick_list = []; members = s.members; sub = shown s.kept }) (no-members q.subs none)

pub dropped-as : (v now : QueuesView) (names : NamedView ℕ) (queues : List QueueView) (n place : ℕ) → v ≡ now → names ≡ record { names = remove v.names.names place; values = remove v.names.values place }
    → queues ≡ slice_set v.queues n no_queue → length v.names.values ≡ length v.names.names → Rise 0 v.names.values → slice_get v.names.values place ≡ Some n → n < length v.queues
    → (queue_at now n).members ≡ [] → (beside : Beside) → seen_with beside (record v { names = names; queues = queues }) ≡ after_mark (seen_with beside now) (queued (dropped n))
dropped-as v now names queues n place same gone empty count rise at low none beside =
    (λ i. record (seen_with beside v) {
      queues_made = (ap length empty ∙ length-set v.queues n no_queue) i;
      queues = (ap (λ (x : NamedView ℕ). numbered x.names x.values) gone ∙ sym (others-removed n 0 place v.names.names v.names.values count rise at)) i;
      queue = (ap (λ qs. λ m. seen_queue (get_or qs m no_queue)) empty ∙ (λ j m. pointwise m j)) i;
      batch = batches-same v.queues queues v.batches (λ m c. ap (λ qs. sub_at qs m c) empty ∙ sub_at-gone v.queues n low there m c) i;
    })
    ∙ ap (λ (w : QueuesView). after_mark (seen_with beside w) (queued (dropped n))) same
  where
    there : (seen_queue (get_or v.queues n no_queue)).members ≡ []
    there = ap (λ (w : QueuesView). (queue_at w n).members) same ∙ none

    by : (m : ℕ) (b : Bool) → (n == m) ≡ b → seen_queue (if b then no_queue else get_or v.queues m no_queue) ≡ (if b then emptied (seen_queue (get_or v.queues m no_queue)) else seen_queue (get_or v.queues m no_queue))
    by m true e =
        let one : n ≡ m = grind (arith, nat_tests) in
        emptied-as (get_or v.queues n no_queue) there ∙ ap (λ k. emptied (seen_queue (get_or v.queues k no_queue))) one
    by m false e = refl

    pointwise : (m : ℕ) → seen_queue (get_or (slice_set v.queues n no_queue) m no_queue) ≡ changed_at n emptied (queue_at v) m
    pointwise m = ap seen_queue (get_or-slice_set v.queues n m no_queue low) ∙ by m (n == m) refl

-- one more trigger
pub traced-as : (v now : QueuesView) (more : List TableTrigger) (tables : List (ℕ × TracedTableView)) (x : TableTrigger) → v ≡ now → more ≡ v.triggers ++ x ∷ []
    → (beside : Beside) → seen_with beside (record v { triggers = more; traced_tables = tables }) ≡ after_mark (seen_with beside now) (queued (traced x.table x.name x.trigger))
traced-as v now more tables x same is beside =
    (λ i. record (seen_with beside v) { triggers = is i })
    ∙ ap (λ (w : QueuesView). after_mark (seen_with beside w) (queued (traced x.table x.name x.trigger))) same

-- what is kept of tables stays true if neither they nor the triggers change
pub tables-kept : (v now : QueuesView) → v ≡ now → (part : RowPart) → AreTables part now → AreTables part v
tables-kept v now same part are = subst (AreTables part) (sym same) are

-- what is shown is what is kept
pub shown-as : (v now : QueuesView) → v ≡ now → (beside : Beside) → seen_with beside v ≡ seen_with beside now
shown-as v now same beside = ap (seen_with beside) same

-- what holds anyway holds of a result that is refused
pub on-err : {A E : Type 0} (r : Result A E) (P : Type 0) → P → OnErr r P
on-err (Ok a) P is = tt
on-err (Err e) P is = is

pub on-err-then : {A E : Type 0} (r : Result A E) (P Q : Type 0) → (P → Q) → OnErr r P → OnErr r Q
on-err-then (Ok a) P Q next is = tt
on-err-then (Err e) P Q next is = next is

pub if-ok-then : {A E : Type 0} (r : Result A E) (P Q : A → Type 0) → ((a : A) → P a → Q a) → IfOk r P → IfOk r Q
if-ok-then (Ok a) P Q next is = next a is
if-ok-then (Err e) P Q next is = tt

-- a queue has other settings
pub configured-as : {A E : Type 0} (r : Result A E) (v now : QueuesView) (i : ℕ) (old new : QueueView) (set : Config → Result Config E) → v ≡ now → i < length v.queues → old ≡ get_or v.queues i old → new ≡ record old { config = new.config }
    → OnOk r (set old.config ≡ Ok new.config)
    → OnOk r ((beside : Beside) (config : Config) → set (queue_at now i).config ≡ Ok config → seen_with beside (record v { queues = slice_set v.queues i new }) ≡ after_mark (seen_with beside now) (queued (configured i config)))
configured-as (Err e) v now i old new set same lt at but ok = tt
configured-as (Ok a) v now i old new set same lt at but ok = λ beside config is.
    let both : Ok new.config ≡ Ok config = sym ok ∙ ap (λ (q : Queue). set q.config) (queue-at v now i old same lt at) ∙ is in
    let one : new.config ≡ config = cc in
    queues-set v now i old new (λ q. record q { config = new.config }) same lt at (ap seen_queue but) (ap QueueView.subs but) beside
    ∙ (λ j. record (seen_with beside now) { queue = changed_at i (λ q. record q { config = one j }) (queue_at now) })
