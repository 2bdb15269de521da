-- What holds of retries and retried events still holds when queues change.
use Rattle.std.proofs.Common.{◌≡◌, ℕ, zero, suc, ℤ, OnOk, ◌+◌, ◌<◌, List, [], ◌∷◌, ◌++◌, Bool, true, false, not, ◌==◌, Option, Some, None, Result, Ok, Err, IfOk, OnErr, filter, length, get_or, slice_set, option_map, refl, sym, ◌∙◌, ap, subst, arith, if◌then◌else◌, ◌⊎◌, inl, inr}
use Rattle.std.specs.List.{All}
use Rattle.std.proofs.lemmas.Bool.Decides.{nat_tests}
use Rattle.std.proofs.lemmas.List.{get_or_read}
use Rattle.std.proofs.lemmas.List.Elements.{All-cons, All-append, All-head, All-tail, All-nil}
use Rattle.std.proofs.lemmas.Option.{same_Some}
use Rattle.sky_val.specs.declared.event.Event.{Event}
use Rattle.sky_urlenc.specs.RowEvents.{RowEvent}
use Rattle.sky_model.specs.Moment.{HasMoment}
use Rattle.sky_model.specs.Queues.{Tick}
use Rattle.pgq_retry.specs.declared.retry.Retry.{Retry}
use Rattle.pgq_retry.specs.Retries.{is_of, without_sub}
use Rattle.sky_names.specs.Named.{value_of}
use Rattle.pgq_sub.specs.Views.{SubView, at_tick, finished, after_batch, with_open}
use Rattle.pgq_sub.specs.declared.sub.OpenBatch.{OpenBatch}
use Rattle.pgq_sub.specs.Seen.{no_subs}
use Rattle.pgq_queue.specs.Views.{QueueView}
use Rattle.pgq_queues.specs.Views.{QueuesView}
use Rattle.pgq_queue.specs.Seen.{no_queue, seen_queue}
use Rattle.pgq_queues.specs.Seen.{sub_at, Stands}
use Rattle.pgq_queues.specs.Batches.{StillStand, BatchesWithin}
use Rattle.pgq_queues.specs.Numbers.{AreNumbers}
use Rattle.pgq_queues.specs.Traced.{TracedWithin}
use Rattle.pgq_queue.specs.Stored.{RetriedAtMost, AllStored}
use Rattle.pgq_queues.specs.Retried.{sub_id, HasConsumer, IsWaiting, RetriedWithin}
use Rattle.sky_model.specs.Telling.{told_event}
use Rattle.pgq_queue.specs.Changed.{telling, retabled, switched_in}
use Rattle.pgq_queues.specs.EventRule.{telling_all}
use Rattle.pgq_tables.specs.Tables.{Stored, Tables, with_stored}
use Rattle.pgq_tables.specs.Views.{TablesView}
use Rattle.pgq_queue.proofs.AllStored.{stored-one, stored-switched}
use Rattle.pgq_queues.proofs.Marked.{no-subs, sub_at-gone, sub_at-more}
use Rattle.pgq_queues.proofs.TracedLists.{stands-set, ticks-kept, Stays, stays-alike, stand-set, stand-shown, stands-kept, within-still, stands-more, there, gone-apart}
use Rattle.pgq_queues.proofs.Indexed.{is_one, same_parts}
use Rattle.pgq_queues.proofs.Consumed.{Change, Becomes, subs-set, sub-here}

-- what holds of each still holds, if it follows for each
All-weaker : {X : Type 0} (P Q : X → Type 0) (xs : List X) → ((x : X) → P x → Q x) → All P xs → All Q xs
All-weaker P Q xs goes all k d lt = goes (get_or xs k d) (all k d lt)

-- ---- all queues

-- consumers keep their subscriptions
abbrev pub Keeps : List QueueView → List QueueView → Type 0
Keeps old new = (n : ℕ) (consumer : List ℕ) (s : ℕ) → sub_id old n consumer ≡ Some s → sub_id new n consumer ≡ Some s

-- the events of each were retried at most so often, if those before were
abbrev pub BoundOn : ℕ → List QueueView → List QueueView → Type 0
BoundOn rounds old new = ((n : ℕ) → AllStored (RetriedAtMost rounds) (get_or old n no_queue).event_tables.tables) → (n : ℕ) → AllStored (RetriedAtMost rounds) (get_or new n no_queue).event_tables.tables

waiting-on : {rounds : ℕ} → (old new : List QueueView) → ((n : ℕ) → Stands old n → Stands new n) → Keeps old new → (r : Retry) → IsWaiting rounds old r → IsWaiting rounds new r
waiting-on old new stands keeps r is = record {
  owner = record { stands = stands r.queue is.owner.stands; consumer = is.owner.consumer; its = keeps r.queue is.owner.consumer r.sub is.owner.its };
  moment = is.moment;
  most = is.most;
}

pub retried-on : {rounds : ℕ} → (old new : List QueueView) (rs : List Retry) → ((n : ℕ) → Stands old n → Stands new n) → Keeps old new → BoundOn rounds old new → RetriedWithin rounds old rs → RetriedWithin rounds new rs
retried-on {rounds} old new rs stands keeps bound within = record {
  waiting = All-weaker (IsWaiting (rounds + 1) old) (IsWaiting (rounds + 1) new) rs (waiting-on old new stands keeps) within.waiting;
  stored = bound within.stored;
}

keeps-still : (old new : List QueueView) → StillStand old new → Keeps old new
keeps-still old new still n consumer s is = ap (option_map SubView.id) (still.subs n consumer) ∙ is

pub retried-still : {rounds : ℕ} → (old new : List QueueView) (rs : List Retry) → StillStand old new → BoundOn rounds old new → RetriedWithin rounds old rs → RetriedWithin rounds new rs
retried-still old new rs still bound within = retried-on old new rs still.stands (keeps-still old new still) bound within

-- ---- one queue

-- what holds of what is put there and of what was
pub set-either : (P : QueueView → Type 0) (queues : List QueueView) (i n : ℕ) (x : QueueView) → P x → P (get_or queues n no_queue) → P (get_or (slice_set queues i x) n no_queue)
set-either P [] i n x here there = there
set-either P (y ∷ ys) zero zero x here there = here
set-either P (y ∷ ys) zero (suc n) x here there = there
set-either P (y ∷ ys) (suc i) zero x here there = there
set-either P (y ∷ ys) (suc i) (suc n) x here there = set-either P ys i n x here there

-- its events
bound-set : {rounds : ℕ} → (queues : List QueueView) (i : ℕ) (old new : QueueView) → i < length queues → old ≡ get_or queues i old
    → (AllStored (RetriedAtMost rounds) old.event_tables.tables → AllStored (RetriedAtMost rounds) new.event_tables.tables) → BoundOn rounds queues (slice_set queues i new)
bound-set {rounds} queues i old new lt at goes all n =
    set-either (λ q. AllStored (RetriedAtMost rounds) q.event_tables.tables) queues i n new
    (goes (subst (λ (q : QueueView). AllStored (RetriedAtMost rounds) q.event_tables.tables) (sym (get_or_read queues i old lt at no_queue)) (all i))) (all n)

-- one that has changed but for its subscriptions
pub retried-stays : {rounds : ℕ} → (queues : List QueueView) (i : ℕ) (old new : QueueView) (rs : List Retry) → Stands queues i → i < length queues → old ≡ get_or queues i old → Stays old new
    → (AllStored (RetriedAtMost rounds) old.event_tables.tables → AllStored (RetriedAtMost rounds) new.event_tables.tables) → RetriedWithin rounds queues rs → RetriedWithin rounds (slice_set queues i new) rs
retried-stays queues i old new rs stands lt at stays goes within =
    retried-still queues (slice_set queues i new) rs (stand-set queues i old new stands lt at stays) (bound-set queues i old new lt at goes) within

-- the same events
pub same-events : {rounds : ℕ} → (old new : TablesView) → new ≡ old → AllStored (RetriedAtMost rounds) old.tables → AllStored (RetriedAtMost rounds) new.tables
same-events {rounds} old new same all = subst (λ (ts : TablesView). AllStored (RetriedAtMost rounds) ts.tables) (sym same) all

pub same-tables : {rounds : ℕ} → (old new : Tables) → new ≡ old → AllStored (RetriedAtMost rounds) old → AllStored (RetriedAtMost rounds) new
same-tables {rounds} old new same all = subst (AllStored (RetriedAtMost rounds)) (sym same) all

-- and one more
pub one-event : {rounds : ℕ} → (old new : Tables) (e : Event) → new ≡ with_stored e old → RetriedAtMost rounds e → AllStored (RetriedAtMost rounds) old → AllStored (RetriedAtMost rounds) new
one-event {rounds} old new e more is all = subst (AllStored (RetriedAtMost rounds)) (sym more) (stored-one (RetriedAtMost rounds) e old is all)

-- and after a switch
pub switch-events : {rounds : ℕ} → (old new : QueueView) (now : ℤ) → new ≡ switched_in now old → AllStored (RetriedAtMost rounds) old.event_tables.tables → AllStored (RetriedAtMost rounds) new.event_tables.tables
switch-events {rounds} old new now is all = subst (λ (q : QueueView). AllStored (RetriedAtMost rounds) q.event_tables.tables) (sym is) (stored-switched (RetriedAtMost rounds) now old.event_tables.tables all)

-- those of a queue that is there
pub stored-here : {rounds : ℕ} → (queues : List QueueView) (i : ℕ) (q : QueueView) (rs : List Retry) → i < length queues → q ≡ get_or queues i q → RetriedWithin rounds queues rs → AllStored (RetriedAtMost rounds) q.event_tables.tables
stored-here {rounds} queues i q rs lt at within = subst (λ (x : QueueView). AllStored (RetriedAtMost rounds) x.event_tables.tables) (sym (get_or_read queues i q lt at no_queue)) (within.stored i)

-- the bound, in what is kept as in what is shown
pub most-kept : (v now : QueuesView) (e : Event) → v ≡ now → RetriedAtMost now.rounds e → RetriedAtMost v.rounds e
most-kept v now e same is = subst (λ (w : QueuesView). RetriedAtMost w.rounds e) (sym same) is

-- after a tick
pub tick-events : {E : Type 0} {rounds : ℕ} → (r : Result ℕ E) (old new : QueueView) (ts : ℕ → List Tick) → IfOk r (λ id. new ≡ record old { ticks = ts id }) → OnErr r (new ≡ old)
    → AllStored (RetriedAtMost rounds) old.event_tables.tables → AllStored (RetriedAtMost rounds) new.event_tables.tables
tick-events (Ok id) old new ts ok err = same-events old.event_tables new.event_tables (ap QueueView.event_tables ok)
tick-events (Err e) old new ts ok err = same-events old.event_tables new.event_tables (ap QueueView.event_tables err)

-- a change of a subscription keeps its id
abbrev pub KeepsId : Change → Option SubView → Type 0
KeepsId f o = (s : ℕ) → option_map SubView.id o ≡ Some s → option_map SubView.id (f o) ≡ Some s

keeps-set : (queues : List QueueView) (i : ℕ) (old new : QueueView) (name : List ℕ) (f : Change) → i < length queues → old ≡ get_or queues i old → Becomes name f old new
    → ((o : Option SubView) → KeepsId f o) → Keeps queues (slice_set queues i new)
keeps-set queues i old new name f lt at is keeps n consumer s its = ap (option_map SubView.id) (subs-set queues i old new name f lt at is n consumer) ∙ by (is_one i name n consumer)
  where
    by : (b : Bool) → option_map SubView.id (if b then f (sub_at queues n consumer) else sub_at queues n consumer) ≡ Some s
    by true = keeps (sub_at queues n consumer) s its
    by false = its

pub retried-becomes : {rounds : ℕ} → (queues : List QueueView) (i : ℕ) (old new : QueueView) (name : List ℕ) (f : Change) (rs : List Retry) → Stands queues i → i < length queues → old ≡ get_or queues i old
    → new ≡ record old { subs = new.subs } → Becomes name f old new → ((o : Option SubView) → KeepsId f o) → RetriedWithin rounds queues rs → RetriedWithin rounds (slice_set queues i new) rs
retried-becomes queues i old new name f rs stands lt at but is keeps within =
    retried-on queues (slice_set queues i new) rs (stands-set queues i new lt (ticks-kept queues i old new lt at stands (ap QueueView.ticks but)))
    (keeps-set queues i old new name f lt at is keeps) (bound-set queues i old new lt at (same-events old.event_tables new.event_tables (ap QueueView.event_tables but))) within

pub tick-keeps : (tick : ℕ) (o : Option SubView) → KeepsId (option_map (at_tick tick)) o
tick-keeps tick None s is = is
tick-keeps tick (Some x) s is = is

pub open-keeps : (batch : OpenBatch) (o : Option SubView) → KeepsId (option_map (with_open batch)) o
open-keeps batch None s is = is
open-keeps batch (Some x) s is = is

pub finish-keeps : (o : Option SubView) → KeepsId (option_map finished) o
finish-keeps None s is = is
finish-keeps (Some x) s is = by x.active
  where
    by : (a : Option OpenBatch) → Some (after_batch x a).id ≡ Some s
    by None = is
    by (Some b) = is

-- ---- a consumer registers, or leaves

pub retried-come : {rounds : ℕ} → (queues : List QueueView) (i : ℕ) (old new : QueueView) (name : List ℕ) (x : SubView) (rs : List Retry) → Stands queues i → i < length queues → old ≡ get_or queues i old
    → new ≡ record old { subs = new.subs } → Becomes name (λ _. Some x) old new → sub_at queues i name ≡ None → RetriedWithin rounds queues rs → RetriedWithin rounds (slice_set queues i new) rs
retried-come {rounds} queues i old new name x rs stands lt at but is none within =
    retried-on queues (slice_set queues i new) rs (stands-set queues i new lt (ticks-kept queues i old new lt at stands (ap QueueView.ticks but)))
    keeps (bound-set queues i old new lt at (same-events old.event_tables new.event_tables (ap QueueView.event_tables but))) within
  where
    keeps : Keeps queues (slice_set queues i new)
    keeps n consumer s its = ap (option_map SubView.id) (subs-set queues i old new name (λ _. Some x) lt at is n consumer) ∙ by (is_one i name n consumer) refl
      where
        by : (b : Bool) → is_one i name n consumer ≡ b → option_map SubView.id (if b then Some x else sub_at queues n consumer) ≡ Some s
        by true e =
            let parts = same_parts i name n consumer e in
            let nothing : sub_id queues n consumer ≡ None = ap (λ m. sub_id queues m consumer) (sym parts.0) ∙ ap (λ c. sub_id queues i c) parts.1 ∙ ap (option_map SubView.id) none in
            absurd (cc)
        by false e = its

-- what holds of those that stay
kept-all : {X : Type 0} (P Q : X → Type 0) (f : X → Bool) (xs : List X) → ((x : X) → f x ≡ true → P x → Q x) → All P xs → All Q (filter f xs)
kept-all P Q f [] goes all = All-nil Q
kept-all P Q f (x ∷ xs) goes all = by (f x) refl (kept-all P Q f xs goes (All-tail P x xs all))
  where
    by : (b : Bool) → f x ≡ b → All Q (filter f xs) → All Q (if b then x ∷ filter f xs else filter f xs)
    by true e rest = All-cons Q x (filter f xs) (goes x e (All-head P x xs all)) rest
    by false e rest = rest

pub retried-leave : {rounds : ℕ} → (queues : List QueueView) (i sub : ℕ) (old new : QueueView) (name : List ℕ) (rs left : List Retry) → Stands queues i → i < length queues → old ≡ get_or queues i old
    → new ≡ record old { subs = new.subs } → Becomes name (λ _. None) old new → option_map SubView.id (value_of name old.subs) ≡ Some sub → left ≡ without_sub sub rs → RetriedWithin rounds queues rs
    → RetriedWithin rounds (slice_set queues i new) left
retried-leave {rounds} queues i sub old new name rs left stands lt at but is was less within = record {
  waiting = subst (All (IsWaiting (rounds + 1) (slice_set queues i new))) (sym less)
      (kept-all (IsWaiting (rounds + 1) queues) (IsWaiting (rounds + 1) (slice_set queues i new)) (λ r. not (is_of sub r)) rs stays within.waiting);
  stored = bound-set queues i old new lt at (same-events old.event_tables new.event_tables (ap QueueView.event_tables but)) within.stored;
}
  where
    its-own : (r : Retry) (consumer : List ℕ) → is_one i name r.queue consumer ≡ true → sub_id queues r.queue consumer ≡ Some r.sub → r.sub ≡ sub
    its-own r consumer e its =
        let parts = same_parts i name r.queue consumer e in
        same_Some r.sub sub (sym its ∙ ap (λ m. sub_id queues m consumer) (sym parts.0) ∙ ap (λ c. sub_id queues i c) parts.1 ∙ ap (option_map SubView.id) (sub-here queues i old name lt at) ∙ was)

    stays : (r : Retry) → not (is_of sub r) ≡ true → IsWaiting (rounds + 1) queues r → IsWaiting (rounds + 1) (slice_set queues i new) r
    stays r other waits = record {
      owner = record {
        stands = stands-set queues i new lt (ticks-kept queues i old new lt at stands (ap QueueView.ticks but)) r.queue waits.owner.stands;
        consumer = waits.owner.consumer;
        its = ap (option_map SubView.id) (subs-set queues i old new name (λ _. None) lt at is r.queue waits.owner.consumer) ∙ by (is_one i name r.queue waits.owner.consumer) refl;
      };
      moment = waits.moment;
      most = waits.most;
    }
      where
        by : (b : Bool) → is_one i name r.queue waits.owner.consumer ≡ b → option_map SubView.id (if b then None else sub_at queues r.queue waits.owner.consumer) ≡ Some r.sub
        by true e =
            let own = its-own r waits.owner.consumer e waits.owner.its in
            let same : (r.sub == sub) ≡ true = grind (arith, nat_tests) in
            absurd (cc (ap not (sym same) ∙ other))
        by false e = waits.owner.its

-- ---- a queue is made, or dropped

bound-more : {rounds : ℕ} → (queues : List QueueView) (q : QueueView) → AllStored (RetriedAtMost rounds) q.event_tables.tables → (n : ℕ) → AllStored (RetriedAtMost rounds) (get_or queues n no_queue).event_tables.tables → AllStored (RetriedAtMost rounds) (get_or (queues ++ q ∷ []) n no_queue).event_tables.tables
bound-more [] q none zero all = none
bound-more [] q none (suc n) all = all
bound-more (x ∷ xs) q none zero all = all
bound-more (x ∷ xs) q none (suc n) all = bound-more xs q none n all

pub retried-made : {rounds : ℕ} → (old new : List QueueView) (q : QueueView) (rs : List Retry) → new ≡ old ++ q ∷ [] → AllStored (RetriedAtMost rounds) q.event_tables.tables → q.subs ≡ no_subs → RetriedWithin rounds old rs → RetriedWithin rounds new rs
retried-made {rounds} old new q rs come events subs within =
    subst (λ qs. RetriedWithin rounds qs rs) (sym come) (retried-on old (old ++ q ∷ []) rs (stands-more old q) (λ n consumer s is. ap (option_map SubView.id) (sub_at-more old q subs n consumer) ∙ is) (λ all n. bound-more old q events n (all n)) within)

pub retried-same : {rounds : ℕ} → (old new : List QueueView) (rs : List Retry) → new ≡ old → RetriedWithin rounds old rs → RetriedWithin rounds new rs
retried-same {rounds} old new rs same within = subst (λ qs. RetriedWithin rounds qs rs) (sym same) within

pub retried-dropped : {rounds : ℕ} → (queues new : List QueueView) (n : ℕ) (rs : List Retry) → new ≡ slice_set queues n no_queue → n < length queues → (seen_queue (get_or queues n no_queue)).members ≡ []
    → RetriedWithin rounds queues rs → RetriedWithin rounds new rs
retried-dropped {rounds} queues new n rs empty lt none within = subst (λ qs. RetriedWithin rounds qs rs) (sym empty) (record {
  waiting = All-weaker (IsWaiting (rounds + 1) queues) (IsWaiting (rounds + 1) (slice_set queues n no_queue)) rs stays within.waiting;
  stored = λ m. set-either (λ q. AllStored (RetriedAtMost rounds) q.event_tables.tables) queues n m no_queue (All-nil (All (λ (s : Stored). RetriedAtMost rounds s.event))) (within.stored m);
})
  where
    apart : (r : Retry) (consumer : List ℕ) → sub_id queues r.queue consumer ≡ Some r.sub → n ≡ r.queue → ⊥
    apart r consumer its same =
        let nothing : sub_id queues r.queue consumer ≡ None = ap (λ k. sub_id queues k consumer) (sym same) ∙ ap (option_map SubView.id) (no-subs (get_or queues n no_queue).subs consumer none) in
        absurd (cc)

    stays : (r : Retry) → IsWaiting (rounds + 1) queues r → IsWaiting (rounds + 1) (slice_set queues n no_queue) r
    stays r waits = record {
      owner = record {
        stands = subst (λ (q : QueueView). 0 < length q.ticks) (sym (gone-apart queues n r.queue (apart r waits.owner.consumer waits.owner.its))) waits.owner.stands;
        consumer = waits.owner.consumer;
        its = ap (option_map SubView.id) (sub_at-gone queues n lt none r.queue waits.owner.consumer) ∙ waits.owner.its;
      };
      moment = waits.moment;
      most = waits.most;
    }

-- ---- all that a database keeps of its queues, after one of them changed

abbrev pub AllWithin : QueuesView → Type 0
AllWithin v = (HasMoment v.time × RetriedWithin v.rounds v.queues v.retries) × (AreNumbers v.names v.queues × (BatchesWithin v.last_batch_id v.queues v.batches × TracedWithin v.queues v.triggers v.traced_tables))

queue-within : (v : QueuesView) (i : ℕ) (new : QueueView) → StillStand v.queues (slice_set v.queues i new) → BoundOn v.rounds v.queues (slice_set v.queues i new) → AllWithin v → AllWithin (record v { queues = slice_set v.queues i new })
queue-within v i new still bound within =
    ((within.0.0, retried-still v.queues (slice_set v.queues i new) v.retries still bound within.0.1), within-still v.names v.queues (slice_set v.queues i new) v.batches v.triggers v.traced_tables still within.1)

-- it has the ticks, subscriptions and events that it had
pub alike-within : (v now : QueuesView) (i : ℕ) (old new : QueueView) → v ≡ now → Stands now.queues i → i < length v.queues → old ≡ get_or v.queues i old → new.ticks ≡ old.ticks → new.subs ≡ old.subs
    → new.event_tables.tables ≡ old.event_tables.tables → AllWithin v → AllWithin (record v { queues = slice_set v.queues i new })
alike-within v now i old new same stands lt at ticks subs tables within =
    queue-within v i new (stand-set v.queues i old new (stands-kept v now i same stands) lt at (stays-alike old new ticks subs))
    (bound-set v.queues i old new lt at (same-tables old.event_tables.tables new.event_tables.tables tables)) within

-- its events were looked at
pub looked-within : (v now : QueuesView) (i : ℕ) (old new : QueueView) → v ≡ now → Stands now.queues i → i < length v.queues → old ≡ get_or v.queues i old
    → new ≡ record old { event_tables = record old.event_tables { reads = new.event_tables.reads } } → AllWithin v → AllWithin (record v { queues = slice_set v.queues i new })
looked-within v now i old new same stands lt at but within =
    alike-within v now i old new same stands lt at (ap QueueView.ticks but) (ap QueueView.subs but) (ap (λ (q : QueueView). q.event_tables.tables) but) within

-- ---- an event is put in a queue

-- the queue has one event more, or is as it was because memory has run out
abbrev pub HasMore : Event → QueueView → QueueView → Type 0
HasMore e old new = (new ≡ retabled (with_stored e) old) ⊎ (new ≡ old)

more-stays : (e : Event) (old new : QueueView) → HasMore e old new → Stays old new
more-stays e old new (inl is) = stays-alike old new (ap QueueView.ticks is) (ap QueueView.subs is)
more-stays e old new (inr is) = stays-alike old new (ap QueueView.ticks is) (ap QueueView.subs is)

more-events : {rounds : ℕ} → (e : Event) (old new : QueueView) → RetriedAtMost rounds e → HasMore e old new → AllStored (RetriedAtMost rounds) old.event_tables.tables → AllStored (RetriedAtMost rounds) new.event_tables.tables
more-events e old new most (inl is) = one-event old.event_tables.tables new.event_tables.tables e (ap (λ (q : QueueView). q.event_tables.tables) is) most
more-events e old new most (inr is) = same-events old.event_tables new.event_tables (ap QueueView.event_tables is)

put-stands : (v now : QueuesView) (i : ℕ) (e : Event) (old new : QueueView) → v ≡ now → Stands now.queues i → i < length v.queues → old ≡ get_or v.queues i old → HasMore e old new → StillStand v.queues (slice_set v.queues i new)
put-stands v now i e old new same stands lt at more = stand-set v.queues i old new (stands-kept v now i same stands) lt at (more-stays e old new more)

-- the queues that stood stand, and what holds of all still holds
pub put-still : (v now : QueuesView) (i : ℕ) (e : Event) (old new : QueueView) → v ≡ now → Stands now.queues i → i < length v.queues → old ≡ get_or v.queues i old → HasMore e old new → StillStand now.queues (slice_set v.queues i new)
put-still v now i e old new same stands lt at more = stand-shown v now (slice_set v.queues i new) same (put-stands v now i e old new same stands lt at more)

pub put-within : (v now : QueuesView) (i : ℕ) (e : Event) (old new : QueueView) → v ≡ now → Stands now.queues i → i < length v.queues → old ≡ get_or v.queues i old → HasMore e old new → RetriedAtMost now.rounds e
    → AllWithin v → AllWithin (record v { queues = slice_set v.queues i new })
put-within v now i e old new same stands lt at more most within =
    queue-within v i new (put-stands v now i e old new same stands lt at more) (bound-set v.queues i old new lt at (more-events e old new (most-kept v now e same most) more)) within

-- ---- triggers record a write

told-bound : {rounds : ℕ} → (now : ℤ) (t : ℕ) (es : List RowEvent) (queues : List QueueView) → BoundOn rounds queues (telling_all now t es queues)
told-bound now t [] queues all = all
told-bound {rounds} now t (e ∷ es) queues all =
    told-bound now t es (slice_set queues e.queue (telling now t e (get_or queues e.queue no_queue)))
    (λ n. set-either (λ q. AllStored (RetriedAtMost rounds) q.event_tables.tables) queues e.queue n (telling now t e (get_or queues e.queue no_queue))
    (one-event (get_or queues e.queue no_queue).event_tables.tables (telling now t e (get_or queues e.queue no_queue)).event_tables.tables (told_event ((get_or queues e.queue no_queue).seq + 1) now t e) refl (omega arith) (all e.queue)) (all n))

pub retried-told : {A E : Type 0} {rounds : ℕ} → (r : Result A E) (now : ℤ) (t : ℕ) (es : List RowEvent) (old new : List QueueView) (rs : List Retry) → StillStand old new → OnOk r (new ≡ telling_all now t es old) → OnErr r (new ≡ old)
    → RetriedWithin rounds old rs → RetriedWithin rounds new rs
retried-told {rounds = rounds} (Ok a) now t es old new rs still ok err within =
    retried-still old new rs still (λ all. subst (λ qs. (n : ℕ) → AllStored (RetriedAtMost rounds) (get_or qs n no_queue).event_tables.tables) (sym ok) (told-bound now t es old all)) within
retried-told (Err e) now t es old new rs still ok err within = retried-same old new rs err within

-- ---- a retry is asked for

-- what is asked of it, in what is kept as in what is shown
pub waits-kept : (v now : QueuesView) (r : Retry) → v ≡ now → HasConsumer now.queues r.queue r.sub → HasMoment r.event.ev_time → RetriedAtMost (now.rounds + 1) r.event → IsWaiting (v.rounds + 1) v.queues r
waits-kept v now r same owner moment most = subst (λ (w : QueuesView). IsWaiting (w.rounds + 1) w.queues r) (sym same) (record { owner = owner; moment = moment; most = most })

pub retried-asked : {E : Type 0} {rounds : ℕ} → (o : Result Bool E) (queues : List QueueView) (rs new : List Retry) (r : Retry) → IfOk o (λ fresh. new ≡ (if fresh then rs ++ r ∷ [] else rs)) → OnErr o (new ≡ rs)
    → IsWaiting (rounds + 1) queues r → RetriedWithin rounds queues rs → RetriedWithin rounds queues new
retried-asked {rounds = rounds} (Err e) queues rs new r ok err waits within = subst (RetriedWithin rounds queues) (sym err) within
retried-asked {rounds = rounds} (Ok fresh) queues rs new r ok err waits within = subst (RetriedWithin rounds queues) (sym ok) (by fresh)
  where
    by : (b : Bool) → RetriedWithin rounds queues (if b then rs ++ r ∷ [] else rs)
    by true = record {
      waiting = All-append (IsWaiting (rounds + 1) queues) rs (r ∷ []) within.waiting (All-cons (IsWaiting (rounds + 1) queues) r [] waits (All-nil (IsWaiting (rounds + 1) queues)));
      stored = within.stored;
    }
    by false = within

-- ---- a consumer is there

pub has-here : (v now : QueuesView) (i id : ℕ) (q : QueueView) (name : List ℕ) (s : SubView) → v ≡ now → i < length v.queues → q ≡ get_or v.queues i q → Stands v.queues i → Some s ≡ value_of name q.subs → id ≡ s.id
    → HasConsumer now.queues i id
has-here v now i id q name s same lt at stands found its = subst (λ (w : QueuesView). HasConsumer w.queues i id) same (record {
  stands = stands;
  consumer = name;
  its = ap (option_map SubView.id) (sub-here v.queues i q name lt at ∙ sym found) ∙ ap Some (sym its);
})
