-- What queues show after a consumer has registered, was moved, has left, or has got or finished a batch; and what still holds.
use Rattle.std.proofs.Common.{◌≡◌, ℕ, ◌+◌, ◌<◌, List, [], ◌∷◌, ◌++◌, Bool, true, false, ◌==◌, ◌&&◌, Option, Some, None, IfSome, IfNone, length, get_or, slice_set, option_map, option_and_then, bytes_eq, refl, sym, ◌∙◌, ap, subst, arith, if◌then◌else◌}
use Rattle.std.proofs.lemmas.Bool.Decides.{nat_tests}
use Rattle.std.proofs.lemmas.List.{get_or_read, length-set}
use Rattle.std.proofs.lemmas.Option.{same_Some}
use Rattle.sky_names.specs.Named.{NamedView, value_of}
use Rattle.sky_names.proofs.PlaceLemmas.{same_name}
use Rattle.londiste_state.specs.Nodes.{all_but}
use Rattle.sky_model.specs.History as model
use Rattle.sky_model.specs.History.{queued, registered, moved, unregistered, opened, closed}
use Rattle.sky_model.specs.Consumers.{Subscription, of_another}
use Rattle.sky_model.specs.Triggers.{TableTrigger}
use Rattle.sky_model.specs.State.{Queue, Database, changed_at, changed_for, with_batch, at_position, after_mark}
use Rattle.pgq_retry.specs.declared.retry.Retry.{Retry}
use Rattle.pgq_retry.specs.Retries.{without_sub}
use Rattle.pgq_sub.specs.declared.sub.OpenBatch.{OpenBatch}
use Rattle.pgq_sub.specs.Views.{SubView, seen_sub, with_open, at_tick, after_batch, finished}
use Rattle.pgq_sub.specs.Seen.{SubsSeen, seen_subs, shown, with_member, with_sub, without_member}
use Rattle.pgq_queues.specs.declared.batch.Place.{Place}
use Rattle.pgq_queue.specs.Views.{QueueView}
use Rattle.pgq_queues.specs.Views.{TracedTableView, QueuesView}
use Rattle.pgq_queue.specs.Seen.{no_queue, seen_queue}
use Rattle.pgq_queues.specs.Seen.{sub_at, batch_of, batch_by, batch_at, kept, queue_at, seen_with, Stands, Beside}
use Rattle.pgq_queues.specs.Batches.{open_id, but_of, AreIndexed, BatchesWithin}
use Rattle.pgq_queues.specs.Numbers.{AreNumbers}
use Rattle.pgq_queues.specs.Traced.{TracedWithin}
use Rattle.pgq_queues.proofs.Marked.{get_or-slice_set, subs-changed, one-set, batches_of}
use Rattle.pgq_queues.proofs.TracedLists.{stands-set, gone-set, ticks-kept, numbers-on, within-on}
use Rattle.pgq_queues.proofs.Indexed.{is_one, Changed, and_at, indexed-come, batches-come, indexed-less, batches-less, batches-another, indexed-more, batches-more}

-- ---- one subscription of one queue has changed

abbrev pub Change : Type 0
Change = Option SubView → Option SubView

-- the queue's subscriptions by their consumers
abbrev pub Becomes : List ℕ → Change → QueueView → QueueView → Type 0
Becomes name f old new = (consumer : List ℕ) → value_of consumer new.subs ≡ changed_for name f (λ c. value_of c old.subs) consumer

pub becomes : (name : List ℕ) (f : Change) (old new : QueueView) (members : List (List ℕ)) → seen_subs new.subs ≡ record { members = members; kept = changed_for name f (seen_subs old.subs).kept } → Becomes name f old new
becomes name f old new members is consumer = ap (λ (s : SubsSeen). s.kept consumer) is

-- so are those of all queues
pub subs-set : (queues : List QueueView) (i : ℕ) (old new : QueueView) (name : List ℕ) (f : Change) → i < length queues → old ≡ get_or queues i old → Becomes name f old new
    → Changed i name f (sub_at queues) (sub_at (slice_set queues i new))
subs-set queues i old new name f lt at is n consumer = ap (λ (q : QueueView). value_of consumer q.subs) (get_or-slice_set queues i n new lt) ∙ by (i == n) refl
  where
    there : (i == n) ≡ true → value_of consumer old.subs ≡ sub_at queues n consumer
    there e =
        let one : i ≡ n = grind (arith, nat_tests) in
        ap (λ (q : QueueView). value_of consumer q.subs) (get_or_read queues i old lt at no_queue) ∙ ap (λ m. sub_at queues m consumer) one

    by : (b : Bool) → (i == n) ≡ b → value_of consumer (QueueView.subs (if b then new else get_or queues n no_queue))
        ≡ (if is_one i name n consumer then f (sub_at queues n consumer) else sub_at queues n consumer)
    by true e =
        is consumer
        ∙ ap (λ s. if bytes_eq consumer name then f s else s) (there e)
        ∙ ap (λ b. if (b && bytes_eq consumer name) then f (sub_at queues n consumer) else sub_at queues n consumer) (sym e)
    by false e = ap (λ b. if (b && bytes_eq consumer name) then f (sub_at queues n consumer) else sub_at queues n consumer) (sym e)

-- what the definitions see of them, if they see the same change of the one
pub shown-changed : (name : List ℕ) (f : Change) (g : Option Subscription → Option Subscription) (all : List ℕ → Option SubView) → option_map seen_sub (f (all name)) ≡ g (option_map seen_sub (all name))
    → shown (changed_for name f all) ≡ changed_for name g (shown all)
shown-changed name f g all here = λ j n. by n (bytes_eq n name) refl j
  where
    by : (n : List ℕ) (b : Bool) → bytes_eq n name ≡ b → option_map seen_sub (if b then f (all n) else all n) ≡ (if b then g (option_map seen_sub (all n)) else option_map seen_sub (all n))
    by n true e = let one : n ≡ name = same_name n name e in ap (λ m. option_map seen_sub (f (all m))) one ∙ here ∙ ap (λ m. g (option_map seen_sub (all m))) (sym one)
    by n false e = refl

-- the subscription that is there
pub sub-here : (queues : List QueueView) (i : ℕ) (old : QueueView) (name : List ℕ) → i < length queues → old ≡ get_or queues i old → sub_at queues i name ≡ value_of name old.subs
sub-here queues i old name lt at = ap (λ (q : QueueView). value_of name q.subs) (sym (get_or_read queues i old lt at no_queue))

-- what is shown after a queue and the batches have changed
pub shown-after : (v now : QueuesView) (i : ℕ) (old new : QueueView) (f : Queue → Queue) (places : List (ℕ × Place)) (shows : QueuesView → ℕ → Option model.Batch) → v ≡ now → i < length v.queues → old ≡ get_or v.queues i old
    → seen_queue new ≡ f (seen_queue old) → ((id : ℕ) → batches_of (slice_set v.queues i new) places id ≡ shows v id)
    → (beside : Beside) → seen_with beside (record v { queues = slice_set v.queues i new; batches = places }) ≡ record (seen_with beside now) { queue = changed_at i f (queue_at now); batch = shows now }
shown-after v now i old new f places shows same lt at is batches beside =
    (λ j. record (seen_with beside v) { queues_made = length-set v.queues i new j; queue = one-set v i old new f lt at is j; batch = λ id. batches id j })
    ∙ ap (λ (w : QueuesView). record (seen_with beside w) { queue = changed_at i f (queue_at w); batch = shows w }) same

-- what holds of all still holds
pub within-subs : {last next : ℕ} → (numbers : NamedView ℕ) (queues : List QueueView) (i : ℕ) (old new : QueueView) (batches more : List (ℕ × Place)) (triggers : List TableTrigger) (all : List (ℕ × TracedTableView))
    → i < length queues → old ≡ get_or queues i old → Stands queues i → new.ticks ≡ old.ticks → AreIndexed next (sub_at (slice_set queues i new)) (kept more) → ((id : ℕ) (p : Place) → kept more id ≡ Some p → Stands queues p.queue)
    → AreNumbers numbers queues × (BatchesWithin last queues batches × TracedWithin queues triggers all)
    → AreNumbers numbers (slice_set queues i new) × (BatchesWithin next (slice_set queues i new) more × TracedWithin (slice_set queues i new) triggers all)
within-subs numbers queues i old new batches more triggers all lt at stands ticks indexed places within =
    let still = stands-set queues i new lt (ticks-kept queues i old new lt at stands ticks) in (
      numbers-on queues (slice_set queues i new) numbers still (gone-set queues i new lt stands) within.0,
      (record { indexed = indexed; stand = λ id p is. still p.queue (places id p is) }, within-on queues (slice_set queues i new) triggers all still within.1.1),
    )

-- what is left of what was kept
left-there : (gone : Option ℕ) (id : ℕ) (o : Option Place) (p : Place) → but_of gone id o ≡ Some p → o ≡ Some p
left-there None id o p is = is
left-there (Some g) id o p is = by (g == id) is
  where
    by : (b : Bool) → (if b then None else o) ≡ Some p → o ≡ Some p
    by true e = absurd (cc)
    by false e = e

pub within-less : {last : ℕ} → (numbers : NamedView ℕ) (queues : List QueueView) (i : ℕ) (name : List ℕ) (f : Change) (gone : Option ℕ) (old new : QueueView) (batches rest : List (ℕ × Place)) (triggers : List TableTrigger)
    (all : List (ℕ × TracedTableView)) → i < length queues → old ≡ get_or queues i old → Stands queues i → new.ticks ≡ old.ticks → Becomes name f old new → gone ≡ open_id (value_of name old.subs) → open_id (f (value_of name old.subs)) ≡ None
    → ((id : ℕ) → kept rest id ≡ but_of gone id (kept batches id)) → AreNumbers numbers queues × (BatchesWithin last queues batches × TracedWithin queues triggers all)
    → AreNumbers numbers (slice_set queues i new) × (BatchesWithin last (slice_set queues i new) rest × TracedWithin (slice_set queues i new) triggers all)
within-less {last} numbers queues i name f gone old new batches rest triggers all lt at stands ticks is one none less within =
    within-subs numbers queues i old new batches rest triggers all lt at stands ticks
    (indexed-less last i name f gone (sub_at queues) (sub_at (slice_set queues i new)) (kept batches) (kept rest) (one ∙ ap open_id (sym (sub-here queues i old name lt at))) (ap (λ s. open_id (f s)) (sub-here queues i old name lt at) ∙ none)
    (subs-set queues i old new name f lt at is) less within.1.0.indexed)
    (λ id p e. within.1.0.stand id p (left-there gone id (kept batches id) p (sym (less id) ∙ e))) within

-- ---- a consumer has registered

unseen : (o : Option SubView) → option_map seen_sub o ≡ None → o ≡ None
unseen None is = refl
unseen (Some s) is = absurd (cc)

pub not-kept : (v now : QueuesView) (i : ℕ) (name : List ℕ) → v ≡ now → (queue_at now i).sub name ≡ None → sub_at v.queues i name ≡ None
not-kept v now i name same none = unseen (sub_at v.queues i name) (ap (λ (w : QueuesView). (queue_at w i).sub name) same ∙ none)

pub within-come : {last : ℕ} → (numbers : NamedView ℕ) (queues : List QueueView) (i id tick : ℕ) (name : List ℕ) (old new : QueueView) (batches : List (ℕ × Place)) (triggers : List TableTrigger) (all : List (ℕ × TracedTableView))
    → i < length queues → old ≡ get_or queues i old → Stands queues i → new ≡ record old { subs = new.subs } → seen_subs new.subs ≡ with_member name id tick (seen_subs old.subs) → sub_at queues i name ≡ None
    → AreNumbers numbers queues × (BatchesWithin last queues batches × TracedWithin queues triggers all)
    → AreNumbers numbers (slice_set queues i new) × (BatchesWithin last (slice_set queues i new) batches × TracedWithin (slice_set queues i new) triggers all)
within-come {last} numbers queues i id tick name old new batches triggers all lt at stands but is none within =
    within-subs numbers queues i old new batches batches triggers all lt at stands (ap QueueView.ticks but)
    (indexed-come last i name (record { id = id; position = tick; active = None }) (sub_at queues) (sub_at (slice_set queues i new)) (kept batches) none refl
    (subs-set queues i old new name (λ _. Some (record { id = id; position = tick; active = None })) lt at (becomes name (λ _. Some (record { id = id; position = tick; active = None })) old new _ is)) within.1.0.indexed)
    within.1.0.stand within

pub registered-as : (v now : QueuesView) (i id tick : ℕ) (name : List ℕ) (old new : QueueView) → v ≡ now → i < length v.queues → old ≡ get_or v.queues i old → new ≡ record old { subs = new.subs }
    → seen_subs new.subs ≡ with_member name id tick (seen_subs old.subs) → id ≡ now.last_sub_id + 1 → (queue_at now i).sub name ≡ None
    → (beside : Beside) → seen_with beside (record v { last_sub_id = id; queues = slice_set v.queues i new }) ≡ after_mark (seen_with beside now) (queued (registered i name (now.last_sub_id + 1) tick))
registered-as v now i id tick name old new same lt at but is next none beside =
    ap (λ (d : Database). record d { last_sub_id = id })
    (shown-after v now i old new (λ q. record q { members = q.members ++ name ∷ []; sub = changed_for name (λ _. Some (record { id = id; position = tick; active = None })) q.sub }) v.batches batch_at same lt at
    (subs-changed old new _ but is
    ∙ (λ j. record (seen_queue old) {
      members = (seen_queue old).members ++ name ∷ [];
      sub = shown-changed name (λ _. Some (record { id = id; position = tick; active = None })) (λ _. Some (record { id = id; position = tick; active = None })) (seen_subs old.subs).kept refl j;
    }))
    (batches-come i name (record { id = id; position = tick; active = None }) (sub_at v.queues) (sub_at (slice_set v.queues i new)) (kept v.batches) (not-kept v now i name same none) refl
    (subs-set v.queues i old new name (λ _. Some (record { id = id; position = tick; active = None })) lt at (becomes name (λ _. Some (record { id = id; position = tick; active = None })) old new _ is))) beside)
    ∙ (λ j. after_mark (seen_with beside now) (queued (registered i name (next j) tick)))

-- ---- a consumer was moved, or has left

seen-tick : (tick : ℕ) (o : Option SubView) → option_map seen_sub (option_map (at_tick tick) o) ≡ option_map (at_position tick) (option_map seen_sub o)
seen-tick tick None = refl
seen-tick tick (Some s) = refl

pub tick-none : (tick : ℕ) (o : Option SubView) → open_id (option_map (at_tick tick) o) ≡ None
tick-none tick None = refl
tick-none tick (Some s) = refl

-- the batches after that
without-batch : (v : QueuesView) (last i : ℕ) (name : List ℕ) (f : Change) (gone : Option ℕ) (old new : QueueView) (rest : List (ℕ × Place)) → i < length v.queues → old ≡ get_or v.queues i old → Becomes name f old new
    → gone ≡ open_id (value_of name old.subs) → ((id : ℕ) → kept rest id ≡ but_of gone id (kept v.batches id)) → AreIndexed last (sub_at v.queues) (kept v.batches)
    → (id : ℕ) → batches_of (slice_set v.queues i new) rest id ≡ of_another i name (batch_at v id)
without-batch v last i name f gone old new rest lt at is one less are id =
    let here : gone ≡ open_id (sub_at v.queues i name) = one ∙ ap open_id (sym (sub-here v.queues i old name lt at)) in
    batches-less last i name f gone (sub_at v.queues) (sub_at (slice_set v.queues i new)) (kept v.batches) (kept rest) here (subs-set v.queues i old new name f lt at is) less are id
    ∙ batches-another last i name gone (sub_at v.queues) (kept v.batches) here are id

pub moved-as : (v now : QueuesView) (last i tick : ℕ) (name : List ℕ) (gone : Option ℕ) (old new : QueueView) (rest : List (ℕ × Place)) → v ≡ now → i < length v.queues → old ≡ get_or v.queues i old
    → new ≡ record old { subs = new.subs } → seen_subs new.subs ≡ with_sub name (at_tick tick) (seen_subs old.subs) → gone ≡ open_id (value_of name old.subs)
    → ((id : ℕ) → kept rest id ≡ but_of gone id (kept v.batches id)) → AreIndexed last (sub_at v.queues) (kept v.batches)
    → (beside : Beside) → seen_with beside (record v { queues = slice_set v.queues i new; batches = rest }) ≡ after_mark (seen_with beside now) (queued (moved i name tick))
moved-as v now last i tick name gone old new rest same lt at but is one less are beside =
    shown-after v now i old new (λ q. record q { sub = changed_for name (option_map (at_position tick)) q.sub }) rest (λ w id. of_another i name (batch_at w id)) same lt at
    (subs-changed old new _ but is
    ∙ (λ j. record (seen_queue old) { sub = shown-changed name (option_map (at_tick tick)) (option_map (at_position tick)) (seen_subs old.subs).kept (seen-tick tick (value_of name old.subs)) j }))
    (without-batch v last i name (option_map (at_tick tick)) gone old new rest lt at (becomes name (option_map (at_tick tick)) old new _ is) one less are) beside

pub unregistered-as : (v now : QueuesView) (last i sub : ℕ) (name : List ℕ) (gone : Option ℕ) (old new : QueueView) (rest : List (ℕ × Place)) (left : List Retry) → v ≡ now → i < length v.queues → old ≡ get_or v.queues i old
    → new ≡ record old { subs = new.subs } → seen_subs new.subs ≡ without_member name (seen_subs old.subs) → gone ≡ open_id (value_of name old.subs)
    → ((id : ℕ) → kept rest id ≡ but_of gone id (kept v.batches id)) → AreIndexed last (sub_at v.queues) (kept v.batches) → left ≡ without_sub sub v.retries
    → (beside : Beside) → seen_with beside (record v { queues = slice_set v.queues i new; batches = rest; retries = left }) ≡ after_mark (seen_with beside now) (queued (unregistered i name sub))
unregistered-as v now last i sub name gone old new rest left same lt at but is one less are fewer beside =
    ap (λ (d : Database). record d { retries = left })
    (shown-after v now i old new (λ q. record q { members = all_but name q.members; sub = changed_for name (λ _. None) q.sub }) rest (λ w id. of_another i name (batch_at w id)) same lt at
    (subs-changed old new _ but is
    ∙ (λ j. record (seen_queue old) { members = all_but name (seen_queue old).members; sub = shown-changed name (λ _. None) (λ _. None) (seen_subs old.subs).kept refl j }))
    (without-batch v last i name (λ _. None) gone old new rest lt at (becomes name (λ _. None) old new _ is) one less are) beside)
    ∙ ap (λ rs. record (after_mark (seen_with beside now) (queued (unregistered i name sub))) { retries = rs }) (fewer ∙ ap (λ (w : QueuesView). without_sub sub w.retries) same)

-- ---- a batch is finished

-- the subscription that has a batch
open-parts : (o : Option SubView) (id : ℕ) → open_id o ≡ Some id → (s : SubView) × (cur : ℕ) × (o ≡ Some s) × (s.active ≡ Some (record { id = id; cur = cur }))
open-parts None id is = absurd (cc)
open-parts (Some s) id is = by s.active refl is
  where
    by : (a : Option OpenBatch) → s.active ≡ a → option_map OpenBatch.id a ≡ Some id → (t : SubView) × (cur : ℕ) × (Some s ≡ Some t) × (t.active ≡ Some (record { id = id; cur = cur }))
    by None e is = absurd (cc)
    by (Some b) e is = (s, b.cur, refl, e ∙ (λ j. Some (record { id = same_Some b.id id is j; cur = b.cur })))

seen-finished : (o : Option SubView) (s : SubView) (b : OpenBatch) → o ≡ Some s → s.active ≡ Some b → option_map seen_sub (option_map finished o) ≡ option_map (at_position b.cur) (option_map seen_sub o)
seen-finished o s b is has =
    ap (λ x. option_map seen_sub (option_map finished x)) is ∙ ap (λ a. Some (seen_sub (after_batch s a))) has ∙ ap (λ x. option_map (at_position b.cur) (option_map seen_sub x)) (sym is)

pub closed-as : (v now : QueuesView) (last id : ℕ) (p : Place) (old new : QueueView) (rest : List (ℕ × Place)) → v ≡ now → p.queue < length v.queues → old ≡ get_or v.queues p.queue old
    → new ≡ record old { subs = new.subs } → seen_subs new.subs ≡ with_sub p.consumer finished (seen_subs old.subs) → Some p ≡ kept v.batches id
    → ((n : ℕ) → kept rest n ≡ but_of (Some id) n (kept v.batches n)) → AreIndexed last (sub_at v.queues) (kept v.batches)
    → (batch : model.Batch) × (batch_at now id ≡ Some batch)
    × ((beside : Beside) → seen_with beside (record v { queues = slice_set v.queues p.queue new; batches = rest }) ≡ after_mark (seen_with beside now) (queued (closed batch)))
closed-as v now last id p old new rest same lt at but is found less are = by (open-parts (sub_at v.queues p.queue p.consumer) id (are.there id p (sym found)))
  where
    here : sub_at v.queues p.queue p.consumer ≡ value_of p.consumer old.subs
    here = sub-here v.queues p.queue old p.consumer lt at

    by : (s : SubView) × (cur : ℕ) × (sub_at v.queues p.queue p.consumer ≡ Some s) × (s.active ≡ Some (record { id = id; cur = cur }))
        → (batch : model.Batch) × (batch_at now id ≡ Some batch)
        × ((beside : Beside) → seen_with beside (record v { queues = slice_set v.queues p.queue new; batches = rest }) ≡ after_mark (seen_with beside now) (queued (closed batch)))
    by (s, cur, there, has) = (
      record { id = id; queue = p.queue; consumer = p.consumer; sub = s.id; prev = s.position; cur = cur },
      ap (λ (w : QueuesView). batch_at w id) (sym same)
          ∙ ap (batch_by (sub_at v.queues) id) (sym found)
          ∙ ap (option_and_then (batch_of id p)) there
          ∙ ap (option_map (λ (b : OpenBatch). record { id = id; queue = p.queue; consumer = p.consumer; sub = s.id; prev = s.position; cur = b.cur })) has,
      λ beside.
          shown-after v now p.queue old new (λ q. record q { sub = changed_for p.consumer (option_map (at_position cur)) q.sub }) rest (λ w. changed_at id (λ _. None) (batch_at w)) same lt at
          (subs-changed old new _ but is
          ∙ (λ j. record (seen_queue old) {
            sub = shown-changed p.consumer (option_map finished) (option_map (at_position cur)) (seen_subs old.subs).kept
                (seen-finished (value_of p.consumer old.subs) s (record { id = id; cur = cur }) (sym here ∙ there) has) j;
          }))
          (batches-less last p.queue p.consumer (option_map finished) (Some id) (sub_at v.queues) (sub_at (slice_set v.queues p.queue new)) (kept v.batches) (kept rest) (sym (are.there id p (sym found)))
          (subs-set v.queues p.queue old new p.consumer (option_map finished) lt at (becomes p.consumer (option_map finished) old new _ is)) less are) beside,
    )

-- ---- a consumer has a new batch

-- a subscription without a batch
free-parts : (o : Option SubView) → option_map Subscription.active (option_map seen_sub o) ≡ Some None → (s : SubView) × (o ≡ Some s) × (s.active ≡ None)
free-parts None is = absurd (cc)
free-parts (Some s) is = (s, refl, by s.active (same_Some _ _ is))
  where
    by : (a : Option OpenBatch) → option_map OpenBatch.id a ≡ None → a ≡ None
    by None e = refl
    by (Some b) e = absurd (cc)

pub is-free : (v now : QueuesView) (i : ℕ) (name : List ℕ) → v ≡ now → option_map Subscription.active ((queue_at now i).sub name) ≡ Some None → (s : SubView) × (sub_at v.queues i name ≡ Some s) × (s.active ≡ None)
is-free v now i name same free = free-parts (sub_at v.queues i name) (ap (λ (w : QueuesView). option_map Subscription.active ((queue_at w i).sub name)) same ∙ free)

pub within-more : {last : ℕ} → (numbers : NamedView ℕ) (queues : List QueueView) (cur id : ℕ) (p : Place) (old new : QueueView) (batches more : List (ℕ × Place)) (triggers : List TableTrigger) (all : List (ℕ × TracedTableView))
    → p.queue < length queues → old ≡ get_or queues p.queue old → Stands queues p.queue → new ≡ record old { subs = new.subs } → seen_subs new.subs ≡ with_sub p.consumer (with_open (record { id = id; cur = cur })) (seen_subs old.subs)
    → id ≡ last + 1 → ((s : SubView) × (sub_at queues p.queue p.consumer ≡ Some s) × (s.active ≡ None)) → ((n : ℕ) → kept more n ≡ and_at id p n (kept batches n))
    → AreNumbers numbers queues × (BatchesWithin last queues batches × TracedWithin queues triggers all)
    → AreNumbers numbers (slice_set queues p.queue new) × (BatchesWithin id (slice_set queues p.queue new) more × TracedWithin (slice_set queues p.queue new) triggers all)
within-more {last} numbers queues cur id p old new batches more triggers all lt at stands but is next (s, has, free) adds within =
    within-subs numbers queues p.queue old new batches more triggers all lt at stands (ap QueueView.ticks but)
    (subst (λ n. AreIndexed n (sub_at (slice_set queues p.queue new)) (kept more)) (sym next)
    (indexed-more last cur p s (sub_at queues) (sub_at (slice_set queues p.queue new)) (kept batches) (kept more) has free
    (subs-set queues p.queue old new p.consumer (option_map (with_open (record { id = last + 1; cur = cur }))) lt at (becomes p.consumer (option_map (with_open (record { id = last + 1; cur = cur }))) old new _
    (is ∙ ap (λ n. with_sub p.consumer (with_open (record { id = n; cur = cur })) (seen_subs old.subs)) next)))
    (λ n. adds n ∙ ap (λ k. and_at k p n (kept batches n)) next) within.1.0.indexed))
    (λ n q e. of n q (id == n) (sym (adds n) ∙ e)) within
  where
    of : (n : ℕ) (q : Place) (b : Bool) → (if b then Some p else kept batches n) ≡ Some q → Stands queues q.queue
    of n q true e = subst (λ (x : Place). Stands queues x.queue) (same_Some p q e) stands
    of n q false e = within.1.0.stand n q e

pub opened-as : (v now : QueuesView) (cur id : ℕ) (p : Place) (old new : QueueView) (more : List (ℕ × Place)) → v ≡ now → p.queue < length v.queues → old ≡ get_or v.queues p.queue old → new ≡ record old { subs = new.subs }
    → seen_subs new.subs ≡ with_sub p.consumer (with_open (record { id = id; cur = cur })) (seen_subs old.subs) → id ≡ v.last_batch_id + 1 → option_map Subscription.active ((queue_at now p.queue).sub p.consumer) ≡ Some None
    → ((n : ℕ) → kept more n ≡ and_at id p n (kept v.batches n)) → AreIndexed v.last_batch_id (sub_at v.queues) (kept v.batches)
    → (beside : Beside) (sub : Subscription) → (queue_at now p.queue).sub p.consumer ≡ Some sub
    → seen_with beside (record v { last_batch_id = id; queues = slice_set v.queues p.queue new; batches = more })
    ≡ after_mark (seen_with beside now) (queued (opened (record { id = now.last_batch_id + 1; queue = p.queue; consumer = p.consumer; sub = sub.id; prev = sub.position; cur = cur })))
opened-as v now cur id p old new more same lt at but is next free adds are beside sub its = by (is-free v now p.queue p.consumer same free)
  where
    by : (s : SubView) × (sub_at v.queues p.queue p.consumer ≡ Some s) × (s.active ≡ None) → seen_with beside (record v { last_batch_id = id; queues = slice_set v.queues p.queue new; batches = more })
        ≡ after_mark (seen_with beside now) (queued (opened (record { id = now.last_batch_id + 1; queue = p.queue; consumer = p.consumer; sub = sub.id; prev = sub.position; cur = cur })))
    by (s, has, none) =
        let seen : seen_sub s ≡ sub = same_Some _ _ (ap (option_map seen_sub) (sym has) ∙ ap (λ (w : QueuesView). (queue_at w p.queue).sub p.consumer) same ∙ its) in
        let whole : id ≡ now.last_batch_id + 1 = next ∙ ap (λ (w : QueuesView). w.last_batch_id + 1) same in
        ap (λ (d : Database). record d { last_batch_id = id })
        (shown-after v now p.queue old new (λ q. record q { sub = changed_for p.consumer (option_map (with_batch id)) q.sub }) more
        (λ w. changed_at id (λ _. Some (record { id = id; queue = p.queue; consumer = p.consumer; sub = s.id; prev = s.position; cur = cur })) (batch_at w)) same lt at
        (subs-changed old new _ but is
        ∙ (λ j. record (seen_queue old) { sub = shown-changed p.consumer (option_map (with_open (record { id = id; cur = cur }))) (option_map (with_batch id)) (seen_subs old.subs).kept (opens (value_of p.consumer old.subs)) j }))
        shows beside)
        ∙ (λ j. after_mark (seen_with beside now) (queued (opened (record { id = whole j; queue = p.queue; consumer = p.consumer; sub = (seen j).id; prev = (seen j).position; cur = cur }))))
      where
        opens : (o : Option SubView) → option_map seen_sub (option_map (with_open (record { id = id; cur = cur })) o) ≡ option_map (with_batch id) (option_map seen_sub o)
        opens None = refl
        opens (Some x) = refl

        shows : (n : ℕ) → batches_of (slice_set v.queues p.queue new) more n ≡ and_at id (record { id = id; queue = p.queue; consumer = p.consumer; sub = s.id; prev = s.position; cur = cur }) n (batch_at v n)
        shows n =
            batches-more v.last_batch_id cur p s (sub_at v.queues) (sub_at (slice_set v.queues p.queue new)) (kept v.batches) (kept more) has none
            (subs-set v.queues p.queue old new p.consumer (option_map (with_open (record { id = v.last_batch_id + 1; cur = cur }))) lt at
            (becomes p.consumer (option_map (with_open (record { id = v.last_batch_id + 1; cur = cur }))) old new _ (is ∙ ap (λ k. with_sub p.consumer (with_open (record { id = k; cur = cur })) (seen_subs old.subs)) next)))
            (λ m. adds m ∙ ap (λ k. and_at k p m (kept v.batches m)) next) are n
            ∙ ap (λ k. and_at k (record { id = k; queue = p.queue; consumer = p.consumer; sub = s.id; prev = s.position; cur = cur }) n (batch_at v n)) (sym next)

-- what holds of what is there
pub if-there : {A : Type 0} → (o : Option A) (x : A) (P : A → Type 0) → o ≡ Some x → P x → IfSome o P
if-there o x P is holds = subst (λ y. IfSome y P) (sym is) holds

pub if-nothing : {A : Type 0} → (o : Option A) (x : A) (P : Type 0) → o ≡ Some x → IfNone o P
if-nothing o x P is = subst (λ y. IfNone y P) (sym is) tt

pub if-not : {A : Type 0} → (o : Option A) (P : Type 0) → P → IfNone o P
if-not None P holds = holds
if-not (Some x) P holds = tt

-- ---- a subscription that is read

pub sub-there : (v now : QueuesView) (i : ℕ) (q : QueueView) (name : List ℕ) (o : Option SubView) → v ≡ now → i < length v.queues → q ≡ get_or v.queues i q → o ≡ value_of name q.subs
    → sub_at now.queues i name ≡ o
sub-there v now i q name o same lt at found = ap (λ (w : QueuesView). sub_at w.queues i name) (sym same) ∙ sub-here v.queues i q name lt at ∙ sym found

-- its active batch is the one of the batch's id
pub open-there : (v now : QueuesView) (i : ℕ) (name : List ℕ) (s : SubView) → v ≡ now → BatchesWithin v.last_batch_id v.queues v.batches → sub_at now.queues i name ≡ Some s
    → IfSome s.active (λ batch. batch_at now batch.id ≡ batch_of batch.id (record { queue = i; consumer = name }) s)
open-there v now i name s same within there = of s.active refl
  where
    of : (o : Option OpenBatch) → s.active ≡ o → IfSome o (λ batch. batch_at now batch.id ≡ batch_of batch.id (record { queue = i; consumer = name }) s)
    of None e = tt
    of (Some b) e =
        let here : sub_at v.queues i name ≡ Some s = ap (λ (w : QueuesView). sub_at w.queues i name) same ∙ there in
        let placed = within.indexed.each i name b.id (ap open_id here ∙ ap (option_map OpenBatch.id) e) in
        ap (λ (w : QueuesView). batch_at w b.id) (sym same) ∙ ap (batch_by (sub_at v.queues) b.id) placed ∙ ap (option_and_then (batch_of b.id (record { queue = i; consumer = name }))) here
