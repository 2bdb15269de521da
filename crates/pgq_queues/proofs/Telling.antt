-- The events of triggers, stored one after another.
use Rattle.std.proofs.Common.{◌≡◌, ℕ, ℤ, ◌+◌, ◌-◌, ◌<◌, ◌≤◌, ◌^◌, Bool, true, false, nat_le, ◌==◌, List, [], ◌∷◌, ◌++◌, Option, Some, Result, Ok, Err, OnOk, map, filter, length, take, drop, get_or, slice_set, refl, sym, ◌∙◌, ap, subst, arith, if◌then◌else◌}
use Rattle.std.specs.Prelude.{◌≢◌, not, ◌&&◌}
use Rattle.std.proofs.lemmas.Bool.{and_parts}
use Rattle.std.proofs.lemmas.Bool.Decides.{nat_tests}
use Rattle.std.proofs.lemmas.List.{take_more, drop_more, drop_all, append-nil, map-append, set-set, set-get_or, get_or_read, get_or-set_same, length-set}
use Rattle.std.proofs.lemmas.List.Elements.{filter-append}
use Rattle.sky_val.specs.declared.column.Column.{Column}
use Rattle.sky_val.specs.declared.val.Val.{Val}
use Rattle.sky_urlenc.specs.RowEvents.{TracedWrite, Trigger, RowEvent, leaves_out, event_of}
use Rattle.sky_model.specs.Triggers.{TableTrigger}
use Rattle.sky_model.specs.State.{changed_at}
use Rattle.pgq_queue.specs.Views.{QueueView}
use Rattle.pgq_queues.specs.Views.{TracedView, QueuesView}
use Rattle.pgq_queue.specs.Seen.{no_queue}
use Rattle.pgq_queues.specs.Seen.{Stands}
use Rattle.pgq_queues.specs.Traced.{no_trigger, traced_at}
use Rattle.pgq_queues.specs.EventRule.{events_by, table_events, events_at, count_of, sequences, ids_left, telling_all, event_rule}
use Rattle.pgq_queue.specs.Changed.{telling}
use Rattle.pgq_queues.specs.Batches.{StillStand}
use Rattle.pgq_queues.proofs.Marked.{get_or-slice_set}
use Rattle.pgq_queues.proofs.TracedLists.{goes-alike}

-- ---- counts

count-more : (n : ℕ) (es : List RowEvent) (e : RowEvent) → count_of n (es ++ e ∷ []) ≡ (if e.queue == n then count_of n es + 1 else count_of n es)
count-more n [] e = refl
count-more n (x ∷ xs) e = by (x.queue == n) (count-more n xs e)
  where
    swap : (b : Bool) → (if b then count_of n xs + 1 else count_of n xs) + 1 ≡ (if b then (count_of n xs + 1) + 1 else count_of n xs + 1)
    swap true = refl
    swap false = refl

    by : (b : Bool) → count_of n (xs ++ e ∷ []) ≡ (if e.queue == n then count_of n xs + 1 else count_of n xs) → (if b then count_of n (xs ++ e ∷ []) + 1 else count_of n (xs ++ e ∷ []))
        ≡ (if e.queue == n then (if b then count_of n xs + 1 else count_of n xs) + 1 else (if b then count_of n xs + 1 else count_of n xs))
    by true more = ap (λ m. m + 1) more ∙ swap (e.queue == n)
    by false more = more

raised-more : (seq : ℕ → ℕ) (es : List RowEvent) (e : RowEvent) → changed_at e.queue (λ n. n + 1) (λ n. seq n + count_of n es) ≡ (λ n. seq n + count_of n (es ++ e ∷ []))
raised-more seq es e = λ i n. pointwise n i
  where
    by : (n : ℕ) (b : Bool) → (if b then (seq n + count_of n es) + 1 else seq n + count_of n es) ≡ seq n + (if b then count_of n es + 1 else count_of n es)
    by n true = omega arith
    by n false = refl

    pointwise : (n : ℕ) → (if e.queue == n then (seq n + count_of n es) + 1 else seq n + count_of n es) ≡ seq n + count_of n (es ++ e ∷ [])
    pointwise n = by n (e.queue == n) ∙ ap (λ m. seq n + m) (sym (count-more n es e))

pub room-for : (seq before s b : ℕ) → seq ≡ s → before ≡ b → (2 ^ 62 - 1 ≤ seq → ⊥) → (2 ^ 62 - 1 - seq ≤ before → ⊥) → s + b + 1 < 2 ^ 62
room-for seq before s b one other low also = omega (arith, one, other, low, also)

-- ---- the triggers of a table

module _ (t : TracedView) (old new : Option (List Val)) where
  abbrev write : TracedWrite
  write = record { table = t.name; columns = t.columns; old = old; new = new }

  -- whether a trigger records the write
  abbrev tells : Trigger → Bool
  tells x = not (leaves_out x t.columns old new)

  -- the trigger at a place, and its event
  abbrev pub trigger_at : ℕ → TableTrigger
  trigger_at i = get_or t.triggers i no_trigger

  abbrev pub event_at : ℕ → RowEvent
  event_at i = event_of write (trigger_at i).trigger

  -- whether it leaves out the write
  abbrev pub out_at : ℕ → Bool
  out_at i = leaves_out (trigger_at i).trigger t.columns old new

  -- the events of those before a place, and from it on
  abbrev pub upto : ℕ → List RowEvent
  upto i = events_by t old new (take i t.triggers)

  abbrev pub from : ℕ → List RowEvent
  from i = events_by t old new (drop i t.triggers)

  one_more : (x : TableTrigger) (xs : List TableTrigger) (out : Bool) → leaves_out x.trigger t.columns old new ≡ out
      → events_by t old new (x ∷ xs) ≡ (if not out then event_of write x.trigger ∷ events_by t old new xs else events_by t old new xs)
  one_more x xs out e = ap told e ∙ by out
    where
      told : Bool → List RowEvent
      told b = map (event_of write) (if not b then x.trigger ∷ filter tells (map TableTrigger.trigger xs) else filter tells (map TableTrigger.trigger xs))

      by : (b : Bool) → told b ≡ (if not b then event_of write x.trigger ∷ events_by t old new xs else events_by t old new xs)
      by true = refl
      by false = refl

  events-append : (xs ys : List TableTrigger) → events_by t old new (xs ++ ys) ≡ events_by t old new xs ++ events_by t old new ys
  events-append xs ys =
      ap (λ zs. map (event_of write) (filter tells zs)) (map-append TableTrigger.trigger xs ys)
      ∙ ap (map (event_of write)) (filter-append tells (map TableTrigger.trigger xs) (map TableTrigger.trigger ys))
      ∙ map-append (event_of write) (filter tells (map TableTrigger.trigger xs)) (filter tells (map TableTrigger.trigger ys))

  -- a trigger that records the write, and one that leaves it out
  pub from-told : (i : ℕ) → i < length t.triggers → out_at i ≡ false → from i ≡ event_at i ∷ from (i + 1)
  from-told i lt out = ap (events_by t old new) (drop_more t.triggers i no_trigger lt) ∙ one_more (trigger_at i) (drop (i + 1) t.triggers) false out

  upto-next : (i : ℕ) → i < length t.triggers → upto (i + 1) ≡ upto i ++ events_by t old new (trigger_at i ∷ [])
  upto-next i lt = ap (events_by t old new) (take_more t.triggers i no_trigger lt) ∙ events-append (take i t.triggers) (trigger_at i ∷ [])

  upto-left_out : (i : ℕ) → i < length t.triggers → out_at i ≡ true → upto (i + 1) ≡ upto i
  upto-left_out i lt out = upto-next i lt ∙ ap (λ es. upto i ++ es) (one_more (trigger_at i) [] true out) ∙ append-nil (upto i)

  upto-told : (i : ℕ) → i < length t.triggers → out_at i ≡ false → upto (i + 1) ≡ upto i ++ event_at i ∷ []
  upto-told i lt out = upto-next i lt ∙ ap (λ es. upto i ++ es) (one_more (trigger_at i) [] false out)

  -- what the code reads of the trigger at a place: whether it leaves out the write, and its event
  pub read-out : (i : ℕ) (x : Trigger) (columns : List Column) (r b : Bool) → x ≡ (trigger_at i).trigger → columns ≡ t.columns → r ≡ leaves_out x columns old new → r ≡ b → out_at i ≡ b
  read-out i x columns r b its same is one = sym (λ j. leaves_out (its j) (same j) old new) ∙ sym is ∙ one

  pub read-event : (i : ℕ) (x : Trigger) (name : List ℕ) (columns : List Column) (event : RowEvent) → x ≡ (trigger_at i).trigger → name ≡ t.name → columns ≡ t.columns
      → event ≡ event_of (record { table = name; columns = columns; old = old; new = new }) x → event ≡ event_at i
  read-event i x name columns event its named same is = is ∙ (λ j. event_of (record { table = named j; columns = same j; old = old; new = new }) (its j))

  -- ---- how many events of the first triggers are of a queue

  pub count-left_out : (queue i count : ℕ) → i < length t.triggers → out_at i ≡ true → count ≡ count_of queue (upto i) → count ≡ count_of queue (upto (i + 1))
  count-left_out queue i count lt out is = is ∙ ap (count_of queue) (sym (upto-left_out i lt out))

  counted-told : (queue i : ℕ) → i < length t.triggers → out_at i ≡ false
      → count_of queue (upto (i + 1)) ≡ (if (trigger_at i).trigger.queue == queue then count_of queue (upto i) + 1 else count_of queue (upto i))
  counted-told queue i lt out = ap (count_of queue) (upto-told i lt out) ∙ count-more queue (upto i) (event_at i)

  -- one that records the write by an event of the queue, and one whose event would be of another one
  pub count-told : (queue i count : ℕ) → i < length t.triggers → out_at i ≡ false → (trigger_at i).trigger.queue ≡ queue → count ≡ count_of queue (upto i) → count + 1 ≡ count_of queue (upto (i + 1))
  count-told queue i count lt out its is =
      let yes : ((trigger_at i).trigger.queue == queue) ≡ true = grind (arith, nat_tests) in
      ap (λ n. n + 1) is ∙ ap (λ b. if b then count_of queue (upto i) + 1 else count_of queue (upto i)) (sym yes) ∙ sym (counted-told queue i lt out)

  pub count-other : (queue i count : ℕ) → i < length t.triggers → (trigger_at i).trigger.queue ≢ queue → count ≡ count_of queue (upto i) → count ≡ count_of queue (upto (i + 1))
  count-other queue i count lt other is = by (out_at i) refl
    where
      no : ((trigger_at i).trigger.queue == queue) ≡ false
      no = grind (arith, nat_tests)

      by : (out : Bool) → out_at i ≡ out → count ≡ count_of queue (upto (i + 1))
      by true out = count-left_out queue i count lt out is
      by false out = is ∙ ap (λ b. if b then count_of queue (upto i) + 1 else count_of queue (upto i)) (sym no) ∙ sym (counted-told queue i lt out)

  -- ---- whether there are ids: after the events of the first triggers, for those of the rest

  abbrev pub ids_from : (ℕ → ℕ) → ℕ → Bool
  ids_from seq i = ids_left (λ n. seq n + count_of n (upto i)) (from i)

  pub ids-told : (seq : ℕ → ℕ) (i : ℕ) → i < length t.triggers → out_at i ≡ false → seq (trigger_at i).trigger.queue + count_of (trigger_at i).trigger.queue (upto i) + 1 < 2 ^ 62
      → ids_from seq i ≡ ids_from seq (i + 1)
  ids-told seq i lt out room =
      let few : nat_le (2 ^ 62) (seq (trigger_at i).trigger.queue + count_of (trigger_at i).trigger.queue (upto i) + 1) ≡ false = grind (arith, nat_tests) in
      ap (ids_left (λ n. seq n + count_of n (upto i))) (from-told i lt out)
      ∙ ap (λ b. not b && ids_left (changed_at (event_at i).queue (λ n. n + 1) (λ n. seq n + count_of n (upto i))) (from (i + 1))) few
      ∙ ap (λ f. ids_left f (from (i + 1))) (raised-more seq (upto i) (event_at i))
      ∙ ap (λ es. ids_left (λ n. seq n + count_of n es) (from (i + 1))) (sym (upto-told i lt out))

  pub from-left_out : (i : ℕ) → i < length t.triggers → out_at i ≡ true → from i ≡ from (i + 1)
  from-left_out i lt out = ap (events_by t old new) (drop_more t.triggers i no_trigger lt) ∙ one_more (trigger_at i) (drop (i + 1) t.triggers) true out

  -- none is left at the end
  pub from-end : (i : ℕ) → length t.triggers ≤ i → from i ≡ []
  from-end i end = ap (events_by t old new) (drop_all i t.triggers end)

  pub ids-left_out : (seq : ℕ → ℕ) (i : ℕ) → i < length t.triggers → out_at i ≡ true → ids_from seq i ≡ ids_from seq (i + 1)
  ids-left_out seq i lt out =
      ap (ids_left (λ n. seq n + count_of n (upto i))) (from-left_out i lt out) ∙ ap (λ es. ids_left (λ n. seq n + count_of n es) (from (i + 1))) (sym (upto-left_out i lt out))

-- ---- events stored

-- after it there are ids for the rest
pub ids-rest : (queues : List QueueView) (now : ℤ) (txid : ℕ) (e : RowEvent) (es : List RowEvent) → e.queue < length queues → ids_left (sequences queues) (e ∷ es) ≡ true
    → ids_left (sequences (slice_set queues e.queue (telling now txid e (get_or queues e.queue no_queue)))) es ≡ true
ids-rest queues now txid e es lt ids = ap (λ f. ids_left f es) (λ i n. pointwise n i) ∙ (and_parts _ _ ids).1
  where
    by : (n : ℕ) (b : Bool) → (e.queue == n) ≡ b → QueueView.seq (if b then telling now txid e (get_or queues e.queue no_queue) else get_or queues n no_queue)
        ≡ (if b then sequences queues n + 1 else sequences queues n)
    by n true same = let one : e.queue ≡ n = grind (arith, nat_tests) in ap (λ m. sequences queues m + 1) one
    by n false other = refl

    pointwise : (n : ℕ) → sequences (slice_set queues e.queue (telling now txid e (get_or queues e.queue no_queue))) n ≡ changed_at e.queue (λ m. m + 1) (sequences queues) n
    pointwise n = ap QueueView.seq (get_or-slice_set queues e.queue n (telling now txid e (get_or queues e.queue no_queue)) lt) ∙ by n (e.queue == n) refl

-- a queue that takes its event back is as it was
taken-back : (queues : List QueueView) (i : ℕ) (x : QueueView) → slice_set (slice_set queues i x) i (get_or queues i no_queue) ≡ queues
taken-back queues i x = set-set queues i x (get_or queues i no_queue) ∙ set-get_or queues i no_queue

-- the queue at a place
pub found-at : (queues : List QueueView) (q n : ℕ) (found : QueueView) → q ≡ n → q < length queues → found ≡ get_or queues q found → found ≡ get_or queues n no_queue
found-at queues q n found same lt is = get_or_read queues q found lt is no_queue ∙ ap (λ m. get_or queues m no_queue) same

-- for the next event there is an id
pub room-next : (queues : List QueueView) (e : RowEvent) (es : List RowEvent) (q : ℕ) (was : QueueView) → q ≡ e.queue → q < length queues → was ≡ get_or queues q was → ids_left (sequences queues) (e ∷ es) ≡ true → was.seq + 1 < 2 ^ 62
room-next queues e es q was there lt found room =
    let few : not (nat_le (2 ^ 62) (sequences queues e.queue + 1)) ≡ true = (and_parts _ _ room).0 in
    let here : was.seq ≡ sequences queues e.queue = ap QueueView.seq (found-at queues q e.queue was there lt found) in
    grind (arith, nat_tests)

-- the next event is stored in its queue
pub told-there : (queues : List QueueView) (now at : ℤ) (txid q : ℕ) (event e : RowEvent) (was is : QueueView) → q ≡ e.queue → event ≡ e → at ≡ now → q < length queues → was ≡ get_or queues q was
    → is ≡ telling at txid event was → slice_set queues q is ≡ slice_set queues e.queue (telling now txid e (get_or queues e.queue no_queue))
told-there queues now at txid q event e was is there same time lt found told = λ i. slice_set queues (there i) (new i)
  where
    new : is ≡ telling now txid e (get_or queues e.queue no_queue)
    new = told ∙ (λ i. telling (time i) txid (same i) (found-at queues q e.queue was there lt found i))

-- and that queue has it
pub told-here : (queues told : List QueueView) (now : ℤ) (txid q : ℕ) (e : RowEvent) (was : QueueView) → q ≡ e.queue → q < length queues → q < length told
    → told ≡ slice_set queues e.queue (telling now txid e (get_or queues e.queue no_queue)) → was ≡ get_or told q was → was ≡ telling now txid e (get_or queues e.queue no_queue)
told-here queues told now txid q e was there lt low after found =
    found-at told q e.queue was there low found ∙ ap (λ xs. get_or xs e.queue no_queue) after
    ∙ get_or-set_same queues e.queue (telling now txid e (get_or queues e.queue no_queue)) no_queue (subst (λ n. n < length queues) there lt)

pub told-some : (queues told : List QueueView) (now : ℤ) (txid q : ℕ) (e : RowEvent) (was : QueueView) → q ≡ e.queue → q < length queues → q < length told
    → told ≡ slice_set queues e.queue (telling now txid e (get_or queues e.queue no_queue)) → was ≡ get_or told q was → (m : ℤ) × (t : ℕ) × (x : RowEvent) × (old : QueueView) × (was ≡ telling m t x old)
told-some queues told now txid q e was there lt low after found = (now, txid, e, get_or queues e.queue no_queue, told-here queues told now txid q e was there lt low after found)

-- until it takes it back
pub back-there : (queues told : List QueueView) (now : ℤ) (txid q : ℕ) (e : RowEvent) (was is : QueueView) → q ≡ e.queue → told ≡ slice_set queues e.queue (telling now txid e (get_or queues e.queue no_queue))
    → was ≡ telling now txid e (get_or queues e.queue no_queue) → ((m : ℤ) (t : ℕ) (event : RowEvent) (old : QueueView) → was ≡ telling m t event old → is ≡ old) → slice_set told q is ≡ queues
back-there queues told now txid q e was is there after here back =
    (λ i. slice_set (after i) (there i) (back now txid e (get_or queues e.queue no_queue) here i)) ∙ taken-back queues e.queue (telling now txid e (get_or queues e.queue no_queue))

-- ---- a whole write

-- they are the same if the next trigger leaves out the write
pub told-rest : {A E : Type 0} (r : Result A E) (t : TracedView) (old new : Option (List Val)) (i : ℕ) (queues told : List QueueView) (now at : ℤ) (txid : ℕ) → at ≡ now → from t old new i ≡ from t old new (i + 1)
    → OnOk r (told ≡ telling_all at txid (from t old new (i + 1)) queues) → OnOk r (told ≡ telling_all now txid (from t old new i) queues)
told-rest (Err e) t old new i queues told now at txid time same is = tt
told-rest (Ok a) t old new i queues told now at txid time same is = is ∙ (λ j. telling_all (time j) txid (sym same j) queues)

-- as many queues stand after events as before
pub telling-length : (now : ℤ) (txid : ℕ) (es : List RowEvent) (queues : List QueueView) → length (telling_all now txid es queues) ≡ length queues
telling-length now txid [] queues = refl
telling-length now txid (e ∷ es) queues =
    let next : QueueView = telling now txid e (get_or queues e.queue no_queue) in
    telling-length now txid es (slice_set queues e.queue next) ∙ length-set queues e.queue next

-- the queues that stood stand after an event
pub told-stand : (queues : List QueueView) (i : ℕ) (was is : QueueView) (now : ℤ) (txid : ℕ) (event : RowEvent) → i < length queues → was ≡ get_or queues i was → Stands queues i → is ≡ telling now txid event was → StillStand queues (slice_set queues i is)
told-stand queues i was is now txid event lt at stands told = goes-alike queues i was is lt at stands (ap QueueView.ticks told) (ap QueueView.subs told)

-- the queues are then as the rule says
pub wrote-as : {A E : Type 0} (r : Result A E) (v now : QueuesView) (queues : List QueueView) (at : ℤ) (txid table : ℕ) (old new : Option (List Val)) (t : TracedView) → v ≡ now → at ≡ v.time
    → Some t ≡ traced_at now table → OnOk r (queues ≡ telling_all at txid (table_events t old new) v.queues)
    → OnOk r (record v { queues = queues } ≡ event_rule.after now txid (record { table = table; old = old; new = new }))
wrote-as (Err e) v now queues at txid table old new t same time found is = tt
wrote-as (Ok a) v now queues at txid table old new t same time found is =
    (λ i. record v { queues = is i })
    ∙ (λ i. record v { queues = telling_all (time i) txid (table_events t old new) v.queues })
    ∙ (λ i. record (same i) { queues = telling_all (same i).time txid (events_at (found i) (record { table = table; old = old; new = new })) (same i).queues })
