-- What stays as it was, beside the queue that a call changes or looks at.
use Rattle.std.proofs.Common.{◌≡◌, ℕ, List, length, ◌+◌, ◌-◌, ◌<◌, ◌≤◌, ◌^◌, Bool, true, false, ◌==◌, Result, Ok, Err, IfOk, OnOk, get_or, slice_set, get_or-set_same, refl, sym, ◌∙◌, ap, arith, if◌then◌else◌}
use Rattle.std.proofs.lemmas.List.{get_or_read}
use Rattle.sky_names.specs.Named.{NamedView}
use Rattle.sky_model.specs.State.{Queue}
use Rattle.sky_model.specs.Triggers.{TableTrigger}
use Rattle.pgq_queue.specs.Views.{QueueView}
use Rattle.pgq_queues.specs.Views.{QueuesView}
use Rattle.pgq_queue.specs.Seen.{no_queue, seen_queue}
use Rattle.pgq_queues.specs.Seen.{queue_at, reads_at, seen_with, Stands, Beside}
use Rattle.pgq_queues.specs.Batches.{StillStand}
use Rattle.pgq_queues.specs.Traced.{KeepsRest}
use Rattle.pgq_queues.proofs.Marked.{get_or-slice_set, queues-set, queue-at}
use Rattle.pgq_queues.proofs.TracedLists.{stays-alike, stand-set, stand-shown, stands-kept}

-- what is kept with the queues
pub rest-kept : (v now new : QueuesView) → v ≡ now → new.time ≡ v.time → new.triggers ≡ v.triggers → new.traced_tables ≡ v.traced_tables → new.rounds ≡ v.rounds → KeepsRest now new
rest-kept v now new same time triggers tables rounds = record {
  time = time ∙ ap QueuesView.time same;
  triggers = triggers ∙ ap QueuesView.triggers same;
  traced_tables = tables ∙ ap QueuesView.traced_tables same;
  rounds = rounds ∙ ap QueuesView.rounds same;
}

-- all of it, if names and queues are what they were
pub slots-same : (v now : QueuesView) (names : NamedView ℕ) (queues : List QueueView) → v ≡ now → names ≡ v.names → queues ≡ v.queues → record v { names = names; queues = queues } ≡ now
slots-same v now names queues same named is = (λ j. record v { names = named j; queues = is j }) ∙ same

-- what is shown, if the triggers are the same, whatever is kept of their tables
pub triggers-same : (v now : QueuesView) (ts : List TableTrigger) → v ≡ now → ts ≡ v.triggers → (beside : Beside) → seen_with beside (record v { triggers = ts }) ≡ seen_with beside now
triggers-same v now ts same is beside = ap (λ (xs : List TableTrigger). seen_with beside (record v { triggers = xs })) is ∙ ap (seen_with beside) same

-- ---- a queue has changed, with the ticks and subscriptions that it had

pub alike-still : (v now : QueuesView) (i : ℕ) (old new : QueueView) → v ≡ now → Stands now.queues i → i < length v.queues → old ≡ get_or v.queues i old → new.ticks ≡ old.ticks → new.subs ≡ old.subs
    → StillStand now.queues (slice_set v.queues i new)
alike-still v now i old new same stands lt at ticks subs = stand-shown v now (slice_set v.queues i new) same (stand-set v.queues i old new (stands-kept v now i same stands) lt at (stays-alike old new ticks subs))

-- ---- events of a queue were looked at

abbrev pub WasLookedAt : QueueView → QueueView → Type 0
WasLookedAt old new = new ≡ record old { event_tables = record old.event_tables { reads = new.event_tables.reads } }

pub looked-same : (v now : QueuesView) (i : ℕ) (old new : QueueView) → v ≡ now → i < length v.queues → old ≡ get_or v.queues i old → WasLookedAt old new
    → (beside : Beside) → seen_with beside (record v { queues = slice_set v.queues i new }) ≡ seen_with beside now
looked-same v now i old new same lt at but beside =
    queues-set v now i old new (λ q. q) same lt at (ap seen_queue but) (ap QueueView.subs but) beside ∙ (λ j. record (seen_with beside now) { queue = λ n. by n (i == n) j })
  where
    by : (n : ℕ) (b : Bool) → (if b then queue_at now n else queue_at now n) ≡ queue_at now n
    by n true = refl
    by n false = refl

pub looked-still : (v now : QueuesView) (i : ℕ) (old new : QueueView) → v ≡ now → Stands now.queues i → i < length v.queues → old ≡ get_or v.queues i old → WasLookedAt old new → StillStand now.queues (slice_set v.queues i new)
looked-still v now i old new same stands lt at but = alike-still v now i old new same stands lt at (ap QueueView.ticks but) (ap QueueView.subs but)

-- what is shown of it is what was
pub shown-there : (queues : List QueueView) (i : ℕ) (old new : QueueView) → i < length queues → WasLookedAt old new → seen_queue old ≡ seen_queue (get_or (slice_set queues i new) i no_queue)
shown-there queues i old new lt but = sym (ap seen_queue (get_or-set_same queues i new no_queue lt) ∙ ap seen_queue but)

-- no event of another queue was looked at
pub reads-others : (v now : QueuesView) (i : ℕ) (new : QueueView) → v ≡ now → i < length v.queues → (n : ℕ) → (i == n) ≡ false → reads_at (slice_set v.queues i new) n ≡ reads_at now.queues n
reads-others v now i new same lt n other =
    ap (λ (q : QueueView). q.event_tables.reads) (get_or-slice_set v.queues i n new lt)
    ∙ ap (λ (b : Bool). (QueueView.event_tables (if b then new else get_or v.queues n no_queue)).reads) other
    ∙ ap (λ (w : QueuesView). reads_at w.queues n) same

-- how many of its own were, by what was found
module _ {A E : Type 0} (r : Result A E) (v now : QueuesView) (i : ℕ) (old new : QueueView) (same : v ≡ now) (lt : i < length v.queues) (at : old ≡ get_or v.queues i old) where
  reads-there : reads_at (slice_set v.queues i new) i ≡ new.event_tables.reads
  reads-there = ap (λ (q : QueueView). q.event_tables.reads) (get_or-set_same v.queues i new no_queue lt)

  reads-before : old.event_tables.reads ≡ reads_at now.queues i
  reads-before = ap (λ (q : QueueView). q.event_tables.reads) (get_or_read v.queues i old lt at no_queue) ∙ ap (λ (w : QueuesView). reads_at w.queues i) same

  pub reads-least : (count : A → Queue → ℕ) → IfOk r (λ a. new.event_tables.reads < 2 ^ 64 - 1 → count a (seen_queue old) + old.event_tables.reads ≤ new.event_tables.reads)
      → IfOk r (λ a. reads_at (slice_set v.queues i new) i < 2 ^ 64 - 1 → count a (queue_at now i) + reads_at now.queues i ≤ reads_at (slice_set v.queues i new) i)
  reads-least count is = by r is
    where
      by : (o : Result A E) → IfOk o (λ a. new.event_tables.reads < 2 ^ 64 - 1 → count a (seen_queue old) + old.event_tables.reads ≤ new.event_tables.reads)
          → IfOk o (λ a. reads_at (slice_set v.queues i new) i < 2 ^ 64 - 1 → count a (queue_at now i) + reads_at now.queues i ≤ reads_at (slice_set v.queues i new) i)
      by (Err e) holds = tt
      by (Ok a) holds = λ few.
          let counted : count a (seen_queue old) ≡ count a (queue_at now i) = ap (count a) (queue-at v now i old same lt at) in
          let before = reads-before in
          let there = reads-there in
          let least = holds (omega (arith, few, there)) in
          omega (arith, counted, before, there, least)

  pub reads-most : (bound : Queue → ℕ) → OnOk r (new.event_tables.reads ≤ old.event_tables.reads + bound (seen_queue old))
      → OnOk r (reads_at (slice_set v.queues i new) i ≤ reads_at now.queues i + bound (queue_at now i))
  reads-most bound is = by r is
    where
      by : (o : Result A E) → OnOk o (new.event_tables.reads ≤ old.event_tables.reads + bound (seen_queue old)) → OnOk o (reads_at (slice_set v.queues i new) i ≤ reads_at now.queues i + bound (queue_at now i))
      by (Err e) holds = tt
      by (Ok a) holds =
          let bounded : bound (seen_queue old) ≡ bound (queue_at now i) = ap bound (queue-at v now i old same lt at) in
          let before = reads-before in
          let there = reads-there in
          omega (arith, bounded, before, there, holds)
