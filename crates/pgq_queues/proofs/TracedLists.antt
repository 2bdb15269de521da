-- The tables with triggers that a database keeps, after one of them changed.
use Rattle.std.proofs.lemmas.List.{append-nil, get_or_read}
use Rattle.std.proofs.Common.{◌≡◌, ℕ, zero, suc, ◌<◌, length-append, Bool, true, false, ◌==◌, List, [], ◌∷◌, ◌++◌, Option, Some, None, Result, Ok, Err, IfOk, OnErr, is_some, length, map, get_or, slice_set, get_or-set_other, get_or-set_same, option_map, nat_cmp, cond, refl, sym, ◌∙◌, ap, subst, arith, if◌then◌else◌}
use Rattle.std.proofs.lemmas.Bool.Decides.{nat_tests}
use Rattle.std.proofs.lemmas.List.Elements.{All-cons, All-append, filter-append}
use Rattle.std.proofs.lemmas.Map.Made.{lookup-map_values}
use Rattle.std.proofs.Math.ListN.{get_or-append}
use Rattle.std.proofs.Math.Seq.{get_or-append_seam}
use Rattle.std.specs.List.{All, remove, position}
use Rattle.std.specs.Prelude.{slice_get, IfSome, IfNone, ◌||◌, ◌-◌, ℤ}
use Rattle.std.specs.BTreeMap.{is_at}
use Rattle.std.specs.Map.{lookup}
use Rattle.sky_val.specs.declared.column.Column.{Column}
use Rattle.sky_model.specs.History.{queued, untraced}
use Rattle.sky_model.specs.Triggers.{TableTrigger, is_sets, but_sets, triggers_of}
use Rattle.sky_model.specs.State.{RowPart, after_mark}
use Rattle.pgq_queue.specs.Views.{QueueView}
use Rattle.pgq_queues.specs.Views.{TracedTableView, TracedView, QueuesView}
use Rattle.pgq_queue.specs.Seen.{no_queue, seen_queue}
use Rattle.pgq_queues.specs.Seen.{sub_at, Stands, kept, seen_with, Beside}
use Rattle.pgq_queues.specs.Traced.{no_trigger, triggers_at, traced_by, traced_at, places_without, places_of, ArePlaced, TracedWithin, IsTable, IsTraced, AreTables}
use Rattle.pgq_queues.specs.declared.batch.Place.{Place}
use Rattle.sky_names.specs.Named.{NamedView}
use Rattle.pgq_sub.specs.Seen.{no_subs}
use Rattle.sky_model.specs.Queues.{Tick, newest_tick, id_of, is_above, ticks_above, second_step_of}
use Rattle.pgq_tick.proofs.TickLists.{newest_tick-at, some-filter}
use Rattle.pgq_queue.specs.Changed.{switched_in}
use Rattle.pgq_queues.specs.Batches.{StillStand, open_id, AreIndexed, BatchesWithin}
use Rattle.pgq_queues.specs.Numbers.{AreNumbers}
use Rattle.pgq_queues.proofs.NumberedQueues.{numbers-more, numbers-removed, stands-there}
use Rattle.pgq_queues.proofs.Places.{places-own, places-within, places-more, places-removed, sets-removed, none-left, none-removed, all-removed}
use Rattle.pgq_queues.proofs.Marked.{kept-updated, get_or-slice_set, sub_at-set, sub_at-more, no-subs, sub_at-gone}

-- what is under one number has changed
abbrev pub Updated : List (ℕ × TracedTableView) → List (ℕ × TracedTableView) → ℕ → Option TracedTableView → Type 0
Updated old new n o = (q : ℕ) → lookup (is_at (nat_cmp q)) new ≡ cond (is_at (nat_cmp n) q) o (lookup (is_at (nat_cmp q)) old)

-- ---- queues that change, and what stays true of them

-- a queue that stands is there
pub there : (queues : List QueueView) (n : ℕ) → Stands queues n → n < length queues
there [] n stands = absurd (omega (arith, stands))
there (q ∷ qs) zero stands = omega arith
there (q ∷ qs) (suc n) stands = let low = there qs n stands in omega (arith, low)

pub goes-same : (old new : List QueueView) → new ≡ old → StillStand old new
goes-same old new same = record { stands = λ n s. subst (λ qs. Stands qs n) (sym same) s; gone = λ n none. ap (λ qs. get_or qs n no_queue) same ∙ none; subs = λ n c. ap (λ qs. sub_at qs n c) same }

pub goes-then : (one two three : List QueueView) → StillStand one two → StillStand two three → StillStand one three
goes-then one two three first rest = record { stands = λ n s. rest.stands n (first.stands n s); gone = λ n none. rest.gone n (first.gone n none); subs = λ n c. rest.subs n c ∙ first.subs n c }

-- one queue has changed, and stands
pub stands-set : (queues : List QueueView) (i : ℕ) (new : QueueView) → i < length queues → 0 < length new.ticks → (n : ℕ) → Stands queues n → Stands (slice_set queues i new) n
stands-set queues i new lt ticks n s = subst (λ (q : QueueView). 0 < length q.ticks) (sym (get_or-slice_set queues i n new lt)) (still (i == n) refl)
  where
    still : (b : Bool) → (i == n) ≡ b → 0 < length (QueueView.ticks (if b then new else get_or queues n no_queue))
    still true e = ticks
    still false e = s

-- and one that wasn't there isn't
pub gone-set : (queues : List QueueView) (i : ℕ) (new : QueueView) → i < length queues → Stands queues i → (n : ℕ) → get_or queues n no_queue ≡ no_queue → get_or (slice_set queues i new) n no_queue ≡ no_queue
gone-set queues i new lt stands n none = get_or-slice_set queues i n new lt ∙ still (i == n) refl
  where
    still : (b : Bool) → (i == n) ≡ b → (if b then new else get_or queues n no_queue) ≡ no_queue
    still true e =
        let one : i ≡ n = grind (arith, nat_tests) in
        let ticks = subst (λ (q : QueueView). 0 < length q.ticks) (ap (λ k. get_or queues k no_queue) one ∙ none) stands in
        absurd (omega (arith, ticks))
    still false e = none

-- if its ticks and its subscriptions stay
pub ticks-kept : (queues : List QueueView) (i : ℕ) (old new : QueueView) → i < length queues → old ≡ get_or queues i old → Stands queues i → new.ticks ≡ old.ticks → 0 < length new.ticks
ticks-kept queues i old new lt at stands ticks = subst (λ ts. 0 < length ts) (ap QueueView.ticks (sym (get_or_read queues i old lt at no_queue)) ∙ sym ticks) stands

pub goes-alike : (queues : List QueueView) (i : ℕ) (old new : QueueView) → i < length queues → old ≡ get_or queues i old → Stands queues i → new.ticks ≡ old.ticks → new.subs ≡ old.subs → StillStand queues (slice_set queues i new)
goes-alike queues i old new lt at stands ticks subs = record {
  stands = stands-set queues i new lt (ticks-kept queues i old new lt at stands ticks);
  gone = gone-set queues i new lt stands;
  subs = sub_at-set queues i old new lt at subs;
}

-- one more queue
pub stands-more : (queues : List QueueView) (q : QueueView) (n : ℕ) → Stands queues n → Stands (queues ++ q ∷ []) n
stands-more queues q n s = subst (λ (x : QueueView). 0 < length x.ticks) (sym (get_or-append queues (q ∷ []) no_queue n (there queues n s))) s

-- the triggers' queues, those of batches, and the numbers
pub within-on : (old new : List QueueView) (triggers : List TableTrigger) (all : List (ℕ × TracedTableView)) → ((n : ℕ) → Stands old n → Stands new n) → TracedWithin old triggers all → TracedWithin new triggers all
within-on old new triggers all on within = record { stand = λ k d lt. on _ (within.stand k d lt); places = within.places }

indexed-on : (last : ℕ) (old new : List QueueView) (batches : List (ℕ × Place)) → ((n : ℕ) (consumer : List ℕ) → sub_at new n consumer ≡ sub_at old n consumer) → AreIndexed last (sub_at old) (kept batches)
    → AreIndexed last (sub_at new) (kept batches)
indexed-on last old new batches same are = subst (λ subs. AreIndexed last subs (kept batches)) (λ j n c. sym (same n c) j) are

pub batches-on : {last : ℕ} → (old new : List QueueView) (batches : List (ℕ × Place)) → ((n : ℕ) → Stands old n → Stands new n) → ((n : ℕ) (consumer : List ℕ) → sub_at new n consumer ≡ sub_at old n consumer)
    → BatchesWithin last old batches → BatchesWithin last new batches
batches-on {last} old new batches on subs within = record { indexed = indexed-on last old new batches subs within.indexed; stand = λ id p is. on _ (within.stand id p is) }

pub numbers-on : (old new : List QueueView) (names : NamedView ℕ) → ((n : ℕ) → Stands old n → Stands new n) → ((n : ℕ) → get_or old n no_queue ≡ no_queue → get_or new n no_queue ≡ no_queue) → AreNumbers names old → AreNumbers names new
numbers-on old new names on gone are = record { each = are.each; rise = are.rise; stand = λ k d lt. on _ (are.stand k d lt); others = λ n apart. gone n (are.others n apart) }

-- ---- the places of a table's triggers

triggers_of-more : (n : ℕ) (ts : List TableTrigger) (x : TableTrigger) → triggers_of n (ts ++ x ∷ []) ≡ triggers_of n ts ++ (if x.table == n then x ∷ [] else [])
triggers_of-more n ts x = filter-append (λ (t : TableTrigger). t.table == n) ts (x ∷ [])

-- one more trigger, of the table or of another
placed-more : (n : ℕ) (ts : List TableTrigger) (x : TableTrigger) (places : List ℕ) (b : Bool) → (x.table == n) ≡ b → ArePlaced ts n places
    → ArePlaced (ts ++ x ∷ []) n (places ++ (if b then length ts ∷ [] else []))
placed-more n ts x places b own are =
    (λ i. are i ++ (if sym own i then length ts ∷ [] else [])) ∙ sym (places-more 0 n ts x (length ts) (omega arith))

-- what is kept of a table may change but for its places
pub places-kept : (triggers : List TableTrigger) (old new : List (ℕ × TracedTableView)) (n : ℕ) (t : TracedTableView) → Updated old new n (Some t) → t.places ≡ places_of (kept old n)
    → ((m : ℕ) → ArePlaced triggers m (places_of (kept old m))) → (m : ℕ) → ArePlaced triggers m (places_of (kept new m))
places-kept triggers old new n t updates same placed m = subst (ArePlaced triggers m) (sym (ap places_of (kept-updated old new n (Some t) updates m) ∙ by (n == m) refl)) (placed m)
  where
    by : (b : Bool) → (n == m) ≡ b → places_of (if b then Some t else kept old m) ≡ places_of (kept old m)
    by true e = let one : n ≡ m = grind (arith, nat_tests) in same ∙ ap (λ k. places_of (kept old k)) one
    by false e = refl

-- or have the place of one more trigger
pub placed-trigger : (ts : List TableTrigger) (x : TableTrigger) (old new : List (ℕ × TracedTableView)) (n : ℕ) (t : TracedTableView) → Updated old new n (Some t) → x.table ≡ n
    → t.places ≡ places_of (kept old n) ++ length ts ∷ []
    → ((m : ℕ) → ArePlaced ts m (places_of (kept old m))) → (m : ℕ) → ArePlaced (ts ++ x ∷ []) m (places_of (kept new m))
placed-trigger ts x old new n t updates its more placed m = subst (λ o. ArePlaced (ts ++ x ∷ []) m (places_of o)) (sym (kept-updated old new n (Some t) updates m)) (by (n == m) refl)
  where
    by : (b : Bool) → (n == m) ≡ b → ArePlaced (ts ++ x ∷ []) m (places_of (if b then Some t else kept old m))
    by true e =
        let one : n ≡ m = grind (arith, nat_tests) in
        subst (ArePlaced (ts ++ x ∷ []) m) (sym (more ∙ ap (λ k. places_of (kept old k) ++ length ts ∷ []) one))
        (placed-more m ts x (places_of (kept old m)) true (grind (arith, nat_tests)) (placed m))
    by false e =
        subst (ArePlaced (ts ++ x ∷ []) m) (append-nil (places_of (kept old m)))
        (placed-more m ts x (places_of (kept old m)) false (grind (arith, nat_tests)) (placed m))

-- the places that are kept of a table are its own
pub placed-at : (ts : List TableTrigger) (all : List (ℕ × TracedTableView)) (n : ℕ) (o : Option TracedTableView) → o ≡ kept all n → ((m : ℕ) → ArePlaced ts m (places_of (kept all m)))
    → ArePlaced ts n (places_of o)
placed-at ts all n o is placed = subst (λ x. ArePlaced ts n (places_of x)) (sym is) (placed n)

-- they are there, and at them are its triggers
pub placed-within : (ts : List TableTrigger) (n : ℕ) (places : List ℕ) → ArePlaced ts n places → All (λ place. place < length ts) places
placed-within ts n places are = subst (All (λ place. place < length ts)) (sym are) (λ k d lt. let low = places-within 0 n ts k d lt in omega (arith, low))

placed-own : (ts : List TableTrigger) (n : ℕ) (places : List ℕ) → ArePlaced ts n places → triggers_at ts places ≡ triggers_of n ts
placed-own ts n places are = ap (triggers_at ts) are ∙ places-own n ts

-- the queues of triggers are there, and so are those of a table's
pub at-queues : (queues : List QueueView) (ts : List TableTrigger) (places : List ℕ) → All (λ (t : TableTrigger). Stands queues t.trigger.queue) ts → All (λ place. place < length ts) places
    → All (λ (t : TableTrigger). Stands queues t.trigger.queue) (triggers_at ts places)
at-queues queues ts [] all within = λ k d lt. absurd (omega arith)
at-queues queues ts (p ∷ ps) all within =
    All-cons (λ (t : TableTrigger). Stands queues t.trigger.queue) (get_or ts p no_trigger) (triggers_at ts ps) (all p no_trigger (within 0 0 (omega arith)))
    (at-queues queues ts ps all (λ k d lt. within (suc k) d (omega (arith, lt))))

pub queues-more : (queues : List QueueView) (xs : List TableTrigger) (x : TableTrigger) → All (λ (y : TableTrigger). Stands queues y.trigger.queue) xs → Stands queues x.trigger.queue
    → All (λ (y : TableTrigger). Stands queues y.trigger.queue) (xs ++ x ∷ [])
queues-more queues xs x all lt =
    All-append (λ (y : TableTrigger). Stands queues y.trigger.queue) xs (x ∷ []) all (All-cons (λ (y : TableTrigger). Stands queues y.trigger.queue) x [] lt (λ k d low. absurd (omega arith)))

-- what is kept of the triggers and their tables, if nothing was added to them
pub traced-kept : (queues : List QueueView) (ts triggers : List TableTrigger) (old new : List (ℕ × TracedTableView)) (n : ℕ) (t was : TracedTableView) → ts ≡ triggers → Updated old new n (Some t)
    → Some was ≡ kept old n → t ≡ was → TracedWithin queues triggers old → TracedWithin queues ts new
traced-kept queues ts triggers old new n t was same updates at is within =
    subst (λ xs. TracedWithin queues xs new) (sym same) (record {
      stand = within.stand;
      places = places-kept triggers old new n t updates (ap TracedTableView.places is ∙ ap places_of at) within.places;
    })

-- if a table was added that has no trigger
nothing-kept : (o : Option TracedTableView) → is_some o ≡ false → [] ≡ places_of o
nothing-kept None e = refl
nothing-kept (Some t) e = absurd (cc)

pub traced-new : (queues : List QueueView) (triggers : List TableTrigger) (old new : List (ℕ × TracedTableView)) (n : ℕ) (t : TracedTableView) → Updated old new n (Some t) → is_some (kept old n) ≡ false
    → t.places ≡ [] → TracedWithin queues triggers old → TracedWithin queues triggers new
traced-new queues triggers old new n t updates absent none within = record {
  stand = within.stand;
  places = places-kept triggers old new n t updates (none ∙ nothing-kept (kept old n) absent) within.places;
}

-- that is kept then
pub kept-there : (old new : List (ℕ × TracedTableView)) (n : ℕ) (t : TracedTableView) → Updated old new n (Some t) → is_some (kept new n) ≡ true
kept-there old new n t updates =
    let same : (n == n) ≡ true = grind (arith, nat_tests) in
    ap is_some (kept-updated old new n (Some t) updates n ∙ ap (λ b. if b then Some t else kept old n) same)

-- and if a trigger was added
pub traced-more : (queues : List QueueView) (triggers ts more : List TableTrigger) (x : TableTrigger) (old new : List (ℕ × TracedTableView)) (n place : ℕ) (t was : TracedTableView)
    → ts ≡ triggers → more ≡ ts ++ x ∷ [] → Updated old new n (Some t) → x.table ≡ n → Some was ≡ kept old n → t ≡ record was { places = was.places ++ place ∷ [] } → place ≡ length ts
    → Stands queues x.trigger.queue → TracedWithin queues triggers old → TracedWithin queues more new
traced-more queues triggers ts more x old new n place t was same is updates its at with at_end low within =
    subst (λ xs. TracedWithin queues xs new) (sym (is ∙ ap (λ xs. xs ++ x ∷ []) same)) (record {
      stand = queues-more queues triggers x within.stand low;
      places = placed-trigger triggers x old new n t updates its (ap TracedTableView.places with ∙ (λ i. places_of (at i) ++ (at_end ∙ ap length same) i ∷ [])) within.places;
    })

-- ---- that names and columns are kept of tables

-- if what is kept of a table has changed, and only triggers of it may have been added, each other table is as it was
tables-where : (v : QueuesView) (ts : List TableTrigger) (new : List (ℕ × TracedTableView)) (n : ℕ) (t : TracedTableView) → Updated v.traced_tables new n (Some t)
    → ((m : ℕ) → (n == m) ≡ false → triggers_of m ts ≡ triggers_of m v.triggers) → (part : RowPart) → IsTable part n t.name t.columns → AreTables part v → (m : ℕ) → IsTraced part m ts (kept new m)
tables-where v ts new n t updates same part here are m = subst (IsTraced part m ts) (sym (kept-updated v.traced_tables new n (Some t) updates m)) (by (n == m) refl)
  where
    other : (o : Option TracedTableView) → triggers_of m ts ≡ triggers_of m v.triggers → IsTraced part m v.triggers o → IsTraced part m ts o
    other None alike is = alike ∙ is
    other (Some x) alike is = is

    by : (b : Bool) → (n == m) ≡ b → IsTraced part m ts (if b then Some t else kept v.traced_tables m)
    by true e = let one : n ≡ m = grind (arith, nat_tests) in subst (λ k. IsTable part k t.name t.columns) one here
    by false e = other (kept v.traced_tables m) (same m e) (are m)

-- a table that is there
table-there : (part : RowPart) (n : ℕ) (ts : List TableTrigger) (was : TracedTableView) (o : Option TracedTableView) → Some was ≡ o → IsTraced part n ts o → IsTable part n was.name was.columns
table-there part n ts was o at is = subst (IsTraced part n ts) (sym at) is

-- a table was added
pub tables-new : (v now : QueuesView) (new : List (ℕ × TracedTableView)) (n : ℕ) (t : TracedTableView) (name : List ℕ) (columns : List Column) → v ≡ now → Updated v.traced_tables new n (Some t)
    → t.name ≡ name → t.columns ≡ columns → (part : RowPart) → IsTable part n name columns → AreTables part now → (m : ℕ) → IsTraced part m v.triggers (kept new m)
tables-new v now new n t name columns same updates named of_columns part here are =
    tables-where v v.triggers new n t updates (λ m other. refl) part (here.0 ∙ ap Some (sym named), here.1 ∙ sym of_columns) (subst (AreTables part) (sym same) are)

-- what is kept of a table stays true if it stays as it was
pub tables-still : (v now : QueuesView) (ts : List TableTrigger) (new : List (ℕ × TracedTableView)) (n : ℕ) (t was : TracedTableView) → v ≡ now → ts ≡ v.triggers → Updated v.traced_tables new n (Some t)
    → Some was ≡ kept v.traced_tables n → t ≡ was → (part : RowPart) → AreTables part now → (m : ℕ) → IsTraced part m ts (kept new m)
tables-still v now ts new n t was same alike updates at is part are =
    tables-where v ts new n t updates (λ m other. ap (triggers_of m) alike) part
    (subst (λ (x : TracedTableView). IsTable part n x.name x.columns) (sym is) (table-there part n v.triggers was (kept v.traced_tables n) at (before n))) before
  where
    before : AreTables part v
    before = subst (AreTables part) (sym same) are

-- or a trigger of a table was added
pub tables-more : (v now : QueuesView) (more : List TableTrigger) (new : List (ℕ × TracedTableView)) (n : ℕ) (x : TableTrigger) (t was : TracedTableView) → v ≡ now → more ≡ v.triggers ++ x ∷ [] → x.table ≡ n
    → Updated v.traced_tables new n (Some t) → Some was ≡ kept v.traced_tables n → t.name ≡ was.name → t.columns ≡ was.columns → (part : RowPart) → AreTables part now → (m : ℕ) → IsTraced part m more (kept new m)
tables-more v now more new n x t was same is its updates at named of_columns part are =
    tables-where v more new n t updates alike part (here.0 ∙ ap Some (sym named), here.1 ∙ sym of_columns) before
  where
    before : AreTables part v
    before = subst (AreTables part) (sym same) are

    here : IsTable part n was.name was.columns
    here = table-there part n v.triggers was (kept v.traced_tables n) at (before n)

    alike : (m : ℕ) → (n == m) ≡ false → triggers_of m more ≡ triggers_of m v.triggers
    alike m other =
        let apart : (x.table == m) ≡ false = ap (λ k. k == m) its ∙ other in
        ap (triggers_of m) is ∙ triggers_of-more m v.triggers x
        ∙ ap (λ b. triggers_of m v.triggers ++ (if b then x ∷ [] else [])) apart
        ∙ append-nil (triggers_of m v.triggers)

-- ---- a table with its triggers

-- the table that is found
pub traced-found : (v now : QueuesView) (n : ℕ) (slice : List TableTrigger) (t : TracedTableView) (found : TracedView) → v ≡ now → slice ≡ v.triggers → Some t ≡ kept v.traced_tables n
    → found ≡ traced_by (triggers_at slice t.places) t → ((m : ℕ) → ArePlaced v.triggers m (places_of (kept v.traced_tables m))) → Some found ≡ traced_at now n
traced-found v now n slice t found same all at is placed =
    ap Some is
    ∙ ap (λ ts. Some (traced_by (triggers_at ts t.places) t)) all
    ∙ ap (λ own. Some (traced_by own t)) (placed-own v.triggers n t.places (placed-at v.triggers v.traced_tables n (Some t) at placed))
    ∙ ap (option_map (traced_by (triggers_of n v.triggers))) at
    ∙ ap (λ (w : QueuesView). traced_at w n) same

-- the queues of its triggers are there
pub found-within : (v now : QueuesView) (n : ℕ) (slice : List TableTrigger) (t : TracedTableView) (found : TracedView) → v ≡ now → slice ≡ v.triggers → Some t ≡ kept v.traced_tables n
    → found ≡ traced_by (triggers_at slice t.places) t → TracedWithin v.queues v.triggers v.traced_tables → All (λ (x : TableTrigger). Stands now.queues x.trigger.queue) found.triggers
found-within v now n slice t found same all at is within =
    subst (λ (w : QueuesView). All (λ (x : TableTrigger). Stands w.queues x.trigger.queue) found.triggers) same
    (subst (All (λ (x : TableTrigger). Stands v.queues x.trigger.queue)) (sym (ap TracedView.triggers is ∙ ap (λ ts. triggers_at ts t.places) all))
    (at-queues v.queues v.triggers t.places within.stand (placed-within v.triggers n t.places (placed-at v.triggers v.traced_tables n (Some t) at within.places))))

-- one of which nothing is kept has none
pub none-found : (v now : QueuesView) (n : ℕ) (o : Option TracedTableView) → v ≡ now → o ≡ kept v.traced_tables n → o ≡ None → ((m : ℕ) → ArePlaced v.triggers m (places_of (kept v.traced_tables m)))
    → triggers_of n now.triggers ≡ []
none-found v now n o same at none placed =
    ap (λ (w : QueuesView). triggers_of n w.triggers) (sym same)
    ∙ sym (placed-own v.triggers n (places_of o) (placed-at v.triggers v.traced_tables n o at placed)) ∙ ap (λ x. triggers_at v.triggers (places_of x)) none

pub if-none : {A : Type 0} → (o : Option A) (P : Type 0) → P → IfNone o P
if-none None P is = is
if-none (Some a) P is = tt

-- ---- what holds of all queues, when one of them changes

-- a queue that stood stands, with the subscriptions that it had
pub record Stays (old new : QueueView) : Type 0 where
  pub ticks : 0 < length old.ticks → 0 < length new.ticks
  pub subs : new.subs ≡ old.subs

pub stays-alike : (old new : QueueView) → new.ticks ≡ old.ticks → new.subs ≡ old.subs → Stays old new
stays-alike old new ticks subs = record { ticks = λ lt. subst (λ ts. 0 < length ts) (sym ticks) lt; subs = subs }

-- with one more tick
pub stays-ticked : (old new : QueueView) (t : Tick) → new ≡ record old { ticks = old.ticks ++ t ∷ [] } → Stays old new
stays-ticked old new t is = record {
  ticks = λ lt. subst (λ (q : QueueView). 0 < length q.ticks) (sym is) (omega (arith, length-append old.ticks (t ∷ [])));
  subs = ap QueueView.subs is;
}

pub stays-tick : {E : Type 0} (r : Result ℕ E) (old new : QueueView) (t : ℕ → Tick) → IfOk r (λ id. new ≡ record old { ticks = old.ticks ++ t id ∷ [] }) → OnErr r (new ≡ old) → Stays old new
stays-tick (Ok id) old new t ok err = stays-ticked old new (t id) ok
stays-tick (Err e) old new t ok err = stays-alike old new (ap QueueView.ticks err) (ap QueueView.subs err)

-- after a switch: it keeps the newest tick
pub some-above : (txid : ℕ) (ts : List Tick) → 0 < length ts → 0 < length (ticks_above txid ts)
some-above txid ts some =
    some-filter (λ t. is_above txid t || t.id == id_of (newest_tick ts)) ts
    (subst (λ o. IfSome o (λ t. (is_above txid t || t.id == id_of o) ≡ true)) (sym (newest_tick-at ts some)) (by (slice_get ts (length ts - 1)))) some
  where
    or_true : (b : Bool) → (b || true) ≡ true
    or_true true = refl
    or_true false = refl

    by : (o : Option Tick) → IfSome o (λ t. (is_above txid t || t.id == id_of o) ≡ true)
    by None = tt
    by (Some t) = let same : (t.id == t.id) ≡ true = grind (arith, nat_tests) in ap (λ b. is_above txid t || b) same ∙ or_true (is_above txid t)

pub stays-switched : (old new : QueueView) (now : ℤ) → new ≡ switched_in now old → Stays old new
stays-switched old new now is = record {
  ticks = λ lt. subst (λ (q : QueueView). 0 < length q.ticks) (sym is) (some-above (second_step_of old.event_tables.tables) old.ticks lt);
  subs = ap QueueView.subs is;
}

-- the queues that stood stand
pub stand-set : (queues : List QueueView) (i : ℕ) (old new : QueueView) → Stands queues i → i < length queues → old ≡ get_or queues i old → Stays old new → StillStand queues (slice_set queues i new)
stand-set queues i old new stands lt at stays = record {
  gone = gone-set queues i new lt stands;
  stands = stands-set queues i new lt (stays.ticks (subst (λ (q : QueueView). 0 < length q.ticks) (sym (get_or_read queues i old lt at no_queue)) stands));
  subs = sub_at-set queues i old new lt at stays.subs;
}

-- and what holds of all still holds
pub within-still : {last : ℕ} → (numbers : NamedView ℕ) (old new : List QueueView) (batches : List (ℕ × Place)) (triggers : List TableTrigger) (all : List (ℕ × TracedTableView)) → StillStand old new
    → AreNumbers numbers old × (BatchesWithin last old batches × TracedWithin old triggers all) → AreNumbers numbers new × (BatchesWithin last new batches × TracedWithin new triggers all)
within-still numbers old new batches triggers all still within =
    (numbers-on old new numbers still.stands still.gone within.0, (batches-on old new batches still.stands still.subs within.1.0, within-on old new triggers all still.stands within.1.1))

-- a queue stands in what is kept as in what is shown
pub stands-kept : (v now : QueuesView) (n : ℕ) → v ≡ now → Stands now.queues n → Stands v.queues n
stands-kept v now n same stands = subst (λ (w : QueuesView). Stands w.queues n) (sym same) stands

pub stand-shown : (v now : QueuesView) (new : List QueueView) → v ≡ now → StillStand v.queues new → StillStand now.queues new
stand-shown v now new same still = subst (λ (w : QueuesView). StillStand w.queues new) same still

-- one more queue, with its name
pub within-made : {last : ℕ} → (names : NamedView ℕ) (name : List ℕ) (number : ℕ) (old : List QueueView) (q : QueueView) (more : NamedView ℕ) (new : List QueueView) (batches : List (ℕ × Place)) (triggers : List TableTrigger)
    (all : List (ℕ × TracedTableView)) → more ≡ record { names = names.names ++ name ∷ []; values = names.values ++ number ∷ [] } → number ≡ length old → new ≡ old ++ q ∷ [] → 0 < length q.ticks → q.subs ≡ no_subs
    → AreNumbers names old × (BatchesWithin last old batches × TracedWithin old triggers all) → AreNumbers more new × (BatchesWithin last new batches × TracedWithin new triggers all)
within-made {last} names name number old q more new batches triggers all named is come ticks none within =
    let newest : Stands (old ++ q ∷ []) (length old) = subst (λ (x : QueueView). 0 < length x.ticks) (sym (get_or-append_seam old q [] no_queue)) ticks in
    let numbers = numbers-more names name old q ticks within.0 (λ k d lt. there old _ (within.0.stand k d lt)) (λ k d lt. still _ (within.0.stand k d lt)) newest in
    let whole : more ≡ record { names = names.names ++ name ∷ []; values = names.values ++ length old ∷ [] } = named ∙ ap (λ n. record { names = names.names ++ name ∷ []; values = names.values ++ n ∷ [] }) is in
    subst (λ qs. AreNumbers more qs × (BatchesWithin last qs batches × TracedWithin qs triggers all)) (sym come) (subst (λ (n : NamedView ℕ). AreNumbers n (old ++ q ∷ [])) (sym whole) numbers, (batches-on old (old ++ q ∷ []) batches still (sub_at-more old q none) within.1.0, within-on old (old ++ q ∷ []) triggers all still within.1.1))
  where
    still : (n : ℕ) → Stands old n → Stands (old ++ q ∷ []) n
    still = stands-more old q

-- one less
pub gone-apart : (queues : List QueueView) (n m : ℕ) → (n ≡ m → ⊥) → get_or (slice_set queues n no_queue) m no_queue ≡ get_or queues m no_queue
gone-apart queues n m other = get_or-set_other queues n m no_queue no_queue (λ e. other (sym e))

pub within-dropped : {last : ℕ} → (names : NamedView ℕ) (n place : ℕ) (old new : List QueueView) (less : NamedView ℕ) (batches : List (ℕ × Place)) (triggers : List TableTrigger) (all : List (ℕ × TracedTableView))
    → less ≡ record { names = remove names.names place; values = remove names.values place } → new ≡ slice_set old n no_queue → place < length names.names → slice_get names.values place ≡ Some n
    → (seen_queue (get_or old n no_queue)).members ≡ [] → All (λ t. (t.trigger.queue == n) ≡ false) triggers
    → AreNumbers names old × (BatchesWithin last old batches × TracedWithin old triggers all) → AreNumbers less new × (BatchesWithin last new batches × TracedWithin new triggers all)
within-dropped {last} names n place old new less batches triggers all named empty low at none untold within =
    subst (λ qs. AreNumbers less qs × (BatchesWithin last qs batches × TracedWithin qs triggers all)) (sym empty) (
      subst (λ (x : NamedView ℕ). AreNumbers x left) (sym named) (numbers-removed n place names old left within.0 low at stays (get_or-set_same old n no_queue no_queue there_is) (λ m other no. gone-apart old n m other ∙ no)),
      (
        record {
          indexed = indexed-on last old left batches (sub_at-gone old n there_is none) within.1.0.indexed;
          stand = λ id p is. stays p.queue (apart p.queue p.consumer id (within.1.0.indexed.there id p is)) (within.1.0.stand id p is);
        },
        record {
          stand = λ k d lt.
              let other : n ≡ (get_or triggers k d).trigger.queue → ⊥ = λ e.
              let no = untold k d lt in
              let yes : ((get_or triggers k d).trigger.queue == n) ≡ true = grind (arith, nat_tests) in
              absurd (cc) in
              stays _ other (within.1.1.stand k d lt);
          places = within.1.1.places;
        },
      ),
    )
  where
    left : List QueueView
    left = slice_set old n no_queue

    stays : (m : ℕ) → (n ≡ m → ⊥) → Stands old m → Stands left m
    stays m other stands = subst (λ (q : QueueView). 0 < length q.ticks) (sym (gone-apart old n m other)) stands

    there_is : n < length old
    there_is = there old n (stands-there names old place n within.0 at)

    apart : (m : ℕ) (consumer : List ℕ) (id : ℕ) → open_id (sub_at old m consumer) ≡ Some id → n ≡ m → ⊥
    apart m consumer id has same =
        let nothing : open_id (sub_at old m consumer) ≡ None = ap (λ k. open_id (sub_at old k consumer)) (sym same) ∙ ap open_id (no-subs (get_or old n no_queue).subs consumer none) in
        absurd (cc)

-- ---- a trigger that is gone

-- what is kept of tables once the trigger at a place is gone
abbrev pub moved : ℕ → TracedTableView → TracedTableView
moved gone t = record t { places = places_without gone t.places }

pub kept-moved : (gone : ℕ) (old new : List (ℕ × TracedTableView)) → new ≡ map (λ e. (e.0, moved gone e.1)) old → (n : ℕ) → kept new n ≡ option_map (moved gone) (kept old n)
kept-moved gone old new is n = ap (λ es. kept es n) is ∙ lookup-map_values (moved gone) (is_at (nat_cmp n)) old

places-moved : (gone : ℕ) (o : Option TracedTableView) → places_of (option_map (moved gone) o) ≡ places_without gone (places_of o)
places-moved gone None = refl
places-moved gone (Some t) = refl

pub traced-removed : (queues : List QueueView) (ts less : List TableTrigger) (place : ℕ) (old new : List (ℕ × TracedTableView)) → less ≡ remove ts place → place < length ts
    → new ≡ map (λ e. (e.0, moved place e.1)) old → TracedWithin queues ts old → TracedWithin queues less new
traced-removed queues ts less place old new is lt moves within =
    subst (λ xs. TracedWithin queues xs new) (sym is) (record {
      stand = all-removed (λ (t : TableTrigger). Stands queues t.trigger.queue) ts place within.stand;
      places = λ n. ap places_of (kept-moved place old new moves n) ∙ places-moved place (kept old n) ∙ ap (places_without place) (within.places n)
          ∙ places-removed place 0 n place ts (omega arith) lt;
    })

pub tables-removed : (v now : QueuesView) (less : List TableTrigger) (place : ℕ) (new : List (ℕ × TracedTableView)) → v ≡ now → less ≡ remove v.triggers place
    → new ≡ map (λ e. (e.0, moved place e.1)) v.traced_tables → (part : RowPart) → AreTables part now → (n : ℕ) → IsTraced part n less (kept new n)
tables-removed v now less place new same is moves part are n =
    subst (λ ts. IsTraced part n ts (kept new n)) (sym is) (subst (IsTraced part n (remove v.triggers place)) (sym (kept-moved place v.traced_tables new moves n)) (of (kept v.traced_tables n) (before n)))
  where
    before : AreTables part v
    before = subst (AreTables part) (sym same) are

    of : (o : Option TracedTableView) → IsTraced part n v.triggers o → IsTraced part n (remove v.triggers place) (option_map (moved place) o)
    of None none = none-removed n place v.triggers none
    of (Some t) there = there

-- triggers of a set on a table are removed, one after another
pub record Untracing (table : ℕ) (old new : QueuesView) : Type 0 where
  pub rest : new ≡ record old { triggers = new.triggers; traced_tables = new.traced_tables }
  pub left : but_sets table new.triggers ≡ but_sets table old.triggers
  pub tables : (part : RowPart) → AreTables part old → AreTables part new

pub untracing-next : (table place : ℕ) (old cur next : QueuesView) → Some place ≡ position (is_sets table) cur.triggers → next.triggers ≡ remove cur.triggers place
    → next ≡ record cur { triggers = next.triggers; traced_tables = next.traced_tables } → ((part : RowPart) → AreTables part cur → AreTables part next) → Untracing table old cur → Untracing table old next
untracing-next table place old cur next found removed rest tables is = record {
  rest = rest ∙ ap (λ (v : QueuesView). record v { triggers = next.triggers; traced_tables = next.traced_tables }) is.rest;
  left = ap (but_sets table) removed ∙ sets-removed table place cur.triggers (sym found) ∙ is.left;
  tables = λ part are. tables part (is.tables part are);
}

-- there is none any more
pub untraced-as : (table : ℕ) (old now : QueuesView) → None ≡ position (is_sets table) now.triggers → Untracing table old now
    → (beside : Beside) → seen_with beside now ≡ after_mark (seen_with beside old) (queued (untraced table))
untraced-as table old now none is beside =
    ap (seen_with beside) is.rest ∙ (λ i. record (seen_with beside old) { triggers = (sym (none-left table now.triggers (sym none)) ∙ is.left) i })
