-- What queues show after a rollback, after the switches that a commit makes, and after second steps; and what still holds.
use Rattle.std.proofs.Common.{◌≡◌, ℕ, suc, ℤ, ◌+◌, ◌<◌, ◌≤◌, List, [], ◌∷◌, Bool, true, false, ◌==◌, map, filter, take, length, length-append, get_or, slice_set, get_or-set_same, get_or-set_other, refl, sym, ◌∙◌, ap, subst, arith, if◌then◌else◌}
use Rattle.std.specs.Prelude.{is_none}
use Rattle.std.proofs.lemmas.Bool.Decides.{nat_tests}
use Rattle.std.proofs.lemmas.List.{take_more, length-set}
use Rattle.std.proofs.lemmas.List.Elements.{All-cons, All-head, All-tail, filter-append}
use Rattle.std.specs.List.{All}
use Rattle.pgq_tables.specs.Tables.{with_second_step}
use Rattle.pgq_retry.specs.declared.retry.Retry.{Retry}
use Rattle.sky_names.specs.Named.{NamedView, value_of}
use Rattle.sky_model.specs.History.{Mark, QueueMark, queued, switched, second_step}
use Rattle.sky_model.specs.Queues.{NamedQueue, is_pending, without_transaction}
use Rattle.sky_model.specs.State.{Queue, Database, changed_at, with_tables, after_switch, after_mark, after_marks}
use Rattle.sky_model.specs.StepRotation.{switches_by, second_steps, lack_second_step}
use Rattle.pgq_queue.specs.Views.{QueueView}
use Rattle.pgq_queues.specs.Views.{QueuesView}
use Rattle.pgq_queue.specs.Seen.{no_queue, seen_queue}
use Rattle.pgq_queues.specs.Seen.{numbered, unnamed, queues_of, queue_at, seen_with, Stands, Beside}
use Rattle.pgq_queues.specs.Numbers.{Rise, AreNumbers}
use Rattle.pgq_queues.specs.Batches.{StillStand}
use Rattle.pgq_queue.specs.Stored.{RetriedAtMost, AllStored}
use Rattle.pgq_queues.specs.Retried.{RetriedWithin}
use Rattle.pgq_queue.specs.Changed.{retabled, undone_in, switched_in, settled_in, ended_in}
use Rattle.pgq_queues.specs.Rotated.{each_changed}
use Rattle.pgq_queue.proofs.AllStored.{stored-without, stored-switched}
use Rattle.pgq_queues.proofs.Slotted.{any-default, undone-get}
use Rattle.pgq_queues.proofs.Marked.{get_or-slice_set, batches-same, queues-set, queue-kept}
use Rattle.pgq_queues.proofs.TracedLists.{there, goes-then, Stays, some-above, stand-set}
use Rattle.pgq_queues.proofs.Waiting.{set-either, retried-still}

-- ---- a rollback

undone-length : (t : ℕ) (queues : List QueueView) → length (map (undone_in t) queues) ≡ length queues
undone-length t [] = refl
undone-length t (q ∷ qs) = ap suc (undone-length t qs)

pub undone-stand : (queues new : List QueueView) (t : ℕ) → new ≡ map (undone_in t) queues → StillStand queues new
undone-stand queues new t is = subst (StillStand queues) (sym is) (record {
  stands = λ n stands. subst (λ (q : QueueView). 0 < length q.ticks) (sym (undone-get t queues n)) stands;
  gone = λ n none. undone-get t queues n ∙ ap (undone_in t) none;
  subs = λ n consumer. ap (λ (q : QueueView). value_of consumer q.subs) (undone-get t queues n);
})

pub undone-retried : {rounds : ℕ} → (queues new : List QueueView) (t : ℕ) (rs : List Retry) → new ≡ map (undone_in t) queues → RetriedWithin rounds queues rs → RetriedWithin rounds new rs
undone-retried {rounds} queues new t rs is within =
    retried-still queues new rs (undone-stand queues new t is)
    (λ all n. subst (λ (q : QueueView). AllStored (RetriedAtMost rounds) q.event_tables.tables) (sym (ap (λ qs. get_or qs n no_queue) is ∙ undone-get t queues n)) (stored-without (RetriedAtMost rounds) t (get_or queues n no_queue).event_tables.tables (all n))) within

pub undone-as : (v now : QueuesView) (queues : List QueueView) (t : ℕ) → v ≡ now → queues ≡ map (undone_in t) v.queues
    → (beside : Beside) → seen_with beside (record v { queues = queues }) ≡ record (seen_with beside now) { queue = λ n. with_tables (without_transaction t) (queue_at now n) }
undone-as v now queues t same is beside =
    (λ i. record (seen_with beside v) {
      queues_made = (ap length is ∙ undone-length t v.queues) i;
      queue = λ n. ap seen_queue (ap (λ qs. get_or qs n no_queue) is ∙ undone-get t v.queues n) i;
      batch = batches-same v.queues queues v.batches (undone-stand v.queues queues t is).subs i;
    })
    ∙ ap (λ (w : QueuesView). record (seen_with beside w) { queue = λ n. with_tables (without_transaction t) (queue_at w n) }) same

pub undone-whole : (v now : QueuesView) (queues : List QueueView) (t : ℕ) → v ≡ now → queues ≡ map (undone_in t) v.queues → record v { queues = queues } ≡ record now { queues = map (undone_in t) now.queues }
undone-whole v now queues t same is = (λ i. record v { queues = is i }) ∙ ap (λ (w : QueuesView). record w { queues = map (undone_in t) w.queues }) same

-- ---- each of some queues is changed

each-bound : {rounds : ℕ} → (f : QueueView → QueueView) → ((q : QueueView) → AllStored (RetriedAtMost rounds) q.event_tables.tables → AllStored (RetriedAtMost rounds) (f q).event_tables.tables) → (ns : List ℕ) (queues : List QueueView)
    → ((n : ℕ) → AllStored (RetriedAtMost rounds) (get_or queues n no_queue).event_tables.tables) → (n : ℕ) → AllStored (RetriedAtMost rounds) (get_or (each_changed f ns queues) n no_queue).event_tables.tables
each-bound f goes [] queues all n = all n
each-bound {rounds} f goes (m ∷ ms) queues all n =
    each-bound f goes ms (slice_set queues m (f (get_or queues m no_queue)))
    (λ k. set-either (λ q. AllStored (RetriedAtMost rounds) q.event_tables.tables) queues m k (f (get_or queues m no_queue)) (goes (get_or queues m no_queue) (all m)) (all k)) n

each-retried : {rounds : ℕ} → (f : QueueView → QueueView) → ((q : QueueView) → AllStored (RetriedAtMost rounds) q.event_tables.tables → AllStored (RetriedAtMost rounds) (f q).event_tables.tables) → (ns : List ℕ) (queues new : List QueueView) (rs : List Retry)
    → StillStand queues new → new ≡ each_changed f ns queues → RetriedWithin rounds queues rs → RetriedWithin rounds new rs
each-retried {rounds} f goes ns queues new rs still is within =
    retried-still queues new rs still (λ all. subst (λ qs. (n : ℕ) → AllStored (RetriedAtMost rounds) (get_or qs n no_queue).event_tables.tables) (sym is) (each-bound f goes ns queues all)) within

-- one more that stays, and then the others
pub each-still : (queues new : List QueueView) (n : ℕ) (old q : QueueView) → Stands queues n → n < length queues → old ≡ get_or queues n old → Stays old q → StillStand (slice_set queues n q) new → StillStand queues new
each-still queues new n old q stands lt at stays rest = goes-then queues (slice_set queues n q) new (stand-set queues n old q stands lt at stays) rest

-- ---- a change that leaves a queue that isn't there as it is: of those that stand, it is one of all

-- those of numbers that rise leave one below them as it was
each-below : (f : QueueView → QueueView) (n low : ℕ) (ns : List ℕ) (queues : List QueueView) → n < low → Rise low ns → get_or (each_changed f ns queues) n no_queue ≡ get_or queues n no_queue
each-below f n low [] queues lt rise = refl
each-below f n low (m ∷ ms) queues lt rise =
    let first = rise.0 in
    let other : n ≡ m → ⊥ = λ e. omega (arith, e, lt, first) in
    each-below f n (suc m) ms (slice_set queues m (f (get_or queues m no_queue))) (omega (arith, lt, first)) rise.1
    ∙ get_or-set_other queues m n (f (get_or queues m no_queue)) no_queue other

each-at : (f : QueueView → QueueView) → f no_queue ≡ no_queue → (low : ℕ) (ns : List ℕ) (queues : List QueueView) (n : ℕ) → Rise low ns → All (λ m. m < length queues) ns
    → (All (λ m. (m == n) ≡ false) ns → get_or queues n no_queue ≡ no_queue) → get_or (each_changed f ns queues) n no_queue ≡ f (get_or queues n no_queue)
each-at f keeps low [] queues n rise inside rest =
    let none : get_or queues n no_queue ≡ no_queue = rest (λ k d lt. absurd (omega (arith, lt))) in
    none ∙ sym keeps ∙ ap f (sym none)
each-at f keeps low (m ∷ ms) queues n rise inside rest =
    let long = length-set queues m here in
    by (m == n) refl (each-at f keeps (suc m) ms (slice_set queues m here) n rise.1 (λ k d low. let few = All-tail (λ j. j < length queues) m ms inside k d low in omega (arith, few, long)))
  where
    here : QueueView
    here = f (get_or queues m no_queue)

    lt : m < length queues
    lt = All-head (λ k. k < length queues) m ms inside

    by : (b : Bool) → (m == n) ≡ b
        → ((All (λ k. (k == n) ≡ false) ms → get_or (slice_set queues m here) n no_queue ≡ no_queue) → get_or (each_changed f ms (slice_set queues m here)) n no_queue ≡ f (get_or (slice_set queues m here) n no_queue))
        → get_or (each_changed f ms (slice_set queues m here)) n no_queue ≡ f (get_or queues n no_queue)
    by true e later =
        let one : m ≡ n = grind (arith, nat_tests) in
        each-below f n (suc m) ms (slice_set queues m here) (omega (arith, one)) rise.1
        ∙ ap (λ k. get_or (slice_set queues m here) k no_queue) (sym one)
        ∙ get_or-set_same queues m here no_queue lt
        ∙ ap (λ k. f (get_or queues k no_queue)) one
    by false e later =
        let other : n ≡ m → ⊥ = grind (arith, nat_tests) in
        let same = get_or-set_other queues m n here no_queue other in
        later (λ apart. same ∙ rest (All-cons (λ k. (k == n) ≡ false) m ms e apart)) ∙ ap f same

each-length : (f : QueueView → QueueView) (ns : List ℕ) (queues : List QueueView) → length (each_changed f ns queues) ≡ length queues
each-length f [] queues = refl
each-length f (m ∷ ms) queues = each-length f ms (slice_set queues m (f (get_or queues m no_queue))) ∙ length-set queues m (f (get_or queues m no_queue))

-- as many queues, the same at each number
same-queues : (one other : List QueueView) → length one ≡ length other → ((n : ℕ) → get_or one n no_queue ≡ get_or other n no_queue) → one ≡ other
same-queues [] [] long at = refl
same-queues [] (y ∷ ys) long at = absurd (omega (arith, long))
same-queues (x ∷ xs) [] long at = absurd (omega (arith, long))
same-queues (x ∷ xs) (y ∷ ys) long at = λ i. at 0 i ∷ same-queues xs ys (omega (arith, long)) (λ n. at (suc n)) i

-- so a rollback in those that stand is one in all
pub undone-each : (t : ℕ) (names : NamedView ℕ) (queues : List QueueView) → AreNumbers names queues → each_changed (undone_in t) names.values queues ≡ map (undone_in t) queues
undone-each t names queues are =
    same-queues _ _ (each-length (undone_in t) names.values queues ∙ sym (undone-length t queues))
    (λ n. each-at (undone_in t) refl 0 names.values queues n are.rise (λ k d lt. there queues _ (are.stand k d lt)) (are.others n) ∙ sym (undone-get t queues n))

-- those of some queues' marks that a test of the queues picks
abbrev marks_for : (Queue → Bool) → (ℕ → QueueMark) → (ℕ → Queue) → List NamedQueue → List Mark
marks_for p mark at [] = []
marks_for p mark at (q ∷ qs) = if p (at q.number) then queued (mark q.number) ∷ marks_for p mark at qs else marks_for p mark at qs

record IsMarked (f : QueueView → QueueView) (p : Queue → Bool) (g : Queue → Queue) (mark : ℕ → QueueMark) : Type 0 where
  yes : (q : QueueView) → p (seen_queue q) ≡ true → seen_queue (f q) ≡ g (seen_queue q)
  no : (q : QueueView) → p (seen_queue q) ≡ false → f q ≡ q
  subs : (q : QueueView) → (f q).subs ≡ q.subs
  marks : (d : Database) (n : ℕ) → record d { queue = changed_at n g d.queue } ≡ after_mark d (queued (mark n))

-- the first by number, and then the others, which it leaves as they were
each-marked : (f : QueueView → QueueView) (p : Queue → Bool) (g : Queue → Queue) (mark : ℕ → QueueMark) → IsMarked f p g mark → (beside : Beside) (at : ℕ → Queue) (low : ℕ) (names : List (List ℕ)) (values : List ℕ) (w : QueuesView)
    → length values ≡ length names → Rise low values → ((k d : ℕ) → k < length values → get_or values k d < length w.queues) → ((n : ℕ) → low ≤ n → queue_at w n ≡ at n)
    → seen_with beside (record w { queues = each_changed f values w.queues }) ≡ after_marks (seen_with beside w) (marks_for p mark at (numbered names values))
each-marked f p g mark is beside at low [] [] w same rise inside those = refl
each-marked f p g mark is beside at low [] (n ∷ ns) w same rise inside those = absurd (omega (arith, same))
each-marked f p g mark is beside at low (x ∷ xs) [] w same rise inside those = refl
each-marked f p g mark is beside at low (x ∷ xs) (n ∷ ns) w same rise inside those =
    each-marked f p g mark is beside at (suc n) xs ns next (omega (arith, same)) rise.1 still others ∙ by (p (at n)) refl
  where
    first : low ≤ n
    first = rise.0

    lt : n < length w.queues
    lt = inside 0 n (omega arith)

    old : QueueView
    old = get_or w.queues n no_queue

    here : old ≡ get_or w.queues n old
    here = any-default w.queues n no_queue old lt

    next : QueuesView
    next = record w { queues = slice_set w.queues n (f old) }

    others : (m : ℕ) → suc n ≤ m → queue_at next m ≡ at m
    others m above =
        let apart : (n == m) ≡ false = grind (arith, nat_tests, above) in
        ap seen_queue (get_or-slice_set w.queues n m (f old) lt ∙ ap (λ b. if b then f old else get_or w.queues m no_queue) apart) ∙ those m (omega (arith, first, above))

    still : (k d : ℕ) → k < length ns → get_or ns k d < length next.queues
    still k d low = let was : get_or ns k d < length w.queues = inside (suc k) d (omega (arith, low)) in let size = length-set w.queues n (f old) in omega (arith, was, size)

    by : (b : Bool) → p (at n) ≡ b → after_marks (seen_with beside next) (marks_for p mark at (numbered xs ns))
        ≡ after_marks (seen_with beside w) (if b then queued (mark n) ∷ marks_for p mark at (numbered xs ns) else marks_for p mark at (numbered xs ns))
    by true e =
        ap (λ d. after_marks d (marks_for p mark at (numbered xs ns)))
        (queues-set w w n old (f old) g refl lt here (is.yes old (ap p (those n first) ∙ e)) (is.subs old) beside ∙ is.marks (seen_with beside w) n)
    by false e = ap (λ d. after_marks d (marks_for p mark at (numbered xs ns))) (queue-kept w w n old (f old) refl here (is.no old (ap p (those n first) ∙ e)) beside)

-- so it is with all that stand
each-as : (f : QueueView → QueueView) (p : Queue → Bool) (g : Queue → Queue) (mark : ℕ → QueueMark) → IsMarked f p g mark → (v now : QueuesView) (queues : List QueueView) → v ≡ now → AreNumbers v.names v.queues
    → queues ≡ each_changed f v.names.values v.queues → (beside : Beside) → seen_with beside (record v { queues = queues }) ≡ after_marks (seen_with beside now) (marks_for p mark (queue_at now) (queues_of now))
each-as f p g mark is v now queues same are changed beside =
    ap (λ (qs : List QueueView). seen_with beside (record v { queues = qs })) changed
    ∙ each-marked f p g mark is beside (queue_at v) 0 v.names.names v.names.values v are.each are.rise (λ k d lt. there v.queues (get_or v.names.values k d) (are.stand k d lt)) (λ n low. refl)
    ∙ ap (λ (w : QueuesView). after_marks (seen_with beside w) (marks_for p mark (queue_at w) (queues_of w))) same

-- ---- the switches that a commit makes

settles : (t : ℕ) (now : ℤ) → IsMarked (settled_in t now) (λ q. is_pending t q.event_tables) (after_switch now) (λ n. switched n now)
settles t now = record {
  yes = λ q e. ap (λ b. seen_queue (if b then switched_in now q else q)) e;
  no = λ q e. ap (λ b. if b then switched_in now q else q) e;
  subs = λ q. subs q (is_pending t q.event_tables.tables);
  marks = λ d n. refl;
}
  where
    subs : (q : QueueView) (b : Bool) → QueueView.subs (if b then switched_in now q else q) ≡ q.subs
    subs q true = refl
    subs q false = refl

settled-marks : (d : Database) (now : ℤ) (t : ℕ) (qs : List NamedQueue) → marks_for (λ q. is_pending t q.event_tables) (λ n. switched n now) d.queue qs ≡ switches_by d now t qs
settled-marks d now t [] = refl
settled-marks d now t (q ∷ qs) = ap (λ ms. if is_pending t (d.queue q.number).event_tables then queued (switched q.number now) ∷ ms else ms) (settled-marks d now t qs)

pub settled-stays : (t : ℕ) (now : ℤ) (old new : QueueView) → new ≡ settled_in t now old → Stays old new
settled-stays t now old new is = subst (Stays old) (sym is) (by (is_pending t old.event_tables.tables))
  where
    by : (b : Bool) → Stays old (if b then switched_in now old else old)
    by true = record { ticks = λ lt. some-above _ old.ticks lt; subs = refl }
    by false = record { ticks = λ lt. lt; subs = refl }

pub settled-retried : {rounds : ℕ} → (t : ℕ) (now : ℤ) (ns : List ℕ) (queues new : List QueueView) (rs : List Retry) → StillStand queues new → new ≡ each_changed (settled_in t now) ns queues → RetriedWithin rounds queues rs → RetriedWithin rounds new rs
settled-retried {rounds} t now ns queues new rs still is within = each-retried (settled_in t now) (λ q all. by q (is_pending t q.event_tables.tables) all) ns queues new rs still is within
  where
    by : (q : QueueView) (b : Bool) → AllStored (RetriedAtMost rounds) q.event_tables.tables → AllStored (RetriedAtMost rounds) (QueueView.event_tables (if b then switched_in now q else q)).tables
    by q true all = stored-switched (RetriedAtMost rounds) now q.event_tables.tables all
    by q false all = all

pub settled-as : (v now : QueuesView) (queues : List QueueView) (t : ℕ) (time : ℤ) → v ≡ now → AreNumbers v.names v.queues → queues ≡ each_changed (settled_in t time) v.names.values v.queues
    → (beside : Beside) → seen_with beside (record v { queues = queues }) ≡ after_marks (seen_with beside now) (switches_by (seen_with beside now) time t (queues_of now))
settled-as v now queues t time same are is beside =
    each-as (settled_in t time) (λ q. is_pending t q.event_tables) (after_switch time) (λ n. switched n time) (settles t time) v now queues same are is beside
    ∙ ap (after_marks (seen_with beside now)) (settled-marks (seen_with beside now) time t (queues_of now))

-- ---- second steps

ends : (t : ℕ) → IsMarked (ended_in t) (λ q. is_none q.event_tables.second_step) (with_tables (with_second_step t)) (λ n. second_step n t)
ends t = record {
  yes = λ q e. ap (λ b. seen_queue (if b then retabled (with_second_step t) q else q)) e;
  no = λ q e. ap (λ b. if b then retabled (with_second_step t) q else q) e;
  subs = λ q. subs q (is_none q.event_tables.tables.second_step);
  marks = λ d n. refl;
}
  where
    subs : (q : QueueView) (b : Bool) → QueueView.subs (if b then retabled (with_second_step t) q else q) ≡ q.subs
    subs q true = refl
    subs q false = refl

ended-marks : (at : ℕ → Queue) (t : ℕ) (qs : List NamedQueue) → marks_for (λ q. is_none q.event_tables.second_step) (λ n. second_step n t) at qs ≡ second_steps t (filter (λ q. is_none (at q.number).event_tables.second_step) qs)
ended-marks at t [] = refl
ended-marks at t (q ∷ qs) = by (is_none (at q.number).event_tables.second_step) (ended-marks at t qs)
  where
    by : (b : Bool) → marks_for (λ x. is_none x.event_tables.second_step) (λ n. second_step n t) at qs ≡ second_steps t (filter (λ x. is_none (at x.number).event_tables.second_step) qs)
        → (if b then queued (second_step q.number t) ∷ marks_for (λ x. is_none x.event_tables.second_step) (λ n. second_step n t) at qs else marks_for (λ x. is_none x.event_tables.second_step) (λ n. second_step n t) at qs)
        ≡ second_steps t (if b then q ∷ filter (λ x. is_none (at x.number).event_tables.second_step) qs else filter (λ x. is_none (at x.number).event_tables.second_step) qs)
    by true rest = ap (λ ms. queued (second_step q.number t) ∷ ms) rest
    by false rest = rest

pub ended-retried : {rounds : ℕ} → (t : ℕ) (ns : List ℕ) (queues new : List QueueView) (rs : List Retry) → StillStand queues new → new ≡ each_changed (ended_in t) ns queues → RetriedWithin rounds queues rs → RetriedWithin rounds new rs
ended-retried {rounds} t ns queues new rs still is within = each-retried (ended_in t) (λ q all. by q (is_none q.event_tables.tables.second_step) all) ns queues new rs still is within
  where
    by : (q : QueueView) (b : Bool) → AllStored (RetriedAtMost rounds) q.event_tables.tables
        → AllStored (RetriedAtMost rounds) (QueueView.event_tables (if b then retabled (with_second_step t) q else q)).tables
    by q true all = all
    by q false all = all

pub ended-as : (v now : QueuesView) (queues : List QueueView) (t : ℕ) → v ≡ now → AreNumbers v.names v.queues → queues ≡ each_changed (ended_in t) v.names.values v.queues
    → (beside : Beside) → seen_with beside (record v { queues = queues }) ≡ after_marks (seen_with beside now) (second_steps t (lack_second_step (seen_with beside now)))
ended-as v now queues t same are is beside =
    each-as (ended_in t) (λ q. is_none q.event_tables.second_step) (with_tables (with_second_step t)) (λ n. second_step n t) (ends t) v now queues same are is beside
    ∙ ap (after_marks (seen_with beside now)) (ended-marks (queue_at now) t (queues_of now))

-- ---- how many lack the second step

abbrev pub lacks : QueuesView → NamedQueue → Bool
lacks v q = is_none (queue_at v q.number).event_tables.second_step

-- one more queue is counted, or not
counted : (v : QueuesView) (place : ℕ) (b : Bool) → place < length (queues_of v) → lacks v (get_or (queues_of v) place unnamed) ≡ b
    → length (filter (lacks v) (take (place + 1) (queues_of v))) ≡ (if b then length (filter (lacks v) (take place (queues_of v))) + 1 else length (filter (lacks v) (take place (queues_of v))))
counted v place b lt e =
    ap (λ qs. length (filter (lacks v) qs)) (take_more (queues_of v) place unnamed lt)
    ∙ ap length (filter-append (lacks v) (take place (queues_of v)) (get_or (queues_of v) place unnamed ∷ []))
    ∙ length-append (filter (lacks v) (take place (queues_of v))) (filter (lacks v) (get_or (queues_of v) place unnamed ∷ []))
    ∙ ap (λ c. length (filter (lacks v) (take place (queues_of v))) + length (if c then get_or (queues_of v) place unnamed ∷ [] else [])) e
    ∙ by b
  where
    by : (c : Bool) → length (filter (lacks v) (take place (queues_of v))) + length (if c then get_or (queues_of v) place unnamed ∷ [] else [])
        ≡ (if c then length (filter (lacks v) (take place (queues_of v))) + 1 else length (filter (lacks v) (take place (queues_of v))))
    by true = refl
    by false = omega arith
