-- The set of a root has one queue, and its trigger on each of its tables is the only trigger of that table into that queue.
use Rattle.std.proofs.Common.{◌≡◌, ℕ, ℤ, ◌<◌, ◌+◌, Bool, true, false, not, ◌&&◌, ◌==◌, List, [], ◌∷◌, ◌++◌, Option, Some, None, IfSome, All, is_some, filter, option_map, bytes_eq, refl, sym, ◌∙◌, ap, subst, arith, if◌then◌else◌, cond}
use Rattle.std.proofs.lemmas.Bool.Decides.{nat_tests}
use Rattle.std.proofs.lemmas.List.Elements.{All-nil, All-head, All-tail, All-push, All-weaker, All-filter}
use Rattle.sky_names.specs.Places.{named}
use Rattle.sky_names.proofs.PlaceLemmas.{bytes_eq_refl}
use Rattle.londiste_state.specs.Nodes.{Node}
use Rattle.sky_model.specs.History.{Mark, NodeMark, queued, made, put, raised, noded, root_made, set_added, set_removed, leaf_made, leaf_added, leaf_removed, History}
use Rattle.sky_model.specs.Nodes.{after_node, node, is_root, set_tables}
use Rattle.sky_model.specs.Queues.{NamedQueue, queues_made, queues, queue_number}
use Rattle.sky_model.specs.Rows.{table_names}
use Rattle.sky_model.specs.Triggers.{TableTrigger, is_sets, triggers}
use Rattle.sky_model.specs.StepNode.{set_trigger}
use Rattle.sky_model.specs.Settling.{marked}
use Rattle.sky_model.specs.LawsOfNodes.{is_one_of, triggers_into}
use Rattle.sky_histories.proofs.Legal.{queue_of_set, Fine, makes, makes_table, drops, traces, untraces, nodes, Legal, start, next, legal-below_mark, fine_mark}
use Rattle.sky_histories.proofs.Inserted.{none, with_raised, with_put}
use Rattle.sky_histories.proofs.NodeReadings.{IsSameNode, same-node, same-tables, set-other}
use Rattle.sky_histories.proofs.SetQueues.{set-made, set-dropped}
use Rattle.sky_histories.proofs.NodeTables.{one-kept, has-queue, HaveTables, have-tables}
use Rattle.sky_histories.proofs.QueueNumbers.{queue-below}
use Rattle.sky_histories.proofs.RowSights.{Since, here, later}
use Rattle.sky_model.proofs.Cases.{by_test}
use Rattle.sky_histories.proofs.Good.{same-session}
use Rattle.sky_laws_changes.proofs.PlainMarks.{Plain}
use Rattle.sky_laws_changes.proofs.TableWrites.{is_listed}
use Rattle.sky_laws_changes.proofs.Cuts.{write_of, Tracing, Cut, nothing, plain, writes, leaf_writes, inserts, returns, lists, unlists, roots, Events, node-events, told-only}

-- ---- the queue of the set

-- the queue of the set of a database's node
abbrev pub queue_at : History → Option ℕ
queue_at h = queue_of_set (queues h) (node h)

-- a root stays one, and its set keeps its queue
pub record KeepsSet (h g : History) : Type 0 where
  pub root : is_root (node g) ≡ true
  pub queue : queue_at g ≡ queue_at h

keeps-mark : (h : History) → Legal h → (mark : Mark) → Fine h mark → is_root (node h) ≡ true → KeepsSet h (mark ∷ h)
keeps-mark h l _ (nodes (root_made name queue) fits) root = absurd (cc (sym root ∙ ap is_root fits.0))
keeps-mark h l _ (nodes (leaf_made name provider tick) fits) root = absurd (cc (sym root ∙ ap is_root fits.0))
keeps-mark h l _ (nodes mark fits) root = record { root = (same-node mark refl (node h)).root ∙ root; queue = (same-node mark refl (node h)).set (queues h) }
keeps-mark h l _ (makes name t time new) root = record { root = root; queue = set-made (queues h) (record { number = queues_made h; name = name }) (node h) (has-queue h l) }
keeps-mark h l _ (drops p alone untold idle aside) root = record { root = root; queue = set-dropped (queues h) p (node h) (has-queue h l) aside }
keeps-mark h l _ _ root = record { root = root; queue = refl }

pub keeps-set : {p h : History} → Since p h → Legal h → is_root (node p) ≡ true → KeepsSet p h
keeps-set here l root = record { root = root; queue = refl }
keeps-set (later {h = h} {mark = mark} s) l root =
    let below : KeepsSet _ h = keeps-set s (legal-below_mark l) root in
    let step : KeepsSet h (mark ∷ h) = keeps-mark h (legal-below_mark l) mark (fine_mark l) below.root in
    record { root = step.root; queue = step.queue ∙ below.queue }

-- a node that is a root was one before a plain mark
pub root-before : (h : History) (mark : Mark) → Plain mark → is_root (node (mark ∷ h)) ≡ true → is_root (node h) ≡ true
root-before h (noded (root_made name queue)) is root = absurd is
root-before h (noded (set_added table)) is root = absurd is
root-before h (noded (set_removed table)) is root = absurd is
root-before h (noded (leaf_made name provider tick)) is root = absurd (cc)
root-before h (noded mark) is root = sym (same-node mark refl (node h)).root ∙ root
root-before h _ is root = root

-- ---- triggers

-- events leave these
pub triggers-events : (h : History) (marks : List Mark) → Events marks → triggers (marked h marks) ≡ triggers h
triggers-events h _ none = refl
triggers-events h _ (with_raised {ys = ys} queue value more) = triggers-events (queued (raised queue value) ∷ h) ys more
triggers-events h _ (with_put {ys = ys} queue event more) = triggers-events (queued (put queue event) ∷ h) ys more

pub legal-events : (h : History) (marks : List Mark) → Events marks → Legal (marked h marks) → Legal h
legal-events h _ none l = l
legal-events h _ (with_raised {ys = ys} queue value more) l = legal-below_mark (legal-events (queued (raised queue value) ∷ h) ys more l)
legal-events h _ (with_put {ys = ys} queue event more) l = legal-below_mark (legal-events (queued (put queue event) ∷ h) ys more l)

pub queue-events : (h : History) (marks : List Mark) → Events marks → queue_at (marked h marks) ≡ queue_at h
queue-events h _ none = refl
queue-events h _ (with_raised {ys = ys} queue value more) = queue-events (queued (raised queue value) ∷ h) ys more
queue-events h _ (with_put {ys = ys} queue event more) = queue-events (queued (put queue event) ∷ h) ys more

tracing-events : (h : History) (marks : List Mark) → Events marks → Tracing h → Tracing (marked h marks)
tracing-events h _ none s = s
tracing-events h _ (with_raised {ys = ys} queue value more) s = tracing-events (queued (raised queue value) ∷ h) ys more s
tracing-events h _ (with_put {ys = ys} queue event more) s = tracing-events (queued (put queue event) ∷ h) ys more s

filter-skips : {A : Type 0} (p : A → Bool) (xs : List A) (x : A) → p x ≡ false → filter p (xs ++ x ∷ []) ≡ filter p xs
filter-skips p [] x isnt = ap (λ b. if b then x ∷ [] else []) isnt
filter-skips p (y ∷ ys) x isnt =
    by_test (λ b. (if b then y ∷ filter p (ys ++ x ∷ []) else filter p (ys ++ x ∷ [])) ≡ (if b then y ∷ filter p ys else filter p ys)) (p y)
    (λ _. ap (λ zs. y ∷ zs) (filter-skips p ys x isnt)) (λ _. filter-skips p ys x isnt)

-- a mark that makes no node, and by which no table joins or leaves a set
abbrev pub leaves_set : NodeMark → Bool
leaves_set (root_made name queue) = false
leaves_set (leaf_made name provider tick) = false
leaves_set (set_added table) = false
leaves_set (set_removed table) = false
leaves_set _ = true

pub set-same : (mark : NodeMark) → leaves_set mark ≡ true → (n : Option Node) → set_tables (after_node mark n) ≡ set_tables n
set-same (root_made name queue) e n = absurd (cc)
set-same (leaf_made name provider tick) e n = absurd (cc)
set-same (set_added table) e n = absurd (cc)
set-same (set_removed table) e n = absurd (cc)
set-same (leaf_added table) e n = set-other _ n
set-same (leaf_removed table) e n = set-other _ n
set-same mark e n = (same-tables mark refl n).set

tracing-plain : (h : History) → Legal h → (mark : Mark) → Fine h mark → Plain mark → Tracing h → Tracing (mark ∷ h)
tracing-plain h l _ (nodes (root_made name queue) fits) is s = absurd is
tracing-plain h l _ (nodes (set_added table) fits) is s = absurd is
tracing-plain h l _ (nodes (set_removed table) fits) is s = absurd is
tracing-plain h l _ (nodes (leaf_made name provider tick) fits) is s =
    λ n. s n ∙ ap (λ m. if is_one_of (table_names h) (set_tables m) n then triggers_into n (queue_of_set (queues h) m) else []) fits.0
tracing-plain h l _ (nodes mark fits) is s =
    let same : IsSameNode (node h) (after_node mark (node h)) = same-node mark refl (node h) in
    let tables : set_tables (after_node mark (node h)) ≡ set_tables (node h) = set-same mark refl (node h) in
    λ n. s n ∙ sym (λ i. if is_one_of (table_names h) (tables i) n then triggers_into n (same.set (queues h) i) else [])
tracing-plain h l _ (makes name t time new) is s =
    λ n. s n ∙ sym (ap (λ o. if is_one_of (table_names h) (set_tables (node h)) n then triggers_into n o else []) (set-made (queues h) (record { number = queues_made h; name = name }) (node h) (has-queue h l)))
tracing-plain h l _ (drops p alone untold idle aside) is s =
    λ n. s n ∙ sym (ap (λ o. if is_one_of (table_names h) (set_tables (node h)) n then triggers_into n o else []) (set-dropped (queues h) p (node h) (has-queue h l) aside))
tracing-plain h l _ (traces table None trigger below at may) is s = absurd is
tracing-plain h l _ (traces table (Some name) trigger below at may) is s =
    λ n. filter-skips (is_sets n) (triggers h) (record { table = table; name = Some name; trigger = trigger }) (named-apart (table == n)) ∙ s n
  where
    named-apart : (b : Bool) → (b && false) ≡ false
    named-apart true = refl
    named-apart false = refl
tracing-plain h l _ (untraces table last) is s = absurd is
tracing-plain h l _ (makes_table name columns new) is s =
    let have : HaveTables (table_names h) (node h) = have-tables h l in
    λ n. s n ∙ sym (ap (λ b. if b then triggers_into n (queue_of_set (queues h) (node h)) else []) (one-kept (table_names h) (set_tables (node h)) name have.set n))
tracing-plain h l _ _ is s = s

-- so it is where a history is cut
pub cut-tracing : (h : History) → Cut h → Legal h → Tracing h
cut-tracing _ nothing l = λ n. refl
cut-tracing _ (plain {h = h} mark cut is) l = tracing-plain h (legal-below_mark l) mark (fine_mark l) is (cut-tracing h cut (legal-below_mark l))
cut-tracing _ (writes {h = h} who t table key old new time events cut told some held) l =
    let only : Events events = told-only h time (write_of who t table key old new) events told in
    tracing-events (write_of who t table key old new ∷ h) events only (cut-tracing h cut (legal-below_mark (legal-events (write_of who t table key old new ∷ h) events only l)))
cut-tracing _ (leaf_writes {h = h} whose t table key old new cut leaf) l = cut-tracing h cut (legal-below_mark l)
cut-tracing _ (inserts {h = h} q value e cut is) l = cut-tracing h cut (legal-below_mark (legal-below_mark l))
cut-tracing _ (returns {h = h} retry t moment cut) l = cut-tracing h cut (legal-below_mark (legal-below_mark l))
cut-tracing _ (lists name table q cut after) l = after
cut-tracing _ (unlists name table cut after) l = after
cut-tracing _ (roots {h = h} name queue t time cut bare) l =
    λ n. cut-tracing h cut (legal-below_mark (legal-below_mark l)) n ∙ ap (λ m. if is_one_of (table_names h) (set_tables m) n then triggers_into n (queue_of_set (queues h) m) else []) bare

-- ---- triggers with names are into other queues than the set's

-- each is into a queue that was made
made-before : (h : History) → Legal h → All (λ t. t.trigger.queue < queues_made h) (triggers h)
made-before _ start = All-nil (λ (t : TableTrigger). t.trigger.queue < 0)
made-before _ (next {h = h} l (makes name t time new)) =
    All-weaker (λ x. x.trigger.queue < queues_made h) (λ x. x.trigger.queue < queues_made h + 1) (λ x less. omega arith) (triggers h) (made-before h l)
made-before _ (next {h = h} l (traces table name trigger below at may)) =
    All-push (λ x. x.trigger.queue < queues_made h) (triggers h) (record { table = table; name = name; trigger = trigger }) (made-before h l) (queue-below h trigger.queue at)
made-before _ (next {h = h} l (untraces table last)) = All-filter (λ x. not (is_sets table x)) (λ x. x.trigger.queue < queues_made h) (triggers h) (made-before h l)
made-before _ (next {h = h} l _) = made-before h l

-- one with a name isn't into this queue
abbrev pub NamedElsewhere : ℕ → TableTrigger → Type 0
NamedElsewhere q t = is_some t.name ≡ true → (t.trigger.queue == q) ≡ false

pub new-number : (name : List ℕ) (xs : List NamedQueue) (number q : ℕ) → queue_number name xs ≡ None → queue_number name (xs ++ record { number = number; name = name } ∷ []) ≡ Some q → q ≡ number
new-number name [] number q fresh is =
    let same : Some number ≡ Some q = sym (ap (λ b. option_map NamedQueue.number (cond b (Some (record { number = number; name = name })) None)) (bytes_eq_refl name)) ∙ is in cc
new-number name (x ∷ xs) number q fresh is =
    by_test (λ b. option_map NamedQueue.number (cond b (Some x) (named NamedQueue.name name xs)) ≡ None
    → option_map NamedQueue.number (cond b (Some x) (named NamedQueue.name name (xs ++ record { number = number; name = name } ∷ []))) ≡ Some q → q ≡ number) (bytes_eq name x.name)
    (λ _ no _. absurd (cc)) (λ _ no yes_. new-number name xs number q no yes_) fresh is

pub fresh-name : {h : History} {name : List ℕ} {t : ℕ} {time : ℤ} → Fine h (queued (made name t time)) → queue_number name (queues h) ≡ None
fresh-name (makes name t time new) = new

named-plain : (q : ℕ) (h : History) → Legal h → (mark : Mark) → Fine h mark → Plain mark → queue_at h ≡ Some q → All (NamedElsewhere q) (triggers h) → All (NamedElsewhere q) (triggers (mark ∷ h))
named-plain q h l _ (traces table None trigger below at may) is set all = absurd is
named-plain q h l _ (traces table (Some name) trigger below at may) is set all =
    All-push (NamedElsewhere q) (triggers h) (record { table = table; name = Some name; trigger = trigger }) all
    (λ _. let other : (q == trigger.queue) ≡ false = subst (λ o. IfSome o (λ x. (x == trigger.queue) ≡ false)) set may.1 in grind (arith, nat_tests, other))
named-plain q h l _ (untraces table last) is set all = absurd is
named-plain q h l _ _ is set all = all

pub named-elsewhere : (q : ℕ) (h : History) → Cut h → Legal h → is_root (node h) ≡ true → queue_at h ≡ Some q → All (NamedElsewhere q) (triggers h)
named-elsewhere q _ nothing l root set = absurd (cc)
named-elsewhere q _ (plain {h = h} mark cut is) l root set =
    let below : Legal h = legal-below_mark l in
    let was : is_root (node h) ≡ true = root-before h mark is root in
    let set_then : queue_at h ≡ Some q = sym (keeps-set (later here) l was).queue ∙ set in
    named-plain q h below mark (fine_mark l) is set_then (named-elsewhere q h cut below was set_then)
named-elsewhere q _ (writes {h = h} who t table key old new time events cut told some held) l root set =
    let only : Events events = told-only h time (write_of who t table key old new) events told in
    let write : Mark = write_of who t table key old new in
    subst (All (NamedElsewhere q)) (sym (triggers-events (write ∷ h) events only))
    (named-elsewhere q h cut (legal-below_mark (legal-events (write ∷ h) events only l)) (ap is_root (sym (node-events (write ∷ h) events only)) ∙ root) (sym (queue-events (write ∷ h) events only) ∙ set))
named-elsewhere q _ (leaf_writes {h = h} whose t table key old new cut leaf) l root set = named-elsewhere q h cut (legal-below_mark l) root set
named-elsewhere q _ (inserts {h = h} p value e cut is) l root set = named-elsewhere q h cut (legal-below_mark (legal-below_mark l)) root set
named-elsewhere q _ (returns {h = h} retry t moment cut) l root set = named-elsewhere q h cut (legal-below_mark (legal-below_mark l)) root set
named-elsewhere q _ (lists {h = h} name table p cut after) l root set =
    let same : IsSameNode (node h) (after_node (set_added name) (node h)) = same-node (set_added name) refl (node h) in
    All-push (NamedElsewhere q) (triggers h) (record { table = table; name = None; trigger = set_trigger p })
    (named-elsewhere q h cut (legal-below_mark (legal-below_mark l)) (sym same.root ∙ root) (sym (same.set (queues h)) ∙ set)) (λ e. absurd (cc))
named-elsewhere q _ (unlists {h = h} name table cut after) l root set =
    let same : IsSameNode (node h) (after_node (set_removed name) (node h)) = same-node (set_removed name) refl (node h) in
    All-filter (λ x. not (is_sets table x)) (NamedElsewhere q) (triggers h) (named-elsewhere q h cut (legal-below_mark (legal-below_mark l)) (sym same.root ∙ root) (sym (same.set (queues h)) ∙ set))
named-elsewhere q _ (roots {h = h} name queue t time cut bare) l root set =
    let new : q ≡ queues_made h = new-number queue (queues h) (queues_made h) q (fresh-name (fine_mark (legal-below_mark l))) set in
    All-weaker (λ x. x.trigger.queue < queues_made h) (NamedElsewhere q) (λ x less _. grind (arith, nat_tests, new, less)) (triggers h) (made-before h (legal-below_mark (legal-below_mark l)))

-- ---- so the set's trigger is the only one of a table into the set's queue

-- whether a trigger of this table puts events into this queue
abbrev pub is_into : (n q : ℕ) → TableTrigger → Bool
is_into n q t = t.table == n && t.trigger.queue == q

only-sets : (n q : ℕ) (ts : List TableTrigger) → All (NamedElsewhere q) ts → filter (is_into n q) ts ≡ filter (λ t. t.trigger.queue == q) (filter (is_sets n) ts)
only-sets n q [] all = refl
only-sets n q (t ∷ ts) all =
    let ih = only-sets n q ts (All-tail (NamedElsewhere q) t ts all) in
    let this : NamedElsewhere q t = All-head (NamedElsewhere q) t ts all in
    grind (arith, ih, this)

own-into : (n q : ℕ) → filter (λ t. t.trigger.queue == q) (triggers_into n (Some q)) ≡ triggers_into n (Some q)
own-into n q = ap (λ b. if b then record { table = n; name = None; trigger = set_trigger q } ∷ [] else []) (same-session q)

pub into-set : (n q : ℕ) (h : History) → Cut h → Legal h → is_root (node h) ≡ true → queue_at h ≡ Some q → filter (is_into n q) (triggers h) ≡ (if is_listed n h then triggers_into n (Some q) else [])
into-set n q h cut l root set =
    only-sets n q (triggers h) (named-elsewhere q h cut l root set)
    ∙ ap (filter (λ t. t.trigger.queue == q)) (cut-tracing h cut l n ∙ ap (λ o. if is_listed n h then triggers_into n o else []) set)
    ∙ by_test (λ b. filter (λ t. t.trigger.queue == q) (if b then triggers_into n (Some q) else []) ≡ (if b then triggers_into n (Some q) else [])) (is_listed n h) (λ _. own-into n q) (λ _. refl)
