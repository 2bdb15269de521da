-- `commit` makes the switches of event tables that its transaction has pending; no other statement on rows makes any.
use Rattle.std.proofs.Common.{◌≡◌, ℕ, ℤ, List, [], ◌∷◌, ◌++◌, true, false, not, ◌==◌, ◌||◌, Option, Some, None, option_map, unwrap_or, All, get_or, refl, sym, ap, subst, arith, if◌then◌else◌}
use Rattle.std.specs.List.{list_any}
use Rattle.std.proofs.lemmas.Bool.Decides.{nat_tests}
use Rattle.std.proofs.lemmas.Bool.{eq-eqb, or_right}
use Rattle.std.proofs.lemmas.List.Elements.{All-nil, All-cons, All-head, All-tail, All-push, All-weaker}
use Rattle.pgq_tables.specs.Tables as tables_of
use Rattle.sky_model.specs.History.{Mark, queued, made, switched, dropped, History}
use Rattle.sky_model.specs.Queues.{NamedQueue, queues_made, queues, others_than, event_tables, is_pending}
use Rattle.sky_model.specs.State.{Database, database_of}
use Rattle.sky_model.specs.StepRotation.{switches_by, switches_of}
use Rattle.sky_histories.proofs.Legal.{IsAmong, IsQueue, makes_switch, Chain, more, Legal, next}
use Rattle.sky_histories.proofs.QueueNumbers.{queue-below}
use Rattle.sky_model.proofs.Cases.{by_test}

-- ---- they may come

-- queues of different numbers
abbrev pub Apart : List NamedQueue → Type 0
Apart [] = Unit {0}
Apart (q ∷ queues) = All (λ r. (q.number == r.number) ≡ false) queues × Apart queues

apart-push : (queues : List NamedQueue) (last : NamedQueue) → Apart queues → All (λ q. (q.number == last.number) ≡ false) queues → Apart (queues ++ last ∷ [])
apart-push [] last apart other = (All-nil (λ r. (last.number == r.number) ≡ false), tt)
apart-push (q ∷ queues) last apart other = (
  All-push (λ r. (q.number == r.number) ≡ false) queues last apart.0 (All-head (λ q. (q.number == last.number) ≡ false) q queues other),
  apart-push queues last apart.1 (All-tail (λ q. (q.number == last.number) ≡ false) q queues other),
)

all-others : (P : NamedQueue → Type 0) (p : ℕ) (queues : List NamedQueue) → All P queues → All P (others_than p queues)
all-others P p [] all = all
all-others P p (q ∷ queues) all =
    by_test (λ b. All P (if b then q ∷ others_than p queues else others_than p queues)) (not (q.number == p))
    (λ _. All-cons P q (others_than p queues) (All-head P q queues all) (all-others P p queues (All-tail P q queues all))) (λ _. all-others P p queues (All-tail P q queues all))

apart-others : (p : ℕ) (queues : List NamedQueue) → Apart queues → Apart (others_than p queues)
apart-others p [] apart = tt
apart-others p (q ∷ queues) apart =
    by_test (λ b. Apart (if b then q ∷ others_than p queues else others_than p queues)) (not (q.number == p))
    (λ _. (all-others (λ r. (q.number == r.number) ≡ false) p queues apart.0, apart-others p queues apart.1)) (λ _. apart-others p queues apart.1)

-- queues are among themselves
pub all-among : (queues : List NamedQueue) → All (λ q. IsAmong q.number queues) queues
all-among [] = All-nil (λ q. IsAmong q.number [])
all-among (x ∷ xs) =
    All-cons (λ q. IsAmong q.number (x ∷ xs)) x xs (ap (λ b. b || list_any (λ y. y.number == x.number) xs) (eq-eqb x.number x.number refl))
    (All-weaker (λ q. IsAmong q.number xs) (λ q. IsAmong q.number (x ∷ xs)) (λ q is. or_right (x.number == q.number) (list_any (λ y. y.number == q.number) xs) is) xs (all-among xs))

-- so are those that stand
pub queues-apart : (h : History) → Apart (queues h)
queues-apart [] = tt
queues-apart (queued (made name t time) ∷ h) =
    apart-push (queues h) (record { number = queues_made h; name = name }) (queues-apart h)
    (All-weaker (λ q. IsQueue h q.number) (λ q. (q.number == queues_made h) ≡ false) (λ q is. let below = queue-below h q.number is in grind (arith, nat_tests, below)) (queues h) (all-among (queues h)))
queues-apart (queued (dropped p) ∷ h) = apart-others p (queues h) (queues-apart h)
queues-apart (_ ∷ h) = queues-apart h

pending-of : (t : ℕ) (o : Option ℕ) → unwrap_or (option_map (λ u. u == t) o) false ≡ true → o ≡ Some t
pending-of t None is = absurd (cc)
pending-of t (Some u) is = let same : u ≡ t = grind (arith, nat_tests, is) in ap (λ n. Some n) same

-- each queue that has a switch of this transaction pending in a database still has it at a place, and stands there
abbrev StillPending : Database → ℕ → History → List NamedQueue → Type 0
StillPending d t g queues = All (λ q. IsQueue g q.number × (is_pending t (d.queue q.number).event_tables ≡ true → is_pending t (event_tables q.number g) ≡ true)) queues

-- the switches may be made one after another, and what may come after them all may come then
pub good_switches_by : (d : Database) (now : ℤ) (t : ℕ) (queues : List NamedQueue) (g : History) → Legal g → Apart queues → StillPending d t g queues
    → (marks : List Mark) → (Q : History → Type 0) → Q g → ((f : History) (q : ℕ) → Q f → Q (queued (switched q now) ∷ f)) → ((f : History) → Legal f → Q f → Chain f marks)
    → Chain g (switches_by d now t queues ++ marks)
good_switches_by d now t [] g l apart still marks Q here also ends = ends g l here
good_switches_by d now t (q ∷ queues) g l apart still marks Q here also ends =
    by_test (λ b. is_pending t (d.queue q.number).event_tables ≡ b → Chain g ((if b then queued (switched q.number now) ∷ switches_by d now t queues else switches_by d now t queues) ++ marks))
    (is_pending t (d.queue q.number).event_tables)
    (λ _ is.
    let fine = makes_switch q.number t now first.0 (pending-of t (event_tables q.number g).pending (first.1 is)) in
    more fine (good_switches_by d now t queues (queued (switched q.number now) ∷ g) (next l fine) apart.1
    (λ k r less.
    let x : NamedQueue = get_or queues k r in
    ((rest k r less).0, λ waits. subst (λ b. is_pending t (if b then tables_of.with_switch now (event_tables x.number g) else event_tables x.number g) ≡ true) (sym (apart.0 k r less)) ((rest k r less).1 waits)))
    marks Q (also g q.number here) also ends))
    (λ _ _. good_switches_by d now t queues g l apart.1 rest marks Q here also ends) refl
  where
    first : IsQueue g q.number × (is_pending t (d.queue q.number).event_tables ≡ true → is_pending t (event_tables q.number g) ≡ true)
    first = All-head (λ q. IsQueue g q.number × (is_pending t (d.queue q.number).event_tables ≡ true → is_pending t (event_tables q.number g) ≡ true)) q queues still

    rest : StillPending d t g queues
    rest = All-tail (λ q. IsQueue g q.number × (is_pending t (d.queue q.number).event_tables ≡ true → is_pending t (event_tables q.number g) ≡ true)) q queues still

-- those of the queues that stand may
pub good_switches : (h : History) → Legal h → (now : ℤ) (txid : Option ℕ) (marks : List Mark) (Q : History → Type 0) → Q h → ((f : History) (q : ℕ) → Q f → Q (queued (switched q now) ∷ f))
    → ((f : History) → Legal f → Q f → Chain f marks) → Chain h (switches_of (database_of h) now txid ++ marks)
good_switches h l now None marks Q here also ends = ends h l here
good_switches h l now (Some t) marks Q here also ends =
    good_switches_by (database_of h) now t (queues h) h l (queues-apart h)
    (All-weaker (λ q. IsQueue h q.number) (λ q. IsQueue h q.number × (is_pending t (event_tables q.number h) ≡ true → is_pending t (event_tables q.number h) ≡ true)) (λ q is. (is, λ waits. waits)) (queues h) (all-among (queues h)))
    marks Q here also ends
