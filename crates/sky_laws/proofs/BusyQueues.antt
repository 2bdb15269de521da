-- The running transactions that have a part in the tables of a queue are those that have put an event into it, or have its switch pending.
use Rattle.std.proofs.Common.{◌≡◌, ℕ, ◌≤◌, List, [], ◌∷◌, ◌++◌, Bool, true, false, ◌==◌, ◌||◌, find, map, Some, All, refl, sym, ◌∙◌, ap, subst, arith, if◌then◌else◌}
use Rattle.std.specs.List.{list_any}
use Rattle.std.proofs.lemmas.Bool.{or_right}
use Rattle.std.proofs.lemmas.Bool.Decides.{nat_tests}
use Rattle.std.proofs.lemmas.List.Folds.{list_any-append, list_any_none}
use Rattle.std.proofs.lemmas.List.Elements.{All-nil, All-cons, All-head, All-tail, All-weaker}
use Rattle.sky_val.specs.declared.event.Event.{Event}
use Rattle.sky_txid.specs.Ids.{contains}
use Rattle.pgq_tables.specs.Tables.{Stored, by_age}
use Rattle.sky_model.specs.History.{History}
use Rattle.sky_model.specs.Transactions.{running}
use Rattle.sky_model.specs.Queues.{events, is_pending, event_tables}
use Rattle.sky_model.specs.StepQueue.{has_part_in}
use Rattle.sky_model.specs.LawsOfRotation.{as_stored}
use Rattle.sky_model.specs.LawsOfQueues.{has_work_in, ProducersHaveWork}
use Rattle.sky_histories.proofs.Legal.{IsQueue, Legal}
use Rattle.sky_histories.proofs.Snapshots.{sound, runs-unended}
use Rattle.sky_histories.proofs.SnapshotLaws.{legal_place}
use Rattle.sky_histories.proofs.KeptTicks.{cut}
use Rattle.sky_histories.proofs.Tripled.{DoesHold, holds, by_age-left, cut-ended}
use Rattle.sky_model.proofs.Cases.{by_same}

any-kept : (keep : Event → Stored) → ((e : Event) → (keep e).event ≡ e) → (t : ℕ) (es : List Event) → list_any (λ s. s.event.ev_txid == t) (map keep es) ≡ list_any (λ e. e.ev_txid == t) es
any-kept keep itself t [] = refl
any-kept keep itself t (e ∷ es) = λ i. (itself e i).ev_txid == t || any-kept keep itself t es i

same-part : (h : History) (l : Legal h) (q : ℕ) → IsQueue h q → (t : ℕ) → contains t (running h) ≡ true → has_part_in (event_tables q h) t ≡ has_work_in h q t
same-part h l q is t runs = ap (λ b. b || is_pending t (event_tables q h)) same
  where
    s : DoesHold h q
    s = holds h l q is

    left : List Event
    left = s.oldest ++ (s.previous ++ s.current)

    puts : Event → Bool
    puts e = e.ev_txid == t

    other : (e : Event) → e.ev_txid ≤ cut q h → puts e ≡ false
    other e le =
        by_same (λ b. b ≡ false) e.ev_txid t
        (λ same. absurd (cc (sym (cut-ended h l q is t (subst (λ n. n ≤ cut q h) same le)) ∙ runs-unended h (sound h l) t runs))) (λ _. refl)

    gone : list_any puts s.gone ≡ false
    gone = list_any_none puts s.gone (All-weaker (λ e. e.ev_txid ≤ cut q h) (λ e. puts e ≡ false) other s.gone s.past)

    all : list_any puts (events q h) ≡ list_any puts left
    all = ap (list_any puts) s.whole ∙ list_any-append puts s.gone left ∙ ap (λ b. b || list_any puts left) gone

    same : list_any (λ s. s.event.ev_txid == t) (by_age (event_tables q h)) ≡ list_any puts (events q h)
    same =
        ap (list_any (λ s. s.event.ev_txid == t)) (by_age-left (as_stored h) (cut q h) (event_tables q h) (events q h) s)
        ∙ any-kept (as_stored h) (λ e. refl) t left ∙ sym all

same-find : (f g : ℕ → Bool) (ts : List ℕ) → All (λ t. f t ≡ g t) ts → find f ts ≡ find g ts
same-find f g [] all = refl
same-find f g (t ∷ ts) all =
    let first : f t ≡ g t = All-head (λ t. f t ≡ g t) t ts all in
    let rest : find f ts ≡ find g ts = same-find f g ts (All-tail (λ t. f t ≡ g t) t ts all) in λ i. if first i then Some t else rest i

all-contained : (ts : List ℕ) → All (λ t. contains t ts ≡ true) ts
all-contained [] = All-nil (λ t. contains t [] ≡ true)
all-contained (u ∷ ts) =
    All-cons (λ t. contains t (u ∷ ts) ≡ true) u ts (grind (arith, nat_tests))
    (All-weaker (λ t. contains t ts ≡ true) (λ t. contains t (u ∷ ts) ≡ true) (λ t is. or_right (t == u) (contains t ts) is) ts (all-contained ts))

pub producers_have_work : ProducersHaveWork
producers_have_work p place queue is =
    same-find (has_part_in (event_tables queue p)) (has_work_in p queue) (running p)
    (All-weaker (λ t. contains t (running p) ≡ true) (λ t. has_part_in (event_tables queue p) t ≡ has_work_in p queue t)
    (λ t runs. same-part p (legal_place p place) queue is t runs) (running p) (all-contained (running p)))
