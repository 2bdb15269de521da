-- Both steps of a rotation leave a legal history legal.
use Rattle.std.proofs.Common.{◌≡◌, ℕ, ◌+◌, ◌^◌, ℤ, List, [], ◌∷◌, ◌++◌, Bool, true, false, ◌==◌, nat_le, Option, Some, None, option_map, is_none, Ok, All, get_or, filter, length, refl, sym, ap, subst, arith, if◌then◌else◌}
use Rattle.std.specs.Option.{option_or}
use Rattle.std.proofs.lemmas.Bool.Decides.{nat_tests}
use Rattle.std.proofs.lemmas.List.Elements.{All-nil, All-cons, All-head, All-tail}
use Rattle.sky_txid.specs.Ids.{contains}
use Rattle.sky_model.specs.declared.reply.HeldBack.{HeldBack}
use Rattle.sky_model.specs.declared.reply.HeldBack.TheVariants.{Pending}
use Rattle.sky_model.specs.declared.reply.Reply.TheVariants.{Number}
use Rattle.sky_model.specs.declared.reply.Refusal.TheVariants.{TxidsSpent}
use Rattle.pgq_tables.specs.Tables.{with_pending, with_second_step}
use Rattle.sky_model.specs.History.{of_session, of_worker, began, ended, queued, switching, switched, second_step, History}
use Rattle.sky_model.specs.Transactions.{next_txid, running}
use Rattle.sky_model.specs.Sessions.{Block, block, own_txid}
use Rattle.sky_model.specs.Queues.{NamedQueue, queues, event_tables}
use Rattle.sky_model.specs.State.{part_of, queue_of, database_of}
use Rattle.sky_model.specs.OwnTransaction.{own_or_next, begin_of, commit_of}
use Rattle.sky_model.specs.Settling.{marked}
use Rattle.sky_model.specs.Outcome.{◌>>=◌, ◌>>◌, refused_if, does_marks, marks_of}
use Rattle.sky_model.specs.StepRotation.{held_back, held_by_period, held_by_second_step, switch_of, rotates, rotates_alone, lack_second_step, second_steps, ends_switches, maint_rotate_step2}
use Rattle.sky_histories.proofs.Legal.{IsQueue, MaySwitch, Fine, begins, begins_work, ends, ends_work, begins_switch, makes_switch, ends_switch, Chain, done, more, Legal, next, IsWork}
use Rattle.sky_histories.proofs.Good.{Good, same-session, good_test_then}
use Rattle.sky_histories.proofs.Commits.{Apart, queues-apart, all-among}
use Rattle.sky_histories.proofs.Snapshots.{sound, contains-push, just_begun}
use Rattle.sky_model.proofs.Cases.{by_test, by_block}

-- ---- what isn't held back

or-none : {A : Type 0} (a b : Option A) → option_or a b ≡ None → (a ≡ None) × (b ≡ None)
or-none None b none = (refl, none)
or-none (Some x) b none = absurd (cc)

map-none : {A B : Type 0} (f : A → B) (o : Option A) → option_map f o ≡ None → o ≡ None
map-none f None none = refl
map-none f (Some x) none = absurd (cc)

-- a transaction may have a switch pending that nothing holds back
may_switch : (h : History) (now : ℤ) (q t : ℕ) → IsQueue h q → contains t (running h) ≡ true → held_back now (queue_of h q) ≡ None → MaySwitch h q t
may_switch h now q t within runs free =
    let first = or-none (option_map Pending (event_tables q h).pending) (option_or (held_by_period now (queue_of h q)) (held_by_second_step (queue_of h q) (event_tables q h).second_step)) free in
    record {
      within = within;
      runs = runs;
      none = map-none Pending (event_tables q h).pending first.0;
      free = (or-none (held_by_period now (queue_of h q)) (held_by_second_step (queue_of h q) (event_tables q h).second_step) first.1).1;
    }

-- it is pending then
is-pending : (h : History) (q t : ℕ) → (event_tables q (queued (switching q t) ∷ h)).pending ≡ Some t
is-pending h q t = subst (λ b. (if b then with_pending t (event_tables q h) else event_tables q h).pending ≡ Some t) (sym (same-session q)) refl

-- ---- the first step

-- a session's
good_switch : (g : History) → Legal g → (now : ℤ) (who q t : ℕ) (b : Block) → IsQueue g q → own_txid who g ≡ Some t → held_back now (queue_of g q) ≡ None
    → Chain g (switch_of q t now b ++ commit_of who t b)
good_switch g l now who q t b within mine free =
    by_block (λ b. Chain g (switch_of q t now b ++ commit_of who t b))
    (more may (more (makes_switch q t now within (is-pending g q t)) (more (ends who t true mine) done))) (more may done) (more may done) b
  where
    may : Fine g (queued (switching q t))
    may = begins_switch q t (may_switch g now q t within ((sound g l).owns who t mine) free)

pub good_rotates : (h : History) → Legal h → (now : ℤ) (who q : ℕ) → IsQueue h q → (why : Option HeldBack) → held_back now (queue_of h q) ≡ why → Good h who (rotates (database_of h) now who q why)
good_rotates h l now who q within (Some why) is = done
good_rotates h l now who q within None free = by_own (own_txid who h) refl
  where
    by_own : (o : Option ℕ) → own_txid who h ≡ o
        → Good h who (own_or_next (part_of h) o >>= (λ t. does_marks (Number 1) (begin_of who t o ++ switch_of q t now (block who h) ++ commit_of who t (block who h))))
    by_own None none =
        good_test_then h who (nat_le (2 ^ 62) (next_txid h)) TxidsSpent (next_txid h) _
        (more (begins who none) (good_switch (began (of_session who) (next_txid h) ∷ h) (next l (begins who none)) now who q (next_txid h) (block who h) within
        (ap (λ b. if b then Some (next_txid h) else own_txid who h) (same-session who)) free))
    by_own (Some t) mine = good_switch h l now who q t (block who h) within mine free

-- a daemon's
pub may_rotate : (h : History) → Legal h → (now : ℤ) (q : ℕ) → IsQueue h q → (why : Option HeldBack) → held_back now (queue_of h q) ≡ why → Chain h (marks_of (rotates_alone (database_of h) now q why))
may_rotate h l now q within (Some why) is = done
may_rotate h l now q within None free = of (nat_le (2 ^ 62) (next_txid h))
  where
    t : ℕ
    t = next_txid h

    g : History
    g = began of_worker t ∷ h

    of : (spent : Bool)
        → Chain h (marks_of ((refused_if spent TxidsSpent >> Ok t) >>= (λ id. does_marks (Number 1) (began of_worker id ∷ queued (switching q id) ∷ queued (switched q now) ∷ ended of_worker id true ∷ []))))
    of true = done
    of false =
        more begins_work
        (more (begins_switch q t (may_switch g now q t within (grind (arith, nat_tests, contains-push t t (running h))) free))
        (more (makes_switch q t now within (is-pending g q t)) (more (ends_work t true (record { works = (just_begun h (sound h l)).work.works; apart = (just_begun h (sound h l)).work.apart })) done)))

-- which makes no queue and drops none
pub rotates-stay : (h : History) (now : ℤ) (q : ℕ) (why : Option HeldBack) → queues (marked h (marks_of (rotates_alone (database_of h) now q why))) ≡ queues h
rotates-stay h now q (Some why) = refl
rotates-stay h now q None = of (nat_le (2 ^ 62) (next_txid h))
  where
    of : (spent : Bool)
        → queues (marked h (marks_of ((refused_if spent TxidsSpent >> Ok (next_txid h)) >>= (λ id. does_marks (Number 1) (began of_worker id ∷ queued (switching q id) ∷ queued (switched q now) ∷ ended of_worker id true ∷ []))))) ≡ queues h
    of true = refl
    of false = refl

-- ---- the second step

-- queues that stand and lack it, in a worker's newest transaction
abbrev Lack : History → List NamedQueue → Type 0
Lack g queues = All (λ q. IsQueue g q.number × ((event_tables q.number g).second_step ≡ None)) queues

good_second_steps : (t : ℕ) (queues : List NamedQueue) (g : History) → Legal g → Apart queues → Lack g queues → IsWork g t → next_txid g ≡ t + 1
    → Chain g (second_steps t queues ++ ended of_worker t true ∷ [])
good_second_steps t [] g l apart lack works newest = more (ends_work t true works) done
good_second_steps t (q ∷ queues) g l apart lack works newest =
    let first = All-head (λ q. IsQueue g q.number × ((event_tables q.number g).second_step ≡ None)) q queues lack in
    let fine = ends_switch q.number t (record { within = first.0; missing = first.1; works = works.works; newest = newest }) in
    more fine (good_second_steps t queues (queued (second_step q.number t) ∷ g) (next l fine) apart.1
    (λ k r less.
    let x : NamedQueue = get_or queues k r in
    let before = All-tail (λ q. IsQueue g q.number × ((event_tables q.number g).second_step ≡ None)) q queues lack k r less in
    (before.0, subst (λ b. (if b then with_second_step t (event_tables x.number g) else event_tables x.number g).second_step ≡ None) (sym (apart.0 k r less)) before.1))
    (record { works = works.works; apart = works.apart }) newest)

all-of : (P : NamedQueue → Type 0) (p : NamedQueue → Bool) (queues : List NamedQueue) → All P queues → All P (filter p queues)
all-of P p [] all = all
all-of P p (q ∷ queues) all =
    by_test (λ b. All P (if b then q ∷ filter p queues else filter p queues)) (p q)
    (λ _. All-cons P q (filter p queues) (All-head P q queues all) (all-of P p queues (All-tail P q queues all))) (λ _. all-of P p queues (All-tail P q queues all))

apart-of : (p : NamedQueue → Bool) (queues : List NamedQueue) → Apart queues → Apart (filter p queues)
apart-of p [] apart = tt
apart-of p (q ∷ queues) apart =
    by_test (λ b. Apart (if b then q ∷ filter p queues else filter p queues)) (p q)
    (λ _. (all-of (λ r. (q.number == r.number) ≡ false) p queues apart.0, apart-of p queues apart.1)) (λ _. apart-of p queues apart.1)

none-of : (o : Option ℕ) → is_none o ≡ true → o ≡ None
none-of None is = refl
none-of (Some t) is = absurd (cc)

lack-of : (h : History) (qs : List NamedQueue) → All (λ q. IsQueue h q.number) qs → Lack h (filter (λ q. is_none (event_tables q.number h).second_step) qs)
lack-of h [] all = All-nil (λ q. IsQueue h q.number × ((event_tables q.number h).second_step ≡ None))
lack-of h (q ∷ qs) all =
    let rest = lack-of h qs (All-tail (λ q. IsQueue h q.number) q qs all) in
    by_test (λ b. is_none (event_tables q.number h).second_step ≡ b → Lack h (if b then q ∷ filter (λ q. is_none (event_tables q.number h).second_step) qs else filter (λ q. is_none (event_tables q.number h).second_step) qs))
    (is_none (event_tables q.number h).second_step)
    (λ _ is. All-cons (λ q. IsQueue h q.number × ((event_tables q.number h).second_step ≡ None)) q _ (All-head (λ q. IsQueue h q.number) q qs all, none-of (event_tables q.number h).second_step is) rest) (λ _ _. rest) refl

pub may_end_switches : (h : History) → Legal h → Chain h (marks_of (maint_rotate_step2 (database_of h)))
may_end_switches h l = of (lack_second_step (database_of h)) (apart-of (λ q. is_none (event_tables q.number h).second_step) (queues h) (queues-apart h)) (lack-of h (queues h) (all-among (queues h)))
  where
    t : ℕ
    t = next_txid h

    by : (q : NamedQueue) (qs : List NamedQueue) → Apart (q ∷ qs) → Lack h (q ∷ qs) → (spent : Bool)
        → Chain h (marks_of ((refused_if spent TxidsSpent >> Ok t) >>= (λ id. does_marks (Number (length (q ∷ qs))) (began of_worker id ∷ second_steps id (q ∷ qs) ++ ended of_worker id true ∷ []))))
    by q qs apart lack true = done
    by q qs apart lack false =
        more begins_work (good_second_steps t (q ∷ qs) (began of_worker t ∷ h) (next l begins_work) apart lack (just_begun h (sound h l)).work refl)

    of : (qs : List NamedQueue) → Apart qs → Lack h qs → Chain h (marks_of (ends_switches (database_of h) qs))
    of [] apart lack = done
    of (q ∷ qs) apart lack = by q qs apart lack (nat_le (2 ^ 62) (next_txid h))
