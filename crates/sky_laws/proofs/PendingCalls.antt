-- After calls each pending switch is of a transaction of a session's block, and each transaction has committed without one.
use Rattle.std.proofs.Common.{◌≡◌, ℕ, ℤ, pos, List, [], ◌∷◌, ◌++◌, true, false, Some, unwrap_or, option_map, ◌||◌, refl, sym, ap, subst, ◌∙◌, ◌==◌, if◌then◌else◌}
use Rattle.std.specs.List.{list_any}
use Rattle.pgq_tables.specs.Tables as tables_of
use Rattle.pgq_tables.specs.Tables.{Tables}
use Rattle.sky_model.specs.History.{Mark, of_session, of_worker, ended, block_begun, block_ended, queued, switching, switched, History}
use Rattle.sky_model.specs.Sessions.{Block, outside, inside, failed, block, own_txid}
use Rattle.sky_model.specs.Queues.{NamedQueue, queues, is_pending, event_tables}
use Rattle.sky_model.specs.OwnTransaction.{commit_of}
use Rattle.sky_model.specs.State.{database_of}
use Rattle.sky_model.specs.Outcome.{marks_of}
use Rattle.sky_model.specs.StepRetry.{brings}
use Rattle.sky_histories.proofs.StatementMarks.{each-map, each-given, AnyReply}
use Rattle.sky_model.specs.StepRotation.{switch_of, switches_by}
use Rattle.sky_model.specs.Reader.{part_by_history, database_by_history}
use Rattle.sky_model.specs.Settling.{marked}
use Rattle.sky_model.specs.Promises.{after_all}
use Rattle.sky_model.specs.DatabaseCalls.{DatabaseCall, stepped, entered, failed as failed_call, worked, served, database_does, database_part}
use Rattle.sky_histories.proofs.Resting.{behind-append}
use Rattle.sky_model.proofs.Cases.{by_test, by_same}
use Rattle.sky_histories.proofs.Legal.{IsAmong, IsQueue, Legal}
use Rattle.sky_histories.proofs.Histories.{legal_calls}
use Rattle.sky_histories.proofs.Good.{same-session}
use Rattle.sky_laws.proofs.QueuesInUse.{IsBare, bare}
use Rattle.sky_laws.proofs.PendingOwners.{Unpending, Held, held-both, Keeps, legal-before, keeps-mark}
use Rattle.sky_laws.proofs.PlainStatements.{may_keep, may_do, keeps-too, keeps-each, does-brings}
use Rattle.sky_laws.proofs.SwitchingCalls.{IsOfCalls, of_stepped, of_failed, of_worked, of_entered, of_served}

stays : (h : History) → Keeps h []
stays h l r = r

keeps-append : (h : History) (xs ys : List Mark) → Keeps h xs → Keeps (marked h xs) ys → Keeps h (xs ++ ys)
keeps-append h xs ys first also =
    subst (λ g. Legal g → Held h → Held g) (sym (behind-append part_by_history h xs ys)) (λ l r. also l (first (legal-before (marked h xs) ys l) r))

-- the first step of a rotation
keeps-switch : (g : History) (now : ℤ) (who q t : ℕ) (b : Block) → own_txid who g ≡ Some t → block who g ≡ b → (b ≡ failed → ⊥) → Keeps g (switch_of q t now b ++ commit_of who t b)
keeps-switch g now who q t outside mine is sound = λ l r.
    keeps-mark (queued (switched q now) ∷ queued (switching q t) ∷ g) (ended (of_session who) t true) [] (λ within. absurd (cc (sym is ∙ within)))
    (stays (ended (of_session who) t true ∷ queued (switched q now) ∷ queued (switching q t) ∷ g)) l (held-both g q t now r)
keeps-switch g now who q t inside mine is sound = keeps-mark g (queued (switching q t)) [] (record { who = who; owns = mine; within = is }) (stays (queued (switching q t) ∷ g))
keeps-switch g now who q t failed mine is sound = absurd (sound refl)

-- ---- `commit`

-- what is pending of a transaction at a place was so before, in one of these queues
abbrev Left : History → History → ℕ → List NamedQueue → Type 0
Left h g t qs = (q : ℕ) → (event_tables q g).pending ≡ Some t → (is_pending t (event_tables q h) ≡ true) × IsAmong q qs

left-rest : (q : NamedQueue) (qs : List NamedQueue) (p : ℕ) → (q.number == p) ≡ false → IsAmong p (q ∷ qs) → IsAmong p qs
left-rest q qs p other is = sym (ap (λ b. b || list_any (λ x. x.number == p) qs) other) ∙ is

keeps-switches : (h : History) (now : ℤ) (t : ℕ) (qs : List NamedQueue) (g : History) (marks : List Mark) → Left h g t qs → ((f : History) → Unpending f t → Keeps f marks)
    → Keeps g (switches_by (database_of h) now t qs ++ marks)
keeps-switches h now t [] g marks left rest = rest g (λ q pends. let none = (left q pends).1 in cc)
keeps-switches h now t (q ∷ qs) g marks left rest =
    by_test (λ b. is_pending t (event_tables q.number h) ≡ b → Keeps g ((if b then queued (switched q.number now) ∷ switches_by (database_of h) now t qs else switches_by (database_of h) now t qs) ++ marks))
    (is_pending t (event_tables q.number h))
    (λ _ is. keeps-mark g (queued (switched q.number now)) (switches_by (database_of h) now t qs ++ marks) tt (keeps-switches h now t qs (queued (switched q.number now) ∷ g) marks
    (λ p. by_test (λ b. (if b then tables_of.with_switch now (event_tables p g) else event_tables p g).pending ≡ Some t → (is_pending t (event_tables p h) ≡ true) × IsAmong p qs) (q.number == p)
    (λ _ none. absurd (cc)) (λ other pends. ((left p pends).0, left-rest q qs p other (left p pends).1))) rest))
    (λ _ isnt. keeps-switches h now t qs g marks
    (λ p pends. (
      (left p pends).0,
      by_same (λ b. (b || list_any (λ x. x.number == p) qs) ≡ true → IsAmong p qs) q.number p
          (λ same _. absurd (cc (sym (left p pends).0 ∙ ap (λ n. is_pending t (event_tables n h)) (sym same) ∙ isnt))) (λ _ is. is) (left p pends).1,
    )) rest) refl

pending-is : (h : History) (q t : ℕ) → (event_tables q h).pending ≡ Some t → is_pending t (event_tables q h) ≡ true
pending-is h q t pends = ap (λ o. unwrap_or (option_map (λ u. u == t) o) false) pends ∙ same-session t

pending-stands : (h : History) → Legal h → (q t : ℕ) → (event_tables q h).pending ≡ Some t → IsQueue h q
pending-stands h l q t pends =
    by_test (λ b. list_any (λ x. x.number == q) (queues h) ≡ b → b ≡ true) (list_any (λ x. x.number == q) (queues h)) (λ _ _. refl)
    (λ _ away. absurd (let b : IsBare h q = bare h l q away in cc (sym (ap Tables.pending b.no_event) ∙ pends))) refl

keeps-commits : (now : ℤ) (h : History) (who t : ℕ) → Keeps h (switches_by (database_of h) now t (queues h) ++ ended (of_session who) t true ∷ block_ended who ∷ [])
keeps-commits now h who t = λ l r.
    keeps-switches h now t (queues h) h (ended (of_session who) t true ∷ block_ended who ∷ [])
    (λ q pends. (pending-is h q t pends, pending-stands h (legal-before h (switches_by (database_of h) now t (queues h) ++ ended (of_session who) t true ∷ block_ended who ∷ []) l) q t pends))
    (λ f none. keeps-mark f (ended (of_session who) t true) (block_ended who ∷ []) (λ _. none) (keeps-mark (ended (of_session who) t true ∷ f) (block_ended who) [] tt (stays (block_ended who ∷ ended (of_session who) t true ∷ f)))) l r

-- ---- calls

keeps-alone : (now : ℤ) (h : History) (q t : ℕ) → Keeps h (queued (switching q t) ∷ queued (switched q now) ∷ ended of_worker t true ∷ [])
keeps-alone now h q t = λ l r.
    keeps-mark (queued (switched q now) ∷ queued (switching q t) ∷ h) (ended of_worker t true) [] tt (stays (ended of_worker t true ∷ queued (switched q now) ∷ queued (switching q t) ∷ h)) l
    (held-both h q t now r)

all-keep : (now : ℤ) → IsOfCalls now Keeps
all-keep now = record {
  joined = keeps-append;
  plain = λ b who h marks out each. keeps-each b who h marks out (each-map (may_do b who) (may_keep b who) (keeps-too b who) marks each);
  begins = λ h who. keeps-mark h (block_begun who) [] tt (stays (block_begun who ∷ h));
  switches = λ h who q t b mine is sound free. keeps-switch h now who q t b mine is sound;
  switches_alone = λ h q t free. keeps-alone now h q t;
  brings_back = λ h rs.
      keeps-each inside 0 h (marks_of (brings (database_of h) now rs)) (λ e _. absurd (cc))
      (each-given AnyReply (may_keep inside 0) (brings (database_of h) now rs) (does-brings 0 inside (database_of h) now rs));
  commits = keeps-commits now;
}

keeps-does : (h : History) (call : DatabaseCall) → Keeps h (database_does database_by_history h call).marks
keeps-does h (stepped who stmt now) = of_stepped now Keeps (all-keep now) h who stmt
keeps-does h (entered who alone) = of_entered (pos 0) Keeps (all-keep (pos 0)) h who alone
keeps-does h (worked work now) = of_worked now Keeps (all-keep now) h work
keeps-does h (served call) = of_served (pos 0) Keeps (all-keep (pos 0)) h call
keeps-does h (failed_call who now) = of_failed now Keeps (all-keep now) h who

-- so it is after calls
pub held_calls : (calls : List DatabaseCall) → Held (after_all database_part calls)
held_calls [] = record { settled = tt; owned = λ q t pends. absurd (cc) }
held_calls (call ∷ calls) = keeps-does (after_all database_part calls) call (legal_calls (call ∷ calls)) (held_calls calls)
