-- A switch is made at the moment of a call, in which its transaction commits.
use Rattle.std.proofs.Common.{◌≡◌, ℕ, ℤ, List, [], ◌∷◌, ◌++◌, Bool, true, false, ◌==◌, ◌||◌, Some, option_map, unwrap_or, refl, sym, ◌∙◌, ap, subst, arith, if◌then◌else◌}
use Rattle.std.specs.List.{list_any}
use Rattle.std.proofs.lemmas.Bool.{eqb-true}
use Rattle.std.proofs.lemmas.Bool.Decides.{nat_tests}
use Rattle.std.proofs.lemmas.List.Folds.{list_any-append}
use Rattle.pgq_tables.specs.Tables as tables_of
use Rattle.pgq_tables.specs.Tables.{with_pending}
use Rattle.sky_model.specs.History.{Mark, of_session, ended, block_ended, queued, switching, switched, History}
use Rattle.sky_model.specs.Transactions.{has_committed}
use Rattle.sky_model.specs.Sessions.{Block, outside, inside, failed}
use Rattle.sky_model.specs.Outcome.{marks_of}
use Rattle.sky_model.specs.StepRetry.{brings}
use Rattle.sky_model.specs.Queues.{NamedQueue, queues, is_pending, event_tables}
use Rattle.sky_model.specs.OwnTransaction.{commit_of}
use Rattle.sky_model.specs.State.{database_of}
use Rattle.sky_model.specs.StepRotation.{switch_of, switches_by}
use Rattle.sky_model.specs.Reader.{database_by_history}
use Rattle.sky_model.specs.Settling.{marked}
use Rattle.sky_model.specs.DatabaseCalls.{DatabaseCall, stepped, entered, failed as failed_call, worked, served, database_does}
use Rattle.sky_model.specs.LawsOfRetries.{moment_of}
use Rattle.sky_model.specs.LawsOfRotation.{IsMadeBy, SwitchesAreCommitted}
use Rattle.sky_model.proofs.Cases.{by_test}
use Rattle.sky_histories.proofs.Good.{same-session}
use Rattle.sky_histories.proofs.StatementMarks.{EachMark, when-true, each-rest, each-map, each-given, AnyReply}
use Rattle.sky_laws.proofs.PlainStatements.{may_keep, may_do, keeps-too, does-brings}
use Rattle.sky_laws.proofs.SwitchingCalls.{IsOfCalls, each-entered, each-served, of_stepped, of_failed, of_worked}

-- ---- marks, each at its place, with those after it

-- a transaction commits
abbrev is_commit : ℕ → Mark → Bool
is_commit t (ended whose u true) = t == u
is_commit t _ = false

-- if a switch is made, it is at this moment, and its transaction commits later
abbrev MadeAt : ℤ → History → Mark → List Mark → Type 0
MadeAt now h (queued (switched q time)) later = (time ≡ now) × ((t : ℕ) → (event_tables q h).pending ≡ Some t → list_any (is_commit t) later ≡ true)
MadeAt now h _ later = Unit {0}

-- so it is with each of some marks
abbrev Made : ℤ → History → List Mark → Type 0
Made now h [] = Unit {0}
Made now h (mark ∷ marks) = MadeAt now h mark marks × Made now (mark ∷ h) marks

any-left : (t : ℕ) (xs ys : List Mark) → list_any (is_commit t) xs ≡ true → list_any (is_commit t) (xs ++ ys) ≡ true
any-left t xs ys is = list_any-append (is_commit t) xs ys ∙ ap (λ b. b || list_any (is_commit t) ys) is

any-right : (t : ℕ) (xs ys : List Mark) → list_any (is_commit t) ys ≡ true → list_any (is_commit t) (xs ++ ys) ≡ true
any-right t [] ys is = is
any-right t (x ∷ xs) ys is = ap (λ b. is_commit t x || b) (any-right t xs ys is) ∙ or-true (is_commit t x)
  where
    or-true : (b : Bool) → (b || true) ≡ true
    or-true true = refl
    or-true false = refl

made-append : (now : ℤ) (h : History) (xs ys : List Mark) → Made now h xs → Made now (marked h xs) ys → Made now h (xs ++ ys)
made-append now h [] ys first also = also
made-append now h (x ∷ xs) ys first also = (of x first.0, made-append now (x ∷ h) xs ys first.1 also)
  where
    of : (mark : Mark) → MadeAt now h mark xs → MadeAt now h mark (xs ++ ys)
    of (queued (switched q time)) at = (at.0, λ t pends. any-left t xs ys (at.1 t pends))
    of _ at = tt

made-at : (now : ℤ) (h : History) (earlier later : List Mark) (q : ℕ) (time : ℤ) → Made now h (earlier ++ queued (switched q time) ∷ later) → MadeAt now (marked h earlier) (queued (switched q time)) later
made-at now h [] later q time made = made.0
made-at now h (mark ∷ earlier) later q time made = made-at now (mark ∷ h) earlier later q time made.1

-- no switch is made
abbrev makes_none : Mark → Bool
makes_none (queued (switched q time)) = false
makes_none _ = true

made-none : (now : ℤ) (h : History) (marks : List Mark) → EachMark makes_none marks → Made now h marks
made-none now h [] each = tt
made-none now h (mark ∷ marks) each = (of mark (when-true (EachMark makes_none marks) (makes_none mark) each), made-none now (mark ∷ h) marks (each-rest makes_none mark marks each))
  where
    of : (m : Mark) → makes_none m ≡ true → MadeAt now h m marks
    of (queued (switched q time)) e = absurd (cc)
    of _ e = tt

none-makes : (earlier later : List Mark) (q : ℕ) (time : ℤ) → EachMark makes_none (earlier ++ queued (switched q time) ∷ later) → ⊥
none-makes [] later q time each = each
none-makes (mark ∷ earlier) later q time each = none-makes earlier later q time (each-rest makes_none mark (earlier ++ queued (switched q time) ∷ later) each)

none-done : (b : Block) (who : ℕ) (mark : Mark) → may_keep b who mark ≡ true → makes_none mark ≡ true
none-done b who (queued (switched q time)) e = absurd (cc)
none-done b who _ e = refl

-- ---- what calls leave

-- one that is made at once
own-pending : (h : History) (q t u : ℕ) → (event_tables q (queued (switching q t) ∷ h)).pending ≡ Some u → t ≡ u
own-pending h q t u pends =
    ap (λ o. unwrap_or o t) (sym (subst (λ b. (if b then with_pending t (event_tables q h) else event_tables q h).pending ≡ Some t) (sym (same-session q)) refl) ∙ pends)

commits-now : (h : History) (q t u : ℕ) → (event_tables q (queued (switching q t) ∷ h)).pending ≡ Some u → ((u == t) || false) ≡ true
commits-now h q t u pends = subst (λ n. ((n == t) || false) ≡ true) (own-pending h q t u pends) (ap (λ b. b || false) (same-session t))

made-switch : (now : ℤ) (h : History) (who q t : ℕ) (b : Block) → Made now h (switch_of q t now b ++ commit_of who t b)
made-switch now h who q t outside = (tt, ((refl, commits-now h q t), (tt, tt)))
made-switch now h who q t inside = (tt, tt)
made-switch now h who q t failed = (tt, tt)

-- what is pending at a place was so before
abbrev Left : History → History → Type 0
Left h g = (q t : ℕ) → (event_tables q g).pending ≡ Some t → (event_tables q h).pending ≡ Some t

left-switched : (h g : History) (q : ℕ) (now : ℤ) → Left h g → Left h (queued (switched q now) ∷ g)
left-switched h g q now left p t =
    by_test (λ b. (if b then tables_of.with_switch now (event_tables p g) else event_tables p g).pending ≡ Some t → (event_tables p h).pending ≡ Some t) (q == p) (λ _ none. absurd (cc)) (λ _ pends. left p t pends)

-- those of a transaction that a commit makes
own : (h : History) (q t u : ℕ) → is_pending t (event_tables q h) ≡ true → (event_tables q h).pending ≡ Some u → t ≡ u
own h q t u is pends = sym (eqb-true u t (sym (ap (λ o. unwrap_or (option_map (λ v. v == t) o) false) pends) ∙ is))

made-switches : (h : History) (now : ℤ) (t : ℕ) (qs : List NamedQueue) (g : History) (rest : List Mark) → Left h g → list_any (is_commit t) rest ≡ true → ((f : History) → Made now f rest)
    → Made now g (switches_by (database_of h) now t qs ++ rest)
made-switches h now t [] g rest left commits last = last g
made-switches h now t (q ∷ qs) g rest left commits last =
    by_test (λ b. is_pending t (event_tables q.number h) ≡ b → Made now g ((if b then queued (switched q.number now) ∷ switches_by (database_of h) now t qs else switches_by (database_of h) now t qs) ++ rest))
    (is_pending t (event_tables q.number h))
    (λ _ is. (
      (refl, λ u pends. subst (λ n. list_any (is_commit n) (switches_by (database_of h) now t qs ++ rest) ≡ true) (own h q.number t u is (left q.number u pends)) (any-right t (switches_by (database_of h) now t qs) rest commits)),
      made-switches h now t qs (queued (switched q.number now) ∷ g) rest (left-switched h g q.number now left) commits last,
    ))
    (λ _ _. made-switches h now t qs g rest left commits last) refl

are-made : (now : ℤ) → IsOfCalls now (Made now)
are-made now = record {
  joined = made-append now;
  plain = λ b who h marks out each. made-none now h marks (each-map (may_do b who) makes_none (λ mark e. none-done b who mark (keeps-too b who mark e)) marks each);
  begins = λ h who. (tt, tt);
  switches = λ h who q t b mine is sound free. made-switch now h who q t b;
  switches_alone = λ h q t free. (tt, ((refl, commits-now h q t), (tt, tt)));
  brings_back = λ h rs.
      made-none now h (marks_of (brings (database_of h) now rs)) (each-map (may_keep inside 0) makes_none (none-done inside 0) (marks_of (brings (database_of h) now rs))
      (each-given AnyReply (may_keep inside 0) (brings (database_of h) now rs) (does-brings 0 inside (database_of h) now rs)));
  commits = λ h who t. made-switches h now t (queues h) h (ended (of_session who) t true ∷ block_ended who ∷ []) (λ q u pends. pends) (ap (λ b. b || false) (same-session t)) (λ f. (tt, (tt, tt)));
}

-- ---- calls

stays-committed : (h : History) (marks : List Mark) (t : ℕ) → has_committed h t ≡ true → has_committed (marked h marks) t ≡ true
stays-committed h [] t is = is
stays-committed h (ended whose u true ∷ marks) t is = stays-committed (ended whose u true ∷ h) marks t (grind (arith, nat_tests, is))
stays-committed h (mark ∷ marks) t is = stays-committed (mark ∷ h) marks t is

has-committed : (h : History) (marks : List Mark) (t : ℕ) → list_any (is_commit t) marks ≡ true → has_committed (marked h marks) t ≡ true
has-committed h [] t any = absurd (cc)
has-committed h (ended whose u true ∷ marks) t any =
    by_test (λ b. (t == u) ≡ b → has_committed (marked h (ended whose u true ∷ marks)) t ≡ true) (t == u)
    (λ _ is. stays-committed (ended whose u true ∷ h) marks t (ap (λ b. b || has_committed h t) is))
    (λ _ isnt. has-committed (ended whose u true ∷ h) marks t (sym (ap (λ b. b || list_any (is_commit t) marks) isnt) ∙ any)) refl
has-committed h (mark ∷ marks) t any = has-committed (mark ∷ h) marks t any

is-made : (now : ℤ) (h : History) (call : DatabaseCall) (earlier later : List Mark) (q : ℕ) (time : ℤ) → moment_of call ≡ Some now → Made now h (database_does database_by_history h call).marks
    → (database_does database_by_history h call).marks ≡ earlier ++ queued (switched q time) ∷ later → IsMadeBy h call (marked h earlier) q time
is-made now h call earlier later q time called made same =
    let at : MadeAt now (marked h earlier) (queued (switched q time)) later = made-at now h earlier later q time (subst (Made now h) same made) in
    record {
      called = called ∙ ap (λ n. Some n) (sym at.0);
      committed = λ t pends. has-committed h (database_does database_by_history h call).marks t
          (subst (λ marks. list_any (is_commit t) marks ≡ true) (sym same) (any-right t earlier (queued (switched q time) ∷ later) (at.1 t pends)));
    }

pub switches_are_committed : SwitchesAreCommitted
switches_are_committed h (stepped who stmt now) earlier later q time = is-made now h (stepped who stmt now) earlier later q time refl (of_stepped now (Made now) (are-made now) h who stmt)
switches_are_committed h (failed_call who now) earlier later q time = is-made now h (failed_call who now) earlier later q time refl (of_failed now (Made now) (are-made now) h who)
switches_are_committed h (worked work now) earlier later q time = is-made now h (worked work now) earlier later q time refl (of_worked now (Made now) (are-made now) h work)
switches_are_committed h (entered who alone) earlier later q time =
    λ same. absurd (none-makes earlier later q time (each-map (may_do inside who) makes_none (λ mark e. none-done inside who mark (keeps-too inside who mark e)) (earlier ++ queued (switched q time) ∷ later)
    (subst (EachMark (may_do inside who)) same (each-entered h who alone))))
switches_are_committed h (served call) earlier later q time =
    λ same. absurd (none-makes earlier later q time (each-map (may_do inside 0) makes_none (λ mark e. none-done inside 0 mark (keeps-too inside 0 mark e)) (earlier ++ queued (switched q time) ∷ later)
    (subst (EachMark (may_do inside 0)) same (each-served h call))))
