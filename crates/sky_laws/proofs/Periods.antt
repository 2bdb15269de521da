-- A switch begins to be pending once the rotation period is over, at the moment of the call that begins it.
use Rattle.std.proofs.Common.{◌≡◌, ℕ, ℤ, ◌≤ℤ◌, int_lt, List, [], ◌∷◌, ◌++◌, Bool, true, false, Option, Some, None, option_map, refl, subst, arith, if◌then◌else◌}
use Rattle.std.specs.Option.{option_or}
use Rattle.std.proofs.lemmas.Int.{ints}
use Rattle.sky_model.specs.declared.reply.HeldBack.TheVariants.{Pending, Period}
use Rattle.sky_model.specs.History.{Mark, of_session, ended, block_ended, queued, switching, switched, History}
use Rattle.sky_model.specs.Sessions.{Block, outside, inside, failed}
use Rattle.sky_model.specs.Outcome.{marks_of}
use Rattle.sky_model.specs.StepRetry.{brings}
use Rattle.sky_model.specs.Queues.{NamedQueue, queues, is_pending}
use Rattle.sky_model.specs.OwnTransaction.{commit_of}
use Rattle.sky_model.specs.State.{Queue, Database, queue_of, database_of}
use Rattle.sky_model.specs.StepRotation.{period_ends, held_back, held_by_period, held_by_second_step, switch_of, switches_by}
use Rattle.sky_model.specs.Reader.{database_by_history}
use Rattle.sky_model.specs.Settling.{marked}
use Rattle.sky_model.specs.DatabaseCalls.{stepped, entered, failed as failed_call, worked, served, database_does}
use Rattle.sky_model.specs.LawsOfRotation.{IsOver, SwitchesBeginAfterPeriods}
use Rattle.sky_model.proofs.Cases.{by_test}
use Rattle.sky_histories.proofs.StatementMarks.{when-true, EachMark, each-rest, each-map, each-given, AnyReply}
use Rattle.sky_laws.proofs.PlainStatements.{may_keep, may_do, keeps-too, does-brings}
use Rattle.sky_laws.proofs.SwitchingCalls.{IsOfCalls, each-entered, each-served, of_stepped, of_failed, of_worked}

-- ---- marks, each at its place

-- if a switch begins to be pending, the period is over at this moment
abbrev OverAt : ℤ → History → Mark → Type 0
OverAt now h (queued (switching q t)) = period_ends (queue_of h q) ≤ℤ now
OverAt now h _ = Unit {0}

-- so it is with each of some marks, one after another
abbrev Over : ℤ → History → List Mark → Type 0
Over now h [] = Unit {0}
Over now h (mark ∷ marks) = OverAt now h mark × Over now (mark ∷ h) marks

-- in particular with one that has others before and after it
over-at : (now : ℤ) (h : History) (earlier later : List Mark) (q t : ℕ) → Over now h (earlier ++ queued (switching q t) ∷ later) → period_ends (queue_of (marked h earlier) q) ≤ℤ now
over-at now h [] later q t over = over.0
over-at now h (mark ∷ earlier) later q t over = over-at now (mark ∷ h) earlier later q t over.1

over-append : (now : ℤ) (h : History) (xs ys : List Mark) → Over now h xs → Over now (marked h xs) ys → Over now h (xs ++ ys)
over-append now h [] ys first also = also
over-append now h (x ∷ xs) ys first also = (first.0, over-append now (x ∷ h) xs ys first.1 also)

-- no switch begins to be pending
abbrev begins_none : Mark → Bool
begins_none (queued (switching q t)) = false
begins_none _ = true

over-none : (now : ℤ) (h : History) (marks : List Mark) → EachMark begins_none marks → Over now h marks
over-none now h [] each = tt
over-none now h (mark ∷ marks) each = (of mark (when-true (EachMark begins_none marks) (begins_none mark) each), over-none now (mark ∷ h) marks (each-rest begins_none mark marks each))
  where
    of : (m : Mark) → begins_none m ≡ true → OverAt now h m
    of (queued (switching q t)) e = absurd (cc)
    of _ e = tt

none-begins : (earlier later : List Mark) (q t : ℕ) → EachMark begins_none (earlier ++ queued (switching q t) ∷ later) → ⊥
none-begins [] later q t each = each
none-begins (mark ∷ earlier) later q t each = none-begins earlier later q t (each-rest begins_none mark (earlier ++ queued (switching q t) ∷ later) each)

-- what statements do that make no first step of a rotation
none-done : (b : Block) (who : ℕ) (mark : Mark) → may_keep b who mark ≡ true → begins_none mark ≡ true
none-done b who (queued (switching q t)) e = absurd (cc)
none-done b who _ e = refl

over-done : (now : ℤ) (h : History) (b : Block) (who : ℕ) (marks : List Mark) → EachMark (may_do b who) marks → Over now h marks
over-done now h b who marks each = over-none now h marks (each-map (may_do b who) begins_none (λ mark e. none-done b who mark (keeps-too b who mark e)) marks each)

-- ---- what isn't held back

or-none : {A : Type 0} (a b : Option A) → option_or a b ≡ None → (a ≡ None) × (b ≡ None)
or-none None b none = (refl, none)
or-none (Some x) b none = absurd (cc)

not-before : (a b : ℤ) → int_lt a b ≡ false → b ≤ℤ a
not-before a b e = omega (arith, ints, e)

-- so the period of a queue of which nothing holds a switch back is over
free-over : (now : ℤ) (q : Queue) → held_back now q ≡ None → period_ends q ≤ℤ now
free-over now q free =
    let first = or-none (option_map Pending q.event_tables.pending) (option_or (held_by_period now q) (held_by_second_step q q.event_tables.second_step)) free in
    of (int_lt now (period_ends q)) refl (or-none (held_by_period now q) (held_by_second_step q q.event_tables.second_step) first.1).0
  where
    of : (b : Bool) → int_lt now (period_ends q) ≡ b → (if b then Some (Period (period_ends q)) else None) ≡ None → period_ends q ≤ℤ now
    of true is none = absurd (cc)
    of false is none = not-before now (period_ends q) is

-- ---- what calls leave

over-switch : (now : ℤ) (g : History) (who q t : ℕ) (b : Block) → period_ends (queue_of g q) ≤ℤ now → Over now g (switch_of q t now b ++ commit_of who t b)
over-switch now g who q t outside over = (over, (tt, (tt, tt)))
over-switch now g who q t inside over = (over, tt)
over-switch now g who q t failed over = (over, tt)

none-switches : (d : Database) (now : ℤ) (t : ℕ) (qs : List NamedQueue) (marks : List Mark) → EachMark begins_none marks → EachMark begins_none (switches_by d now t qs ++ marks)
none-switches d now t [] marks rest = rest
none-switches d now t (q ∷ qs) marks rest =
    by_test (λ b. EachMark begins_none ((if b then queued (switched q.number now) ∷ switches_by d now t qs else switches_by d now t qs) ++ marks)) (is_pending t (d.queue q.number).event_tables)
    (λ _. none-switches d now t qs marks rest) (λ _. none-switches d now t qs marks rest)

are-over : (now : ℤ) → IsOfCalls now (Over now)
are-over now = record {
  joined = over-append now;
  plain = λ b who h marks out each. over-done now h b who marks each;
  begins = λ h who. (tt, tt);
  switches = λ h who q t b mine is sound free. over-switch now h who q t b (free-over now (queue_of h q) free);
  switches_alone = λ h q t free. (free-over now (queue_of h q) free, (tt, (tt, tt)));
  brings_back = λ h rs.
      over-none now h (marks_of (brings (database_of h) now rs)) (each-map (may_keep inside 0) begins_none (none-done inside 0) (marks_of (brings (database_of h) now rs))
      (each-given AnyReply (may_keep inside 0) (brings (database_of h) now rs) (does-brings 0 inside (database_of h) now rs)));
  commits = λ h who t. over-none now h (switches_by (database_of h) now t (queues h) ++ ended (of_session who) t true ∷ block_ended who ∷ [])
      (none-switches (database_of h) now t (queues h) (ended (of_session who) t true ∷ block_ended who ∷ []) tt);
}

-- a call at a moment
is-over : (now : ℤ) (h : History) (marks earlier later : List Mark) (q t : ℕ) → Over now h marks → marks ≡ earlier ++ queued (switching q t) ∷ later → IsOver (marked h earlier) q (Some now)
is-over now h marks earlier later q t over same = record { now = now; called = refl; over = over-at now h earlier later q t (subst (Over now h) same over) }

pub switches_begin_after_periods : SwitchesBeginAfterPeriods
switches_begin_after_periods h (stepped who stmt now) earlier later q t =
    is-over now h (database_does database_by_history h (stepped who stmt now)).marks earlier later q t (of_stepped now (Over now) (are-over now) h who stmt)
switches_begin_after_periods h (failed_call who now) earlier later q t =
    is-over now h (database_does database_by_history h (failed_call who now)).marks earlier later q t (of_failed now (Over now) (are-over now) h who)
switches_begin_after_periods h (worked work now) earlier later q t =
    is-over now h (database_does database_by_history h (worked work now)).marks earlier later q t (of_worked now (Over now) (are-over now) h work)
switches_begin_after_periods h (entered who alone) earlier later q t =
    λ same. absurd (none-begins earlier later q t (each-map (may_do inside who) begins_none (λ mark e. none-done inside who mark (keeps-too inside who mark e)) (earlier ++ queued (switching q t) ∷ later)
    (subst (EachMark (may_do inside who)) same (each-entered h who alone))))
switches_begin_after_periods h (served call) earlier later q t =
    λ same. absurd (none-begins earlier later q t (each-map (may_do inside 0) begins_none (λ mark e. none-done inside 0 mark (keeps-too inside 0 mark e)) (earlier ++ queued (switching q t) ∷ later)
    (subst (EachMark (may_do inside 0)) same (each-served h call))))
