-- Only the session that makes a statement can begin to wait by it, so all that wait are sessions that there are.
use Rattle.std.proofs.Common.{◌≡◌, ℕ, zero, suc, ℤ, ◌<◌, List, [], ◌∷◌, Bool, true, false, not, ◌==◌, Option, Some, None, length, refl, sym, ◌∙◌, ap, subst, arith}
use Rattle.std.specs.Prelude.{◌||◌}
use Rattle.std.proofs.lemmas.Bool.{and_parts}
use Rattle.std.proofs.lemmas.Bool.Decides.{nat_tests}
use Rattle.std.proofs.lemmas.List.Elements.{All-cons, All-append, All-filter}
use Rattle.sky_keys.specs.Waits.{Waiting, is_waiting}
use Rattle.sky_model.specs.declared.stmt.DbStmt.{DbStmt}
use Rattle.sky_model.specs.declared.reply.Reply.{Reply}
use Rattle.sky_model.specs.History.{Mark, ended, sight_taken, tabled, waits, waited, queued, made, noded, NodeMark, hold_begun, hold_ended}
use Rattle.sky_model.specs.Sessions.{Block, Session}
use Rattle.sky_model.specs.State.{Database, after_mark, after_marks, RowPart}
use Rattle.sky_model.specs.Permits.{MarkKinds, of_any, may_leave, permit_of}
use Rattle.sky_model.specs.Allowed.{where_of, allowed}
use Rattle.sky_model.specs.Reader.{PartReader, database_by_itself, within_part, shown_by}
use Rattle.sky_model.specs.Settling.{Turn, turn_of, behind_marks, ready, resumed, goes_on, settles, settling, with_settling}
use Rattle.sky_model.specs.Calls.{form, making, statement, database_turn}
use Rattle.sky_histories.proofs.StatementMarks.{EachMark, when-true, each-rest, Gives as Given, AnyReply, gives-map, gives-form, each-failure, given-runs}
use Rattle.sky_histories.proofs.Resting.{is-ready, KeepsPart, waiting-resumed, behind-append}
use Rattle.sky_histories.proofs.DatabaseResting.{database-keeps}
use Rattle.sky_histories.proofs.DatabaseStanding.{after_marks-append, behind-all}
use Rattle.sky_model.specs.SessionMarks.{failure, failing}
use Rattle.sky_store.specs.Waiters.{WaitersWithin, AnswersWithin, StaysWithin}

abbrev is_own : ℕ → Mark → Bool
is_own who (tabled (waits w table key attempt)) = w == who
is_own who _ = true

-- none of the marks begins a wait of another session
abbrev OwnWaits : ℕ → List Mark → Type 0
OwnWaits who marks = EachMark (is_own who) marks

own-plain : (who : ℕ) (s : Session) (v : ℕ) (mark : Mark) → may_leave of_any s v mark ≡ true → is_own who mark ≡ true
own-plain who s v (tabled (waits w table key attempt)) e = absurd (cc)
own-plain who s v _ e = refl

own-if : (k : MarkKinds) (s : Session) (who : ℕ) (mark : Mark) → may_leave k s who mark ≡ true → is_own who mark ≡ true
own-if k s who (tabled (waits w table key attempt)) e = (and_parts k.waits_for (w == who) e).1
own-if k s who _ e = refl

own-form : (d : Database) (now : ℤ) (who : ℕ) (stmt : DbStmt) → Given AnyReply (is_own who) (form d (shown_by d) now who stmt)
own-form d now who stmt =
    gives-map AnyReply AnyReply (may_leave (permit_of stmt).kinds s who) (is_own who) (λ reply any. any) (own-if (permit_of stmt).kinds s who) _ (gives-form who d (shown_by d) now stmt)
  where
    s : Session
    s = d.part.session who

own-statement : (d : Database) (now : ℤ) (who : ℕ) (stmt : DbStmt) → OwnWaits who (statement database_by_itself d now who stmt).marks
own-statement d now who stmt =
    (given-runs AnyReply (is_own who) (λ _. tt) (own-plain who) (making database_by_itself now who stmt) (where_of stmt) who d
    (allowed (is_waiting who d.part.waiting) (d.part.session who).is_open (d.part.session who).block (where_of stmt))
    (own-form d now who stmt) (own-form (after_mark d (sight_taken who)) now who stmt)).1

own-failure : (who : ℕ) (o : Option ℕ) (b : Block) → OwnWaits who (failure who o b)
own-failure who o b = each-failure AnyReply (is_own who) (λ _. tt) (own-plain who) who o b

-- ---- so they are of as many as there are sessions

abbrev IsWithin : ℕ → Waiting → Type 0
IsWithin count w = w.who < count

abbrev IsKnown : ℕ → ℕ × Reply → Type 0
IsKnown count answer = answer.0 < count

-- what happens to a node leaves the row part as it was
part-stays : (d : Database) (mark : NodeMark) → (after_mark d (noded mark)).part ≡ d.part
part-stays d (hold_begun hold) = refl
part-stays d (hold_ended hold) = refl
part-stays d mark = refl

within-behind : (count who : ℕ) → who < count → (d : Database) (marks : List Mark) → OwnWaits who marks → WaitersWithin count d.part.waiting → WaitersWithin count (after_marks d marks).part.waiting
within-behind count who lt d [] own within = within
within-behind count who lt d (tabled (waits v table key attempt) ∷ marks) own within =
    let is : (v == who) ≡ true = when-true _ (v == who) own in
    let same : who ≡ v = grind (arith, nat_tests) in
    within-behind count who lt (after_mark d (tabled (waits v table key attempt))) marks (each-rest (is_own who) (tabled (waits v table key attempt)) marks own)
    (All-append (IsWithin count) d.part.waiting (record { who = v; table = table; key = key } ∷ []) within
    (All-cons (IsWithin count) (record { who = v; table = table; key = key }) [] (subst (λ n. n < count) same lt) (λ k w at. absurd (omega arith))))
within-behind count who lt d (tabled (waited v) ∷ marks) own within =
    within-behind count who lt (after_mark d (tabled (waited v))) marks own (All-filter (λ w. not (w.who == v)) (IsWithin count) d.part.waiting within)
within-behind count who lt d (ended v t true ∷ marks) own within = within-behind count who lt (after_mark d (ended v t true)) marks own within
within-behind count who lt d (queued (made name t time) ∷ marks) own within = within-behind count who lt (after_mark d (queued (made name t time))) marks own within
within-behind count who lt d (noded mark ∷ marks) own within =
    within-behind count who lt (after_mark d (noded mark)) marks own (subst (λ (p : RowPart). WaitersWithin count p.waiting) (sym (part-stays d mark)) within)
within-behind count who lt d (mark ∷ marks) own within = within-behind count who lt (after_mark d mark) marks own within

waiting-within : (count who : ℕ) (ws : List Waiting) → WaitersWithin count ws → is_waiting who ws ≡ true → who < count
waiting-within count who [] within is = absurd (cc)
waiting-within count who (w ∷ ws) within is = of (w.who == who) refl is (waiting-within count who ws (λ k x at. within (suc k) x (omega arith)))
  where
    of : (b : Bool) → (w.who == who) ≡ b → (b || is_waiting who ws) ≡ true → (is_waiting who ws ≡ true → who < count) → who < count
    of true e also ih = let same : w.who ≡ who = grind (arith, nat_tests) in subst (λ n. n < count) same (within zero w (omega arith))
    of false e also ih = ih also

-- those who resume waited
record GoOnWithin {P : Type 0} (r : PartReader P) (count : ℕ) (p : P) (turn : Turn) : Type 0 where
  answers : AnswersWithin count turn.answers
  waiting : WaitersWithin count (r.part (behind_marks r p turn.marks)).waiting

settles-within : {P : Type 0} (r : PartReader P) → KeepsPart r → (count n : ℕ) (p : P) → WaitersWithin count (r.part p).waiting → GoOnWithin r count p (settles r n p)
settles-within r keeps count zero p within = record { answers = λ k a at. absurd (omega arith); waiting = within }
settles-within {P = P} r keeps count (suc n) p within = of (ready (r.part p)) refl (settles-within r keeps count n)
  where
    of : (o : Option Waiting) → ready (r.part p) ≡ o → ((q : P) → WaitersWithin count (r.part q).waiting → GoOnWithin r count q (settles r n q))
        → GoOnWithin r count p (goes_on r p (settles r n) o)
    of None e ih = record { answers = λ k a at. absurd (omega arith); waiting = within }
    of (Some w) e ih =
        let rest : GoOnWithin r count (behind_marks r p (resumed r p w).marks) (settles r n (behind_marks r p (resumed r p w).marks)) =
        ih (behind_marks r p (resumed r p w).marks)
        (subst (WaitersWithin count) (sym (waiting-resumed r keeps p w e)) (All-filter (λ x. not (x.who == w.who)) (IsWithin count) (r.part p).waiting within)) in
        record {
          answers = All-cons (IsKnown count) _ _ (waiting-within count w.who (r.part p).waiting within (is-ready (r.part p) w e).there) rest.answers;
          waiting = subst (λ (q : P). WaitersWithin count (r.part q).waiting)
              (sym (behind-append r p (resumed r p w).marks (settles r n (behind_marks r p (resumed r p w).marks)).marks)) rest.waiting;
        }

-- the sessions of a turn's answers are known, and so are those that wait after it
record TurnWithin (count : ℕ) (d : Database) (turn : Turn) : Type 0 where
  answers : AnswersWithin count turn.answers
  waiting : WaitersWithin count (after_marks d turn.marks).part.waiting

settling-within : (count : ℕ) (now : ℤ) (d : Database) → WaitersWithin count d.part.waiting → TurnWithin count d (settling (within_part database_by_itself now) d)
settling-within count now d within = record {
  answers = gone.answers;
  waiting = subst (λ (x : Database). WaitersWithin count x.part.waiting) (behind-all now d (settling (within_part database_by_itself now) d).marks) gone.waiting;
}
  where
    gone : GoOnWithin (within_part database_by_itself now) count d (settling (within_part database_by_itself now) d)
    gone = settles-within (within_part database_by_itself now) (database-keeps now) count (length d.part.waiting) d within

-- what a session does itself, and then those that resume
then-within : (count : ℕ) (now : ℤ) (d : Database) (who : ℕ) (turn : Turn) → who < count → AnswersWithin count turn.answers → OwnWaits who turn.marks → WaitersWithin count d.part.waiting
    → TurnWithin count d (with_settling (within_part database_by_itself now) d turn)
then-within count now d who turn lt known own within = record {
  answers = All-append (IsKnown count) turn.answers (settling (within_part database_by_itself now) place).answers known later.answers;
  waiting = subst (λ (x : Database). WaitersWithin count x.part.waiting)
      (ap (λ x. after_marks x (settling (within_part database_by_itself now) place).marks) (behind-all now d turn.marks)
      ∙ sym (after_marks-append d turn.marks (settling (within_part database_by_itself now) place).marks)) later.waiting;
}
  where
    place : Database
    place = behind_marks (within_part database_by_itself now) d turn.marks

    later : TurnWithin count place (settling (within_part database_by_itself now) place)
    later = settling-within count now place
        (subst (λ (x : Database). WaitersWithin count x.part.waiting) (sym (behind-all now d turn.marks)) (within-behind count who lt d turn.marks own within))

stays-within : (now : ℤ) (d s : Database) (who : ℕ) (turn : Turn) → ((count : ℕ) → who < count → AnswersWithin count turn.answers) → OwnWaits who turn.marks
    → s ≡ after_marks d (with_settling (within_part database_by_itself now) d turn).marks → StaysWithin d s who (with_settling (within_part database_by_itself now) d turn).answers
stays-within now d s who turn known own is = record {
  answers = λ count lt within. (then-within count now d who turn lt (known count lt) own within).answers;
  waiters = λ count lt within. subst (λ (x : Database). WaitersWithin count x.part.waiting) (sym is) (then-within count now d who turn lt (known count lt) own within).waiting;
}

-- a statement
pub statement-within : (d s : Database) (now : ℤ) (who : ℕ) (stmt : DbStmt) → s ≡ after_marks d (database_turn database_by_itself d now who stmt).marks
    → StaysWithin d s who (database_turn database_by_itself d now who stmt).answers
statement-within d s now who stmt =
    stays-within now d s who (turn_of who (statement database_by_itself d now who stmt))
    (λ count lt. All-cons (IsKnown count) _ [] lt (λ k a at. absurd (omega arith))) (own-statement d now who stmt)

-- and a failure
pub failure-within : (now : ℤ) (d s : Database) (who : ℕ) → s ≡ after_marks d (with_settling (within_part database_by_itself now) d (failing d.part who)).marks
    → StaysWithin d s who (with_settling (within_part database_by_itself now) d (failing d.part who)).answers
failure-within now d s who =
    stays-within now d s who (failing d.part who) (λ count lt k a at. absurd (omega arith)) (own-failure who (d.part.session who).txid (d.part.session who).block)
