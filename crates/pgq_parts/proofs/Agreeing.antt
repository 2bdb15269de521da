-- What the queues keep agrees with the row part, whatever happens to either.
use Rattle.std.proofs.Common.{◌≡◌, ℕ, ℤ, ◌+◌, ◌<◌, ◌≤◌, ◌^◌, Bool, true, false, nat_le, List, [], ◌∷◌, Option, Some, None, Result, Ok, Err, IfOk, OnErr, length, refl, sym, ◌∙◌, ap, subst, arith}
use Rattle.std.specs.List.{All}
use Rattle.std.proofs.lemmas.Bool.Decides.{nat_tests}
use Rattle.std.specs.declared.alloc.AllocError.{AllocError}
use Rattle.pgq_parts.specs.Views.{NodePart}
use Rattle.sky_model.specs.declared.reply.Refusal.{Refusal}
use Rattle.sky_model.specs.declared.reply.Refusal.TheVariants.{TxidsSpent}
use Rattle.sky_model.specs.declared.stmt.Where.{Where}
use Rattle.sky_model.specs.History.{Mark, of_session, of_worker, began, ended, tabled, table_made, wrote, waits, waited}
use Rattle.sky_model.specs.State.{RowPart, after_part, after_part_marks}
use Rattle.sky_model.specs.Outcome.{◌>>◌, refused_if}
use Rattle.sky_model.specs.OwnTransaction.{next_id}
use Rattle.sky_model.specs.Gates.{passed, passed_all}
use Rattle.sky_model.specs.SessionMarks.{sight_marks, Enters}
use Rattle.sky_model.specs.Settling.{Turn}
use Rattle.sky_histories.proofs.Telling.{SameTold}
use Rattle.pgq_queues.specs.Views.{QueuesView}
use Rattle.pgq_queues.specs.Seen.{seen_with}
use Rattle.pgq_queues.specs.Traced.{AreTables, KeepsRest}
use Rattle.pgq_queues.specs.EventRule.{event_rule}
use Rattle.londiste_apply.specs.Writing.{Marked}
use Rattle.pgq_parts.specs.Agreeing.{Agree}
use Rattle.pgq_parts.specs.Seen.{with_node}
use Rattle.pgq_parts.proofs.Tables.{tables-behind, tables-stay}
use Rattle.pgq_parts.proofs.EventsAlike.{Alike, tables-behind_turn}

-- ---- ids that are given

next-kept : (p : RowPart) (mark : Mark) → p.next ≤ (after_part p mark).next
next-kept p (began whose t) = omega arith
next-kept p (ended whose t true) = omega arith
next-kept p (tabled (table_made name columns)) = omega arith
next-kept p (tabled (wrote whose t table key old new)) = omega arith
next-kept p (tabled (waits who table key attempted)) = omega arith
next-kept p (tabled (waited who)) = omega arith
next-kept p mark = omega arith

next-behind : (p : RowPart) (marks : List Mark) → p.next ≤ (after_part_marks p marks).next
next-behind p [] = omega arith
next-behind p (mark ∷ marks) =
    let here = next-kept p mark in
    let rest = next-behind (after_part p mark) marks in
    omega (arith, here, rest)

next-then : (old new : RowPart) (marks : List Mark) → new ≡ after_part_marks old marks → old.next ≤ new.next
next-then old new marks is = subst (λ (x : RowPart). old.next ≤ x.next) (sym is) (next-behind old marks)

-- an id that is left is one of so many
left-few : (p : RowPart) (t : ℕ) → next_id p ≡ Ok t → p.next < 2 ^ 62
left-few p t left = by (nat_le (2 ^ 62) p.next) refl left
  where
    by : (b : Bool) → nat_le (2 ^ 62) p.next ≡ b → (refused_if b TxidsSpent >> Ok p.next) ≡ Ok t → p.next < 2 ^ 62
    by true is e = absurd (cc)
    by false is e = grind (arith, nat_tests)

-- ---- rows and queues

-- queues that keep the rest
pub agree-stay : (p : RowPart) (old new : QueuesView) → KeepsRest old new → Agree p old → Agree p new
agree-stay p old new keeps are = record {
  tables = tables-stay p old new keeps are.tables;
  given = subst (λ n. n ≤ p.next) (sym keeps.rounds) are.given;
  few = subst (λ n. n ≤ 2 ^ 62) (sym keeps.rounds) are.few;
}

-- queues with one more trigger
pub agree-traced : (p : RowPart) (old new : QueuesView) → new.rounds ≡ old.rounds → AreTables p new → Agree p old → Agree p new
agree-traced p old new same tables are = record { tables = tables; given = subst (λ n. n ≤ p.next) (sym same) are.given; few = subst (λ n. n ≤ 2 ^ 62) (sym same) are.few }

-- a row part after marks
pub agree-then : (old new : RowPart) (marks : List Mark) (q : QueuesView) → new ≡ after_part_marks old marks → Agree old q → Agree new q
agree-then old new marks q is are =
    let more = next-then old new marks is in
    record {
      tables = subst (λ part. AreTables part q) (sym is) (tables-behind old marks q are.tables);
      given = omega (arith, more, are.given);
      few = are.few;
    }

pub agree-marked : (old new : RowPart) (q : QueuesView) → Marked old new → Agree old q → Agree new q
agree-marked old new q is are = agree-then old new is.marks q is.left are

pub agree-same : (old new : RowPart) (q : QueuesView) → new ≡ old → Agree old q → Agree new q
agree-same old new q is are = subst (λ part. Agree part q) (sym is) are

-- and after a statement came in, or not
pub agree-entered : (old new : RowPart) (who : ℕ) (place : Where) (r : Result (Option Refusal) AllocError) (q : QueuesView)
    → IfOk r (λ refusal. Enters old new who place refusal) → OnErr r (new ≡ old) → Agree old q → Agree new q
agree-entered old new who place (Ok None) q enters err are = agree-then old new (sight_marks old who place) q enters.1 are
agree-entered old new who place (Ok (Some refusal)) q enters err are = agree-same old new q enters.1 are
agree-entered old new who place (Err no_memory) q enters err are = agree-same old new q err are

-- ---- turns of rows

-- what is kept of triggers and tables stays the same in the queues as the gate
keeps-passed : (q : QueuesView) (mark : Mark) → KeepsRest q (passed event_rule q mark)
keeps-passed q (tabled (wrote (of_session who) t table key old new)) = record { time = refl; triggers = refl; traced_tables = refl; rounds = refl }
keeps-passed q (ended whose t false) = record { time = refl; triggers = refl; traced_tables = refl; rounds = refl }
keeps-passed q mark = record { time = refl; triggers = refl; traced_tables = refl; rounds = refl }

keeps-all : (q : QueuesView) (marks : List Mark) → KeepsRest q (passed_all event_rule q marks)
keeps-all q [] = record { time = refl; triggers = refl; traced_tables = refl; rounds = refl }
keeps-all q (mark ∷ marks) =
    let one = keeps-passed q mark in
    let rest = keeps-all (passed event_rule q mark) marks in
    record { time = rest.time ∙ one.time; triggers = rest.triggers ∙ one.triggers; traced_tables = rest.traced_tables ∙ one.traced_tables; rounds = rest.rounds ∙ one.rounds }

-- after marks of rows
pub agree-passed : (old new : RowPart) (was left : QueuesView) (marks : List Mark) → new ≡ after_part_marks old marks → left ≡ passed_all event_rule was marks → Agree old was → Agree new left
agree-passed old new was left marks part_is left_is are =
    agree-then old new marks left part_is (subst (Agree old) (sym left_is) (agree-stay old was (passed_all event_rule was marks) (keeps-all was marks) are))

-- after a turn, from where the queues got a time
pub agree-behind_turn : (now : ℤ) (node : NodePart) (at : ℤ) (p after : RowPart) (was q left : QueuesView) (gated told : Turn)
    → (Alike now node (seen_with (with_node node p) was) p q → SameTold event_rule (Alike now node) (seen_with (with_node node p) was) p q gated told)
    → q ≡ record was { time = at } → at ≡ now → Agree p was → All (λ t. t.trigger.queue < length q.queues) q.triggers → after ≡ after_part_marks p gated.marks → left ≡ passed_all event_rule q gated.marks → Agree after left
agree-behind_turn now node at p after was q left gated told tells is time are within part_is left_is =
    let more = next-then p after gated.marks part_is in
    let same : left.rounds ≡ was.rounds = ap QueuesView.rounds left_is ∙ (keeps-all q gated.marks).rounds ∙ ap QueuesView.rounds is in
    record {
      tables = tables-behind_turn now node at p after was q left gated told tells is time are.tables within part_is left_is;
      given = omega (arith, more, same, are.given);
      few = omega (arith, same, are.few);
    }

-- ---- retries that come back

-- they come back once more, and a transaction got its id for it
pub agree-back : (old new : RowPart) (t : ℕ) (was q : QueuesView) → next_id old ≡ Ok t → new ≡ after_part_marks old (began of_worker t ∷ ended of_worker t true ∷ [])
    → KeepsRest (record was { rounds = was.rounds + 1 }) q → Agree old was → Agree new q
agree-back old new t was q left is keeps are =
    let few = left-few old t left in
    let one : new.next ≡ old.next + 1 = ap RowPart.next is in
    let before = are.given in
    agree-stay new (record was { rounds = was.rounds + 1 }) q keeps (record {
      tables = (agree-then old new (began of_worker t ∷ ended of_worker t true ∷ []) was is are).tables;
      given = omega (arith, one, before);
      few = omega (arith, few, before);
    })

-- a worker's transaction, in which queues change and the rest stays
pub agree-worked : (old new : RowPart) (t : ℕ) (was q : QueuesView) → new ≡ after_part_marks old (began of_worker t ∷ ended of_worker t true ∷ []) → KeepsRest was q → Agree old was → Agree new q
agree-worked old new t was q is keeps are = agree-stay new was q keeps (agree-then old new (began of_worker t ∷ ended of_worker t true ∷ []) was is are)
