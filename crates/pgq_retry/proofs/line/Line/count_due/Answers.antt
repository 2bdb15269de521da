use Rattle.std.proofs.Common.{◌≡◌, ◌∙◌, ◌+◌, ◌-◌, ap, sym, subst, true, false, ℕ, min, length, arith, w64, to_z, of_z, FitsSigned, rules}
use Rattle.std.proofs.lemmas.Int.{to_z-of_z}
use Rattle.std.specs.Prelude.{filter, int_lt}
use Rattle.std.specs.List.Sorted.{IsStrictlySortedBy}
use Rattle.std.specs.Map.{values_of}
use Rattle.pgq_retry.specs.Retries.{is_due, by_due}
use Rattle.pgq_retry.specs.Kept.{due_cmp}
use Rattle.pgq_retry.proofs.DueCounts.{due_count, count_is, count_more, count_ends, count_full}
use Rattle.pgq_retry.proofs.line.Line.count_due.Goals as goal
use Rattle.pgq_retry.proofs.line.Line.count_due.Goals.{then-count-most-via-then-count-most, then-count-most-via-else-count-most+then-due-now}

at_first : (most due : ℕ) → 0 + min (most - 0) due ≡ min most due
at_first most due = omega arith

pub loop-due-init : goal.loop-due-init
loop-due-init c =
    let all = c.into_iter-due-iterator.ensures.into_iter_gives.0 in (
      omega arith,
      at_first c.args.most (due_count (to_z w64 (of_z w64 c.args.now)) c.into_iter-due-iterator.result)
          ∙ ap (λ ks. min c.args.most (due_count (to_z w64 (of_z w64 c.args.now)) ks)) all
          ∙ ap (min c.args.most) (count_is (to_z w64 (of_z w64 c.args.now)) c.self.inside.entries.entries c.self.inside.dues c.self.invariant)
          ∙ ap (λ es. min c.args.most (length (filter (is_due (to_z w64 (of_z w64 c.args.now))) (by_due (values_of es))))) c.self.view_is,
      subst (IsStrictlySortedBy due_cmp) (sym all) c.self.invariant.by_moment,
    )

pub loop-due-preserved : goal.loop-due-preserved
loop-due-preserved c =
    let due : FitsSigned w64 c.in-Some.field-0.now.0 = search rules in
    count_more (to_z w64 (of_z w64 c.args.now)) c.loop-due.count c.args.most (min c.args.most (length (filter (is_due (to_z w64 (of_z w64 c.args.now))) (by_due (values_of c.args.self.now)))))
    c.in-Some.field-0.now c.loop-due.due-iterator c.next.new.self c.in-Some.ensures.steps c.loop-due.invariant.0 c.loop-due.invariant.1 c.loop-due.invariant.2
    c.if-count-most.false (subst (λ d. int_lt (to_z w64 (of_z w64 c.args.now)) d ≡ false) (to_z-of_z w64 c.in-Some.field-0.now.0 due) c.if-due-now.false)

pub returns-then-count-most : goal.returns-then-count-most
returns-then-count-most c =
    let moment : FitsSigned w64 c.args.now = search rules in
    subst (λ m. c.loop-due.count ≡ min c.args.most (length (filter (is_due m) (by_due (values_of c.args.self.now))))) (to_z-of_z w64 c.args.now moment) (elim c.then-count-most.branch [
      | then-count-most-via-then-count-most w ↦ count_full (to_z w64 (of_z w64 c.args.now)) c.loop-due.count c.args.most _
          c.in-Some.field-0.now c.loop-due.due-iterator c.next.new.self c.in-Some.ensures.steps c.loop-due.invariant.0 c.loop-due.invariant.1 c.loop-due.invariant.2 w.if-count-most.true
      | then-count-most-via-else-count-most+then-due-now w ↦
          let due : FitsSigned w64 c.in-Some.field-0.now.0 = search (rules, c.next.type_inv) in
          count_ends (to_z w64 (of_z w64 c.args.now)) c.loop-due.count c.args.most _
          c.in-Some.field-0.now c.loop-due.due-iterator c.next.new.self c.in-Some.ensures.steps c.loop-due.invariant.0 c.loop-due.invariant.1 c.loop-due.invariant.2
          (subst (λ d. int_lt (to_z w64 (of_z w64 c.args.now)) d ≡ true) (to_z-of_z w64 c.in-Some.field-0.now.0 due) w.if-due-now.true)
    ])
