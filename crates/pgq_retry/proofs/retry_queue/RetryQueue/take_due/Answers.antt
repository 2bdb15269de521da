use Rattle.std.proofs.Common.{◌≡◌, ◌∙◌, ◌+◌, ◌++◌, ◌∷◌, [], ap, sym, length, min, arith, w64, FitsSigned, rules}
use Rattle.std.specs.Prelude.{filter}
use Rattle.std.specs.Map.{values_of}
use Rattle.std.proofs.lemmas.List.{length-append, append_assoc}
use Rattle.std.proofs.lemmas.Int.{to_z-of_z}
use Rattle.pgq_retry.specs.Retries.{by_due, is_due, due_now, left_by, without}
use Rattle.pgq_retry.proofs.TakingDue.{taken_are, one_more, left-none, left-more}
use Rattle.pgq_retry.proofs.retry_queue.RetryQueue.take_due.Goals as goal
use Rattle.pgq_retry.proofs.retry_queue.RetryQueue.take_due.Goals.{else-loop-turn-test, then-loop-turn-test+in_default}

pub loop-turn-init : goal.loop-turn-init
loop-turn-init c =
    let list = values_of c.self.inside.placed in
    let none = c.in_ok-taken.ensures.items in (
      ap (λ ws. ws ++ by_due list) (sym none),
      left-none list ∙ ap (λ ws. left_by ws list) (sym none),
      ap length none,
      c.in_ok-taken.ensures.exact,
    )

pub loop-turn-preserved : goal.loop-turn-preserved
loop-turn-preserved c =
    let list = values_of c.self.inside.placed in
    let taken = c.loop-turn.taken.items in
    let waiting = c.in-Some.waiting in
    let pushed = c.push_reserved.ensures.items in (
      c.loop-turn.invariant.0
          ∙ ap (λ ws. taken ++ ws) c.in-Some.ensures.first
          ∙ sym (append_assoc taken (waiting ∷ []) (by_due (values_of c.take_first.new.self)))
          ∙ ap (λ ws. ws ++ by_due (values_of c.take_first.new.self)) (sym pushed),
      c.in-Some.ensures.others
          ∙ ap (without waiting.sub waiting.event.ev_id) c.loop-turn.invariant.1
          ∙ left-more waiting taken list
          ∙ ap (λ ws. left_by ws list) (sym pushed),
      ap length pushed ∙ length-append taken (waiting ∷ []) ∙ ap (λ n. n + 1) c.loop-turn.invariant.2,
      c.push_reserved.ensures.capacity ∙ c.loop-turn.invariant.3,
    )

pub returns-clause-taken : goal.returns-clause-taken
returns-clause-taken c =
    let list = values_of c.self.inside.placed in
    let taken = c.loop-turn.taken.items in
    let to_end = c.loop-turn.auto._turn-end in
    let moment : FitsSigned w64 c.args.now = search rules in
    let count : c.count_due-count.result ≡ min c.args.most (length (filter (is_due c.args.now) (by_due list))) =
    c.count_due-count.ensures ∙ ap (λ m. min c.args.most (length (filter (is_due m) (by_due list)))) (to_z-of_z w64 c.args.now moment) in
    elim c.loop-turn-test.branch [
      | else-loop-turn-test w ↦
          let all : length taken ≡ c.count_due-count.result = let over = w.loop-turn-test.false in let turns = c.loop-turn.invariant.2 in omega arith in
          taken_are c.args.now c.args.most list taken (by_due (values_of c.loop-turn.self-inside.placed)) c.loop-turn.invariant.0 (all ∙ count)
          ∙ ap (due_now c.args.now c.args.most) c.self.view_is
      | then-loop-turn-test+in_default w ↦
          let none = w.in_default.ensures.none in
          absurd (one_more c.args.now c.args.most c.count_due-count.result c.loop-turn._turn list taken
          (c.loop-turn.invariant.0 ∙ ap (λ es. taken ++ by_due (values_of es)) none)
          c.loop-turn.invariant.2 w.loop-turn-test.true count)
    ]
