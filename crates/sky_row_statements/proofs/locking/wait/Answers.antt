use Rattle.std.proofs.Common.{◌≡◌, ℕ, List, Option, IfNone, IfSome, refl, subst, sym, ◌∙◌}
use Rattle.sky_model.specs.History.{tabled, waits}
use Rattle.sky_model.specs.State.{after_part}
use Rattle.sky_state.specs.Seen.{seen}
use Rattle.sky_row_statements.proofs.WaitLemmas.{does-wait, ring-refused}
use Rattle.sky_row_statements.proofs.locking.wait.Goals as goal

pub returns-in_ok-answer-in-None : goal.returns-in_ok-answer-in-None
returns-in_ok-answer-in-None c =
    let d = seen c.args.state.now in
    let key = c.args.key.now in
    does-wait d (seen c.waits.new.self) c.args.step.now c.answer.new.self c.args.who key.table key.key c.args.attempt c.args.holder (sym c.in_ok-waits.ensures.ring ∙ c.in-None.is)
    c.in_ok-answer-in-None.ensures.replied c.in_ok-answer-in-None.ensures.told
    (subst (λ (closed : Option (List ℕ)). IfNone closed (seen c.waits.new.self ≡ after_part d (tabled (waits c.args.who key.table key.key c.args.attempt)))) c.in-None.is c.in_ok-waits.ensures.mark)

pub returns-in-Some : goal.returns-in-Some
returns-in-Some c =
    let d = seen c.args.state.now in
    let key = c.args.key.now in (
      record {
        refused = ring-refused d c.args.who key.table key.key c.args.attempt c.args.holder c.in-Some.ring (sym c.in_ok-waits.ensures.ring ∙ c.in-Some.is);
        same = subst (λ (closed : Option (List ℕ)). IfSome closed (λ ring. seen c.waits.new.self ≡ d)) c.in-Some.is c.in_ok-waits.ensures.same;
      },
      refl,
    )
