use Rattle.std.proofs.Common.{◌≡◌, ℕ, Vec, Global, ◌∙◌, ◌-◌, ◌+◌, Some, zero, suc, true, false, length, is_some, ap, sym, arith}
use Rattle.std.specs.Prelude.{◌==◌}
use Rattle.std.proofs.lemmas.Bool.{eq-eqb, ne_eqb}
use Rattle.sky_keys.specs.Waits.{way_back}
use Rattle.sky_locks.specs.Locks.{waits_for_in}
use Rattle.sky_locks.proofs.RingLemmas.{with_rest, step_ends, step_closes, step_goes_on, step_last, ring_closes}
use Rattle.sky_locks.proofs.locks.Locks.ring.Goals.{else-loop-step-test, then-loop-step-test+in_ok-push-2+in_default-2, then-loop-step-test+in_ok-push-2+in_default}
use Rattle.sky_locks.proofs.locks.Locks.ring.Goals as goal

pub loop-step-preserved : goal.loop-step-preserved
loop-step-preserved c =
    let count : c.count-step-end.result - c.loop-step._step ≡ suc (c.count-step-end.result - (c.loop-step._step + 1)) = omega arith in
    let apart : (c.in-Some.next == c.args.who) ≡ false = ne_eqb c.in-Some.next c.args.who c.if-next-who.true in
    ap (λ passed. with_rest (waits_for_in c.args.self.now) c.args.who passed (c.count-step-end.result - (c.loop-step._step + 1)) c.in-Some.next) c.in_ok-push-2.ensures.items
    ∙ step_goes_on (waits_for_in c.args.self.now) c.args.who c.loop-step.sessions.items (c.count-step-end.result - c.loop-step._step) (c.count-step-end.result - (c.loop-step._step + 1)) c.loop-step.last c.in-Some.next _ count c.loop-step.invariant (sym c.in-Some.ensures) apart

pub returns : goal.returns
returns c =
    let there : is_some (way_back (waits_for_in c.args.self.now) c.args.who (length c.args.self.now.waiting) c.args.other) ≡ true = sym c.leads_back.ensures ∙ c.if-not-leads_back.false in
    elim c.loop-step-test.branch [
      | else-loop-step-test w ↦
          let count : c.count-step-end.result - c.loop-step._step ≡ zero = omega arith in
          absurd (ring_closes c.args.who _ there (step_last (waits_for_in c.args.self.now) c.args.who c.loop-step.sessions.items (c.count-step-end.result - c.loop-step._step) c.loop-step.last _ count c.loop-step.invariant))
      | then-loop-step-test+in_ok-push-2+in_default-2 w ↦
          let count : c.count-step-end.result - c.loop-step._step ≡ suc (c.count-step-end.result - (c.loop-step._step + 1)) = omega arith in
          let back : (w.in-Some.next == c.args.who) ≡ true = eq-eqb w.in-Some.next c.args.who w.if-next-who.false in
          ap Some (c.new.ensures ∙ ap (λ (v : Vec ℕ Global). v.items) w.sessions-is ∙ w.in_ok-push-2.ensures.items)
          ∙ step_closes (waits_for_in c.args.self.now) c.args.who c.loop-step.sessions.items (c.count-step-end.result - c.loop-step._step) (c.count-step-end.result - (c.loop-step._step + 1)) c.loop-step.last w.in-Some.next _ count c.loop-step.invariant (sym w.in-Some.ensures) back
      | then-loop-step-test+in_ok-push-2+in_default w ↦
          let count : c.count-step-end.result - c.loop-step._step ≡ suc (c.count-step-end.result - (c.loop-step._step + 1)) = omega arith in
          absurd (ring_closes c.args.who _ there (step_ends (waits_for_in c.args.self.now) c.args.who c.loop-step.sessions.items (c.count-step-end.result - c.loop-step._step) (c.count-step-end.result - (c.loop-step._step + 1)) c.loop-step.last _ count c.loop-step.invariant (sym w.in_default.ensures)))
    ]
