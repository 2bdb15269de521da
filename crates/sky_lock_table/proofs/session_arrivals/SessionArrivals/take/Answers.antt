use Rattle.std.proofs.Common.{◌≡◌, ◌<◌, ◌≤◌, ◌∙◌, ap, sym, cond, refl, true, false, ℕ, Option, None, length, arith}
use Rattle.std.specs.Prelude.{◌==◌}
use Rattle.std.specs.Ordering.{nat_cmp, eq_by_cmp}
use Rattle.sky_lock_table.specs.Sessions.{arrival_of}
use Rattle.sky_lock_table.proofs.Orders.{nat_ties, tie_is}
use Rattle.sky_lock_table.proofs.SessionVectors.{at-set, at-past, at-read}
use Rattle.sky_lock_table.proofs.session_arrivals.SessionArrivals.take.Goals as goal

pub returns-then-who-len-clause-value : goal.returns-then-who-len-clause-value
returns-then-who-len-clause-value c =
    let past : length c.args.self.now.numbers.items ≤ c.args.who = omega (arith, c.args.self.now.numbers.ok, c.len.ensures) in
    sym (at-past (λ (a : Option ℕ). a) None c.args.self.now.numbers.items c.args.who past)

pub returns-then-who-len-clause-updates : goal.returns-then-who-len-clause-updates
returns-then-who-len-clause-updates c = λ s.
    let past : length c.args.self.now.numbers.items ≤ c.args.who = omega (arith, c.args.self.now.numbers.ok, c.len.ensures) in
    elim (eq_by_cmp nat_cmp c.args.who s) as (λ b. eq_by_cmp nat_cmp c.args.who s ≡ b → arrival_of c.args.self.now.numbers.items s ≡ cond b None (arrival_of c.args.self.now.numbers.items s)) [
      | true ↦ λ tie. ap (arrival_of c.args.self.now.numbers.items) (sym (tie_is c.args.who s tie)) ∙ at-past (λ (a : Option ℕ). a) None c.args.self.now.numbers.items c.args.who past
      | false ↦ λ _. refl
    ] refl

pub returns-clause-value : goal.returns-clause-value
returns-clause-value c =
    let within : c.args.who < length c.args.self.now.numbers.items = omega (arith, c.args.self.now.numbers.ok, c.len.ensures) in
    c.take.ensures.value ∙ sym (at-read (λ (a : Option ℕ). a) None c.args.self.now.numbers.items c.args.who c.index_mut.result.now c.index_mut.result.now within c.index_mut.ensures.value)

pub returns-clause-updates : goal.returns-clause-updates
returns-clause-updates c = λ s.
    let within : c.args.who < length c.args.self.now.numbers.items = omega (arith, c.args.self.now.numbers.ok, c.len.ensures) in
    at-set (λ (a : Option ℕ). a) None c.args.self.now.numbers.items c.args.who s c.take.new.self within
    ∙ ap (λ o. cond (c.args.who == s) o (arrival_of c.args.self.now.numbers.items s)) c.take.ensures.after
    ∙ ap (λ b. cond b None (arrival_of c.args.self.now.numbers.items s)) (sym (nat_ties c.args.who s))
