use Rattle.std.proofs.Common.{◌<◌, ◌≤◌, ◌∙◌, ap, sym, ℕ, List, Option, None, length, arith}
use Rattle.std.proofs.lemmas.Bool.Decides.{nat_tests}
use Rattle.sky_lock_table.specs.Sessions.{arrival_of}
use Rattle.sky_lock_table.proofs.SessionVectors.{at-read, at-past}
use Rattle.sky_lock_table.proofs.session_arrivals.SessionArrivals.get.Goals as goal

pub returns-in-Some : goal.returns-in-Some
returns-in-Some c =
    let within : c.args.who < length c.deref.result.now = grind (arith, nat_tests, c.in-Some.ensures.lookup.0) in
    sym (at-read (λ (a : Option ℕ). a) None c.deref.result.now c.args.who c.in-Some.arrival.now _ within (c.in-Some.ensures.lookup.1))
    ∙ ap (λ (xs : List (Option ℕ)). arrival_of xs c.args.who) c.deref.ensures.value

pub returns-in-None : goal.returns-in-None
returns-in-None c =
    let past : length c.deref.result.now ≤ c.args.who = grind (arith, nat_tests, c.in-None.ensures.lookup.0) in
    sym (at-past (λ (a : Option ℕ). a) None c.deref.result.now c.args.who past)
    ∙ ap (λ (xs : List (Option ℕ)). arrival_of xs c.args.who) c.deref.ensures.value
