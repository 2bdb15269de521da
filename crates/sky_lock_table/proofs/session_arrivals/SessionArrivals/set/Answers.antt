use Rattle.std.proofs.Common.{◌∙◌, ap, sym, cond, Option, Some, None, ℕ}
use Rattle.sky_lock_table.specs.Sessions.{arrival_of}
use Rattle.sky_lock_table.proofs.Orders.{nat_ties}
use Rattle.sky_lock_table.proofs.SessionVectors.{at-set}
use Rattle.sky_lock_table.proofs.session_arrivals.SessionArrivals.set.Goals as goal

pub returns-clause-set : goal.returns-clause-set
returns-clause-set c = λ s.
    at-set (λ (a : Option ℕ). a) None c.args.self.now.numbers.items c.args.who s (Some c.args.arrival) c.requires
    ∙ ap (λ b. cond b (Some c.args.arrival) (arrival_of c.args.self.now.numbers.items s)) (sym (nat_ties c.args.who s))
