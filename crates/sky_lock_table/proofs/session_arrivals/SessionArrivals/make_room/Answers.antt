use Rattle.std.proofs.Common.{◌∙◌, ap, refl, ℕ, Option, None, List}
use Rattle.sky_lock_table.specs.Sessions.{arrival_of}
use Rattle.sky_lock_table.proofs.SessionVectors.{at-padded}
use Rattle.sky_lock_table.proofs.session_arrivals.SessionArrivals.make_room.Goals as goal

pub loop-self-preserved : goal.loop-self-preserved
loop-self-preserved c = λ s. ap (λ (xs : List (Option ℕ)). arrival_of xs s) c.in_ok-push.ensures.items ∙ at-padded (λ (a : Option ℕ). a) None _ None s refl ∙ c.loop-self.invariant s
