-- The next id is above the running ones.
use Rattle.std.proofs.Common.{◌≡◌, ◌<◌, ◌^◌, false, subst, sym}
use Rattle.sky_txid.specs.Ids.{contains}
use Rattle.sky_trans.specs.Trans.{TransView}
use Rattle.sky_trans.proofs.TransLemmas.{sound_spent, next_is_fresh}
use Rattle.sky_trans.proofs.trans.Trans.spend.Goals as goal

pub invariant_of-self : goal.invariant_of-self
invariant_of-self c =
    sound_spent (record { next = c.self.inside.next; running = c.self.inside.running.items }) c.self.invariant (subst (λ (v : TransView). v.next < 2 ^ 62) (sym c.self.view_is) c.requires)

pub returns-clause-fresh : goal.returns-clause-fresh
returns-clause-fresh c = subst (λ (v : TransView). contains c.self.inside.next v.running ≡ false) c.self.view_is (next_is_fresh (record { next = c.self.inside.next; running = c.self.inside.running.items }) c.self.invariant)
