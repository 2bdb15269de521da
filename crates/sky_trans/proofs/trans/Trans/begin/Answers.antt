-- The next id is above the running ones.
use Rattle.std.proofs.Common.{◌≡◌, ◌<◌, ◌^◌, false, subst, sym}
use Rattle.sky_txid.specs.Ids.{contains}
use Rattle.sky_trans.specs.Trans.{TransView}
use Rattle.sky_trans.proofs.TransLemmas.{sound_assigned, next_is_fresh}
use Rattle.sky_trans.proofs.trans.Trans.begin.Goals as goal

pub invariant_of-self-2 : goal.invariant_of-self-2
invariant_of-self-2 c =
    let trans : TransView = record { next = c.self.inside.next; running = c.self.inside.running.items } in
    let room : trans.next < 2 ^ 62 = subst (λ (v : TransView). v.next < 2 ^ 62) (sym c.self.view_is) c.requires in
    sound_assigned trans c.push.new.self.items c.self.invariant room c.in_ok-push.ensures.items

pub returns-clause-fresh : goal.returns-clause-fresh
returns-clause-fresh c = subst (λ (v : TransView). contains c.self.inside.next v.running ≡ false) c.self.view_is (next_is_fresh (record { next = c.self.inside.next; running = c.self.inside.running.items }) c.self.invariant)
