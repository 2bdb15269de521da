-- The running ids are 3 or more, so none is 0.
use Rattle.sky_trans.proofs.TransLemmas.{running_above_0}
use Rattle.sky_trans.proofs.trans.Trans.snapshot.Goals as goal

pub of-requires-clause-rising : goal.of-requires-clause-rising
of-requires-clause-rising c =
    rw c.deref.ensures.value (running_above_0 (record { next = c.self.inside.next; running = c.self.inside.running.items }) c.self.invariant)
