-- The list rises, so its first item is the least.
use Rattle.sky_trans.proofs.TransLemmas.{least_first}
use Rattle.sky_trans.proofs.trans.Trans.least.Goals as goal

pub returns-clause-least : goal.returns-clause-least
returns-clause-least c =
    rw (c.copied.ensures, c.first.ensures.value, c.deref.ensures.value, ← c.self.view_is)
    (least_first (record { next = c.self.inside.next; running = c.self.inside.running.items }) c.self.invariant)
