-- A search finds exactly what the list contains.
use Rattle.std.proofs.Common.{◌∙◌}
use Rattle.sky_trans.specs.Trans.{TransView}
use Rattle.sky_trans.proofs.TransLemmas.{runs_by_search}
use Rattle.sky_trans.proofs.trans.Trans.running.Goals as goal

pub returns : goal.returns
returns c =
    let trans : TransView = record { next = c.self.inside.next; running = c.self.inside.running.items } in
    let position = rw c.deref.ensures.value at c.binary_search.ensures.position in
    rw (← c.self.view_is) (c.is_ok.ensures.value ∙ runs_by_search trans c.args.t _ c.self.invariant position)
