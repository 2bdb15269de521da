-- Between the bounds the answer is the search's.
use Rattle.std.proofs.Common.{◌∙◌}
use Rattle.sky_txid.proofs.Searched.{sees_by_search}
use Rattle.sky_txid.proofs.snapshot.Snapshot.sees.Goals as goal

pub returns-then-t-self-2 : goal.returns-then-t-self-2
returns-then-t-self-2 c =
    let position = rw c.deref.ensures.value at c.binary_search.ensures.position in
    rw (← c.self.view_is) (c.is_err.ensures.value ∙ sees_by_search _ _ _ c.self.invariant c.if-t-self.false c.if-t-self-2.true position)
