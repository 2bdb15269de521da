-- A session that is ready waits for a key of a table that exists.
use Rattle.std.proofs.Common.{◌≡◌, ◌<◌, length, Some, option_map, ap, sym, ◌∙◌, subst}
use Rattle.sky_keys.specs.Waits.{ready}
use Rattle.sky_locks.specs.Locks.{LockKey, holder, entry}
use Rattle.sky_state.specs.Views.{RowStateView}
use Rattle.sky_state.proofs.Owning.{within-ready}
use Rattle.sky_state.proofs.row_state.RowState.next_ready.Goals as goal

pub returns-in_ok-copy-in-Some-clause-within : goal.returns-in_ok-copy-in-Some-clause-within
returns-in_ok-copy-in-Some-clause-within c =
    let found : ready (holder c.self.inside.locks) c.self.inside.locks.waiting ≡ Some (entry c.in-Some.who c.in-Some.key.now)
    = sym c.ready.ensures ∙ ap (option_map (λ f. entry f.0 f.1.now)) c.in-Some.is in
    let within : c.in-Some.key.now.table < length c.self.inside.tables.names = within-ready _ (holder c.self.inside.locks) _ _ c.self.invariant.1.1 found in
    subst (λ (v : RowStateView). c.in_ok-copy-in-Some.field-0.table < length v.tables.names) c.self.view_is
    (subst (λ (key : LockKey). key.table < length c.self.inside.tables.names) (sym c.in_ok-copy-in-Some.ensures) within)
