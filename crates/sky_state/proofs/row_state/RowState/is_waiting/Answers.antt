use Rattle.std.proofs.Common.{◌∙◌, ap}
use Rattle.sky_keys.specs.Waits.{is_waiting}
use Rattle.sky_locks.specs.Locks.{entry}
use Rattle.sky_state.specs.Views.{RowStateView}
use Rattle.sky_state.proofs.WaitLemmas.{waiting-told}
use Rattle.sky_state.proofs.row_state.RowState.is_waiting.Goals as goal

pub returns : goal.returns
returns c =
    c.is_some.ensures ∙ waiting-told (λ key. entry c.args.who key.now) c.waits_on.result c.args.who c.self.inside.locks.waiting c.waits_on.ensures
    ∙ ap (λ (d : RowStateView). is_waiting c.args.who d.locks.waiting) c.self.view_is
