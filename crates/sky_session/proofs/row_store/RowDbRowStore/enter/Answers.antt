use Rattle.std.proofs.Common.{OnOk, sym, subst, true, false}
use Rattle.sky_model.specs.SessionMarks.{entry, entry_place}
use Rattle.sky_model.specs.RowCalls.{row_entered}
use Rattle.sky_model.specs.RowSteps.{RowSteps}
use Rattle.sky_state.specs.Views.{RowStateView}
use Rattle.sky_state.specs.Seen.{seen}
use Rattle.sky_session.proofs.Steps.{entered-steps}
use Rattle.sky_session.proofs.row_store.RowDbRowStore.enter.Goals as goal

pub returns-then-outside-clause-steps : goal.returns-then-outside-clause-steps
returns-then-outside-clause-steps c =
    subst (λ (d : RowStateView). OnOk c.admit.result (RowSteps (seen d) (seen c.admit.new.state) (row_entered c.args.who c.args.outside) (entry (seen d) c.args.who (entry_place c.args.outside)))) c.self.view_is
    (subst (λ alone. OnOk c.admit.result (RowSteps (seen c.self.inside.state) (seen c.admit.new.state) (row_entered c.args.who alone) (entry (seen c.self.inside.state) c.args.who (entry_place alone))))
    (sym c.if-outside.true) (entered-steps (seen c.self.inside.state) (seen c.admit.new.state) c.args.who true c.admit.result c.admit.ensures.ok))

pub returns-else-outside-clause-steps : goal.returns-else-outside-clause-steps
returns-else-outside-clause-steps c =
    subst (λ (d : RowStateView). OnOk c.admit-else-outside.result (RowSteps (seen d) (seen c.admit-else-outside.new.state) (row_entered c.args.who c.args.outside) (entry (seen d) c.args.who (entry_place c.args.outside)))) c.self.view_is
    (subst (λ alone. OnOk c.admit-else-outside.result (RowSteps (seen c.self.inside.state) (seen c.admit-else-outside.new.state) (row_entered c.args.who alone) (entry (seen c.self.inside.state) c.args.who (entry_place alone))))
    (sym c.if-outside.false) (entered-steps (seen c.self.inside.state) (seen c.admit-else-outside.new.state) c.args.who false c.admit-else-outside.result c.admit-else-outside.ensures.ok))
