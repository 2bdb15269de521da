use Rattle.std.proofs.Common.{◌≡◌, Ok, sym, subst}
use Rattle.sky_model.specs.OwnTransaction.{txid_for}
use Rattle.sky_model.specs.SessionMarks.{taking, ending}
use Rattle.sky_model.specs.State.{after_part_marks}
use Rattle.sky_model.specs.RowCalls.{txid_taken, single_ended}
use Rattle.sky_model.specs.RowSteps.{RowSteps}
use Rattle.sky_state.specs.Views.{RowStateView}
use Rattle.sky_state.specs.Seen.{seen}
use Rattle.sky_session.proofs.Steps.{elsewhere-steps}
use Rattle.sky_session.proofs.row_store.RowDbRowStore.write_elsewhere.Goals as goal

pub returns-clause-steps : goal.returns-clause-steps
returns-clause-steps c =
    subst (λ (d : RowStateView). RowSteps (seen d) (after_part_marks (seen d) (taking (seen d) c.args.who).marks) (txid_taken c.args.who) (taking (seen d) c.args.who)
    × RowSteps (after_part_marks (seen d) (taking (seen d) c.args.who).marks) (seen c.take_own.new.state) (single_ended c.args.who) (ending (after_part_marks (seen d) (taking (seen d) c.args.who).marks) c.args.who)) c.self.view_is
    (elsewhere-steps (seen c.self.inside.state) (seen c.take_own.new.state) c.args.who c.args.txid
    (subst (λ (d : RowStateView). txid_for (seen d) c.args.who ≡ Ok c.args.txid) (sym c.self.view_is) c.requires) c.in_ok-take_own.ensures.ok)
