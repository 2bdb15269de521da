use Rattle.std.proofs.Common.{◌≡◌, Ok, refl, sym, subst}
use Rattle.sky_model.specs.OwnTransaction.{txid_for}
use Rattle.sky_model.specs.SessionMarks.{taking}
use Rattle.sky_model.specs.RowCalls.{txid_taken}
use Rattle.sky_model.specs.RowSteps.{RowSteps}
use Rattle.sky_histories.proofs.RowCallStanding.{take_txid_from_exact, no_txid_from_exact}
use Rattle.sky_state.specs.Views.{RowStateView}
use Rattle.sky_state.specs.Seen.{seen}
use Rattle.sky_session.proofs.row_db.RowDb.take_txid.Goals as goal

pub returns-in_default-clause-steps_spent : goal.returns-in_default-clause-steps_spent
returns-in_default-clause-steps_spent c = λ _. no_txid_from_exact (seen c.args.self.now) (seen c.args.self.now) c.args.who _ c.in_default.ensures refl

pub returns-clause-steps : goal.returns-clause-steps
returns-clause-steps c =
    subst (λ (d : RowStateView). RowSteps (seen d) (seen c.begin_own.new.state) (txid_taken c.args.who) (taking (seen d) c.args.who)) c.self.view_is
    (take_txid_from_exact (seen c.self.inside.state) (seen c.begin_own.new.state) c.args.who c.in-Some.txid
    (subst (λ (d : RowStateView). txid_for (seen d) c.args.who ≡ Ok c.in-Some.txid) (sym c.self.view_is) c.in-Some.ensures) c.in_ok-begin_own.ensures.ok)
