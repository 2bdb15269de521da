-- A read writes nothing, so no gate is asked. The columns of a new table have names, as the statement is in form.
use Rattle.std.proofs.Common.{sym, subst}
use Rattle.sky_model.specs.ShownRows.{rows_by}
use Rattle.sky_model.specs.StepRows.{get}
use Rattle.sky_model.specs.Calls.{row_form}
use Rattle.sky_histories.proofs.GatedLemmas.{plain-get}
use Rattle.sky_row_statements.specs.Ran.{Writes}
use Rattle.sky_state.specs.Seen.{seen}
use Rattle.sky_model.specs.InForm.{IsRowInForm}
use Rattle.sky_session.proofs.Steps.{unnoticed-get, writes-plain}
use Rattle.sky_session.proofs.FormLemmas.{columns_named}
use Rattle.sky_session.proofs.statements.run_form.Goals as goal

pub returns-in-Get : goal.returns-in-Get
returns-in-Get g c =
    let d = seen c.args.state.now in
    subst (λ stmt. Writes g.G.WriteGate.rule (c.args.state.now, c.args.gate.now) (c.args.state.now, c.args.gate.now) c.args.step.now c.get.new.step c.args.who c.get.result (row_form d (rows_by d) c.args.who stmt)) (sym c.in-Get.is)
    (writes-plain g.G.WriteGate.rule c.args.gate.now c.args.state.now c.args.state.now c.args.step.now c.get.new.step c.args.who c.get.result (get d (rows_by d) c.args.who c.in-Get.table c.in-Get.key)
    (plain-get d (rows_by d) c.args.who c.in-Get.table c.in-Get.key) (unnoticed-get d (rows_by d) c.args.who c.in-Get.table c.in-Get.key) c.get.ensures)

pub create_table-requires : goal.create_table-requires
create_table-requires g c = columns_named c.in-CreateTable.columns (subst IsRowInForm c.in-CreateTable.is c.requires.form).1.1
