use Rattle.sky_histories.proofs.CopyLaws as law
use Rattle.sky_laws.proofs.laws.copies_leave_their_rows.Goals as goal

pub returns-clause-alone : goal.returns-clause-alone
returns-clause-alone c = law.copies_run_alone

pub returns-clause-states : goal.returns-clause-states
returns-clause-states c = law.copies_are_of_tables_in_copy

pub returns-clause-deletes : goal.returns-clause-deletes
returns-clause-deletes c = law.copies_delete_what_stands

pub returns-clause-stands : goal.returns-clause-stands
returns-clause-stands c = law.copies_name_what_stands

pub returns-clause-leaves : goal.returns-clause-leaves
returns-clause-leaves c = law.copies_leave_their_rows
