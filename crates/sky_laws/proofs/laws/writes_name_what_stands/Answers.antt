use Rattle.sky_histories.proofs.WrittenRows as law
use Rattle.sky_laws.proofs.laws.writes_name_what_stands.Goals as goal

pub returns-clause-stands : goal.returns-clause-stands
returns-clause-stands c = law.writes_name_what_stands

pub returns-clause-written : goal.returns-clause-written
returns-clause-written c = law.written_rows_fit

pub returns-clause-rows : goal.returns-clause-rows
returns-clause-rows c = law.standing_rows_fit
