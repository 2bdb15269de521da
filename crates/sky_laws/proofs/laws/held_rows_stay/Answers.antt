use Rattle.sky_histories.proofs.CopyLaws as law
use Rattle.sky_laws.proofs.laws.held_rows_stay.Goals as goal

pub returns-clause-numbers : goal.returns-clause-numbers
returns-clause-numbers c = law.holds_have_least_numbers

pub returns-clause-rows : goal.returns-clause-rows
returns-clause-rows c = law.held_rows_stay
