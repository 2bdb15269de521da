use Rattle.sky_laws_synced.proofs.LeftTables as law
use Rattle.sky_laws_synced.proofs.Removals.{tables_leave_with_their_rows}
use Rattle.sky_laws_synced.proofs.laws.left_tables_keep_their_rows.Goals as goal

pub returns-clause-uncopied : goal.returns-clause-uncopied
returns-clause-uncopied c = law.uncopied_tables_show_sessions_writes

pub returns-clause-written : goal.returns-clause-written
returns-clause-written c = law.tables_show_sessions_writes

pub returns-clause-leaves : goal.returns-clause-leaves
returns-clause-leaves c = tables_leave_with_their_rows

pub returns-clause-left : goal.returns-clause-left
returns-clause-left c = law.left_tables_keep_their_rows
