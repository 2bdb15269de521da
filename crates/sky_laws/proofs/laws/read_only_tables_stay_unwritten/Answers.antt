use Rattle.sky_laws.proofs.WritableTables as law
use Rattle.sky_laws.proofs.laws.read_only_tables_stay_unwritten.Goals as goal

pub returns-clause-writes : goal.returns-clause-writes
returns-clause-writes c = law.sessions_write_no_read_only_table

pub returns-clause-running : goal.returns-clause-running
returns-clause-running c = law.read_only_tables_are_unwritten
