use Rattle.sky_laws_synced.proofs.CommitMarks as marks
use Rattle.sky_laws_synced.proofs.CommittedRows as rows
use Rattle.sky_laws_synced.proofs.laws.rows_change_by_commits.Goals as goal

pub returns-clause-commits : goal.returns-clause-commits
returns-clause-commits c = rows.rows_change_by_commits

pub returns-clause-sessions : goal.returns-clause-sessions
returns-clause-sessions c = rows.sessions_commit_no_read_only_table

pub returns-clause-copies : goal.returns-clause-copies
returns-clause-copies c = marks.copies_write_own_tables

pub returns-clause-copied : goal.returns-clause-copied
returns-clause-copied c = marks.copies_say_that_they_end

pub returns-clause-applied : goal.returns-clause-applied
returns-clause-applied c = marks.batches_say_that_they_are_applied

pub returns-clause-followed : goal.returns-clause-followed
returns-clause-followed c = marks.commits_are_followed
