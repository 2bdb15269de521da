use Rattle.sky_histories.proofs.ApplyingLaws as law
use Rattle.sky_laws.proofs.laws.batches_put_their_events.Goals as goal

pub returns-clause-writes : goal.returns-clause-writes
returns-clause-writes c = law.workers_write_alone

pub returns-clause-applied : goal.returns-clause-applied
returns-clause-applied c = law.batches_put_their_events

pub returns-clause-others : goal.returns-clause-others
returns-clause-others c = law.other_batches_leave_rows

pub returns-clause-idle : goal.returns-clause-idle
returns-clause-idle c = law.no_picked_table_is_copied

pub returns-clause-bad : goal.returns-clause-bad
returns-clause-bad c = law.bad_events_cant_be_applied

pub returns-clause-good : goal.returns-clause-good
returns-clause-good c = law.good_batches_are_applied
