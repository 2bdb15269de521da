use Rattle.sky_laws.proofs.RotationLaws as law
use Rattle.sky_laws.proofs.Periods as periods
use Rattle.sky_laws.proofs.MadeSwitches as switches
use Rattle.sky_laws.proofs.laws.rotation_leaves_what_is_needed.Goals as goal

pub returns-clause-tables : goal.returns-clause-tables
returns-clause-tables c = law.tables_hold_what_was_put

pub returns-clause-events : goal.returns-clause-events
returns-clause-events c = law.needed_events_are_stored

pub returns-clause-batches : goal.returns-clause-batches
returns-clause-batches c = law.active_batches_are_stored

pub returns-clause-positions : goal.returns-clause-positions
returns-clause-positions c = law.positions_are_kept

pub returns-clause-newest : goal.returns-clause-newest
returns-clause-newest c = law.newest_ticks_are_kept

pub returns-clause-ticks : goal.returns-clause-ticks
returns-clause-ticks c = law.switches_drop_ticks

pub returns-clause-begins : goal.returns-clause-begins
returns-clause-begins c = law.switches_begin_free

pub returns-clause-made : goal.returns-clause-made
returns-clause-made c = law.switches_were_pending

pub returns-clause-pending : goal.returns-clause-pending
returns-clause-pending c = law.pending_switches_run

pub returns-clause-period : goal.returns-clause-period
returns-clause-period c = periods.switches_begin_after_periods

pub returns-clause-commits : goal.returns-clause-commits
returns-clause-commits c = switches.switches_are_committed
