use Rattle.sky_laws.proofs.WriteOrder as law
use Rattle.sky_laws.proofs.EventIds as ids
use Rattle.sky_laws.proofs.WritesTold as told
use Rattle.sky_laws.proofs.IdsFollowWrites as follow
use Rattle.sky_laws.proofs.laws.writes_and_commits_have_one_order.Goals as goal

pub returns-clause-in_turn : goal.returns-clause-in_turn
returns-clause-in_turn c = law.keys_are_written_in_turn

pub returns-clause-order : goal.returns-clause-order
returns-clause-order c = law.writes_and_commits_have_one_order

pub returns-clause-seen : goal.returns-clause-seen
returns-clause-seen c = law.snapshots_see_earlier_writers

pub returns-clause-told : goal.returns-clause-told
returns-clause-told c = told.writes_are_told

pub returns-clause-ids : goal.returns-clause-ids
returns-clause-ids c = ids.event_ids_rise

pub returns-clause-order_of_ids : goal.returns-clause-order_of_ids
returns-clause-order_of_ids c = follow.event_ids_follow_writes
