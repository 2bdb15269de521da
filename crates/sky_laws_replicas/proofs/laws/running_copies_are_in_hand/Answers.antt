use Rattle.sky_laws_replicas.proofs.CopiesInHand as law
use Rattle.sky_laws_replicas.proofs.laws.running_copies_are_in_hand.Goals as goal

pub returns-clause-in_hand : goal.returns-clause-in_hand
returns-clause-in_hand c = law.running_copies_are_in_hand

pub returns-clause-running : goal.returns-clause-running
returns-clause-running c = law.hands_are_of_running_copies

pub returns-clause-holds : goal.returns-clause-holds
returns-clause-holds c = law.holds_are_in_hand

pub returns-clause-moves : goal.returns-clause-moves
returns-clause-moves c = law.copies_go_on
