use Rattle.sky_laws.proofs.NodeLaws as law
use Rattle.sky_laws.proofs.laws.nodes_match_their_databases.Goals as goal

pub returns-clause-queues : goal.returns-clause-queues
returns-clause-queues c = law.sets_have_queues

pub returns-clause-tables : goal.returns-clause-tables
returns-clause-tables c = law.nodes_have_tables

pub returns-clause-triggers : goal.returns-clause-triggers
returns-clause-triggers c = law.sets_have_triggers

pub returns-clause-read_only : goal.returns-clause-read_only
returns-clause-read_only c = law.leaf_tables_are_read_only

pub returns-clause-providers : goal.returns-clause-providers
returns-clause-providers c = law.roots_are_providers

pub returns-clause-removed : goal.returns-clause-removed
returns-clause-removed c = law.removed_tables_exist
