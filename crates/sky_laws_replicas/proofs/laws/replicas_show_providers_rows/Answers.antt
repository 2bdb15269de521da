use Rattle.sky_laws_replicas.proofs.KeptCalls.{copied_tables_have_providers_rows}
use Rattle.sky_laws_replicas.proofs.KeptRows.{replicas_keep_providers_rows}
use Rattle.sky_laws_replicas.proofs.LaterRows as law
use Rattle.sky_laws_replicas.proofs.SessionsRows.{replicas_show_sessions_writes}
use Rattle.sky_laws_replicas.proofs.laws.replicas_show_providers_rows.Goals as goal

pub returns-clause-shown : goal.returns-clause-shown
returns-clause-shown c = law.replicas_show_providers_rows

pub returns-clause-written : goal.returns-clause-written
returns-clause-written c = replicas_show_sessions_writes

pub returns-clause-kept : goal.returns-clause-kept
returns-clause-kept c = replicas_keep_providers_rows copied_tables_have_providers_rows

pub returns-clause-unseen : goal.returns-clause-unseen
returns-clause-unseen c = law.copies_are_unseen

pub returns-clause-seen : goal.returns-clause-seen
returns-clause-seen c = law.sessions_see_providers_rows
