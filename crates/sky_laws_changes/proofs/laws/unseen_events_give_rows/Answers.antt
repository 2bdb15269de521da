use Rattle.sky_laws_changes.proofs.BatchLaws.{unseen_events_give_rows, unseen_events_lead_on}
use Rattle.sky_laws_changes.proofs.laws.unseen_events_give_rows.Goals as goal

pub returns-clause-gives : goal.returns-clause-gives
returns-clause-gives c = unseen_events_give_rows

pub returns-clause-leads : goal.returns-clause-leads
returns-clause-leads c = unseen_events_lead_on
