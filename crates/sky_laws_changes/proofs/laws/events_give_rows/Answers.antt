use Rattle.sky_laws_changes.proofs.Replays.{events_give_rows}
use Rattle.sky_laws_changes.proofs.laws.events_give_rows.Goals as goal

pub returns : goal.returns
returns c = events_give_rows
