use Rattle.sky_laws_synced.proofs.SyncedLaws.{replicas_show_provider}
use Rattle.sky_laws_synced.proofs.laws.replicas_show_provider.Goals as goal

pub returns : goal.returns
returns c = replicas_show_provider
