use Rattle.sky_laws_replicas.proofs.KeptCalls.{copied_tables_have_providers_rows}
use Rattle.sky_laws_replicas.proofs.laws.copied_tables_have_providers_rows.Goals as goal

pub returns : goal.returns
returns c = copied_tables_have_providers_rows
