use Rattle.sky_rows.specs.Rows.{rows_in}
use Rattle.sky_rows.specs.Written.{wrote, logged}
use Rattle.sky_rows.specs.Kept.{all_versions}
use Rattle.sky_rows.proofs.TableLemmas.{all_kept_more}
use Rattle.sky_rows.proofs.table.Table.prune.Goals as goal

pub invariant_of-self : goal.invariant_of-self
invariant_of-self c = (
  c.self.invariant.0,
  all_kept_more (wrote c.self.inside.written) (wrote c.prune.new.self) (all_versions c.self.inside.older (rows_in c.self.inside.rows)) c.prune.ensures.kept c.self.invariant.1,
  all_kept_more (logged c.self.inside.log) (logged c.drop_below.new.log) (all_versions c.self.inside.older (rows_in c.self.inside.rows)) c.drop_below.ensures.kept c.self.invariant.2,
)
