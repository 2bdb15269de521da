use Rattle.std.proofs.Common.{◌<◌, length, sym, ◌∙◌, ap, subst}
use Rattle.sky_state.specs.Seen.{seen}
use Rattle.pgq_parts.specs.Views.{DbView}
use Rattle.pgq_db.proofs.store.DbStore.schema.Goals as goal

pub schema-requires : goal.schema-requires
schema-requires g c = subst (λ (v : DbView). c.args.table < length (seen v.rows).tables) (sym c.self.view_is) c.requires

pub returns : goal.returns
returns g c = c.schema.ensures ∙ ap (λ (v : DbView). (seen v.rows).columns c.args.table) c.self.view_is
