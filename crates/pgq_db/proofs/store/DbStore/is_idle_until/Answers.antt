use Rattle.std.proofs.Common.{sym, ap, ◌∙◌, w64}
use Rattle.std.proofs.lemmas.Int.{to_z-of_z}
use Rattle.sky_state.specs.Seen.{seen}
use Rattle.sky_store.specs.Idle.{idles_at}
use Rattle.pgq_queues.specs.Seen.{Beside, seen_with}
use Rattle.pgq_parts.specs.Views.{DbView}
use Rattle.pgq_parts.specs.Seen.{with_node, seen_database}
use Rattle.pgq_parts.proofs.Idle.{idle-until}
use Rattle.pgq_db.proofs.store.DbStore.is_idle_until.Goals as goal

pub returns-clause-idles : goal.returns-clause-idles
returns-clause-idles g c =
    let beside : Beside = with_node c.self.inside.node (seen (g.R.RowStore.state c.self.inside.rows)) in
    c.idles_at.ensures beside ∙ ap (λ moment. idles_at moment (seen_with beside c.self.inside.queues)) (to_z-of_z w64 c.args.moment c.ranges.moment)
    ∙ ap (λ (v : DbView). idles_at c.args.moment (seen_database v)) c.self.view_is

pub returns-clause-until : goal.returns-clause-until
returns-clause-until g c = λ yes. idle-until (seen_database c.args.self.now) c.args.moment (sym (returns-clause-idles g c) ∙ yes)
