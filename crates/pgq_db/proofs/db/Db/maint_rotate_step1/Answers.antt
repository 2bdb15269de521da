use Rattle.std.proofs.Common.{◌≡◌, ℤ, None, not, refl, sym, ◌∙◌, ap, if◌then◌else◌, to_z, of_z, w64}
use Rattle.std.proofs.lemmas.Int.{to_z-of_z}
use Rattle.sky_model.specs.Sessions.{Block, outside, inside}
use Rattle.sky_model.specs.State.{Database, after_marks}
use Rattle.sky_model.specs.StepRotation.{held_back, switch_of}
use Rattle.sky_state.specs.Seen.{seen}
use Rattle.pgq_queues.specs.Seen.{queue_at}
use Rattle.pgq_parts.specs.Views.{DbView}
use Rattle.pgq_parts.specs.Seen.{with_node, seen_database}
use Rattle.pgq_parts.proofs.RotationSteps.{alone-in, gives-switch}
use Rattle.pgq_db.proofs.db.Db.maint_rotate_step1.Goals as goal

pub returns : goal.returns
returns g c =
    let d : Database = seen_database c.args.self.now in
    let s : Database = seen_database c.take_txid.new.self in
    let q = c.in_ok-queue.queue in
    let t = c.in_ok-txid.txid in
    let within = c.in_transaction-is_alone.result in
    let b : Block = (d.part.session c.args.who).block in
    let time = to_z-of_z w64 c.args.now c.ranges.now in
    let none : None ≡ held_back c.args.now (d.queue q) =
    sym c.in_default.is ∙ c.in_ok-why.ensures.held ∙ ap (λ (now : ℤ). held_back now (queue_at c.self.inside.queues q)) time ∙ ap (λ (v : DbView). held_back c.args.now (queue_at v.queues q)) c.self.view_is in
    gives-switch d c.args.now c.args.who c.args.name.now q c.in_ok-queue.ensures.ok s _ t _ _ none c.in_ok-txid.ensures.ok c.in_ok-take_txid.ensures.marks
    (c.switch.ensures.marks (with_node c.self-2.inside.node (seen (g.R.RowStore.state c.self-2.inside.rows)))
    ∙ ap (λ (v : DbView). after_marks (seen_database v) (switch_of q t (to_z w64 (of_z w64 c.args.now)) (if not within then outside else inside))) c.self-2.view_is
    ∙ ap (λ (now : ℤ). after_marks s (switch_of q t now (if not within then outside else inside))) time
    ∙ ap (after_marks s) (alone-in q t c.args.now b within (not within) c.in_transaction-is_alone.ensures refl)) c.in_ok-push-2.ensures.ok
