use Rattle.std.proofs.Common.{◌==◌, ◌&&◌, ℤ, Bool, length, sym, ap, ◌∙◌, to_z, of_z, w64}
use Rattle.std.proofs.lemmas.Int.{to_z-of_z}
use Rattle.pgq_retry.specs.Retries.{due_now}
use Rattle.sky_model.specs.StepRetry.{most_back}
use Rattle.sky_model.specs.StepRotation.{lack_second_step}
use Rattle.sky_model.specs.State.{Database}
use Rattle.sky_store.specs.Idle.{all_idle}
use Rattle.pgq_queues.specs.Seen.{Beside, queues_of, seen_with}
use Rattle.pgq_parts.proofs.Idle.{idle-all}
use Rattle.pgq_parts.proofs.resting.idles_at.Goals as goal

pub returns-then-are_idle : goal.returns-then-are_idle
returns-then-are_idle c = λ (beside : Beside).
    let d : Database = seen_with beside c.args.queues.now in
    let rest : ℤ → Bool = λ m. (length (lack_second_step d) == 0) && (length (due_now m most_back d.retries) == 0) in
    c.is_rest_idle.ensures beside ∙ ap rest (to_z-of_z w64 c.args.moment c.ranges.moment)
    ∙ ap (λ idle. idle && rest c.args.moment) (sym c.if-are_idle.true ∙ c.are_idle.ensures ∙ idle-all beside c.args.queues.now (to_z w64 (of_z w64 c.args.moment)) (queues_of c.args.queues.now) ∙ ap (λ (m : ℤ). all_idle m d (queues_of c.args.queues.now)) (to_z-of_z w64 c.args.moment c.ranges.moment))

pub returns-else-are_idle : goal.returns-else-are_idle
returns-else-are_idle c = λ (beside : Beside).
    let d : Database = seen_with beside c.args.queues.now in
    let rest : ℤ → Bool = λ m. (length (lack_second_step d) == 0) && (length (due_now m most_back d.retries) == 0) in
    c.if-are_idle.false ∙ ap (λ idle. idle && rest c.args.moment) (sym c.if-are_idle.false ∙ c.are_idle.ensures ∙ idle-all beside c.args.queues.now (to_z w64 (of_z w64 c.args.moment)) (queues_of c.args.queues.now) ∙ ap (λ (m : ℤ). all_idle m d (queues_of c.args.queues.now)) (to_z-of_z w64 c.args.moment c.ranges.moment))
