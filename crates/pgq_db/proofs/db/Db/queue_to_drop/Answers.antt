use Rattle.std.proofs.Common.{◌≡◌, ℕ, List, [], ◌∷◌, All, length, find, not, option_map, None, Ok, true, false, sym, subst, ◌∙◌, ap, arith, ◌==◌}
use Rattle.std.proofs.lemmas.Bool.Decides.{nat_tests}
use Rattle.sky_model.specs.History.{queued, dropped}
use Rattle.sky_model.specs.Nodes.{is_set_queue}
use Rattle.sky_model.specs.Outcome.{Outcome, Checked, ◌>>=◌, ◌>>◌, refused_if, refused_by, does_marks}
use Rattle.sky_model.specs.Triggers.{TableTrigger}
use Rattle.sky_model.specs.State.{Queue, Database}
use Rattle.sky_model.specs.StepQueue.{queue_called, drop_queue, first_trigger_into, least_producer, shown_name}
use Rattle.sky_model.specs.declared.reply.Reply.TheVariants.{Number}
use Rattle.sky_model.specs.declared.reply.Refusal.TheVariants.{HasConsumers, HasTriggers, QueueBusy, SetQueue}
use Rattle.sky_histories.proofs.Unneeded.{none-into}
use Rattle.pgq_queues.specs.Seen.{queue_at}
use Rattle.pgq_parts.specs.Views.{DbView}
use Rattle.pgq_parts.specs.Seen.{seen_database}
use Rattle.pgq_parts.proofs.Databases.{drop-triggers}
use Rattle.pgq_db.proofs.db.Db.queue_to_drop.Goals as goal

-- a queue that nobody needs
drops : (d : Database) (name : List ℕ) (q : ℕ) → queue_called name d ≡ Ok q → is_set_queue name d.node ≡ false → length (d.queue q).members ≡ 0 → first_trigger_into q d.triggers ≡ None
    → least_producer d q ≡ None → drop_queue d name ≡ does_marks (Number 1) (queued (dropped q) ∷ [])
drops d name q found unset none untold idle =
    ap (λ c. c >>= tested) found
    ∙ (λ i. refused_if (unset i) SetQueue >> (refused_if (not (zero i)) (HasConsumers (length (d.queue q).members)) >> (refused_by (option_map (λ t. HasTriggers (shown_name t)) (untold i))
    >> (refused_by (option_map QueueBusy (idle i)) >> does_marks (Number 1) (queued (dropped q) ∷ [])))))
  where
    zero : (length (d.queue q).members == 0) ≡ true
    zero = grind (arith, nat_tests)

    tested : ℕ → Checked Outcome
    tested n =
        refused_if (is_set_queue name d.node) SetQueue
        >> (refused_if (not (length (d.queue n).members == 0)) (HasConsumers (length (d.queue n).members))
        >> (refused_by (option_map (λ t. HasTriggers (shown_name t)) (first_trigger_into n d.triggers))
        >> (refused_by (option_map QueueBusy (least_producer d n)) >> does_marks (Number 1) (queued (dropped n) ∷ []))))

pub returns-in-Some-clause-err : goal.returns-in-Some-clause-err
returns-in-Some-clause-err g c =
    let d = seen_database c.args.self.now in
    let count : c.consumer_count-consumers.result ≡ length (d.queue c.in_ok-queue.queue).members =
    c.consumer_count-consumers.ensures ∙ ap (λ (q : Queue). length q.members) c.queue.ensures ∙ ap (λ (v : DbView). length (queue_at v.queues c.in_ok-queue.queue).members) c.self.view_is in
    let none : length (d.queue c.in_ok-queue.queue).members ≡ 0 = omega (arith, count, c.if-consumers-gt0.false) in
    drop-triggers d c.args.name.now c.in_ok-queue.queue c.in_ok-queue.ensures.ok (sym c.is_set_queue.ensures ∙ c.if-is_set_queue.false) c.in-Some.trigger.now c.in_ok-name.name none
    (c.in-Some.ensures ∙ ap (λ (v : DbView). find (λ (t : TableTrigger). t.trigger.queue == c.in_ok-queue.queue) v.queues.triggers) c.self.view_is) c.in_ok-name.ensures

pub returns-in-None-clause-triggers : goal.returns-in-None-clause-triggers
returns-in-None-clause-triggers g c =
    subst (λ (v : DbView). All (λ t. (t.trigger.queue == c.in_ok-queue.queue) ≡ false) v.queues.triggers) c.self.view_is
    (none-into c.in_ok-queue.queue c.self.inside.queues.triggers (ap (option_map (λ t. HasTriggers (shown_name t))) (sym c.in_default.ensures)))

pub returns-in-None-clause-drops : goal.returns-in-None-clause-drops
returns-in-None-clause-drops g c =
    let d = seen_database c.args.self.now in
    let count : c.consumer_count-consumers.result ≡ length (d.queue c.in_ok-queue.queue).members =
    c.consumer_count-consumers.ensures ∙ ap (λ (q : Queue). length q.members) c.queue.ensures ∙ ap (λ (v : DbView). length (queue_at v.queues c.in_ok-queue.queue).members) c.self.view_is in
    let none : length (d.queue c.in_ok-queue.queue).members ≡ 0 = omega (arith, count, c.if-consumers-gt0.false) in
    drops d c.args.name.now c.in_ok-queue.queue c.in_ok-queue.ensures.ok (sym c.is_set_queue.ensures ∙ c.if-is_set_queue.false) none
    (subst (λ (v : DbView). first_trigger_into c.in_ok-queue.queue v.queues.triggers ≡ None) c.self.view_is (sym c.in_default.ensures)) (sym c.in_ok-txid.ensures ∙ c.in-None.is)
