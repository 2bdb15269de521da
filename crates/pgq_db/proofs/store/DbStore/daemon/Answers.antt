use Rattle.std.proofs.Common.{to_z, of_z, length, ◌∙◌, sym, ap, w64}
use Rattle.std.proofs.lemmas.Int.{to_z-of_z}
use Rattle.sky_model.specs.State.{Database, after_marks}
use Rattle.sky_model.specs.declared.daemon.DaemonPart.TheVariants.{Tick, Retry, Maintain}
use Rattle.sky_model.specs.Reader.{database_by_itself}
use Rattle.sky_model.specs.Daemon.{daemon_does}
use Rattle.sky_model.specs.DatabaseCalls.{worked}
use Rattle.sky_histories.proofs.DatabaseStanding.{database_steps_from_exact}
use Rattle.pgq_parts.specs.Seen.{seen_database}
use Rattle.pgq_parts.proofs.Results.{on-ok}
use Rattle.pgq_parts.proofs.Daemons.{ticks_end, retries_end, daemon-waits}
use Rattle.pgq_db.proofs.store.DbStore.daemon.Goals as goal

pub returns-in-Tick-clause-exact : goal.returns-in-Tick-clause-exact
returns-in-Tick-clause-exact g c =
    let d = seen_database c.args.self.now in
    on-ok c.make_ticks.result c.make_ticks.ensures
    (λ made. made ∙ ap (λ now. ticks_end now d.queues d) (to_z-of_z w64 c.args.now c.ranges.now) ∙ ap (λ part. after_marks d (daemon_does database_by_itself d part c.args.now).marks) (sym c.in-Tick.is))

pub returns-in-Tick-clause-steps : goal.returns-in-Tick-clause-steps
returns-in-Tick-clause-steps g c = on-ok c.make_ticks.result (returns-in-Tick-clause-exact g c) (λ made. database_steps_from_exact _ _ (worked c.args.part c.args.now) made)

pub returns-in-Tick-clause-waiting : goal.returns-in-Tick-clause-waiting
returns-in-Tick-clause-waiting g c =
    on-ok c.make_ticks.result c.make_ticks.ensures (λ made. ap (λ (d : Database). d.part.waiting) made ∙ daemon-waits (seen_database c.args.self.now) Tick (to_z w64 (of_z w64 c.args.now)))

pub returns-in-Retry-clause-exact : goal.returns-in-Retry-clause-exact
returns-in-Retry-clause-exact g c =
    let d = seen_database c.args.self.now in
    on-ok c.retry_events.result c.retry_events.ensures
    (λ made. made ∙ ap (λ now. retries_end now (length d.retries) d) (to_z-of_z w64 c.args.now c.ranges.now) ∙ ap (λ part. after_marks d (daemon_does database_by_itself d part c.args.now).marks) (sym c.in-Retry.is))

pub returns-in-Retry-clause-steps : goal.returns-in-Retry-clause-steps
returns-in-Retry-clause-steps g c = on-ok c.retry_events.result (returns-in-Retry-clause-exact g c) (λ made. database_steps_from_exact _ _ (worked c.args.part c.args.now) made)

pub returns-in-Retry-clause-waiting : goal.returns-in-Retry-clause-waiting
returns-in-Retry-clause-waiting g c =
    on-ok c.retry_events.result c.retry_events.ensures (λ made. ap (λ (d : Database). d.part.waiting) made ∙ daemon-waits (seen_database c.args.self.now) Retry (to_z w64 (of_z w64 c.args.now)))

pub returns-in-Maintain-clause-exact : goal.returns-in-Maintain-clause-exact
returns-in-Maintain-clause-exact g c =
    let d = seen_database c.args.self.now in
    on-ok c.rotate.result c.rotate.ensures
    (λ made. made ∙ ap (λ now. after_marks d (daemon_does database_by_itself d Maintain now).marks) (to_z-of_z w64 c.args.now c.ranges.now)
    ∙ ap (λ part. after_marks d (daemon_does database_by_itself d part c.args.now).marks) (sym c.in-Maintain.is))

pub returns-in-Maintain-clause-steps : goal.returns-in-Maintain-clause-steps
returns-in-Maintain-clause-steps g c = on-ok c.rotate.result (returns-in-Maintain-clause-exact g c) (λ made. database_steps_from_exact _ _ (worked c.args.part c.args.now) made)

pub returns-in-Maintain-clause-waiting : goal.returns-in-Maintain-clause-waiting
returns-in-Maintain-clause-waiting g c =
    on-ok c.rotate.result c.rotate.ensures (λ made. ap (λ (d : Database). d.part.waiting) made ∙ daemon-waits (seen_database c.args.self.now) Maintain (to_z w64 (of_z w64 c.args.now)))
