-- Consumers that register at a tick, are moved, and leave, in worked scripts from their bytes to their printed bytes, by computation.
use Rattle.std.proofs.Common.{[], ◌∷◌, refl, codes}
use Rattle.std.specs.Str.{is_utf8, chars}
use lib.Utf8.{encode}
use Rattle.std.specs.Fmt.{digits}
use Rattle.sky_model.specs.Moment.{moment, day_after, last_digits}
use Rattle.sky_laws.proofs.WorkedScripts.{Prints}

-- a consumer is moved back to the tick before the last, and gets the last batch again, under another id
moved_back : Prints
    (codes "a: open d" ∷ codes "a: create_queue q" ∷ codes "a: register_consumer q w" ∷ codes "b: open d" ∷ codes "a: begin"
    ∷ codes "a: insert_event q 't' 'one'" ∷ codes "b: insert_event q 't' 'two'" ∷ codes "b: force_tick q" ∷ codes "b: ticker q" ∷ codes "a: commit"
    ∷ codes "b: force_tick q" ∷ codes "b: ticker q" ∷ codes "b: next_batch q w" ∷ codes "b: finish_batch 1" ∷ codes "b: next_batch q w"
    ∷ codes "b: get_batch_events 2" ∷ codes "b: finish_batch 2" ∷ codes "b: register_consumer_at q w 2" ∷ codes "b: next_batch q w"
    ∷ codes "b: get_batch_info 3" ∷ codes "b: consumer_info q w" ∷ codes "b: register_consumer_at q v 9" ∷ codes "b: register_consumer_at q v 0" ∷ [])
    (codes "a: ok" ∷ codes "a: 1" ∷ codes "a: 1" ∷ codes "b: ok" ∷ codes "a: BEGIN" ∷ codes "a: 1" ∷ codes "b: 2" ∷ codes "b: 1" ∷ codes "b: 2"
    ∷ codes "a: COMMIT" ∷ codes "b: 2" ∷ codes "b: 3" ∷ codes "b: 1" ∷ codes "b: 1" ∷ codes "b: 2"
    ∷ codes "b: event 1 2012-01-01 00:00:00.000000 4 null 't' 'one' null null null null" ∷ codes "b: rows 1" ∷ codes "b: 1" ∷ codes "b: 0"
    ∷ codes "b: 3" ∷ codes "b: queue q consumer w prev_tick 2 tick 3 prev_seq 2002 seq 4002" ∷ codes "b: sub 1 last_tick 2 batch 3 retries 0"
    ∷ codes "b: error NoTick 9 3" ∷ codes "b: error NoTick 0 3" ∷ [])
unfolding is_utf8 chars encode digits moment day_after last_digits
moved_back = record { transcript_is = refl; none_bad = refl }

-- a move gives up the active batch, and so does leaving; a consumer that registers again has another subscription, at the newest tick
lives : Prints
    (codes "a: open d" ∷ codes "a: create_queue q" ∷ codes "a: register_consumer q w" ∷ codes "a: insert_event q 't' 'x'" ∷ codes "a: force_tick q"
    ∷ codes "a: ticker q" ∷ codes "a: register_consumer_at q v 1" ∷ codes "a: next_batch q w" ∷ codes "a: next_batch q v"
    ∷ codes "a: get_batch_info 2" ∷ codes "a: register_consumer_at q w 1" ∷ codes "a: consumer_info q w" ∷ codes "a: finish_batch 1"
    ∷ codes "a: get_batch_events 1" ∷ codes "a: next_batch q w" ∷ codes "a: unregister_consumer q w" ∷ codes "a: unregister_consumer q w"
    ∷ codes "a: get_batch_info 3" ∷ codes "a: get_batch_info 2" ∷ codes "a: consumer_info q w" ∷ codes "a: next_batch q w"
    ∷ codes "a: register_consumer q w" ∷ codes "a: consumer_info q w" ∷ codes "a: consumer_info q v" ∷ codes "a: finish_batch 2"
    ∷ codes "a: consumer_info q v" ∷ [])
    (codes "a: ok" ∷ codes "a: 1" ∷ codes "a: 1" ∷ codes "a: 1" ∷ codes "a: 1" ∷ codes "a: 2" ∷ codes "a: 1" ∷ codes "a: 1" ∷ codes "a: 2"
    ∷ codes "a: queue q consumer v prev_tick 1 tick 2 prev_seq 0 seq 2001" ∷ codes "a: 0" ∷ codes "a: sub 1 last_tick 1 batch null retries 0"
    ∷ codes "a: 0" ∷ codes "a: error NoBatch" ∷ codes "a: 3" ∷ codes "a: 1" ∷ codes "a: 0" ∷ codes "a: error NoBatch"
    ∷ codes "a: queue q consumer v prev_tick 1 tick 2 prev_seq 0 seq 2001" ∷ codes "a: error NoConsumer w" ∷ codes "a: error NoConsumer w"
    ∷ codes "a: 1" ∷ codes "a: sub 3 last_tick 2 batch null retries 0" ∷ codes "a: sub 2 last_tick 1 batch 2 retries 0" ∷ codes "a: 1"
    ∷ codes "a: sub 2 last_tick 2 batch null retries 0" ∷ [])
unfolding is_utf8 chars encode digits moment day_after last_digits
lives = record { transcript_is = refl; none_bad = refl }

-- what is refused, and what is answered about a consumer that isn't registered
refused : Prints
    (codes "a: open d" ∷ codes "a: create_queue q" ∷ codes "a: register_consumer_at r w 1" ∷ codes "a: register_consumer_at q w.x 9"
    ∷ codes "a: register_consumer_at q w 2" ∷ codes "a: unregister_consumer r w" ∷ codes "a: unregister_consumer q w.x"
    ∷ codes "a: unregister_consumer q w" ∷ codes "a: get_batch_info 1" ∷ codes "a: consumer_info r w" ∷ codes "a: consumer_info q w"
    ∷ codes "a: consumer_info q w.x" ∷ codes "a: begin" ∷ codes "a: consumer_info q w" ∷ codes "a: rollback" ∷ [])
    (codes "a: ok" ∷ codes "a: 1" ∷ codes "a: error NoQueue r" ∷ codes "a: error NodeConsumer" ∷ codes "a: error NoTick 2 1"
    ∷ codes "a: error NoQueue r" ∷ codes "a: error NodeConsumer" ∷ codes "a: 0" ∷ codes "a: error NoBatch" ∷ codes "a: error NoQueue r"
    ∷ codes "a: error NoConsumer w" ∷ codes "a: error NoConsumer w.x" ∷ codes "a: BEGIN" ∷ codes "a: error InTransaction" ∷ codes "a: ROLLBACK" ∷ [])
unfolding is_utf8 chars encode digits moment day_after last_digits
refused = record { transcript_is = refl; none_bad = refl }
