-- Events that are retried, in worked scripts from their bytes to their printed bytes, by computation.
use Rattle.std.proofs.Common.{[], ◌∷◌, refl, codes}
use Rattle.std.specs.Str.{is_utf8, chars}
use lib.Utf8.{encode}
use Rattle.std.specs.Fmt.{digits}
use Rattle.sky_model.specs.Moment.{moment, day_after, last_digits}
use Rattle.sky_laws.proofs.WorkedScripts.{Prints}

-- eleven events are retried: none a moment too soon, ten in the first transaction and the last one in the next, and for the one consumer alone
ten_at_a_time : Prints
    (codes "a: open d" ∷ codes "a: create_queue q" ∷ codes "a: register_consumer q w" ∷ codes "a: register_consumer q v"
    ∷ codes "a: insert_event q 't' 'x'" ∷ codes "a: insert_event q 't' 'x'" ∷ codes "a: insert_event q 't' 'x'" ∷ codes "a: insert_event q 't' 'x'"
    ∷ codes "a: insert_event q 't' 'x'" ∷ codes "a: insert_event q 't' 'x'" ∷ codes "a: insert_event q 't' 'x'" ∷ codes "a: insert_event q 't' 'x'"
    ∷ codes "a: insert_event q 't' 'x'" ∷ codes "a: insert_event q 't' 'x'" ∷ codes "a: insert_event q 't' 'x'" ∷ codes "a: force_tick q"
    ∷ codes "a: ticker q" ∷ codes "a: next_batch q w" ∷ codes "a: event_retry 1 1 30" ∷ codes "a: event_retry 1 1 30"
    ∷ codes "a: event_retry 1 99 30" ∷ codes "a: event_retry 1 2 30" ∷ codes "a: event_retry 1 3 30" ∷ codes "a: event_retry 1 4 30"
    ∷ codes "a: event_retry 1 5 30" ∷ codes "a: event_retry 1 6 30" ∷ codes "a: event_retry 1 7 30" ∷ codes "a: event_retry 1 8 30"
    ∷ codes "a: event_retry 1 9 30" ∷ codes "a: event_retry 1 10 30" ∷ codes "a: event_retry 1 11 30" ∷ codes "a: finish_batch 1"
    ∷ codes "a: clock +29999999us" ∷ codes "a: maint_retry_events" ∷ codes "a: clock +1us" ∷ codes "a: maint_retry_events"
    ∷ codes "a: maint_retry_events" ∷ codes "a: maint_retry_events" ∷ codes "a: force_tick q" ∷ codes "a: ticker q" ∷ codes "a: next_batch q w"
    ∷ codes "a: get_batch_events 2" ∷ codes "a: next_batch q v" ∷ codes "a: get_batch_events 3" ∷ codes "a: finish_batch 3"
    ∷ codes "a: next_batch q v" ∷ codes "a: get_batch_events 4" ∷ [])
    (codes "a: ok" ∷ codes "a: 1" ∷ codes "a: 1" ∷ codes "a: 1" ∷ codes "a: 1" ∷ codes "a: 2" ∷ codes "a: 3" ∷ codes "a: 4" ∷ codes "a: 5"
    ∷ codes "a: 6" ∷ codes "a: 7" ∷ codes "a: 8" ∷ codes "a: 9" ∷ codes "a: 10" ∷ codes "a: 11" ∷ codes "a: 1" ∷ codes "a: 2" ∷ codes "a: 1"
    ∷ codes "a: 1" ∷ codes "a: 0" ∷ codes "a: error NoEvent" ∷ codes "a: 1" ∷ codes "a: 1" ∷ codes "a: 1" ∷ codes "a: 1" ∷ codes "a: 1"
    ∷ codes "a: 1" ∷ codes "a: 1" ∷ codes "a: 1" ∷ codes "a: 1" ∷ codes "a: 1" ∷ codes "a: 1" ∷ codes "a: 2012-01-01 00:00:29.999999" ∷ codes "a: 0"
    ∷ codes "a: 2012-01-01 00:00:30.000000" ∷ codes "a: 10" ∷ codes "a: 1" ∷ codes "a: 0" ∷ codes "a: 2" ∷ codes "a: 3" ∷ codes "a: 2"
    ∷ codes "a: event 1 2012-01-01 00:00:00.000000 15 1 't' 'x' null null null null"
    ∷ codes "a: event 2 2012-01-01 00:00:00.000000 15 1 't' 'x' null null null null"
    ∷ codes "a: event 3 2012-01-01 00:00:00.000000 15 1 't' 'x' null null null null"
    ∷ codes "a: event 4 2012-01-01 00:00:00.000000 15 1 't' 'x' null null null null"
    ∷ codes "a: event 5 2012-01-01 00:00:00.000000 15 1 't' 'x' null null null null"
    ∷ codes "a: event 6 2012-01-01 00:00:00.000000 15 1 't' 'x' null null null null"
    ∷ codes "a: event 7 2012-01-01 00:00:00.000000 15 1 't' 'x' null null null null"
    ∷ codes "a: event 8 2012-01-01 00:00:00.000000 15 1 't' 'x' null null null null"
    ∷ codes "a: event 9 2012-01-01 00:00:00.000000 15 1 't' 'x' null null null null"
    ∷ codes "a: event 10 2012-01-01 00:00:00.000000 15 1 't' 'x' null null null null"
    ∷ codes "a: event 11 2012-01-01 00:00:00.000000 16 1 't' 'x' null null null null" ∷ codes "a: rows 11" ∷ codes "a: 3"
    ∷ codes "a: event 1 2012-01-01 00:00:00.000000 4 null 't' 'x' null null null null"
    ∷ codes "a: event 2 2012-01-01 00:00:00.000000 5 null 't' 'x' null null null null"
    ∷ codes "a: event 3 2012-01-01 00:00:00.000000 6 null 't' 'x' null null null null"
    ∷ codes "a: event 4 2012-01-01 00:00:00.000000 7 null 't' 'x' null null null null"
    ∷ codes "a: event 5 2012-01-01 00:00:00.000000 8 null 't' 'x' null null null null"
    ∷ codes "a: event 6 2012-01-01 00:00:00.000000 9 null 't' 'x' null null null null"
    ∷ codes "a: event 7 2012-01-01 00:00:00.000000 10 null 't' 'x' null null null null"
    ∷ codes "a: event 8 2012-01-01 00:00:00.000000 11 null 't' 'x' null null null null"
    ∷ codes "a: event 9 2012-01-01 00:00:00.000000 12 null 't' 'x' null null null null"
    ∷ codes "a: event 10 2012-01-01 00:00:00.000000 13 null 't' 'x' null null null null"
    ∷ codes "a: event 11 2012-01-01 00:00:00.000000 14 null 't' 'x' null null null null" ∷ codes "a: rows 11" ∷ codes "a: 1" ∷ codes "a: 4"
    ∷ codes "a: rows 0" ∷ [])
unfolding is_utf8 chars encode digits moment day_after last_digits
ten_at_a_time = record { transcript_is = refl; none_bad = refl }

-- an event is asked for again once it came back: two of its id are in one batch; a move keeps what waits, and leaving drops it
again : Prints
    (codes "a: open d" ∷ codes "a: create_queue q" ∷ codes "a: register_consumer q w" ∷ codes "a: register_consumer q v"
    ∷ codes "a: insert_event q 't' 'x'" ∷ codes "a: force_tick q" ∷ codes "a: ticker q" ∷ codes "a: next_batch q w" ∷ codes "a: event_retry 1 1 0"
    ∷ codes "a: consumer_info q w" ∷ codes "a: maint_retry_events" ∷ codes "a: consumer_info q w" ∷ codes "a: event_retry 1 1 5"
    ∷ codes "a: event_retry 2 1 5" ∷ codes "a: finish_batch 1" ∷ codes "a: event_retry 1 1 5" ∷ codes "a: clock +5s" ∷ codes "a: maint_retry_events"
    ∷ codes "a: force_tick q" ∷ codes "a: ticker q" ∷ codes "a: next_batch q w" ∷ codes "a: get_batch_events 2" ∷ codes "a: event_retry 2 1 7"
    ∷ codes "a: register_consumer_at q w 1" ∷ codes "a: consumer_info q w" ∷ codes "a: unregister_consumer q w" ∷ codes "a: clock +10s"
    ∷ codes "a: maint_retry_events" ∷ codes "a: begin" ∷ codes "a: maint_retry_events" ∷ codes "a: rollback" ∷ [])
    (codes "a: ok" ∷ codes "a: 1" ∷ codes "a: 1" ∷ codes "a: 1" ∷ codes "a: 1" ∷ codes "a: 1" ∷ codes "a: 2" ∷ codes "a: 1" ∷ codes "a: 1"
    ∷ codes "a: sub 1 last_tick 1 batch 1 retries 1" ∷ codes "a: 1" ∷ codes "a: sub 1 last_tick 1 batch 1 retries 0" ∷ codes "a: 1"
    ∷ codes "a: error NoBatch" ∷ codes "a: 1" ∷ codes "a: error NoBatch" ∷ codes "a: 2012-01-01 00:00:05.000000" ∷ codes "a: 1" ∷ codes "a: 2"
    ∷ codes "a: 3" ∷ codes "a: 2" ∷ codes "a: event 1 2012-01-01 00:00:00.000000 5 1 't' 'x' null null null null"
    ∷ codes "a: event 1 2012-01-01 00:00:00.000000 6 1 't' 'x' null null null null" ∷ codes "a: rows 2" ∷ codes "a: 1" ∷ codes "a: 0"
    ∷ codes "a: sub 1 last_tick 1 batch null retries 1" ∷ codes "a: 1" ∷ codes "a: 2012-01-01 00:00:15.000000" ∷ codes "a: 0" ∷ codes "a: BEGIN"
    ∷ codes "a: error InTransaction" ∷ codes "a: ROLLBACK" ∷ [])
unfolding is_utf8 chars encode digits moment day_after last_digits
again = record { transcript_is = refl; none_bad = refl }
