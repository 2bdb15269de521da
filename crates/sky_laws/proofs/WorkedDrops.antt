-- Queues that are dropped, and that can't be, in worked scripts from their bytes to their printed bytes, by computation.
use Rattle.std.proofs.Common.{List, ℕ, [], ◌∷◌, ◌++◌, refl, codes}
use Rattle.std.specs.Str.{is_utf8, chars}
use lib.Utf8.{encode}
use Rattle.std.specs.Fmt.{digits}
use Rattle.sky_model.specs.Moment.{moment, day_after, last_digits}
use Rattle.sky_laws.proofs.WorkedScripts.{Prints}

-- three sessions, two queues and two tables
abbrev beginning : List (List ℕ)
beginning =
    codes "a: open d" ∷ codes "b: open d" ∷ codes "c: open d" ∷ codes "a: create_queue p" ∷ codes "a: create_queue q"
    ∷ codes "a: create table t k:int:key" ∷ codes "a: create table u k:int:key" ∷ []

abbrev beginning_printed : List (List ℕ)
beginning_printed =
    codes "a: ok" ∷ codes "b: ok" ∷ codes "c: ok" ∷ codes "a: 1" ∷ codes "a: 1" ∷ codes "a: ok" ∷ codes "a: ok" ∷ []

-- a queue is dropped, and made again under its name: the ids of its ticks and events begin again, and nothing is stored
made_anew : Prints
    (beginning ++ codes "a: insert_event q 't' 'x'" ∷ codes "a: force_tick q" ∷ codes "a: ticker q" ∷ codes "a: queue_info q" ∷ codes "a: drop_queue q"
    ∷ codes "a: queue_info q" ∷ codes "a: drop_queue q" ∷ codes "a: create_queue q" ∷ codes "a: queue_info q"
    ∷ codes "a: insert_event q 't' 'y'" ∷ codes "a: force_tick q" ∷ codes "a: ticker q" ∷ [])
    (beginning_printed ++ codes "a: 1" ∷ codes "a: 1" ∷ codes "a: 2" ∷ codes "a: ntables 3 cur_table 0 last_tick 2 seq 2001 stored 1 0 0" ∷ codes "a: 1"
    ∷ codes "a: error NoQueue q" ∷ codes "a: error NoQueue q" ∷ codes "a: 1" ∷ codes "a: ntables 3 cur_table 0 last_tick 1 seq 0 stored 0 0 0"
    ∷ codes "a: 1" ∷ codes "a: 1" ∷ codes "a: 2" ∷ [])
unfolding is_utf8 chars encode digits moment day_after last_digits
made_anew = record { transcript_is = refl; none_bad = refl }

-- a statement that takes no transaction id
no_id : Prints
    (beginning ++ codes "a: txid_current" ∷ codes "a: drop_queue q" ∷ codes "a: drop_queue p" ∷ codes "a: txid_current" ∷ [])
    (beginning_printed ++ codes "a: 5" ∷ codes "a: 1" ∷ codes "a: 1" ∷ codes "a: 6" ∷ [])
unfolding is_utf8 chars encode digits moment day_after last_digits
no_id = record { transcript_is = refl; none_bad = refl }

-- a queue with consumers, though it has a trigger and a running transaction's event too
has_consumers : Prints
    (beginning ++ codes "a: add_trigger tg t q" ∷ codes "c: begin" ∷ codes "c: insert_event q null null" ∷ codes "a: register_consumer q v"
    ∷ codes "a: register_consumer q w" ∷ codes "a: drop_queue r" ∷ codes "a: drop_queue q" ∷ [])
    (beginning_printed ++ codes "a: ok" ∷ codes "c: BEGIN" ∷ codes "c: 1" ∷ codes "a: 1" ∷ codes "a: 1" ∷ codes "a: error NoQueue r"
    ∷ codes "a: error HasConsumers 2" ∷ [])
unfolding is_utf8 chars encode digits moment day_after last_digits
has_consumers = record { transcript_is = refl; none_bad = refl }

-- one without, into which a trigger writes: the first one that was made, even if it is of a later table
has_triggers : Prints
    (beginning ++ codes "a: add_trigger first u p" ∷ codes "a: add_trigger second u q" ∷ codes "a: add_trigger third t q"
    ∷ codes "a: register_consumer p w" ∷ codes "c: begin" ∷ codes "c: insert_event q null null" ∷ codes "a: drop_queue q"
    ∷ codes "a: drop_queue p" ∷ [])
    (beginning_printed ++ codes "a: ok" ∷ codes "a: ok" ∷ codes "a: ok" ∷ codes "a: 1" ∷ codes "c: BEGIN" ∷ codes "c: 1" ∷ codes "a: error HasTriggers second"
    ∷ codes "a: error HasConsumers 1" ∷ [])
unfolding is_utf8 chars encode digits moment day_after last_digits
has_triggers = record { transcript_is = refl; none_bad = refl }

-- one into which running transactions have put events: the least of them, though its event came second
queue_busy : Prints
    (beginning ++ codes "c: begin" ∷ codes "c: insert_event p null null" ∷ codes "b: begin" ∷ codes "b: insert_event q null null"
    ∷ codes "c: insert_event q null null" ∷ codes "a: insert_event q null null" ∷ codes "a: drop_queue q" ∷ codes "c: rollback"
    ∷ codes "a: drop_queue q" ∷ codes "b: commit" ∷ codes "a: begin" ∷ codes "a: drop_queue q" ∷ codes "a: rollback" ∷ codes "a: drop_queue q"
    ∷ codes "a: drop_queue p" ∷ [])
    (beginning_printed ++ codes "c: BEGIN" ∷ codes "c: 1" ∷ codes "b: BEGIN" ∷ codes "b: 1" ∷ codes "c: 2" ∷ codes "a: 3" ∷ codes "a: error QueueBusy 5"
    ∷ codes "c: ROLLBACK" ∷ codes "a: error QueueBusy 6" ∷ codes "b: COMMIT" ∷ codes "a: BEGIN" ∷ codes "a: error InTransaction"
    ∷ codes "a: ROLLBACK" ∷ codes "a: 1" ∷ codes "a: 1" ∷ [])
unfolding is_utf8 chars encode digits moment day_after last_digits
queue_busy = record { transcript_is = refl; none_bad = refl }
