-- Rotations of event tables, made and held back, in worked scripts from their bytes to their printed bytes, by computation.
use Rattle.std.proofs.Common.{List, ℕ, [], ◌∷◌, ◌++◌, refl, codes}
use Rattle.std.specs.Str.{is_utf8, chars}
use lib.Utf8.{encode}
use Rattle.std.specs.Fmt.{digits}
use Rattle.sky_model.specs.Moment.{moment, day_after, last_digits}
use Rattle.sky_laws.proofs.WorkedScripts.{Prints}

-- a queue with a consumer
abbrev beginning : List (List ℕ)
beginning = codes "a: open d" ∷ codes "a: create_queue q" ∷ codes "a: register_consumer q w" ∷ []

abbrev beginning_printed : List (List ℕ)
beginning_printed = codes "a: ok" ∷ codes "a: 1" ∷ codes "a: 1" ∷ []

-- a switch is held back by the period, by the second step of the one before, and by a consumer that hasn't read so far; the next one drops ticks
held_back : Prints
    (beginning ++ codes "a: clock +2h" ∷ codes "a: maint_rotate_step1 q" ∷ codes "a: maint_rotate_step1 q" ∷ codes "a: ticker q"
    ∷ codes "a: next_batch q w" ∷ codes "a: finish_batch 1" ∷ codes "a: clock +2h" ∷ codes "a: maint_rotate_step1 q"
    ∷ codes "a: maint_rotate_step2" ∷ codes "a: maint_rotate_step1 q" ∷ codes "a: ticker q" ∷ codes "a: next_batch q w"
    ∷ codes "a: finish_batch 2" ∷ codes "a: maint_rotate_step1 q" ∷ codes "a: register_consumer_at q v 2" ∷ [])
    (beginning_printed ++ codes "a: 2012-01-01 02:00:00.000000" ∷ codes "a: 1" ∷ codes "a: 0 period 2012-01-01 04:00:00.000000" ∷ codes "a: 2"
    ∷ codes "a: 1" ∷ codes "a: 1" ∷ codes "a: 2012-01-01 04:00:00.000000" ∷ codes "a: 0 step2 4" ∷ codes "a: 1" ∷ codes "a: 0 consumer w 2 5"
    ∷ codes "a: 3" ∷ codes "a: 2" ∷ codes "a: 1" ∷ codes "a: 1" ∷ codes "a: error TickTooOld 2 3" ∷ [])
unfolding is_utf8 chars encode digits moment day_after last_digits
held_back = record { transcript_is = refl; none_bad = refl }

-- a switch that is pending holds back another one until its transaction rolls back, and the current table is the same until one commits
switch_pending : Prints
    (beginning ++ codes "b: open d" ∷ codes "a: clock +2h" ∷ codes "a: begin" ∷ codes "a: maint_rotate_step1 q" ∷ codes "b: maint_rotate_step1 q"
    ∷ codes "b: insert_event q 't' 'x'" ∷ codes "b: queue_info q" ∷ codes "a: rollback" ∷ codes "b: maint_rotate_step1 q"
    ∷ codes "b: queue_info q" ∷ [])
    (beginning_printed ++ codes "b: ok" ∷ codes "a: 2012-01-01 02:00:00.000000" ∷ codes "a: BEGIN" ∷ codes "a: 1" ∷ codes "b: 0 pending 4"
    ∷ codes "b: 1" ∷ codes "b: ntables 3 cur_table 0 last_tick 1 seq 1 stored 1 0 0" ∷ codes "a: ROLLBACK" ∷ codes "b: 1"
    ∷ codes "b: ntables 3 cur_table 1 last_tick 1 seq 1 stored 1 0 0" ∷ [])
unfolding is_utf8 chars encode digits moment day_after last_digits
switch_pending = record { transcript_is = refl; none_bad = refl }
