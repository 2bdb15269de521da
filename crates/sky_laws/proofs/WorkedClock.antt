-- Worked scripts of the clock, settings and the daemon, from their bytes to their printed bytes, by computation.
use Rattle.std.proofs.Common.{◌≡◌, ℕ, List, [], ◌∷◌, ◌++◌, Some, refl, codes}
use Rattle.std.specs.Str.{is_utf8, chars}
use lib.Utf8.{encode}
use Rattle.std.specs.Fmt.{digits}
use Rattle.sky_model.specs.declared.line.Cause.TheVariants.{BadWord}
use Rattle.sky_model.specs.Moment.{moment, day_after, last_digits}
use Rattle.sky_model.specs.Transcript.{transcript, bad_line}
use Rattle.sky_laws.proofs.WorkedScripts.{Prints, script}

abbrev beginning : List (List ℕ)
beginning = codes "a: open d" ∷ codes "a: create_queue q" ∷ codes "a: register_consumer q w" ∷ []

abbrev beginning_printed : List (List ℕ)
beginning_printed = codes "a: ok" ∷ codes "a: 1" ∷ codes "a: 1" ∷ []

-- a tick is due 3 seconds after the last one if there is a new event, and without one after twice the time between the last two
due_by_time : Prints (beginning ++ codes "a: set_queue_config q ticker_max_count 0" ∷ codes "a: insert_event q 't' 'x'" ∷ codes "a: clock +2999999us" ∷ codes "a: ticker q" ∷ codes "a: clock +1us" ∷ codes "a: ticker q" ∷ codes "a: clock +5999999us" ∷ codes "a: ticker q" ∷ codes "a: clock +1us" ∷ codes "a: ticker q" ∷ [])
    (beginning_printed ++ codes "a: error BadValue ticker_max_count" ∷ codes "a: 1" ∷ codes "a: 2012-01-01 00:00:02.999999" ∷ codes "a: null" ∷ codes "a: 2012-01-01 00:00:03.000000" ∷ codes "a: 2" ∷ codes "a: 2012-01-01 00:00:08.999999" ∷ codes "a: null" ∷ codes "a: 2012-01-01 00:00:09.000000" ∷ codes "a: 3" ∷ [])
unfolding is_utf8 chars encode digits moment day_after last_digits
due_by_time = record { transcript_is = refl; none_bad = refl }

-- the daemon makes the tick that is due on the clock's way; the last number is too large for a column
abbrev watched : List ℕ
watched = script (beginning ++ codes "a: insert_event q 't' 'x'" ∷ codes "a: pgqd on" ∷ codes "a: clock +5s" ∷ codes "a: queue_info q" ∷ codes "a: create table t id:int:key n:int" ∷ codes "a: insert t 1 9223372036854775807" ∷ codes "a: update t 1 set n+=1" ∷ codes "a: insert t 2 9223372036854775808" ∷ [])

daemon_ticks : transcript watched ≡ script (beginning_printed ++ codes "a: 1" ∷ codes "a: ok" ∷ codes "a: 2012-01-01 00:00:05.000000" ∷ codes "a: ntables 3 cur_table 0 last_tick 2 seq 1 stored 1 0 0" ∷ codes "a: ok" ∷ codes "a: 1" ∷ codes "a: error OutOfRange n" ∷ [])
unfolding is_utf8 chars encode digits moment day_after last_digits
daemon_ticks = refl

too_large : bad_line watched ≡ Some (11, BadWord 5)
unfolding is_utf8 chars encode digits moment day_after last_digits
too_large = refl

-- of two databases whose daemons were started at different moments each is due at its own
two_daemons : Prints (codes "a: open d" ∷ codes "a: create_queue q" ∷ codes "a: pgqd on" ∷ codes "b: open e" ∷ codes "b: create_queue q" ∷ codes "a: clock +500ms" ∷ codes "b: pgqd on" ∷ codes "a: clock +500ms" ∷ codes "a: queue_info q" ∷ codes "b: queue_info q" ∷ codes "a: pgqd off" ∷ codes "a: clock +500ms" ∷ codes "b: queue_info q" ∷ [])
    (codes "a: ok" ∷ codes "a: 1" ∷ codes "a: ok" ∷ codes "b: ok" ∷ codes "b: 1" ∷ codes "a: 2012-01-01 00:00:00.500000" ∷ codes "b: ok" ∷ codes "a: 2012-01-01 00:00:01.000000" ∷ codes "a: ntables 3 cur_table 0 last_tick 2 seq 0 stored 0 0 0" ∷ codes "b: ntables 3 cur_table 0 last_tick 1 seq 0 stored 0 0 0" ∷ codes "a: ok" ∷ codes "a: 2012-01-01 00:00:01.500000" ∷ codes "b: ntables 3 cur_table 0 last_tick 2 seq 0 stored 0 0 0" ∷ [])
unfolding is_utf8 chars encode digits moment day_after last_digits
two_daemons = record { transcript_is = refl; none_bad = refl }
