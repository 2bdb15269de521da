-- Worked scripts from their bytes to their printed bytes, by computation.
use Rattle.std.proofs.Common.{◌≡◌, ℕ, List, [], ◌∷◌, ◌++◌, Some, None, refl, codes, flat_map}
use Rattle.std.specs.Str.{is_utf8, chars}
use lib.Utf8.{encode}
use Rattle.std.specs.Fmt.{digits}
use Rattle.sky_model.specs.declared.line.Cause.TheVariants.{Truncated, BadWord}
use Rattle.sky_model.specs.Moment.{moment, day_after, last_digits}
use Rattle.sky_model.specs.Transcript.{transcript, bad_line}

-- a script of lines, each ended
abbrev pub script : List (List ℕ) → List ℕ
script lines = flat_map (λ line. line ++ 10 ∷ []) lines

-- the script of these lines is good, and prints those
pub record Prints (lines printed : List (List ℕ)) : Type 0 where
  pub transcript_is : transcript (script lines) ≡ script printed
  pub none_bad : bad_line (script lines) ≡ None

abbrev beginning : List (List ℕ)
beginning = codes "a: open d" ∷ codes "a: create_queue q" ∷ codes "a: register_consumer q w" ∷ []

abbrev beginning_printed : List (List ℕ)
beginning_printed = codes "a: ok" ∷ codes "a: 1" ∷ codes "a: 1" ∷ []

first_run : Prints (beginning ++ codes "a: insert_event q 'hello' 'x=1'" ∷ codes "a: force_tick q" ∷ codes "a: ticker q" ∷ codes "a: next_batch q w" ∷ codes "a: get_batch_events 1" ∷ codes "a: finish_batch 1" ∷ codes "a: finish_batch 1" ∷ codes "a: next_batch q w" ∷ [])
    (beginning_printed ++ codes "a: 1" ∷ codes "a: 1" ∷ codes "a: 2" ∷ codes "a: 1" ∷ codes "a: event 1 2012-01-01 00:00:00.000000 4 null 'hello' 'x=1' null null null null" ∷ codes "a: rows 1" ∷ codes "a: 1" ∷ codes "a: 0" ∷ codes "a: null" ∷ [])
unfolding is_utf8 chars encode digits moment day_after last_digits
first_run = record { transcript_is = refl; none_bad = refl }

empty_batch : Prints (beginning ++ codes "a: ticker q" ∷ codes "a: ticker q" ∷ codes "a: next_batch q w" ∷ codes "a: next_batch q w" ∷ codes "a: get_batch_events 1" ∷ codes "a: finish_batch 1" ∷ [])
    (beginning_printed ++ codes "a: 2" ∷ codes "a: null" ∷ codes "a: 1" ∷ codes "a: 1" ∷ codes "a: rows 0" ∷ codes "a: 1" ∷ [])
unfolding is_utf8 chars encode digits moment day_after last_digits
empty_batch = record { transcript_is = refl; none_bad = refl }

commits_out_of_order : Prints (beginning ++ codes "b: open d" ∷ codes "a: begin" ∷ codes "a: insert_event q 't' 'one'" ∷ codes "b: insert_event q 't' 'two'" ∷ codes "b: txid_current_snapshot" ∷ codes "b: force_tick q" ∷ codes "b: ticker q" ∷ codes "a: commit" ∷ codes "b: force_tick q" ∷ codes "b: ticker q" ∷ codes "b: next_batch q w" ∷ codes "b: get_batch_events 1" ∷ codes "b: finish_batch 1" ∷ codes "b: next_batch q w" ∷ codes "b: get_batch_events 2" ∷ codes "b: finish_batch 2" ∷ [])
    (beginning_printed ++ codes "b: ok" ∷ codes "a: BEGIN" ∷ codes "a: 1" ∷ codes "b: 2" ∷ codes "b: 4:6:4" ∷ codes "b: 1" ∷ codes "b: 2" ∷ codes "a: COMMIT" ∷ codes "b: 2" ∷ codes "b: 3" ∷ codes "b: 1" ∷ codes "b: event 2 2012-01-01 00:00:00.000000 5 null 't' 'two' null null null null" ∷ codes "b: rows 1" ∷ codes "b: 1" ∷ codes "b: 2" ∷ codes "b: event 1 2012-01-01 00:00:00.000000 4 null 't' 'one' null null null null" ∷ codes "b: rows 1" ∷ codes "b: 1" ∷ [])
unfolding is_utf8 chars encode digits moment day_after last_digits
commits_out_of_order = record { transcript_is = refl; none_bad = refl }

rolled_back : Prints (beginning ++ codes "a: begin" ∷ codes "a: insert_event q 't' 'x'" ∷ codes "a: rollback" ∷ codes "a: insert_event q 't' 'y'" ∷ codes "a: force_tick q" ∷ codes "a: ticker q" ∷ codes "a: next_batch q w" ∷ codes "a: get_batch_events 1" ∷ [])
    (beginning_printed ++ codes "a: BEGIN" ∷ codes "a: 1" ∷ codes "a: ROLLBACK" ∷ codes "a: 2" ∷ codes "a: 1" ∷ codes "a: 2" ∷ codes "a: 1" ∷ codes "a: event 2 2012-01-01 00:00:00.000000 5 null 't' 'y' null null null null" ∷ codes "a: rows 1" ∷ [])
unfolding is_utf8 chars encode digits moment day_after last_digits
rolled_back = record { transcript_is = refl; none_bad = refl }

own_id_runs : Prints (beginning ++ codes "a: begin" ∷ codes "a: txid_current" ∷ codes "a: txid_current_snapshot" ∷ [])
    (beginning_printed ++ codes "a: BEGIN" ∷ codes "a: 4" ∷ codes "a: 4:5:4" ∷ [])
unfolding is_utf8 chars encode digits moment day_after last_digits
own_id_runs = record { transcript_is = refl; none_bad = refl }

snapshots : Prints (codes "a: open d" ∷ codes "a: txid_visible_in_snapshot 9 '10:20:10,14,15'" ∷ codes "a: txid_visible_in_snapshot 11 '10:20:10,14,15'" ∷ codes "a: txid_visible_in_snapshot 14 '10:20:10,14,15'" ∷ codes "a: txid_visible_in_snapshot 20 '10:20:10,14,15'" ∷ codes "a: txid_visible_in_snapshot 9 '10:9:'" ∷ codes "a: txid_visible_in_snapshot 9 '10:20:20'" ∷ codes "a: txid_visible_in_snapshot 9 '0:5:'" ∷ [])
    (codes "a: ok" ∷ codes "a: true" ∷ codes "a: true" ∷ codes "a: false" ∷ codes "a: false" ∷ codes "a: error BadSnapshot" ∷ codes "a: error BadSnapshot" ∷ codes "a: error BadSnapshot" ∷ [])
unfolding is_utf8 chars encode digits moment day_after last_digits
snapshots = record { transcript_is = refl; none_bad = refl }

-- a last line without a line feed
unended : bad_line (codes "a: open d" ++ 10 ∷ codes "b: op") ≡ Some (2, Truncated)
unfolding is_utf8 chars encode digits moment day_after last_digits
unended = refl

unended_printed : transcript (codes "a: open d" ++ 10 ∷ codes "b: op") ≡ script (codes "a: ok" ∷ [])
unfolding is_utf8 chars encode digits moment day_after last_digits
unended_printed = refl

-- lines count even if they do nothing
third_word : bad_line (script (codes "# no line" ∷ [] ∷ codes "a: open d e" ∷ [])) ≡ Some (3, BadWord 4)
unfolding is_utf8 chars encode digits moment day_after last_digits
third_word = refl
