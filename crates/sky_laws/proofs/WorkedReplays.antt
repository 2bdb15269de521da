-- Copies that catch up, hand-overs and replays in worked scripts from their bytes to their printed bytes, by computation.
use Rattle.std.proofs.Common.{[], ◌∷◌, refl, codes}
use Rattle.std.specs.Str.{is_utf8, chars}
use lib.Utf8.{encode}
use Rattle.std.specs.Fmt.{digits}
use Rattle.form_urlencoded.specs.Form.{byte_serialize}
use Rattle.percent_encoding.specs.Percent.{percent_decode}
use Rattle.sky_model.specs.Moment.{moment, day_after, last_digits}
use Rattle.sky_laws.proofs.WorkedScripts.{Prints}

-- a table is in sync: a batch is taken, applied and finished; one that comes again after it was applied is skipped
replayed : Prints
    (codes "m: open p" ∷ codes "m: create table t id:int:key n:int" ∷ codes "m: create_root root q" ∷ codes "m: add_table root t" ∷ codes "r: open c"
    ∷ codes "r: create table t id:int:key n:int" ∷ codes "r: create_leaf leaf root" ∷ codes "r: add_table leaf t" ∷ codes "r: londiste_step leaf"
    ∷ codes "r: copy_step leaf t" ∷ codes "r: copy_step leaf t" ∷ codes "r: londiste_step leaf" ∷ codes "r: copy_step leaf t" ∷ codes "m: insert t 1 10"
    ∷ codes "m: insert t 2 20" ∷ codes "m: force_tick q" ∷ codes "m: ticker q" ∷ codes "r: londiste_step leaf" ∷ codes "r: londiste_step leaf"
    ∷ codes "r: londiste_step leaf" ∷ codes "r: scan t" ∷ codes "m: update t 1 set n=11" ∷ codes "m: delete t 2" ∷ codes "m: force_tick q"
    ∷ codes "m: ticker q" ∷ codes "r: londiste_step leaf" ∷ codes "m: finish_batch 2" ∷ codes "r: londiste_step leaf" ∷ codes "r: restart leaf"
    ∷ codes "r: londiste_step leaf" ∷ codes "r: londiste_step leaf" ∷ codes "r: londiste_step leaf" ∷ codes "r: londiste_step leaf" ∷ codes "r: scan t" ∷ [])
    (codes "m: ok" ∷ codes "m: ok" ∷ codes "m: ok" ∷ codes "m: ok" ∷ codes "r: ok" ∷ codes "r: ok" ∷ codes "r: ok" ∷ codes "r: ok"
    ∷ codes "r: state t in-copy" ∷ codes "r: copied 0" ∷ codes "r: state t catching-up" ∷ codes "r: state t wanna-sync:1" ∷ codes "r: state t do-sync:1"
    ∷ codes "r: state t ok" ∷ codes "m: 1" ∷ codes "m: 1" ∷ codes "m: 1" ∷ codes "m: 2" ∷ codes "r: batch 1 1 2" ∷ codes "r: applied 2 2"
    ∷ codes "r: finished 1" ∷ codes "r: row 1 10" ∷ codes "r: row 2 20" ∷ codes "r: rows 2" ∷ codes "m: 1" ∷ codes "m: 1" ∷ codes "m: 2" ∷ codes "m: 3"
    ∷ codes "r: batch 2 2 3" ∷ codes "m: error NodeConsumer" ∷ codes "r: applied 3 2" ∷ codes "r: ok" ∷ codes "r: batch 2 2 3" ∷ codes "r: skipped 3"
    ∷ codes "r: finished 2" ∷ codes "r: idle" ∷ codes "r: row 1 11" ∷ codes "r: rows 1" ∷ [])
unfolding is_utf8 chars encode digits moment day_after last_digits byte_serialize percent_decode
replayed = record { transcript_is = refl; none_bad = refl }

-- a table that was copied catches up with what its snapshot has not seen, and is handed over
handed_over : Prints
    (codes "m: open p" ∷ codes "m: create table t id:int:key n:int" ∷ codes "m: create_root root q" ∷ codes "m: add_table root t" ∷ codes "m: insert t 1 0"
    ∷ codes "r: open c" ∷ codes "r: create table t id:int:key n:int" ∷ codes "r: create_leaf leaf root" ∷ codes "r: add_table leaf t"
    ∷ codes "r: copy_step leaf t" ∷ codes "r: londiste_step leaf" ∷ codes "r: copy_step leaf t" ∷ codes "m: update t 1 set n=5" ∷ codes "r: get t 1"
    ∷ codes "r: copy_step leaf t" ∷ codes "m: force_tick q" ∷ codes "m: ticker q" ∷ codes "r: copy_step leaf t" ∷ codes "r: copy_step leaf t"
    ∷ codes "r: copy_step leaf t" ∷ codes "r: copy_step leaf t" ∷ codes "r: copy_step leaf t" ∷ codes "r: londiste_step leaf"
    ∷ codes "r: londiste_step leaf" ∷ codes "r: londiste_step leaf" ∷ codes "r: londiste_step leaf" ∷ codes "r: londiste_step leaf"
    ∷ codes "r: copy_step leaf t" ∷ codes "r: copy_step leaf t" ∷ codes "r: get t 1" ∷ codes "r: insert t 7 0" ∷ [])
    (codes "m: ok" ∷ codes "m: ok" ∷ codes "m: ok" ∷ codes "m: ok" ∷ codes "m: 1" ∷ codes "r: ok" ∷ codes "r: ok" ∷ codes "r: ok" ∷ codes "r: ok"
    ∷ codes "r: wait t" ∷ codes "r: state t in-copy" ∷ codes "r: copied 1" ∷ codes "r: state t catching-up" ∷ codes "m: 1" ∷ codes "r: row 1 0"
    ∷ codes "r: idle" ∷ codes "m: 1" ∷ codes "m: 2" ∷ codes "r: batch 1 1 2" ∷ codes "r: applied 2 1" ∷ codes "r: finished 1"
    ∷ codes "r: state t wanna-sync:2" ∷ codes "r: wait t" ∷ codes "r: batch 2 1 2" ∷ codes "r: applied 2 0" ∷ codes "r: finished 2"
    ∷ codes "r: state t do-sync:2" ∷ codes "r: wait t" ∷ codes "r: state t ok" ∷ codes "r: idle" ∷ codes "r: row 1 5" ∷ codes "r: error ReadOnly" ∷ [])
unfolding is_utf8 chars encode digits moment day_after last_digits byte_serialize percent_decode
handed_over = record { transcript_is = refl; none_bad = refl }

-- its copy goes through batches until the tick of the hand-over, at which the leaf was already; what is lost by restarts comes again
handed_over_later : Prints
    (codes "m: open p" ∷ codes "m: create table t id:int:key n:int" ∷ codes "m: create_root root q" ∷ codes "m: add_table root t" ∷ codes "m: insert t 1 0"
    ∷ codes "r: open c" ∷ codes "r: create table t id:int:key n:int" ∷ codes "r: create_leaf leaf root" ∷ codes "r: add_table leaf t"
    ∷ codes "r: londiste_step leaf" ∷ codes "r: copy_step leaf t" ∷ codes "m: update t 1 set n=1" ∷ codes "m: force_tick q" ∷ codes "m: ticker q"
    ∷ codes "m: update t 1 set n=2" ∷ codes "m: force_tick q" ∷ codes "m: ticker q" ∷ codes "r: londiste_step leaf" ∷ codes "r: londiste_step leaf"
    ∷ codes "r: londiste_step leaf" ∷ codes "r: londiste_step leaf" ∷ codes "r: londiste_step leaf" ∷ codes "r: londiste_step leaf"
    ∷ codes "r: londiste_step leaf" ∷ codes "r: copy_step leaf t" ∷ codes "r: restart leaf t" ∷ codes "r: copy_step leaf t" ∷ codes "r: copy_step leaf t"
    ∷ codes "r: restart leaf t" ∷ codes "r: copy_step leaf t" ∷ codes "r: londiste_step leaf" ∷ codes "r: copy_step leaf t" ∷ codes "r: copy_step leaf t"
    ∷ codes "r: copy_step leaf t" ∷ codes "r: copy_step leaf t" ∷ codes "r: copy_step leaf t" ∷ codes "r: restart leaf t" ∷ codes "r: copy_step leaf t"
    ∷ codes "r: get t 1" ∷ [])
    (codes "m: ok" ∷ codes "m: ok" ∷ codes "m: ok" ∷ codes "m: ok" ∷ codes "m: 1" ∷ codes "r: ok" ∷ codes "r: ok" ∷ codes "r: ok" ∷ codes "r: ok"
    ∷ codes "r: state t in-copy" ∷ codes "r: copied 1" ∷ codes "r: state t catching-up" ∷ codes "m: 1" ∷ codes "m: 1" ∷ codes "m: 2" ∷ codes "m: 1"
    ∷ codes "m: 2" ∷ codes "m: 3" ∷ codes "r: batch 1 1 2" ∷ codes "r: applied 2 0" ∷ codes "r: finished 1" ∷ codes "r: batch 2 2 3"
    ∷ codes "r: applied 3 0" ∷ codes "r: finished 2" ∷ codes "r: idle" ∷ codes "r: batch 3 1 2" ∷ codes "r: ok" ∷ codes "r: batch 3 1 2"
    ∷ codes "r: applied 2 1" ∷ codes "r: ok" ∷ codes "r: state t wanna-sync:2" ∷ codes "r: state t do-sync:3" ∷ codes "r: batch 3 1 2"
    ∷ codes "r: skipped 2" ∷ codes "r: finished 3" ∷ codes "r: batch 4 2 3" ∷ codes "r: applied 3 1" ∷ codes "r: ok" ∷ codes "r: state t ok"
    ∷ codes "r: row 1 2" ∷ [])
unfolding is_utf8 chars encode digits moment day_after last_digits byte_serialize percent_decode
handed_over_later = record { transcript_is = refl; none_bad = refl }

-- one table is copied at a time; one that leaves while it catches up gives way to the next, and what the leaf has no longer is not picked
one_at_a_time : Prints
    (codes "m: open p" ∷ codes "m: create table t id:int:key n:int" ∷ codes "m: create table u id:int:key s:text" ∷ codes "m: create_root root q"
    ∷ codes "m: add_table root t" ∷ codes "m: add_table root u" ∷ codes "m: insert t 1 10" ∷ codes "m: insert u 1 'a&b'" ∷ codes "r: open c"
    ∷ codes "r: create table u id:int:key s:text" ∷ codes "r: create table t id:int:key n:int" ∷ codes "r: create_leaf leaf root"
    ∷ codes "r: add_table leaf u" ∷ codes "r: add_table leaf t" ∷ codes "r: londiste_step leaf" ∷ codes "r: copy_step leaf u"
    ∷ codes "r: copy_step leaf t" ∷ codes "m: update u 1 set s=null" ∷ codes "m: insert t 2 20" ∷ codes "m: force_tick q" ∷ codes "m: ticker q"
    ∷ codes "r: londiste_step leaf" ∷ codes "r: copy_step leaf u" ∷ codes "r: copy_step leaf u" ∷ codes "r: remove_table leaf u"
    ∷ codes "r: londiste_step leaf" ∷ codes "r: londiste_step leaf" ∷ codes "r: londiste_step leaf" ∷ codes "r: copy_step leaf u"
    ∷ codes "r: copy_step leaf t" ∷ codes "r: copy_step leaf t" ∷ codes "r: londiste_step leaf" ∷ codes "r: copy_step leaf t" ∷ codes "r: scan u"
    ∷ codes "r: insert u 2 'own'" ∷ codes "m: insert u 3 'x'" ∷ codes "m: update t 2 set n+=1" ∷ codes "m: force_tick q" ∷ codes "m: ticker q"
    ∷ codes "r: londiste_step leaf" ∷ codes "r: londiste_step leaf" ∷ codes "r: londiste_step leaf" ∷ codes "r: londiste_step leaf" ∷ codes "r: scan t"
    ∷ codes "r: scan u" ∷ [])
    (codes "m: ok" ∷ codes "m: ok" ∷ codes "m: ok" ∷ codes "m: ok" ∷ codes "m: ok" ∷ codes "m: ok" ∷ codes "m: 1" ∷ codes "m: 1" ∷ codes "r: ok"
    ∷ codes "r: ok" ∷ codes "r: ok" ∷ codes "r: ok" ∷ codes "r: ok" ∷ codes "r: ok" ∷ codes "r: state u in-copy" ∷ codes "r: copied 1"
    ∷ codes "r: state u catching-up" ∷ codes "r: wait t" ∷ codes "m: 1" ∷ codes "m: 1" ∷ codes "m: 1" ∷ codes "m: 2" ∷ codes "r: batch 1 1 2"
    ∷ codes "r: batch 2 1 2" ∷ codes "r: applied 2 1" ∷ codes "r: ok" ∷ codes "r: applied 2 0" ∷ codes "r: finished 1" ∷ codes "r: state t in-copy"
    ∷ codes "r: error NotInSet u" ∷ codes "r: copied 2" ∷ codes "r: state t catching-up" ∷ codes "r: state t wanna-sync:2" ∷ codes "r: state t do-sync:2"
    ∷ codes "r: state t ok" ∷ codes "r: row 1 null" ∷ codes "r: rows 1" ∷ codes "r: 1" ∷ codes "m: 1" ∷ codes "m: 1" ∷ codes "m: 2" ∷ codes "m: 3"
    ∷ codes "r: batch 3 2 3" ∷ codes "r: applied 3 1" ∷ codes "r: finished 3" ∷ codes "r: idle" ∷ codes "r: row 1 10" ∷ codes "r: row 2 21"
    ∷ codes "r: rows 2" ∷ codes "r: row 1 null" ∷ codes "r: row 2 'own'" ∷ codes "r: rows 2" ∷ [])
unfolding is_utf8 chars encode digits moment day_after last_digits byte_serialize percent_decode
one_at_a_time = record { transcript_is = refl; none_bad = refl }
