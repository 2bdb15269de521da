-- Nodes of a set in worked scripts from their bytes to their printed bytes, by computation.
use Rattle.std.proofs.Common.{[], ◌∷◌, refl, codes}
use Rattle.std.specs.Str.{is_utf8, chars}
use lib.Utf8.{encode}
use Rattle.std.specs.Fmt.{digits}
use Rattle.sky_model.specs.Moment.{moment, day_after, last_digits}
use Rattle.sky_laws.proofs.WorkedScripts.{Prints}

-- a table that a running transaction has written doesn't join a set; what sessions may not do with the set's queue
busy_table : Prints
    (codes "a: open p" ∷ codes "a: create table t id:int:key n:int" ∷ codes "a: create_root root q" ∷ codes "b: open p" ∷ codes "b: begin"
    ∷ codes "b: insert t 1 0" ∷ codes "a: add_table root t" ∷ codes "b: commit" ∷ codes "a: add_table root t"
    ∷ codes "a: insert_event q 'I:id' 'id=9&n=9'" ∷ codes "a: drop_queue q" ∷ [])
    (codes "a: ok" ∷ codes "a: ok" ∷ codes "a: ok" ∷ codes "b: ok" ∷ codes "b: BEGIN" ∷ codes "b: 1" ∷ codes "a: error TableBusy 4"
    ∷ codes "b: COMMIT" ∷ codes "a: ok" ∷ codes "a: error ReservedType" ∷ codes "a: error SetQueue" ∷ [])
unfolding is_utf8 chars encode digits moment day_after last_digits
busy_table = record { transcript_is = refl; none_bad = refl }

-- a root and a leaf: tables join both and leave them, and what is refused on the way
set_made : Prints
    (codes "m: open p" ∷ codes "m: create table t id:int:key n:int" ∷ codes "m: create table u id:int:key n:int" ∷ codes "m: create_root root q"
    ∷ codes "m: add_table root t" ∷ codes "r: open c" ∷ codes "r: create table t id:int:key n:int" ∷ codes "r: create table u id:int:key n:text"
    ∷ codes "r: create_leaf root root" ∷ codes "r: create_leaf leaf nowhere" ∷ codes "r: create_leaf leaf root"
    ∷ codes "r: create_leaf other root" ∷ codes "r: add_table leaf u" ∷ codes "m: add_table root u" ∷ codes "r: add_table leaf u"
    ∷ codes "r: add_table leaf t" ∷ codes "r: add_table leaf t" ∷ codes "r: table_state leaf t" ∷ codes "r: table_state leaf u"
    ∷ codes "r: table_state root t" ∷ codes "r: insert t 1 1" ∷ codes "r: get t 1" ∷ codes "m: insert t 1 1"
    ∷ codes "m: register_consumer q leaf" ∷ codes "m: next_batch q leaf" ∷ codes "m: remove_table root t" ∷ codes "r: remove_table leaf t"
    ∷ codes "m: remove_table root t" ∷ codes "r: insert t 1 1" ∷ codes "m: insert t 2 2" ∷ codes "m: queue_info q" ∷ codes "m: create_root x y"
    ∷ codes "m: add_trigger a t q" ∷ [])
    (codes "m: ok" ∷ codes "m: ok" ∷ codes "m: ok" ∷ codes "m: ok" ∷ codes "m: ok" ∷ codes "r: ok" ∷ codes "r: ok" ∷ codes "r: ok"
    ∷ codes "r: error NodeExists root" ∷ codes "r: error NoNode nowhere" ∷ codes "r: ok" ∷ codes "r: error NodeExists other"
    ∷ codes "r: error NotInSet u" ∷ codes "m: ok" ∷ codes "r: error SchemaDiffers u" ∷ codes "r: ok" ∷ codes "r: error AlreadyInSet t"
    ∷ codes "r: none" ∷ codes "r: error NotInSet u" ∷ codes "r: error NotLeaf root" ∷ codes "r: error ReadOnly" ∷ codes "r: none" ∷ codes "m: 1"
    ∷ codes "m: error NodeConsumer" ∷ codes "m: error NodeConsumer" ∷ codes "m: error TableInUse leaf" ∷ codes "r: ok" ∷ codes "m: ok"
    ∷ codes "r: 1" ∷ codes "m: 1" ∷ codes "m: ntables 3 cur_table 0 last_tick 1 seq 1 stored 1 0 0" ∷ codes "m: error NodeExists x"
    ∷ codes "m: error SetQueue" ∷ [])
unfolding is_utf8 chars encode digits moment day_after last_digits
set_made = record { transcript_is = refl; none_bad = refl }
