-- Worked scripts of tables and rows, from their bytes to their printed bytes, by computation.
use Rattle.std.proofs.Common.{ℕ, List, [], ◌∷◌, ◌++◌, refl, codes}
use Rattle.std.specs.Str.{is_utf8, chars}
use lib.Utf8.{encode}
use Rattle.std.specs.Fmt.{digits}
use Rattle.sky_laws.proofs.WorkedScripts.{Prints}

abbrev beginning : List (List ℕ)
beginning = codes "a: open d" ∷ codes "a: create table t id:int:key n:int" ∷ codes "a: insert t 1 0" ∷ codes "b: open d" ∷ []

abbrev beginning_printed : List (List ℕ)
beginning_printed = codes "a: ok" ∷ codes "a: ok" ∷ codes "a: 1" ∷ codes "b: ok" ∷ []

-- a repeatable read block reads at its first statement, and changes no row that was changed since
repeatable_read : Prints (beginning ++ codes "b: begin repeatable read" ∷ codes "b: get t 1" ∷ codes "a: update t 1 set n=1" ∷ codes "b: get t 1" ∷ codes "b: update t 1 set n+=10" ∷ codes "b: rollback" ∷ codes "a: begin" ∷ codes "a: update t 1 set n=2" ∷ codes "b: update t 1 set n=3" ∷ [])
    (beginning_printed ++ codes "b: BEGIN" ∷ codes "b: row 1 0" ∷ codes "a: 1" ∷ codes "b: row 1 0" ∷ codes "b: error Serialize 4" ∷ codes "b: ROLLBACK" ∷ codes "a: BEGIN" ∷ codes "a: 1" ∷ codes "b: waits for a" ∷ [])
unfolding is_utf8 chars encode digits
repeatable_read = record { transcript_is = refl; none_bad = refl }

-- those that wait for a key resume in the order in which they came, each when the one before has ended
in_turn : Prints (beginning ++ codes "c: open d" ∷ codes "a: begin" ∷ codes "a: update t 1 set n=1" ∷ codes "b: update t 1 set n=20" ∷ codes "c: update t 1 set n=30" ∷ codes "a: commit" ∷ codes "c: get t 1" ∷ [])
    (beginning_printed ++ codes "c: ok" ∷ codes "a: BEGIN" ∷ codes "a: 1" ∷ codes "b: waits for a" ∷ codes "c: waits for a" ∷ codes "a: COMMIT" ∷ codes "b: 1" ∷ codes "c: 1" ∷ codes "c: row 1 30" ∷ [])
unfolding is_utf8 chars encode digits
in_turn = record { transcript_is = refl; none_bad = refl }

-- a repeatable read block that waited is refused if the other one committed
serialize_after_a_wait : Prints (beginning ++ codes "a: begin" ∷ codes "a: update t 1 set n=1" ∷ codes "b: begin repeatable read" ∷ codes "b: get t 1" ∷ codes "b: update t 1 set n+=10" ∷ codes "a: commit" ∷ codes "b: get t 1" ∷ codes "b: commit" ∷ [])
    (beginning_printed ++ codes "a: BEGIN" ∷ codes "a: 1" ∷ codes "b: BEGIN" ∷ codes "b: row 1 0" ∷ codes "b: waits for a" ∷ codes "a: COMMIT" ∷ codes "b: error Serialize 4" ∷ codes "b: error Aborted" ∷ codes "b: ROLLBACK" ∷ [])
unfolding is_utf8 chars encode digits
serialize_after_a_wait = record { transcript_is = refl; none_bad = refl }

-- of two that would wait for each other the later one is refused, and the other resumes
deadlock : Prints (beginning ++ codes "a: insert t 2 0" ∷ codes "a: begin" ∷ codes "b: begin" ∷ codes "a: update t 1 set n=1" ∷ codes "b: update t 2 set n=2" ∷ codes "a: update t 2 set n=1" ∷ codes "b: update t 1 set n=2" ∷ codes "a: commit" ∷ codes "b: rollback" ∷ [])
    (beginning_printed ++ codes "a: 1" ∷ codes "a: BEGIN" ∷ codes "b: BEGIN" ∷ codes "a: 1" ∷ codes "b: 1" ∷ codes "a: waits for b" ∷ codes "b: error Deadlock b a" ∷ codes "a: 1" ∷ codes "a: COMMIT" ∷ codes "b: ROLLBACK" ∷ [])
unfolding is_utf8 chars encode digits
deadlock = record { transcript_is = refl; none_bad = refl }

-- an insert that waited is refused if the other one committed a row
duplicate_after_a_wait : Prints (beginning ++ codes "a: begin" ∷ codes "a: insert t 5 0" ∷ codes "b: update t 5 set n=1" ∷ codes "b: insert t 5 7" ∷ codes "a: commit" ∷ [])
    (beginning_printed ++ codes "a: BEGIN" ∷ codes "a: 1" ∷ codes "b: 0" ∷ codes "b: waits for a" ∷ codes "a: COMMIT" ∷ codes "b: error Duplicate" ∷ [])
unfolding is_utf8 chars encode digits
duplicate_after_a_wait = record { transcript_is = refl; none_bad = refl }

-- a session that waits is busy except for its cancel, which leaves the row to the other one
cancels : Prints (beginning ++ codes "a: begin" ∷ codes "a: update t 1 set n+=1" ∷ codes "b: update t 1 set n+=10" ∷ codes "b: get t 1" ∷ codes "b: cancel" ∷ codes "a: commit" ∷ codes "b: get t 1" ∷ codes "b: cancel" ∷ [])
    (beginning_printed ++ codes "a: BEGIN" ∷ codes "a: 1" ∷ codes "b: waits for a" ∷ codes "b: error Busy" ∷ codes "b: error Canceled" ∷ codes "a: COMMIT" ∷ codes "b: row 1 1" ∷ codes "b: not waiting" ∷ [])
unfolding is_utf8 chars encode digits
cancels = record { transcript_is = refl; none_bad = refl }

-- a transaction sees its own writes, and a rollback undoes them; a key that was deleted since may be written again
own_writes : Prints (beginning ++ codes "a: begin" ∷ codes "a: delete t 1" ∷ codes "a: insert t 1 7" ∷ codes "a: update t 1 set n+=1" ∷ codes "a: get t 1" ∷ codes "a: insert t 1 9" ∷ codes "a: rollback" ∷ codes "b: begin repeatable read" ∷ codes "b: get t 1" ∷ codes "a: insert t 5 0" ∷ codes "a: delete t 5" ∷ codes "b: insert t 5 1" ∷ codes "b: update t 5 set n+=1" ∷ codes "b: get t 5" ∷ [])
    (beginning_printed ++ codes "a: BEGIN" ∷ codes "a: 1" ∷ codes "a: 1" ∷ codes "a: 1" ∷ codes "a: row 1 8" ∷ codes "a: error Duplicate" ∷ codes "a: ROLLBACK" ∷ codes "b: BEGIN" ∷ codes "b: row 1 0" ∷ codes "a: 1" ∷ codes "a: 1" ∷ codes "b: 1" ∷ codes "b: 1" ∷ codes "b: row 5 2" ∷ [])
unfolding is_utf8 chars encode digits
own_writes = record { transcript_is = refl; none_bad = refl }
