-- Copies of a table in worked scripts from their bytes to their printed bytes, by computation.
use Rattle.std.proofs.Common.{List, [], ◌∷◌, ◌++◌, ℕ, refl, codes}
use Rattle.std.specs.Str.{is_utf8, chars}
use lib.Utf8.{encode}
use Rattle.std.specs.Fmt.{digits}
use Rattle.sky_model.specs.Moment.{moment, day_after, last_digits}
use Rattle.sky_laws.proofs.WorkedScripts.{Prints}

-- a root with a table of two rows; a leaf with the table, which is to be copied
abbrev pub beginning : List (List ℕ)
beginning =
    codes "m: open p" ∷ codes "m: create table t id:int:key n:int" ∷ codes "m: create_root root q" ∷ codes "m: add_table root t" ∷ codes "m: insert t 1 10"
    ∷ codes "m: insert t 2 20" ∷ codes "r: open c" ∷ codes "r: create table t id:int:key n:int" ∷ codes "r: insert t 7 70" ∷ codes "r: create_leaf leaf root"
    ∷ codes "r: add_table leaf t" ∷ codes "r: londiste_step leaf" ∷ []

abbrev pub beginning_printed : List (List ℕ)
beginning_printed =
    codes "m: ok" ∷ codes "m: ok" ∷ codes "m: ok" ∷ codes "m: ok" ∷ codes "m: 1" ∷ codes "m: 1" ∷ codes "r: ok" ∷ codes "r: ok" ∷ codes "r: 1" ∷ codes "r: ok"
    ∷ codes "r: ok" ∷ codes "r: state t in-copy" ∷ []

-- one move copies the table
pub copied_at_once : Prints
    (beginning ++ codes "m: update t 1 set n=11" ∷ codes "r: copy_step leaf t" ∷ codes "r: scan t" ∷ codes "r: table_state leaf t" ∷ [])
    (beginning_printed ++ codes "m: 1" ∷ codes "r: copied 2" ∷ codes "r: state t catching-up" ∷ codes "r: row 1 11" ∷ codes "r: row 2 20" ∷ codes "r: rows 2"
    ∷ codes "r: catching-up" ∷ [])
unfolding is_utf8 chars encode digits moment day_after last_digits
copied_at_once = record { transcript_is = refl; none_bad = refl }

-- a restart before that move changes nothing
pub restarted_before : Prints
    (beginning ++ codes "m: update t 1 set n=11" ∷ codes "r: restart leaf t" ∷ codes "r: table_state leaf t" ∷ codes "r: scan t" ∷ codes "r: copy_step leaf t" ∷ codes "r: get t 1" ∷ [])
    (beginning_printed ++ codes "m: 1" ∷ codes "r: ok" ∷ codes "r: in-copy" ∷ codes "r: row 7 70" ∷ codes "r: rows 1" ∷ codes "r: copied 2"
    ∷ codes "r: state t catching-up" ∷ codes "r: row 1 11" ∷ [])
unfolding is_utf8 chars encode digits moment day_after last_digits
restarted_before = record { transcript_is = refl; none_bad = refl }
