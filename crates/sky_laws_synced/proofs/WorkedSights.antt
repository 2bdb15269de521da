-- What sessions are shown of a replica in a worked script, from its bytes to its printed bytes, by computation.
use Rattle.std.proofs.Common.{List, [], ◌∷◌, ℕ, refl, codes}
use Rattle.std.specs.Str.{is_utf8, chars}
use lib.Utf8.{encode}
use Rattle.std.specs.Fmt.{digits}
use Rattle.form_urlencoded.specs.Form.{byte_serialize}
use Rattle.percent_encoding.specs.Percent.{percent_decode}
use Rattle.sky_model.specs.Moment.{moment, day_after, last_digits}
use Rattle.sky_laws.proofs.WorkedScripts.{Prints}

-- a repeatable read block of a replica's database, while a batch is applied there and the table leaves its leaf and is written
abbrev pub script : List (List ℕ)
script =
    codes "m: open p" ∷ codes "m: create table t id:int:key n:int" ∷ codes "m: create_root root q" ∷ codes "m: add_table root t" ∷ codes "m: insert t 1 10"
    ∷ codes "r: open c" ∷ codes "r: create table t id:int:key n:int" ∷ codes "r: create_leaf leaf root" ∷ codes "r: add_table leaf t" ∷ codes "r: londiste_step leaf"
    ∷ codes "r: copy_step leaf t" ∷ codes "v: open c" ∷ codes "v: begin repeatable read" ∷ codes "v: scan t" ∷ codes "m: update t 1 set n=11" ∷ codes "m: insert t 2 20"
    ∷ codes "m: force_tick q" ∷ codes "m: ticker q" ∷ codes "r: copy_step leaf t" ∷ codes "r: copy_step leaf t" ∷ codes "r: copy_step leaf t" ∷ codes "r: scan t"
    ∷ codes "v: scan t" ∷ codes "v: get t 2" ∷ codes "r: remove_table leaf t" ∷ codes "r: update t 1 set n=5" ∷ codes "v: scan t" ∷ codes "v: rollback" ∷ codes "v: scan t" ∷ []

abbrev pub printed : List (List ℕ)
printed =
    codes "m: ok" ∷ codes "m: ok" ∷ codes "m: ok" ∷ codes "m: ok" ∷ codes "m: 1" ∷ codes "r: ok" ∷ codes "r: ok" ∷ codes "r: ok" ∷ codes "r: ok"
    ∷ codes "r: state t in-copy" ∷ codes "r: copied 1" ∷ codes "r: state t catching-up" ∷ codes "v: ok" ∷ codes "v: BEGIN" ∷ codes "v: row 1 10" ∷ codes "v: rows 1"
    ∷ codes "m: 1" ∷ codes "m: 1" ∷ codes "m: 1" ∷ codes "m: 2" ∷ codes "r: batch 1 1 2" ∷ codes "r: applied 2 2" ∷ codes "r: finished 1" ∷ codes "r: row 1 11"
    ∷ codes "r: row 2 20" ∷ codes "r: rows 2" ∷ codes "v: row 1 10" ∷ codes "v: rows 1" ∷ codes "v: none" ∷ codes "r: ok" ∷ codes "r: 1" ∷ codes "v: row 1 10"
    ∷ codes "v: rows 1" ∷ codes "v: ROLLBACK" ∷ codes "v: row 1 5" ∷ codes "v: row 2 20" ∷ codes "v: rows 2" ∷ []

-- the block prints the rows at its sight each time; and after it the session is shown the provider's rows, with what was written since
pub seen_of_replica : Prints script printed
unfolding is_utf8 chars encode digits moment day_after last_digits byte_serialize percent_decode
seen_of_replica = record { transcript_is = refl; none_bad = refl }
