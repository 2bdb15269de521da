-- Worked changes of rows by events, by computation.
use Rattle.std.proofs.Common.{◌≡◌, ℕ, pos, true, false, List, [], ◌∷◌, Some, None, refl}
use Rattle.std.specs.Str.{is_utf8, chars}
use Rattle.percent_encoding.specs.Percent.{percent_decode}
use lib.Utf8.{encode}
use lib.Chars.{codes}
use Rattle.sky_val.specs.declared.val.Val.{Val}
use Rattle.sky_val.specs.declared.val.Val.TheVariants.{Int, Text}
use Rattle.sky_val.specs.declared.column.Column.{Column}
use Rattle.sky_val.specs.declared.column.ColKind.TheVariants as kind
use Rattle.sky_val.specs.declared.event.Event.{Event}
use Rattle.sky_val.specs.Entries.{Entries}
use Rattle.sky_urlenc.specs.Changes.{put, applies}

columns : List Column
columns = record { name = codes "id"; kind = kind.Int; key = true } ∷ record { name = codes "n"; kind = kind.Text; key = false } ∷ []

event : List ℕ → List ℕ → Event
event name text = record {
  ev_id = 1;
  ev_time = pos 0;
  ev_txid = 4;
  ev_owner = None;
  ev_retry = None;
  ev_type = Some name;
  ev_data = Some text;
  ev_extra1 = None;
  ev_extra2 = None;
  ev_extra3 = None;
  ev_extra4 = None;
}

row : ℕ → List ℕ → List Val × List Val
row id n = (Int (pos id) ∷ [], Int (pos id) ∷ Text n ∷ [])

before : Entries (List Val)
before = row 1 (codes "a") ∷ row 3 (codes "c") ∷ []

-- a row is inserted, one is updated, and one is deleted
events : List Event
events = event (codes "I:id") (codes "id=2&n=b") ∷ event (codes "U:id") (codes "id=1&n=x") ∷ event (codes "D:id") (codes "id=3&n=c") ∷ []

puts : put columns before events ≡ row 1 (codes "x") ∷ row 2 (codes "b") ∷ []
unfolding columns event row before events percent_decode is_utf8 chars encode
puts = refl

all_apply : applies columns before events ≡ true
unfolding columns event row before events percent_decode is_utf8 chars encode
all_apply = refl

present : applies columns before (event (codes "I:id") (codes "id=1&n=x") ∷ []) ≡ false
unfolding columns event row before percent_decode is_utf8 chars encode
present = refl

absent : applies columns before (event (codes "D:id") (codes "id=2&n=b") ∷ []) ≡ false
unfolding columns event row before percent_decode is_utf8 chars encode
absent = refl

-- once it is deleted, it may be inserted again
again : applies columns before (event (codes "D:id") (codes "id=1&n=a") ∷ event (codes "I:id") (codes "n=x&id=1") ∷ []) ≡ true
unfolding columns event row before percent_decode is_utf8 chars encode
again = refl

no_row : applies columns before (event (codes "U:id") (codes "id=1") ∷ []) ≡ false
unfolding columns event row before percent_decode is_utf8 chars encode
no_row = refl
