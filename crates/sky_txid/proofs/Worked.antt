-- Worked snapshots, by computation.
use Rattle.std.proofs.Common.{◌≡◌, true, false, [], ◌∷◌, Some, None, refl}
use Rattle.std.specs.Fmt.{digits}
use lib.Chars.{codes}
use Rattle.sky_txid.specs.Snapshot.{SnapshotView, sees}
use Rattle.sky_txid.specs.SnapshotText.{snapshot_text, parse_snapshot}

worked : SnapshotView
worked = record { xmin = 10; xmax = 20; xip = 10 ∷ 14 ∷ 15 ∷ [] }

reads : parse_snapshot (codes "10:20:10,14,15") ≡ Some worked
unfolding worked
reads = refl

sees_9 : sees worked 9 ≡ true
unfolding worked
sees_9 = refl

sees_11 : sees worked 11 ≡ true
unfolding worked
sees_11 = refl

sees_14 : sees worked 14 ≡ false
unfolding worked
sees_14 = refl

sees_20 : sees worked 20 ≡ false
unfolding worked
sees_20 = refl

writes : snapshot_text worked ≡ codes "10:20:10,14,15"
unfolding worked digits
writes = refl

skips : parse_snapshot (codes "10:20:10,10,14") ≡ Some (record { xmin = 10; xmax = 20; xip = 10 ∷ 14 ∷ [] })
skips = refl

zeros : parse_snapshot (codes "007:0020:") ≡ Some (record { xmin = 7; xmax = 20; xip = [] })
zeros = refl

largest : parse_snapshot (codes "1:18446744073709551615:") ≡ Some (record { xmin = 1; xmax = 18446744073709551615; xip = [] })
largest = refl

too_large : parse_snapshot (codes "1:18446744073709551616:") ≡ None
too_large = refl

xmax_below : parse_snapshot (codes "10:9:") ≡ None
xmax_below = refl

item_at_xmax : parse_snapshot (codes "10:20:20") ≡ None
item_at_xmax = refl

item_below_xmin : parse_snapshot (codes "10:20:9") ≡ None
item_below_xmin = refl

xmin_0 : parse_snapshot (codes "0:5:") ≡ None
xmin_0 = refl

out_of_order : parse_snapshot (codes "10:20:14,12") ≡ None
out_of_order = refl

trailing_comma : parse_snapshot (codes "10:20:14,") ≡ None
trailing_comma = refl

space : parse_snapshot (codes "10:20: 14") ≡ None
space = refl

sign : parse_snapshot (codes "+10:20:") ≡ None
sign = refl

two_parts : parse_snapshot (codes "10:20") ≡ None
two_parts = refl

four_parts : parse_snapshot (codes "10:20::") ≡ None
four_parts = refl
