use Rattle.std.proofs.Common.{◌≡◌, ◌++◌, length}
use Rattle.std.specs.Prelude.{◌==◌, option_map}
use Rattle.std.specs.List.{slice_split}
use Rattle.sky_txid.specs.SnapshotText.{comma, parse_list, parse_numbers}
use Rattle.sky_txid.proofs.text.numbers.Given as goal

abbrev pub invariant-loop-item : goal.invariant-loop-item
invariant-loop-item l = parse_list l.text ≡ option_map (λ ns. l.ids.items ++ ns) (parse_numbers (slice_split (λ b. b == comma) l.rest))

abbrev pub decreases-loop-item : goal.decreases-loop-item
decreases-loop-item l = length l.rest
