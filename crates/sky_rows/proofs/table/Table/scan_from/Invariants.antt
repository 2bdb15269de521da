use Rattle.std.specs.Option.{option_copied}
use Rattle.sky_keys.specs.Versions.{above}
use Rattle.sky_rows.specs.Rows.{rows_of}
use Rattle.sky_rows.specs.Kept.{all_versions}
use Rattle.sky_rows.proofs.PlaceLemmas.{AreFound}
use Rattle.sky_rows.proofs.ScanLemmas.{IsOnTheWay}
use Rattle.sky_rows.proofs.table.Table.scan_from.Given as goal

abbrev pub invariant-loop-key : goal.invariant-loop-key
invariant-loop-key l =
    IsOnTheWay l.snapshot l.own l.most (above (option_copied l.after) l.self.versions) (all_versions l.self-inside.older (rows_of l.self-inside.rows.slots l.key-iterator)) l.found.items
    × AreFound l.self-inside.rows.places l.key-iterator
