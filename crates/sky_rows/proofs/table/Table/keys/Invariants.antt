use Rattle.sky_rows.specs.Rows.{rows_of}
use Rattle.sky_rows.specs.Kept.{all_versions}
use Rattle.sky_rows.proofs.PlaceLemmas.{AreFound}
use Rattle.sky_rows.proofs.KeyLemmas.{AreGathered}
use Rattle.sky_rows.proofs.table.Table.keys.Given as goal

abbrev pub invariant-loop-key : goal.invariant-loop-key
invariant-loop-key l =
    AreGathered l.snapshot l.own l.self.versions (all_versions l.self-inside.older (rows_of l.self-inside.rows.slots l.key-iterator)) l.found.items
    × AreFound l.self-inside.rows.places l.key-iterator
