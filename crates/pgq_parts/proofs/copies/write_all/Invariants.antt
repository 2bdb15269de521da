use Rattle.std.proofs.Common.{◌≡◌, map, length}
use Rattle.std.specs.Vec.Iter.{into_iter_items, into_iter_len}
use Rattle.sky_state.specs.Seen.{seen}
use Rattle.pgq_parts.specs.Copying.{insertion}
use Rattle.pgq_parts.proofs.CopySteps.{IsBetween}
use Rattle.pgq_parts.proofs.copies.write_all.Given as goal

-- the rows that are left
abbrev pub invariant-loop-key : goal.invariant-loop-key
invariant-loop-key g l =
    IsBetween (seen (g.R.RowStore.state l.initial.rows)) (seen (g.R.RowStore.state l.rows)) l.table l.txid (map insertion (into_iter_items l.initial.key-iterator)) (map insertion (into_iter_items l.key-iterator))
    × (into_iter_len l.key-iterator ≡ length (into_iter_items l.key-iterator))
