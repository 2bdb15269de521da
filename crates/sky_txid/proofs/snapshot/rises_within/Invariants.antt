use Rattle.std.proofs.Common.{◌≡◌, drop}
use Rattle.sky_txid.specs.Ids.{rises_within}
use Rattle.sky_txid.proofs.snapshot.rises_within.Given as goal

abbrev pub invariant-loop-id : goal.invariant-loop-id
invariant-loop-id l = rises_within l.low l.high (drop l.id-index l.ids) ≡ rises_within l.fn.low l.high l.ids
