use Rattle.std.proofs.Common.{◌≡◌, drop}
use Rattle.sky_keys.specs.Versions.{forgotten}
use Rattle.sky_rows.specs.Rows.{rows_in}
use Rattle.sky_rows.specs.Written.{AllKept}
use Rattle.sky_rows.specs.Kept.{all_versions, AreOwn}
use Rattle.sky_rows.proofs.ForgetLemmas.{may_have}
use Rattle.sky_rows.proofs.table.forget_logged.Given as goal

abbrev pub invariant-loop-key : goal.invariant-loop-key
invariant-loop-key l =
    AllKept (may_have l.txid (drop l.key-index l.keys)) (all_versions l.older (rows_in l.rows))
    × (forgotten l.txid (all_versions l.older (rows_in l.rows)) ≡ forgotten l.txid (all_versions l.initial.older (rows_in l.initial.rows)))
    × AreOwn l.older (rows_in l.rows)
