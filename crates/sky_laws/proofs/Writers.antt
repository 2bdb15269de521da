-- A transaction counts as one that has written in a table if and only if it has, and hasn't ended.
use Rattle.std.proofs.Common.{not, ◌&&◌, sym, ◌∙◌}
use Rattle.std.proofs.lemmas.Bool.{and_parts, not-true}
use Rattle.sky_model.specs.Transactions.{has_ended}
use Rattle.sky_model.specs.Rows.{writes as writes_of}
use Rattle.sky_model.specs.LawsOfLocks.{WritersHaveWritten}
use Rattle.sky_histories.proofs.SnapshotLaws.{legal_place}
use Rattle.sky_histories.proofs.WrittenTables.{some, some-is, is-written}

pub writers_have_written : WritersHaveWritten
writers_have_written p is table t =
    let same = is-written p (legal_place p is) table t in
    let more = some-is (writes_of table t p) in (
      λ wrote. let parts = and_parts (not (has_ended p t)) (some (writes_of table t p)) (sym same ∙ wrote) in (not-true (has_ended p t) parts.0, more.0 parts.1),
      λ both. same ∙ (λ i. not (both.0 i) && more.1 both.1 i),
    )
