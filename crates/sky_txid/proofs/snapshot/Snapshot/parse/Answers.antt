-- The parts that were read are a snapshot if and only if their bounds and the list are sound.
use Rattle.std.proofs.Common.{sym, ◌∙◌, nat_eq, arith}
use Rattle.std.proofs.lemmas.Option.{MatchOption-at_some}
use Rattle.std.proofs.lemmas.List.Filters.{dedup_is}
use Rattle.std.proofs.lemmas.Bool.Decides.{nat_tests}
use Rattle.sky_txid.proofs.Reading.{snapshot_read}
use Rattle.sky_txid.proofs.snapshot.Snapshot.parse.Goals as goal
use Rattle.sky_txid.proofs.snapshot.Snapshot.parse.Goals.{then-xmin-eq0-via-then-xmin-eq0, then-xmin-eq0-via-else-xmin-eq0+then-xmax-xmin, then-xmin-eq0-via-else-xmin-eq0+else-xmax-xmin+then-not-rises_within}

pub returns-then-xmin-eq0-clause-bad : goal.returns-then-xmin-eq0-clause-bad
returns-then-xmin-eq0-clause-bad c =
    let xmin = c.in_ok-xmin-2.xmin in
    let xmax = c.in_ok-xmax.xmax in
    let split = MatchOption-at_some _ _ _ c.in_ok-xmin.ensures.ok_part c.three_parts.ensures in
    let read = snapshot_read c.args.text.now _ _ _ xmin xmax c.in_ok-xip.xip.items split (sym c.number.ensures ∙ c.in_ok-xmin-2.ensures.ok_part) (sym c.number-2.ensures ∙ c.in_ok-xmax.ensures.ok_part) c.in_ok-xip.ensures.ok in
    let kept = dedup_is nat_eq _ _ c.dedup.ensures.filtered in
    λ _. read ∙ elim c.then-xmin-eq0.branch [
      | then-xmin-eq0-via-then-xmin-eq0 w ↦ grind (arith, nat_tests, kept, w.if-xmin-eq0.true)
      | then-xmin-eq0-via-else-xmin-eq0+then-xmax-xmin w ↦ grind (arith, nat_tests, kept, w.if-xmax-xmin.true)
      | then-xmin-eq0-via-else-xmin-eq0+else-xmax-xmin+then-not-rises_within w ↦ grind (arith, nat_tests, kept, rw w.deref.ensures.value at (sym w.rises_within.ensures ∙ w.if-not-rises_within.true))
    ]

pub returns-clause-ok : goal.returns-clause-ok
returns-clause-ok c =
    let xmin = c.in_ok-xmin-2.xmin in
    let xmax = c.in_ok-xmax.xmax in
    let split = MatchOption-at_some _ _ _ c.in_ok-xmin.ensures.ok_part c.three_parts.ensures in
    let read = snapshot_read c.args.text.now _ _ _ xmin xmax c.in_ok-xip.xip.items split (sym c.number.ensures ∙ c.in_ok-xmin-2.ensures.ok_part) (sym c.number-2.ensures ∙ c.in_ok-xmax.ensures.ok_part) c.in_ok-xip.ensures.ok in
    let kept = dedup_is nat_eq _ _ c.dedup.ensures.filtered in
    read ∙ grind (arith, nat_tests, kept, c.if-xmin-eq0.false, c.if-xmax-xmin.false, rw c.deref.ensures.value at (sym c.rises_within.ensures ∙ c.if-not-rises_within.false))
