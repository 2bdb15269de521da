use Rattle.std.proofs.Common.{◌≡◌, ◌+◌, ◌-◌, ◌/◌, ◌<◌, ◌≤◌, [], length, nat_lt, slice_index_or, slice_get, Some, refl, ap, sym, subst, ◌∙◌, arith, ℕ}
use Rattle.std.proofs.lemmas.Bool.{ltb-true, ltb-false, lt-ltb, le-ltb}
use Rattle.pgq_tables.specs.Tables.{Tables}
use Rattle.pgq_tables.specs.Order.{by_txid}
use Rattle.pgq_tables.specs.Views.{TablesView}
use Rattle.pgq_batch.specs.Bound.{digits}
use Rattle.pgq_batch.specs.Looked.{count_below}
use Rattle.pgq_batch.proofs.Looks.{is_below, upper_half, lower_half, no_less, below_all}
use Rattle.pgq_batch.proofs.ends.count_below.Goals as goal

pub loop-low-init : goal.loop-low-init
loop-low-init c =
    let list = slice_index_or c.args.tables.now.tables.lists c.args.table [] in (
      refl,
      (omega arith),
      subst (λ n. count_below c.args.txid list ≤ n) (sym c.count-high.ensures) (below_all (λ s. nat_lt s.event.ev_txid c.args.txid) list),
      (omega (arith, c.count-high.ensures)),
      subst (λ n. c.args.tables.now.reads + digits (n - 0) ≤ c.args.tables.now.reads + digits (length list)) (sym c.count-high.ensures) (let same : length list - 0 ≡ length list = omega arith in let all = ap digits same in omega arith),
      (omega arith),
    )

pub loop-low-preserved-then-txid : goal.loop-low-preserved-then-txid
loop-low-preserved-then-txid c =
    let list = slice_index_or c.args.tables.now.tables.lists c.args.table [] in
    let low = c.loop-low.low in
    let high = c.loop-low.high in
    let reads = c.loop-low.tables.reads in
    let inv = c.loop-low.invariant in
    let counted = c.by_txid.follows.holds-at-none in
    let same = ap TablesView.tables counted ∙ inv.0 in
    let middle : ℕ = low + (high - low) / 2 in
    let look : slice_get (by_txid list) middle ≡ Some (c.by_txid.result.0, c.by_txid.result.1.now) = ap (λ (ts : Tables). slice_get (by_txid (slice_index_or ts.lists c.args.table [])) middle) (sym inv.0) ∙ c.by_txid.ensures.event in
    let count : ℕ = count_below c.args.txid list in
    let some : low < high = c.loop-low-test.true in
    let within : middle < length list = let most = inv.3 in omega arith in
    let is : nat_lt c.by_txid.result.1.now.event.ev_txid c.args.txid ≡ nat_lt middle count = is_below list c.args.txid middle _ within look in
    let all : ℕ = c.args.tables.now.reads + digits (length list) in
    let below : c.by_txid.result.1.now.event.ev_txid < c.args.txid = let test = c.if-txid.true in omega (arith, c.txid.ensures) in
    let first : middle < count = ltb-true middle count (sym is ∙ lt-ltb _ _ below) in (
      same,
      (omega (arith, first)),
      inv.2,
      inv.3,
      subst (λ n. n + digits (high - (middle + 1)) ≤ all) (sym (ap TablesView.reads counted)) (upper_half low high reads all some inv.4),
      subst (λ n. c.args.tables.now.reads ≤ n) (sym (ap TablesView.reads counted)) (no_less c.args.tables.now.reads reads inv.5),
    )

pub loop-low-preserved : goal.loop-low-preserved
loop-low-preserved c =
    let list = slice_index_or c.args.tables.now.tables.lists c.args.table [] in
    let low = c.loop-low.low in
    let high = c.loop-low.high in
    let reads = c.loop-low.tables.reads in
    let inv = c.loop-low.invariant in
    let counted = c.by_txid.follows.holds-at-none in
    let same = ap TablesView.tables counted ∙ inv.0 in
    let middle : ℕ = low + (high - low) / 2 in
    let look : slice_get (by_txid list) middle ≡ Some (c.by_txid.result.0, c.by_txid.result.1.now) = ap (λ (ts : Tables). slice_get (by_txid (slice_index_or ts.lists c.args.table [])) middle) (sym inv.0) ∙ c.by_txid.ensures.event in
    let count : ℕ = count_below c.args.txid list in
    let some : low < high = c.loop-low-test.true in
    let within : middle < length list = let most = inv.3 in omega arith in
    let is : nat_lt c.by_txid.result.1.now.event.ev_txid c.args.txid ≡ nat_lt middle count = is_below list c.args.txid middle _ within look in
    let all : ℕ = c.args.tables.now.reads + digits (length list) in
    let above : c.args.txid ≤ c.by_txid.result.1.now.event.ev_txid = let test = c.if-txid.false in omega (arith, c.txid.ensures) in
    let last : count ≤ middle = ltb-false middle count (sym is ∙ le-ltb _ _ above) in (
      same,
      inv.1,
      last,
      (omega (arith, within)),
      subst (λ n. n + digits (middle - low) ≤ all) (sym (ap TablesView.reads counted)) (lower_half low high reads all some inv.4),
      subst (λ n. c.args.tables.now.reads ≤ n) (sym (ap TablesView.reads counted)) (no_less c.args.tables.now.reads reads inv.5),
    )
