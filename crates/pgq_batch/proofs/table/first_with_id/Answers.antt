use Rattle.std.proofs.Common.{◌≡◌, ◌+◌, ◌<◌, ◌≤◌, ℕ, [], Some, length, slice_get, slice_index_or, ap, sym, subst, ◌∙◌, arith}
use Rattle.std.proofs.lemmas.Option.{slice_get_within}
use Rattle.pgq_tables.specs.Tables.{Stored, Tables}
use Rattle.pgq_tables.specs.Order.{by_txid}
use Rattle.pgq_tables.specs.Listed.{is_listed}
use Rattle.pgq_tables.specs.Views.{TablesView}
use Rattle.pgq_batch.specs.Looked.{count_below}
use Rattle.pgq_batch.proofs.ByTxid.{length-by_txid}
use Rattle.pgq_batch.proofs.Between.{below_len, listed_between, none_before, none_after, count_between}
use Rattle.pgq_batch.proofs.Earliest.{has_id, earliest, IsEarliest, earlier, not_earlier, not_it, find-earliest, none_found, one_found, there, between-has_id, has_id-true, has_id-fails, has_id-other}
use Rattle.pgq_batch.proofs.Keyed.{in_order_by, head_of}
use Rattle.pgq_batch.proofs.ByTxid.{place_of}
use Rattle.pgq_batch.proofs.Looks.{so_many-upper}
use Rattle.pgq_batch.proofs.table.first_with_id.Goals as goal
use Rattle.pgq_batch.proofs.table.first_with_id.Goals.{then-id+then-is_listed+then-is_before, else-id, else-id-via-then-id+then-is_listed+else-is_before, else-id-via-then-id+else-is_listed, else-id-via-else-id}

pub loop-index-init : goal.loop-index-init
loop-index-init c =
    let list = slice_index_or c.args.tables.now.tables.lists c.args.table [] in
    let q = is_listed c.args.prev.now c.args.cur.now c.args.sub in
    let both = c.ends_between-start.ensures in
    let none = none_before c.args.prev.now c.args.cur.now (has_id c.args.id q) list (between-has_id c.args.prev.now c.args.cur.now c.args.id q (listed_between c.args.prev.now c.args.cur.now c.args.sub c.ends_between-start.ensures.sound)) in (
      both.same,
      ap (earliest (has_id c.args.id q) list) both.first ∙ ap (λ xs. head_of (in_order_by place_of xs)) none,
      (let up = both.upper in omega arith),
      both.first,
      both.end,
      (omega arith),
    )

pub by_txid-requires-clause-index : goal.by_txid-requires-clause-index
by_txid-requires-clause-index c =
    let inv = c.loop-index.invariant in
    let list = slice_index_or c.args.tables.now.tables.lists c.args.table [] in
    subst (λ (ts : Tables). c.loop-index.index < length (slice_index_or ts.lists c.args.table [])) (sym inv.0)
    (let most = below_len c.args.cur.now.xmax list in let end = inv.4 in let test = c.loop-index-test.true in omega arith)

pub loop-index-preserved : goal.loop-index-preserved
loop-index-preserved c =
    let list = slice_index_or c.args.tables.now.tables.lists c.args.table [] in
    let q = is_listed c.args.prev.now c.args.cur.now c.args.sub in
    let inv = c.loop-index.invariant in
    let index : ℕ = c.loop-index.index in
    let place : ℕ = c.by_txid.result.0 in
    let stored : Stored = c.by_txid.result.1.now in
    let test = c.loop-index-test.true in
    let counted = c.by_txid.follows.holds-at-none in
    let within : index < length list = let most = below_len c.args.cur.now.xmax list in let end = inv.4 in omega arith in
    let from_first : c.ends_between-start.result.0 ≤ index = c.loop-index.auto.index in
    let look : slice_get (by_txid list) index ≡ Some (place, stored) = ap (λ (ts : Tables). slice_get (by_txid (slice_index_or ts.lists c.args.table [])) index) (sym inv.0) ∙ c.by_txid.ensures.event in
    let up = so_many-upper 1 c.loop-index.tables.reads in
    let before = inv.2 in
    elim c.if-id.branch [
      | then-id+then-is_listed+then-is_before w ↦
          let reads = ap TablesView.reads w.tables-is ∙ ap TablesView.reads counted in
          let has = has_id-true c.args.id q stored _ _ c.id.ensures w.if-id.true w.is_listed.ensures w.if-is_listed.true in (
            ap TablesView.tables w.tables-is ∙ ap TablesView.tables counted ∙ inv.0,
            subst (IsEarliest list (earliest (has_id c.args.id q) list (index + 1))) (sym w.best-is) (earlier (has_id c.args.id q) list index (place, stored) c.loop-index.best within look has (sym w.is_before.ensures ∙ w.if-is_before.true) inv.1),
            (omega arith),
            inv.3,
            inv.4,
            (omega arith),
          )
      | else-id w ↦
          elim w.else-id.branch [
            | else-id-via-then-id+then-is_listed+else-is_before v ↦
                let reads = ap TablesView.reads w.tables-is ∙ ap TablesView.reads v.tables-is ∙ ap TablesView.reads counted in
                let has = has_id-true c.args.id q stored _ _ c.id.ensures v.if-id.true v.is_listed.ensures v.if-is_listed.true in (
                  ap TablesView.tables w.tables-is ∙ ap TablesView.tables v.tables-is ∙ ap TablesView.tables counted ∙ inv.0,
                  subst (IsEarliest list (earliest (has_id c.args.id q) list (index + 1))) (sym w.best-is) (not_earlier (has_id c.args.id q) list index (place, stored) c.loop-index.best within look has (sym v.is_before.ensures ∙ v.if-is_before.false) inv.1),
                  (omega arith),
                  inv.3,
                  inv.4,
                  (omega arith),
                )
            | else-id-via-then-id+else-is_listed v ↦
                let reads = ap TablesView.reads w.tables-is ∙ ap TablesView.reads v.tables-is ∙ ap TablesView.reads counted in
                let fails = has_id-fails c.args.id q stored _ v.is_listed.ensures v.if-is_listed.false in (
                  ap TablesView.tables w.tables-is ∙ ap TablesView.tables v.tables-is ∙ ap TablesView.tables counted ∙ inv.0,
                  subst (IsEarliest list (earliest (has_id c.args.id q) list (index + 1))) (sym w.best-is) (not_it (has_id c.args.id q) list index (place, stored) c.loop-index.best within look fails inv.1),
                  (omega arith),
                  inv.3,
                  inv.4,
                  (omega arith),
                )
            | else-id-via-else-id v ↦
                let reads = ap TablesView.reads w.tables-is ∙ ap TablesView.reads v.tables-is ∙ ap TablesView.reads counted in
                let fails = has_id-other c.args.id q stored _ c.id.ensures v.if-id.false in (
                  ap TablesView.tables w.tables-is ∙ ap TablesView.tables v.tables-is ∙ ap TablesView.tables counted ∙ inv.0,
                  subst (IsEarliest list (earliest (has_id c.args.id q) list (index + 1))) (sym w.best-is) (not_it (has_id c.args.id q) list index (place, stored) c.loop-index.best within look fails inv.1),
                  (omega arith),
                  inv.3,
                  inv.4,
                  (omega arith),
                )
          ]
    ]

pub returns-in_default-clause-found : goal.returns-in_default-clause-found
returns-in_default-clause-found c =
    let list = slice_index_or c.args.tables.now.tables.lists c.args.table [] in
    let q = is_listed c.args.prev.now c.args.cur.now c.args.sub in
    let inv = c.loop-index.invariant in
    let past : count_below c.args.cur.now.xmax list ≤ c.loop-index.index = let end = inv.4 in let test = c.loop-index-test.false in omega arith in
    let all = none_after c.args.prev.now c.args.cur.now (has_id c.args.id q) c.loop-index.index list (between-has_id c.args.prev.now c.args.cur.now c.args.id q (listed_between c.args.prev.now c.args.cur.now c.args.sub c.ends_between-start.ensures.sound)) past in
    none_found list (earliest (has_id c.args.id q) list c.loop-index.index) c.loop-index.best c.in_default.is inv.1 ∙ sym (find-earliest c.args.id q list c.loop-index.index all)

pub returns-in_default-clause-upper : goal.returns-in_default-clause-upper
returns-in_default-clause-upper c =
    let list = slice_index_or c.args.tables.now.tables.lists c.args.table [] in
    let inv = c.loop-index.invariant in
    let most = count_between c.args.prev.now c.args.cur.now list in
    let first = inv.3 in
    let end = inv.4 in
    let up = inv.2 in
    let read = inv.5 in
    omega arith

pub by_txid-requires-2-clause-index : goal.by_txid-requires-2-clause-index
by_txid-requires-2-clause-index c =
    let list = slice_index_or c.args.tables.now.tables.lists c.args.table [] in
    let inv = c.loop-index.invariant in
    let place = there list _ c.loop-index.best (c.in-Some.field-0-0, c.in-Some.index) c.in-Some.is inv.1 in
    subst (λ (ts : Tables). c.in-Some.index < length (slice_index_or ts.lists c.args.table [])) (sym inv.0)
    (subst (λ n. c.in-Some.index < n) (length-by_txid list) (slice_get_within (by_txid list) c.in-Some.index _ place.1))

pub returns-clause-found : goal.returns-clause-found
returns-clause-found c =
    let list = slice_index_or c.args.tables.now.tables.lists c.args.table [] in
    let q = is_listed c.args.prev.now c.args.cur.now c.args.sub in
    let inv = c.loop-index.invariant in
    let past : count_below c.args.cur.now.xmax list ≤ c.loop-index.index = let end = inv.4 in let test = c.loop-index-test.false in omega arith in
    let all = none_after c.args.prev.now c.args.cur.now (has_id c.args.id q) c.loop-index.index list (between-has_id c.args.prev.now c.args.cur.now c.args.id q (listed_between c.args.prev.now c.args.cur.now c.args.sub c.ends_between-start.ensures.sound)) past in
    let look : slice_get (by_txid list) c.in-Some.index ≡ Some (c.by_txid-2.result.0, c.by_txid-2.result.1.now) = ap (λ (ts : Tables). slice_get (by_txid (slice_index_or ts.lists c.args.table [])) c.in-Some.index) (sym inv.0) ∙ c.by_txid-2.ensures.event in
    ap Some c.in_ok-event.ensures
    ∙ one_found list (earliest (has_id c.args.id q) list c.loop-index.index) c.loop-index.best (c.in-Some.field-0-0, c.in-Some.index) (c.by_txid-2.result.0, c.by_txid-2.result.1.now) c.in-Some.is look inv.1
    ∙ sym (find-earliest c.args.id q list c.loop-index.index all)

pub returns-clause-upper : goal.returns-clause-upper
returns-clause-upper c =
    let list = slice_index_or c.args.tables.now.tables.lists c.args.table [] in
    let inv = c.loop-index.invariant in
    let most = count_between c.args.prev.now c.args.cur.now list in
    let first = inv.3 in
    let end = inv.4 in
    let up = inv.2 in
    let read = inv.5 in
    let one = ap TablesView.reads c.by_txid-2.follows.holds-at-none in
    let last = so_many-upper 1 c.loop-index.tables.reads in
    omega arith
