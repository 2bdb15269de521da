use Rattle.std.proofs.Common.{filter, ◌≡◌, ◌∙◌, ◌∷◌, [], ◌++◌, ap, subst, sym, arith}
use Rattle.std.specs.Option.{option_copied, unwrap_or}
use Rattle.std.specs.Bound.{bound_map}
use Rattle.std.specs.BTreeMap.Range.{range_contains}
use Rattle.std.specs.declared.collections.Bound.TheVariants.{Unbounded}
use Rattle.sky_val.specs.Order.{key_cmp}
use Rattle.sky_keys.specs.Versions.{read, versions_at, above}
use Rattle.sky_rows.specs.Rows.{kept_at, nothing, rows_of, rows_in}
use Rattle.sky_rows.specs.Table.{TableView, place_in}
use Rattle.sky_rows.specs.Kept.{versions_of, all_versions}
use Rattle.sky_rows.proofs.RowLemmas.{all_filter}
use Rattle.sky_rows.proofs.PlaceLemmas.{rows-filter, AreFound, all_found, some_found}
use Rattle.sky_rows.proofs.RowChanges.{versions_there}
use Rattle.sky_rows.proofs.ScanLemmas.{IsOnTheWay, start_of, started, past_row, past_none, found_all, found_most}
use Rattle.sky_rows.proofs.table.Table.scan_from.Goals as goal
use Rattle.sky_rows.proofs.table.Table.scan_from.Goals.{in-Some, in-None, in-None-2, in-Some-2+then-len-most}

pub loop-key-init : goal.loop-key-init
loop-key-init c =
    let start : bound_map (λ key. key.now) c.match-after.start ≡ start_of (option_copied c.args.after) = elim c.match-after.branch [
      | in-Some w ↦ ap (bound_map (λ key. key.now)) w.start-is ∙ sym (ap (λ after. start_of (option_copied after)) w.in-Some.is)
      | in-None w ↦ ap (bound_map (λ key. key.now)) w.start-is ∙ sym (ap (λ after. start_of (option_copied after)) w.in-None.is)
    ] in
    let older = c.self.inside.older in
    let rows = c.self.inside.rows in
    let items = rows_of rows.slots c.into_iter-key-iterator.result in
    let test = range_contains key_cmp (bound_map (λ key. key.now) c.match-after.start) Unbounded in
    let ran : c.into_iter-key-iterator.result ≡ filter (λ e. test e.0) rows.places =
    c.into_iter-key-iterator.ensures.into_iter_gives ∙ c.range-key-items.ensures.between tt ∙ ap (λ es. filter (λ e. test e.0) es) c.places.ensures.entries in
    let between : items ≡ filter (λ e. test e.0) (rows_in rows) = ap (rows_of rows.slots) ran ∙ rows-filter rows.slots test rows.places in (
      subst (λ (t : TableView). IsOnTheWay c.args.snapshot.now c.args.own c.args.most (above (option_copied c.args.after) t.versions) (all_versions older items) c.new-found.result.items) c.self.view_is
          (started c.args.snapshot.now c.args.own c.args.most (option_copied c.args.after) (bound_map (λ key. key.now) c.match-after.start) (all_versions older (rows_in rows)) (all_versions older items) c.new-found.result.items
          start (ap (all_versions older) between ∙ all_filter older test (rows_in rows)) c.new-found.ensures.items),
      subst (AreFound rows.places) (sym ran) (some_found rows.places test rows.places (all_found rows.places c.places.ensures.order)),
    )

pub read_at-requires : goal.read_at-requires
read_at-requires c = sym (subst (AreFound c.self.inside.rows.places) c.in-Some-2.ensures.steps c.loop-key.invariant.1).0 ∙ ap (λ (t : TableView). place_in t c.in-Some-2.key.now) c.self.view_is

pub loop-key-preserved-in_ok-push : goal.loop-key-preserved-in_ok-push
loop-key-preserved-in_ok-push c =
    let older = c.self.inside.older in
    let rows = c.self.inside.rows in
    let found = subst (AreFound rows.places) c.in-Some-2.ensures.steps c.loop-key.invariant.1 in
    let vs = versions_of older (unwrap_or (kept_at rows.slots c.in-Some-2.place.now) nothing) in
    let there : versions_at c.in-Some-2.key.now c.args.self.now.versions ≡ vs =
    sym (ap (λ (t : TableView). versions_at c.in-Some-2.key.now t.versions) c.self.view_is) ∙ versions_there older rows.slots rows.places c.in-Some-2.key.now c.in-Some-2.place.now found.0 in (
      past_row _ _ _ _ _ (all_versions older (rows_of rows.slots c.next.new.self)) _ _ c.in-Some-2.key.now c.in-Some-read_at.row.now vs c.loop-key.invariant.0
          (ap (λ es. all_versions older (rows_of rows.slots es)) c.in-Some-2.ensures.steps)
          (c.in-Some-read_at.ensures ∙ ap (read c.args.snapshot.now c.args.own) there)
          (λ e. omega arith)
          (c.in_ok-push.ensures.items ∙ ap (λ row. c.loop-key.found.items ++ row ∷ []) c.in_ok-copy.ensures),
      found.1,
    )

pub loop-key-preserved : goal.loop-key-preserved
loop-key-preserved c =
    let older = c.self.inside.older in
    let rows = c.self.inside.rows in
    let found = subst (AreFound rows.places) c.in-Some-2.ensures.steps c.loop-key.invariant.1 in
    let vs = versions_of older (unwrap_or (kept_at rows.slots c.in-Some-2.place.now) nothing) in
    let there : versions_at c.in-Some-2.key.now c.args.self.now.versions ≡ vs =
    sym (ap (λ (t : TableView). versions_at c.in-Some-2.key.now t.versions) c.self.view_is) ∙ versions_there older rows.slots rows.places c.in-Some-2.key.now c.in-Some-2.place.now found.0 in (
      past_none _ _ _ _ _ (all_versions older (rows_of rows.slots c.next.new.self)) _ c.in-Some-2.key.now vs c.loop-key.invariant.0
          (ap (λ es. all_versions older (rows_of rows.slots es)) c.in-Some-2.ensures.steps)
          (c.in_default.ensures ∙ ap (read c.args.snapshot.now c.args.own) there),
      found.1,
    )

pub returns : goal.returns
returns c = elim c.match-next.branch [
  | in-None-2 w ↦ found_all _ _ _ _ _ _ c.loop-key.invariant.0 (ap (λ es. all_versions c.self.inside.older (rows_of c.self.inside.rows.slots es)) w.in-None-2.ensures.steps.0)
  | in-Some-2+then-len-most w ↦ found_most _ _ _ _ _ _ c.loop-key.invariant.0 (omega arith)
]
