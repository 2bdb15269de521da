use Rattle.std.proofs.Common.{◌≡◌, ◌∙◌, ◌∷◌, [], ◌++◌, ap, subst, sym, is_some}
use Rattle.std.specs.Option.{unwrap_or}
use Rattle.sky_keys.specs.Versions.{read, versions_at}
use Rattle.sky_rows.specs.Rows.{kept_at, nothing, rows_of, rows_in}
use Rattle.sky_rows.specs.Table.{TableView, place_in}
use Rattle.sky_rows.specs.Kept.{versions_of, all_versions}
use Rattle.sky_rows.proofs.PlaceLemmas.{AreFound, all_found}
use Rattle.sky_rows.proofs.RowChanges.{versions_there}
use Rattle.sky_rows.proofs.KeyLemmas.{AreGathered, some_copied, begun, past_key, past_rowless, all_gathered}
use Rattle.sky_rows.proofs.table.Table.keys.Goals as goal

pub loop-key-init : goal.loop-key-init
loop-key-init c =
    let older = c.self.inside.older in
    let rows = c.self.inside.rows in
    let all = c.into_iter-key-iterator.ensures.into_iter_gives.0 ∙ c.places-key-items.ensures.entries in (
      subst (λ (t : TableView). AreGathered c.args.snapshot.now c.args.own t.versions (all_versions older (rows_of rows.slots c.into_iter-key-iterator.result)) c.new-found.result.items) c.self.view_is
          (begun c.args.snapshot.now c.args.own (all_versions older (rows_in rows)) (all_versions older (rows_of rows.slots c.into_iter-key-iterator.result)) c.new-found.result.items
          (ap (λ es. all_versions older (rows_of rows.slots es)) all) c.new-found.ensures.items),
      subst (AreFound rows.places) (sym all) (all_found rows.places c.places-key-items.ensures.order),
    )

pub read_at-requires : goal.read_at-requires
read_at-requires c = sym (subst (AreFound c.self.inside.rows.places) c.in-Some.ensures.steps c.loop-key.invariant.1).0 ∙ ap (λ (t : TableView). place_in t c.in-Some.key.now) c.self.view_is

pub loop-key-preserved-in_ok-push : goal.loop-key-preserved-in_ok-push
loop-key-preserved-in_ok-push c =
    let older = c.self.inside.older in
    let rows = c.self.inside.rows in
    let found = subst (AreFound rows.places) c.in-Some.ensures.steps c.loop-key.invariant.1 in
    let vs = versions_of older (unwrap_or (kept_at rows.slots c.in-Some.place.now) nothing) in
    let there : versions_at c.in-Some.key.now c.args.self.now.versions ≡ vs =
    sym (ap (λ (t : TableView). versions_at c.in-Some.key.now t.versions) c.self.view_is) ∙ versions_there older rows.slots rows.places c.in-Some.key.now c.in-Some.place.now found.0 in (
      past_key _ _ _ _ (all_versions older (rows_of rows.slots c.next.new.self)) _ _ c.in-Some.key.now vs c.loop-key.invariant.0
          (ap (λ es. all_versions older (rows_of rows.slots es)) c.in-Some.ensures.steps)
          (ap is_some (sym (c.read_at.ensures ∙ ap (read c.args.snapshot.now c.args.own) there)) ∙ sym (c.is_some.ensures ∙ some_copied c.read_at.result) ∙ c.if-is_some.true)
          (c.in_ok-push.ensures.items ∙ ap (λ key. c.loop-key.found.items ++ key ∷ []) c.in_ok-copy.ensures),
      found.1,
    )

pub loop-key-preserved : goal.loop-key-preserved
loop-key-preserved c =
    let older = c.self.inside.older in
    let rows = c.self.inside.rows in
    let found = subst (AreFound rows.places) c.in-Some.ensures.steps c.loop-key.invariant.1 in
    let vs = versions_of older (unwrap_or (kept_at rows.slots c.in-Some.place.now) nothing) in
    let there : versions_at c.in-Some.key.now c.args.self.now.versions ≡ vs =
    sym (ap (λ (t : TableView). versions_at c.in-Some.key.now t.versions) c.self.view_is) ∙ versions_there older rows.slots rows.places c.in-Some.key.now c.in-Some.place.now found.0 in (
      past_rowless _ _ _ _ (all_versions older (rows_of rows.slots c.next.new.self)) _ c.in-Some.key.now vs c.loop-key.invariant.0
          (ap (λ es. all_versions older (rows_of rows.slots es)) c.in-Some.ensures.steps)
          (ap is_some (sym (c.read_at.ensures ∙ ap (read c.args.snapshot.now c.args.own) there)) ∙ sym (c.is_some.ensures ∙ some_copied c.read_at.result) ∙ c.if-is_some.false),
      found.1,
    )

pub returns : goal.returns
returns c = all_gathered _ _ _ _ _ c.loop-key.invariant.0 (ap (λ es. all_versions c.self.inside.older (rows_of c.self.inside.rows.slots es)) c.in-None.ensures.steps.0)
