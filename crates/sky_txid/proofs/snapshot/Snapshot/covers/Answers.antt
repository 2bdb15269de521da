-- One id that is seen there and not here decides, and so does that there is none.
use Rattle.std.proofs.Common.{◌≡◌, true, length, refl, sym, ◌∙◌, ap, subst, arith}
use Rattle.std.proofs.lemmas.Bool.{false≢true}
use Rattle.sky_txid.specs.Snapshot.{SnapshotView, is_snapshot}
use Rattle.sky_txid.proofs.Covering.{covers_from, not_listed}
use Rattle.sky_txid.proofs.snapshot.Snapshot.covers.Goals as goal

pub returns-then-sees : goal.returns-then-sees
returns-then-sees c =
    let ids = c.deref-id-items.ensures.value ∙ ap (λ (s : SnapshotView). s.xip) c.self.view_is in (
      λ f. absurd (false≢true f),
      λ covers. absurd (not_listed _ _ c.loop-id.id-index (subst (λ s. is_snapshot s ≡ true) c.self.view_is c.self.invariant) (rw ids at c.loop-id-test.true) (rw ids at (sym c.sees.ensures ∙ c.if-sees.true)) covers),
    )

pub returns : goal.returns
returns c =
    let ids = c.deref-id-items.ensures.value ∙ ap (λ (s : SnapshotView). s.xip) c.self.view_is in
    let limit = ap (λ (s : SnapshotView). s.xmax) c.other.view_is in (
      λ _. covers_from _ _ (subst (λ s. is_snapshot s ≡ true) c.other.view_is c.other.invariant) (λ k within. rw ids at (c.loop-id.invariant k (omega (arith, ap length ids))))
          (λ t above below. c.loop-later.invariant t above (omega (arith, limit))),
      λ _. refl,
    )
